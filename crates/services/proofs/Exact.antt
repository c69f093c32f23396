-- The octets that are read as a service are exactly those that its messages are written as.
use Rattle.std.specs.Prelude.{Ok}
use Prim.Native.Nat.{ℕ, ◌+◌}
use native.Mathlib.Omega.{arith}
use mathlib.Core.Path.{◌≡◌, refl, sym, ap, subst, ◌∙◌}
use mathlib.Core.List.{List, [], ◌++◌, append-nil}
use lib.ListN.{length, length-append}
use Rattle.octets.specs.Reading.{Octets}
use Rattle.octets.specs.Has.{Has, all_has}
use Rattle.octets.specs.Exact.{Exactly}
use Rattle.tags.specs.Types.{longest}
use Rattle.tags.specs.Layout.{Thing}
use Rattle.items.specs.Records.{Rec, things_of}
use Rattle.items.specs.Reading.{Out, items_of, most_items}
use Rattle.items.specs.Reading.Out.{good, bad}
use Rattle.items.specs.Grammar.{encode_all, Balanced, AllValid, Grammar, records_from, Reads}
use Rattle.items.proofs.Exact.{written, reads, exact}
use Rattle.services.specs.Parts.{Answer}
use Rattle.services.specs.Reading.{layout_for, after_tags, read_service}
use Rattle.services.specs.Layout.{Message, pointed, valued, optional, things_of_message, encode, WholeValue}
use Rattle.services.specs.Layout.Message.{read_property, read_property_ack, write_property, who_is, i_am, error_of}
use Rattle.services.specs.Shows.{message_of, ValueReads, Shows, ValidFor}
use Rattle.services.specs.declared.Service.{Service}
use Rattle.services.specs.declared.Service.TheVariants.{ReadProperty, ReadPropertyAck, WriteProperty, WhoIs, IAm, Error}
use Rattle.services.proofs.Things.{never, Here, encode_append, valid_left, valid_right, valued_valid, valued_length}
use Rattle.services.proofs.Layouts.{ValueStands, layout_shown}
use Rattle.services.proofs.Written.{value_of, layout_reads}

-- a service is read from good items only
tags_good : (f : List Rec → Answer) (out : Out) (v : Service) → after_tags f out ≡ Ok v → (rs : List Rec) × ((end : ℕ) × (out ≡ good rs end) × (f rs ≡ Ok v))
tags_good f (good rs end) v e = (rs, (end, refl, e))
tags_good f (bad x) v e = never x v e

-- the items of a good list stand at its octets' front
pub all_here : (o : List ℕ) (ts : List Thing) → Grammar ts → o ≡ encode_all ts → Here o 0 ts
all_here o ts g e =
    record { valid = g.valid; stands = subst (λ (x : List ℕ). Has x 0 (encode_all ts)) (sym e) (all_has (encode_all ts)); inside = omega arith; room = most_items; most = omega arith; balanced = g.balanced }

-- octets are read as one list of items
pub reads_one : (x : List ℕ) (ts us : List Thing) → Reads x ts → Reads x us → ts ≡ us
reads_one x ts us a b =
    let z : good a.records (length x) ≡ good b.records (length x) = sym a.accepted ∙ b.accepted in
    let y : a.records ≡ b.records = cc z in
    sym a.named ∙ ap (things_of x) y ∙ b.named

-- a message's value is good items by itself
none_good : Grammar []
unfolding encode_all
none_good = record { valid = tt; balanced = tt; short = omega arith }

inner_good : (front inner rest : List Thing) → Balanced most_items [] inner → Grammar (front ++ (valued inner ++ rest)) → Grammar inner
inner_good front inner rest whole g =
    let v : AllValid (valued inner) = valid_left (valued inner) rest (valid_right front (valued inner ++ rest) g.valid) in
    let l : length (encode_all (front ++ (valued inner ++ rest))) ≡ length (encode_all front) + (length (encode_all (valued inner)) + length (encode_all rest)) = simp (encode_append, length-append) in
    record { valid = valued_valid inner v; balanced = whole; short = omega (arith, g.short, valued_length inner) }

value_good : (m : Message) → WholeValue m → Grammar (things_of_message m) → Grammar (value_of m)
unfolding things_of_message
value_good (read_property t) whole g = none_good
value_good (read_property_ack t ts) whole g = inner_good (pointed t) ts [] whole (subst (λ (us : List Thing). Grammar (pointed t ++ us)) (sym (append-nil (valued ts))) g)
value_good (write_property t ts ranked priority) whole g = inner_good (pointed t) ts (optional ranked 4 priority) whole g
value_good (who_is limited low high) whole g = none_good
value_good (i_am instance longest segmentation vendor) whole g = none_good
value_good (error_of class code) whole g = none_good

-- a value that stands somewhere is read by itself, as one list of items
value_reads : (o : List ℕ) (v : Service) (ts : List Thing) → ValueStands o v ts → Grammar ts → ValueReads o v ts
value_reads o (ReadProperty t) ts s g = s
value_reads o (ReadPropertyAck a) ts s g = subst (λ (y : List ℕ). Reads y ts) (sym s) (exact.complete ts g)
value_reads o (WriteProperty w) ts s g = subst (λ (y : List ℕ). Reads y ts) (sym s) (exact.complete ts g)
value_reads o (WhoIs w) ts s g = s
value_reads o (IAm i) ts s g = s
value_reads o (Error f) ts s g = s

value_one : (o : List ℕ) (v : Service) (ts us : List Thing) → ValueReads o v ts → ValueReads o v us → ts ≡ us
value_one o (ReadProperty t) ts us a b = a ∙ sym b
value_one o (ReadPropertyAck k) ts us a b = reads_one _ ts us a b
value_one o (WriteProperty w) ts us a b = reads_one _ ts us a b
value_one o (WhoIs w) ts us a b = a ∙ sym b
value_one o (IAm i) ts us a b = a ∙ sym b
value_one o (Error f) ts us a b = a ∙ sym b

-- the items of a service's value are those of its message's
value_shown : (o : List ℕ) (v : Service) (ts : List Thing) → ValueStands o v ts → WholeValue (message_of v ts) → Grammar (things_of_message (message_of v ts)) → Grammar ts
unfolding message_of
value_shown o (ReadProperty t) ts s whole g = subst Grammar (sym s) none_good
value_shown o (ReadPropertyAck a) ts s whole g = value_good (message_of (ReadPropertyAck a) ts) whole g
value_shown o (WriteProperty w) ts s whole g = value_good (message_of (WriteProperty w) ts) whole g
value_shown o (WhoIs w) ts s whole g = subst Grammar (sym s) none_good
value_shown o (IAm i) ts s whole g = subst Grammar (sym s) none_good
value_shown o (Error f) ts s whole g = subst Grammar (sym s) none_good

-- what an accepted reading is: a message of the kind and choice that keeps the rules, whose layout the octets are
pub record Accepted (kind choice : ℕ) (o : List ℕ) (v : Service) : Type 0 where
  pub value : List Thing
  pub stands : ValueStands o v value
  pub items : ValueReads o v value
  pub valid : ValidFor kind choice (message_of v value)
  pub octets : o ≡ encode (message_of v value)

module _ (kind choice : ℕ) where
  pub accepted : (o : List ℕ) → Octets o → (v : Service) → read_service kind choice o ≡ Ok v → Accepted kind choice o v
  unfolding read_service
  accepted o os v e =
      let g = tags_good (layout_for kind choice o) (items_of o) v e in
      let w = written o os g.0 g.1.0 g.1.1 in
      let r : layout_for kind choice o (records_from 0 0 w.things) ≡ Ok v = subst (λ (rs : List Rec). layout_for kind choice o rs ≡ Ok v) w.records g.1.2 in
      let s = layout_shown o os kind choice w.things v (all_here o w.things w.grammar w.octets) r in
      let i : Grammar (things_of_message (message_of v s.value)) = subst Grammar s.things w.grammar in
      record {
        value = s.value;
        stands = s.octets;
        items = value_reads o v s.value s.octets (value_shown o v s.value s.octets s.whole i);
        valid = record { layout = s.layout; valid = record { ranges = s.ranges; value = s.whole; items = i } };
        octets = w.octets ∙ ap encode_all s.things;
      }

  sound : (o : List ℕ) (m : Message) → Octets o → Shows kind choice o m → ValidFor kind choice m × (o ≡ encode m)
  sound o m os r =
      let a = accepted o os r.service r.read in
      let same : message_of r.service a.value ≡ m = ap (message_of r.service) (value_one o r.service a.value r.value a.items r.items) ∙ r.shown in
      (subst (ValidFor kind choice) same a.valid, a.octets ∙ ap encode same)

  complete : (m : Message) → ValidFor kind choice m → Shows kind choice (encode m) m
  unfolding read_service
  complete m ok =
      let v = ok.valid in
      let l = layout_reads kind choice (encode m) m ok.layout v.ranges v.value (all_here (encode m) (things_of_message m) v.items refl) in
      record {
        service = l.service;
        read = rw (reads (things_of_message m) v.items) l.read;
        value = value_of m;
        items = value_reads (encode m) l.service (value_of m) l.stands (value_good m v.value v.items);
        shown = l.shown;
      }

  -- For every kind and choice: octets are read as a service that shows this message exactly when the message is of that kind and choice, keeps the rules, and the octets are its layout.
  pub exactly : Exactly (Shows kind choice) (ValidFor kind choice) encode
  exactly = record { sound = sound; complete = complete }
