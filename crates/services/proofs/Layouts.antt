-- What stands where a layout was read.
use Rattle.std.specs.Prelude.{Ok}
use Prim.Native.Nat.{ℕ, ◌+◌, ◌*◌, ◌%◌, ◌≤◌}
use native.Mathlib.Omega.{arith}
use mathlib.Core.Path.{◌≡◌, refl, sym, ap, subst, ◌∙◌}
use mathlib.Core.Logic.{◌⊎◌, inl, inr}
use mathlib.Core.List.{List, [], ◌∷◌, ◌++◌, append-nil}
use mathlib.Core.Bool.{Bool, true, false}
use lib.Dec.{eqb}
use borrow.Author.Tests.{eqb-true}
use Rattle.octets.specs.Choice.{pick_cases, both, by_test, both_true, not_so}
use Rattle.octets.specs.Reading.{Octets}
use Rattle.octets.specs.Numbers.{digits}
use Rattle.tags.specs.Layout.{Thing}
use Rattle.tags.specs.Layout.Thing.{application, context}
use Rattle.items.specs.Grammar.{encode_all, records_from}
use Rattle.services.specs.Parts.{Answer, present, any_number, context_number, group, last}
use Rattle.services.specs.Reading.{last_instance, layout_for}
use Rattle.services.specs.Reading as reading
use Rattle.services.specs.Places.{priority_part, capable_part}
use Rattle.services.specs.Layout.{shortest, optional, pointed, valued, things_of_message, Absent, Ranges, WholeValue}
use Rattle.services.specs.Shows.{For, message_of, value_octets}
use Rattle.services.specs.declared.Service.{Service}
use Rattle.services.specs.declared.Service.TheVariants.{ReadProperty, ReadPropertyAck, WriteProperty, WhoIs, IAm, Error}
use Rattle.services.specs.declared.Target.{Target}
use Rattle.services.specs.declared.Span.{Span}
use Rattle.services.proofs.Things.{never, Here, contexts, applications, number_read, option_read, group_read, last_read, last_number}
use Rattle.services.proofs.Pointed.{target_of, target_read, device_read}

-- the octets of a service's value are those of these items
abbrev pub ValueStands : List ℕ → Service → List Thing → Type 0
ValueStands o (ReadProperty t) ts = ts ≡ []
ValueStands o (ReadPropertyAck a) ts = value_octets o a.value ≡ encode_all ts
ValueStands o (WriteProperty w) ts = value_octets o w.value ≡ encode_all ts
ValueStands o (WhoIs w) ts = ts ≡ []
ValueStands o (IAm i) ts = ts ≡ []
ValueStands o (Error f) ts = ts ≡ []

-- the items are the layout of the service that was read
pub record Shown (kind choice : ℕ) (o : List ℕ) (ts : List Thing) (v : Service) : Type 0 where
  pub value : List Thing
  pub layout : For kind choice (message_of v value)
  pub things : ts ≡ things_of_message (message_of v value)
  pub ranges : Ranges (message_of v value)
  pub whole : WholeValue (message_of v value)
  pub octets : ValueStands o v value

-- the last parts of an I-Am
record Capable (word longest : ℕ) (ts : List Thing) (v : Service) : Type 0 where
  segmentation : ℕ
  vendor : ℕ
  things : ts ≡ application 9 (shortest segmentation) ∷ application 2 (shortest vendor) ∷ []
  few : segmentation ≤ 3
  small : vendor ≤ 65535
  service : IAm (record { instance = word % 4194304; longest = longest; segmentation = segmentation; vendor = vendor }) ≡ v

capable_read : (o : List ℕ) → Octets o → (word longest at : ℕ) (ts : List Thing) (v : Service) → Here o at ts → capable_part o word longest (records_from at 0 ts) ≡ Ok v → Capable word longest ts v
capable_read o os word longest at ts v h e =
    let a = number_read o 0 9 (application 9) (applications 9 (λ e. omega arith)) os 0 3 _ at ts v h e in
    let b = last_number o os 0 2 (application 2) (applications 2 (λ e. omega arith)) 0 65535 (λ vendor. IAm (record { instance = word % 4194304; longest = longest; segmentation = a.value; vendor = vendor })) _ a.rest v a.left a.goes in
    record { segmentation = a.value; vendor = b.value; things = a.things ∙ ap (λ (us : List Thing). application 9 (shortest a.value) ∷ us) b.things; few = a.most; small = b.most; service = b.service }

-- the last part of a WriteProperty
record Ranked (t : Target) (value : Span) (ts : List Thing) (v : Service) : Type 0 where
  ranked : Bool
  priority : ℕ
  things : ts ≡ optional ranked 4 priority
  range : ranked ≡ true → (1 ≤ priority) × (priority ≤ 16)
  absent : Absent ranked priority
  service : WriteProperty (record { target = t; value = value; ranked = ranked; priority = priority }) ≡ v

ranked_read : (o : List ℕ) → Octets o → (t : Target) (value : Span) (at : ℕ) (ts : List Thing) (v : Service) → Here o at ts → priority_part o t value (records_from at 0 ts) ≡ Ok v → Ranked t value ts v
ranked_read o os t value at ts v h e =
    let p = option_read o 4 1 16 _ os at ts v h e in
    let l = last_read _ p.rest _ v p.goes in
    record {
      ranked = p.here;
      priority = p.value;
      things = p.things ∙ ap (λ (us : List Thing). optional p.here 4 p.value ++ us) l.0 ∙ append-nil (optional p.here 4 p.value);
      range = p.range;
      absent = p.absent;
      service = l.1;
    }

module _ (o : List ℕ) (os : Octets o) (kind choice : ℕ) (ts : List Thing) (v : Service) (h : Here o 0 ts) where
  property_shown : kind ≡ 0 → choice ≡ 12 → reading.read_property o (records_from 0 0 ts) ≡ Ok v → Shown kind choice o ts v
  unfolding reading.read_property message_of things_of_message pointed
  property_shown k c e =
      let t = target_read o os (λ t. last (ReadProperty t)) 0 ts v h e in
      let l = last_read _ t.rest (ReadProperty (target_of t.point)) v t.goes in
      subst (Shown kind choice o ts) l.1 (record {
        value = [];
        layout = (k, c);
        things = t.things ∙ ap (λ (us : List Thing). pointed t.point ++ us) l.0 ∙ append-nil (pointed t.point);
        ranges = t.pointing;
        whole = tt;
        octets = refl;
      })

  ack_shown : kind ≡ 3 → choice ≡ 12 → reading.read_property_ack o (records_from 0 0 ts) ≡ Ok v → Shown kind choice o ts v
  unfolding reading.read_property_ack message_of things_of_message
  ack_shown k c e =
      let t = target_read o os (λ t. group 3 (λ value. last (ReadPropertyAck (record { target = t; value = value })))) 0 ts v h e in
      let g = group_read o _ _ t.rest v t.left t.goes in
      let l = last_read _ g.rest _ v g.goes in
      subst (Shown kind choice o ts) l.1 (record {
        value = g.inner;
        layout = (k, c);
        things = t.things ∙ ap (λ (us : List Thing). pointed t.point ++ us) (g.things ∙ ap (λ (us : List Thing). valued g.inner ++ us) l.0 ∙ append-nil (valued g.inner));
        ranges = t.pointing;
        whole = g.whole;
        octets = g.octets;
      })

  write_shown : kind ≡ 0 → choice ≡ 15 → reading.write_property o (records_from 0 0 ts) ≡ Ok v → Shown kind choice o ts v
  unfolding reading.write_property message_of things_of_message
  write_shown k c e =
      let t = target_read o os _ 0 ts v h e in
      let g = group_read o _ _ t.rest v t.left t.goes in
      let p = ranked_read o os (target_of t.point) _ _ g.rest v g.left g.goes in
      subst (Shown kind choice o ts) p.service (record {
        value = g.inner;
        layout = (k, c);
        things = t.things ∙ ap (λ (us : List Thing). pointed t.point ++ us) (g.things ∙ ap (λ (us : List Thing). valued g.inner ++ us) p.things);
        ranges = (t.pointing, p.range, p.absent);
        whole = g.whole;
        octets = g.octets;
      })

  limits_shown : kind ≡ 1 → choice ≡ 8 → context_number o 0 0 last_instance (λ low. context_number o 1 low last_instance (λ high. last (WhoIs (record { limited = true; low = low; high = high })))) (records_from 0 0 ts) ≡ Ok v → Shown kind choice o ts v
  unfolding message_of things_of_message
  limits_shown k c e =
      let a = number_read o 1 0 (context 0) (contexts 0) os 0 last_instance _ 0 ts v h e in
      let b = last_number o os 1 1 (context 1) (contexts 1) a.value last_instance (λ high. WhoIs (record { limited = true; low = a.value; high = high })) _ a.rest v a.left a.goes in
      subst (Shown kind choice o ts) b.service (record {
        value = [];
        layout = (k, c);
        things = a.things ∙ ap (λ (us : List Thing). context 0 (shortest a.value) ∷ us) b.things;
        ranges = (λ _. (b.least, b.most), λ f. not_so (sym f), λ f. not_so (sym f));
        whole = tt;
        octets = refl;
      })

  who_shown : kind ≡ 1 → choice ≡ 8 → reading.who_is o (records_from 0 0 ts) ≡ Ok v → Shown kind choice o ts v
  unfolding reading.who_is message_of things_of_message
  who_shown k c e =
      by_test (present 0 (records_from 0 0 ts)) (λ p. limits_shown k c (rw p at e)) (λ p.
      let l = last_read 0 ts (WhoIs (record { limited = false; low = 0; high = 0 })) v (rw p at e) in
      subst (Shown kind choice o ts) l.1 (record { value = []; layout = (k, c); things = l.0; ranges = (λ f. not_so f, λ _. refl, λ _. refl); whole = tt; octets = refl }))

  am_shown : kind ≡ 1 → choice ≡ 0 → reading.i_am o (records_from 0 0 ts) ≡ Ok v → Shown kind choice o ts v
  unfolding reading.i_am message_of things_of_message
  am_shown k c e =
      let d = device_read o os _ 0 ts v h e in
      let a = number_read o 0 2 (application 2) (applications 2 (λ e. omega arith)) os 0 any_number (λ longest. capable_part o d.word longest) _ d.rest v d.left d.goes in
      let g = capable_read o os d.word a.value _ a.rest v a.left a.goes in
      subst (Shown kind choice o ts) g.service (record {
        value = [];
        layout = (k, c);
        things = d.things ∙ ap (λ (us : List Thing). application 12 (digits 4 (8 * 4194304 + d.word % 4194304)) ∷ us) (a.things ∙ ap (λ (us : List Thing). application 2 (shortest a.value) ∷ us) g.things);
        ranges = (omega arith, a.most, g.few, g.small);
        whole = tt;
        octets = refl;
      })

  error_shown : kind ≡ 5 → (choice ≡ 12) ⊎ (choice ≡ 15) → reading.error_of o (records_from 0 0 ts) ≡ Ok v → Shown kind choice o ts v
  unfolding reading.error_of message_of things_of_message
  error_shown k c e =
      let nine = applications 9 (λ e. omega arith) in
      let a = number_read o 0 9 (application 9) nine os 0 any_number _ 0 ts v h e in
      let b = last_number o os 0 9 (application 9) nine 0 any_number (λ code. Error (record { class = a.value; code = code })) _ a.rest v a.left a.goes in
      subst (Shown kind choice o ts) b.service (record {
        value = [];
        layout = (k, c);
        things = a.things ∙ ap (λ (us : List Thing). application 9 (shortest a.value) ∷ us) b.things;
        ranges = (a.most, b.most);
        whole = tt;
        octets = refl;
      })

  -- a kind and a choice that were tested
  tested : (k n : ℕ) → both (eqb kind k) (eqb choice n) ≡ true → (kind ≡ k) × (choice ≡ n)
  tested k n b = let w = both_true (eqb kind k) (eqb choice n) b in (eqb-true kind k w.0, eqb-true choice n w.1)

  pub layout_shown : layout_for kind choice o (records_from 0 0 ts) ≡ Ok v → Shown kind choice o ts v
  unfolding layout_for
  layout_shown =
      pick_cases P (both (eqb kind 0) (eqb choice 12)) (λ b. let w = tested 0 12 b in property_shown w.0 w.1) (λ _.
      pick_cases P (both (eqb kind 3) (eqb choice 12)) (λ b. let w = tested 3 12 b in ack_shown w.0 w.1) (λ _.
      pick_cases P (both (eqb kind 0) (eqb choice 15)) (λ b. let w = tested 0 15 b in write_shown w.0 w.1) (λ _.
      pick_cases P (both (eqb kind 1) (eqb choice 8)) (λ b. let w = tested 1 8 b in who_shown w.0 w.1) (λ _.
      pick_cases P (both (eqb kind 1) (eqb choice 0)) (λ b. let w = tested 1 0 b in am_shown w.0 w.1) (λ _.
      pick_cases P (both (eqb kind 5) (eqb choice 12)) (λ b. let w = tested 5 12 b in error_shown w.0 (inl w.1)) (λ _.
      pick_cases P (both (eqb kind 5) (eqb choice 15)) (λ b. let w = tested 5 15 b in error_shown w.0 (inr w.1)) (λ _. never 43 v)))))))
    where
      P : Answer → Type 0
      P a = a ≡ Ok v → Shown kind choice o ts v
