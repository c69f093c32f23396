-- "parameters that were read write back to the same octets", and what was written reads back.
use Rattle.std.specs.Prelude.{Ok}
use Prim.Native.Nat.{ℕ}
use mathlib.Core.Path.{◌≡◌, refl, sym, subst, ◌∙◌}
use mathlib.Core.Logic.{◌⊎◌, inl, inr}
use mathlib.Core.List.{List, append-nil}
use mathlib.Core.Bool.{false}
use borrow.Author.Tests.{le-ltb}
use Rattle.octets.specs.Reading.{Octets}
use Rattle.tags.specs.Layout.{Thing}
use Rattle.items.specs.Grammar.{encode_all}
use Rattle.services.specs.Reading.{last_instance, layout_for, read_service}
use Rattle.services.specs.Layout.{Pointing, valued, things_of_message, encode, Ranges}
use Rattle.services.specs.Shows.{For, pointed_of, message_of, Shows, ValidFor}
use Rattle.services.specs.declared.Service.{Service}
use Rattle.services.specs.declared.Service.TheVariants.{ReadProperty, ReadPropertyAck, WriteProperty, WhoIs, IAm, Error}
use Rattle.services.specs.declared.Target.{Target}
use Rattle.services.proofs.Things.{encode_append}
use Rattle.services.proofs.Layouts.{ValueStands}
use Rattle.services.proofs.Exact.{accepted, exactly}
use Rattle.service_writer.specs.Layout.{kind_of, choice_of, grouped, ranked, octets_of, value_in}
use Rattle.service_writer.specs.Fault.{wide_target, too_wide, refusal_of, fault_of}

-- a value of items is laid as the message's
grouped_items : (ts : List Thing) → grouped (encode_all ts) ≡ encode_all (valued ts)
unfolding grouped valued encode_all
grouped_items ts = simp (encode_append, append-nil)

pub octets_are : (v : Service) (ts : List Thing) → octets_of v (encode_all ts) ≡ encode (message_of v ts)
unfolding octets_of ranked message_of things_of_message
octets_are (ReadProperty t) ts = refl
octets_are (ReadPropertyAck a) ts = simp (grouped_items, encode_append)
octets_are (WriteProperty w) ts = simp (grouped_items, encode_append)
octets_are (WhoIs w) ts = refl
octets_are (IAm i) ts = refl
octets_are (Error f) ts = refl

-- fields in range are not too wide
target_fits : (t : Target) → Pointing (pointed_of t) → wide_target t ≡ false
unfolding wide_target
target_fits t p = rw (le-ltb 1023 t.object p.object) (le-ltb last_instance t.instance p.instance)

fits : (v : Service) (ts : List Thing) → Ranges (message_of v ts) → too_wide v ≡ false
unfolding message_of too_wide
fits (ReadProperty t) ts r = target_fits t r
fits (ReadPropertyAck a) ts r = target_fits a.target r
fits (WriteProperty w) ts r = target_fits w.target r.0
fits (WhoIs w) ts r = refl
fits (IAm i) ts r = le-ltb last_instance i.instance r.0
fits (Error f) ts r = refl

fault_none : (v : Service) (value : List ℕ) (w : Service) → too_wide v ≡ false → read_service (kind_of v) (choice_of v) (octets_of v value) ≡ Ok w → fault_of v value ≡ 0
unfolding fault_of refusal_of
fault_none v value w e d = rw (e, d)

-- A service whose message keeps the rules is written, and what was written reads back as that message.
pub record Back (v : Service) (ts : List Thing) : Type 0 where
  pub fine : fault_of v (encode_all ts) ≡ 0
  pub shows : Shows (kind_of v) (choice_of v) (octets_of v (encode_all ts)) (message_of v ts)

pub reads_back : (v : Service) (ts : List Thing) → ValidFor (kind_of v) (choice_of v) (message_of v ts) → Back v ts
reads_back v ts ok =
    let s : Shows (kind_of v) (choice_of v) (octets_of v (encode_all ts)) (message_of v ts) =
    subst (λ (o : List ℕ). Shows (kind_of v) (choice_of v) o (message_of v ts)) (sym (octets_are v ts)) ((exactly (kind_of v) (choice_of v)).complete (message_of v ts) ok) in
    record { fine = fault_none v (encode_all ts) s.service (fits v ts ok.valid.ranges) s.read; shows = s }

-- the layouts for Error are one
error_same : (o : List ℕ) → read_service 5 15 o ≡ read_service 5 12 o
unfolding read_service layout_for
error_same o = refl

own_choice : (kind choice : ℕ) (o : List ℕ) (v : Service) (ts : List Thing) → For kind choice (message_of v ts) → read_service kind choice o ≡ Ok v → read_service (kind_of v) (choice_of v) o ≡ Ok v
unfolding message_of
own_choice kind choice o (ReadProperty t) ts f e = rw (f.0, f.1) at e
own_choice kind choice o (ReadPropertyAck a) ts f e = rw (f.0, f.1) at e
own_choice kind choice o (WriteProperty w) ts f e = rw (f.0, f.1) at e
own_choice kind choice o (WhoIs w) ts f e = rw (f.0, f.1) at e
own_choice kind choice o (IAm i) ts f e = rw (f.0, f.1) at e
own_choice kind choice o (Error x) ts f e = go f.1
  where
    go : (choice ≡ 12) ⊎ (choice ≡ 15) → read_service 5 12 o ≡ Ok (Error x)
    go (inl c) = rw (f.0, c) at e
    go (inr c) = sym (error_same o) ∙ (rw (f.0, c) at e)

-- the value's octets are those that were read
value_laid : (o : List ℕ) (v : Service) (ts : List Thing) → ValueStands o v ts → octets_of v (value_in o v) ≡ octets_of v (encode_all ts)
unfolding octets_of
value_laid o (ReadProperty t) ts s = refl
value_laid o (ReadPropertyAck a) ts s = rw s
value_laid o (WriteProperty w) ts s = rw s
value_laid o (WhoIs w) ts s = refl
value_laid o (IAm i) ts s = refl
value_laid o (Error f) ts s = refl

-- What was read as a service writes back, with its value's octets, to the same octets.
pub record Same (o : List ℕ) (v : Service) : Type 0 where
  pub fine : fault_of v (value_in o v) ≡ 0
  pub octets : octets_of v (value_in o v) ≡ o

pub writes_back : (kind choice : ℕ) (o : List ℕ) → Octets o → (v : Service) → read_service kind choice o ≡ Ok v → Same o v
writes_back kind choice o os v e =
    let a = accepted kind choice o os v e in
    let d : octets_of v (value_in o v) ≡ o = value_laid o v a.value a.stands ∙ octets_are v a.value ∙ sym a.octets in
    let r : read_service (kind_of v) (choice_of v) (octets_of v (value_in o v)) ≡ Ok v = subst (λ (x : List ℕ). read_service (kind_of v) (choice_of v) x ≡ Ok v) (sym d) (own_choice kind choice o v a.value a.valid.layout e) in
    record { fine = fault_none v (value_in o v) v (fits v a.value a.valid.valid.ranges) r; octets = d }
