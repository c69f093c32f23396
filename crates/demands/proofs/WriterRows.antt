-- The number that the service writer gives, exactly when: from its definition, the tests as rules.
use Prim.Native.Nat.{ℕ, ◌<◌}
use mathlib.Core.Path.{◌≡◌, refl, sym, ap, ◌∙◌}
use mathlib.Core.Logic.{◌↔◌, inl, inr, ⊎_elim}
use mathlib.Core.Bool.{Bool, true, false}
use mathlib.Core.List.{List}
use lib.Dec.{ltb}
use borrow.Author.Tests.{ltb-true, lt-ltb}
use Rattle.std.specs.Prelude.{Ok, Err}
use Rattle.octets.specs.Choice.{by_test, impossible, not_so}
use Rattle.services.specs.Reading.{layout_for, read_service}
use Rattle.services.specs.Parts.{Answer}
use Rattle.services.specs.declared.Service.{Service}
use Rattle.services.specs.declared.Service.TheVariants.{ReadProperty, ReadPropertyAck, WriteProperty, WhoIs, IAm, Error}
use Rattle.services.specs.declared.Target.{Target}
use Rattle.service_writer.specs.Layout.{kind_of, choice_of, octets_of}
use Rattle.service_writer.specs.Fault.{wide_target, too_wide, refusal_of, read_fault, fault_of}
use Rattle.demands.specs.WriterRows.{WideTarget, TooWide, Gives, ReadingGives, ServiceWriterRows, ServiceKinds}

-- ---- too wide: the test is the rule
record Tests (b : Bool) (P : Type 0) : Type 0 where
  holds : b ≡ true → P
  set : P → b ≡ true

none_wide : Tests false ⊥
none_wide = record { holds = λ e. not_so e; set = λ p. absurd p }

above : (m n : ℕ) → Tests (ltb m n) (m < n)
above m n = record { holds = ltb-true m n; set = lt-ltb m n }

wide_target_lem : (t : Target) → Tests (wide_target t) (WideTarget t)
unfolding wide_target
wide_target_lem t =
    by_test (ltb 1023 t.object)
    (λ e. record { holds = λ _. inl (ltb-true _ _ e); set = λ _. rw e })
    (λ e.
    record {
      holds = λ z. inr (ltb-true _ _ (rw e at z));
      set = λ q. ⊎_elim (λ h. not_so (sym e ∙ lt-ltb _ _ h)) (λ h. rw e (lt-ltb _ _ h)) q;
    })

too_wide_lem : (v : Service) → Tests (too_wide v) (TooWide v)
unfolding too_wide
too_wide_lem (ReadProperty t) = wide_target_lem t
too_wide_lem (ReadPropertyAck a) = wide_target_lem a.target
too_wide_lem (WriteProperty w) = wide_target_lem w.target
too_wide_lem (WhoIs w) = none_wide
too_wide_lem (IAm i) = above 4194303 i.instance
too_wide_lem (Error f) = none_wide

-- ---- the number that reading gives
gives : (a : Answer) (x : ℕ) → (refusal_of a ≡ x) ↔ Gives a x
unfolding refusal_of
gives (Ok v) x = (λ e. inr (sym e, (v, refl)), λ q. ⊎_elim (λ e. impossible (cc)) (λ z. sym z.0) q)
gives (Err n) x = (λ e. inl (ap Err e), λ q. ⊎_elim (λ e. cc) (λ z. (let w = z.1.1 in impossible (cc))) q)

-- Error's layout is one for 12 and 15
errors_alike : (o : List ℕ) → read_service 5 12 o ≡ read_service 5 15 o
unfolding read_service layout_for
errors_alike o = refl

reading_gives : (v : Service) (o : List ℕ) (x : ℕ) → (read_fault (kind_of v) (choice_of v) o ≡ x) ↔ ReadingGives v o x
reading_gives (ReadProperty t) o x = gives (read_service 0 12 o) x
reading_gives (ReadPropertyAck a) o x = gives (read_service 3 12 o) x
reading_gives (WriteProperty w) o x = gives (read_service 0 15 o) x
reading_gives (WhoIs w) o x = gives (read_service 1 8 o) x
reading_gives (IAm i) o x = gives (read_service 1 0 o) x
reading_gives (Error f) o x = (
  λ e. ((gives (read_service 5 12 o) x).0 e, (gives (read_service 5 15 o) x).0 (ap refusal_of (sym (errors_alike o)) ∙ e)),
  λ q. (gives (read_service 5 12 o) x).1 q.0,
)

-- ---- 41 first, else the reading's
pub service_writer_rows : ServiceWriterRows
unfolding fault_of
service_writer_rows v value x =
    let wide = too_wide_lem v in
    let read = reading_gives v (octets_of v value) x in
    by_test (too_wide v)
    (λ e. (λ z. inl (sym (rw e at z), wide.holds e), λ q. rw e (⊎_elim (λ h. sym h.0) (λ h. absurd (h.0 (wide.holds e))) q)))
    (λ e. (λ z. inr (λ h. not_so (sym e ∙ wide.set h), read.0 (rw e at z)), λ q. rw e (⊎_elim (λ h. not_so (sym e ∙ wide.set h.1)) (λ h. read.1 h.1) q)))

pub service_kinds : ServiceKinds
service_kinds (ReadProperty t) = (refl, refl)
service_kinds (ReadPropertyAck a) = (refl, refl)
service_kinds (WriteProperty w) = (refl, refl)
service_kinds (WhoIs w) = (refl, refl)
service_kinds (IAm i) = (refl, refl)
service_kinds (Error f) = (refl, refl)
