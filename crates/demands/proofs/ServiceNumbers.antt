-- A service's refusals: tag numbers first, 43 for a kind and choice without a layout, 40 to 42 else.
use Prim.Native.Nat.{ℕ}
use native.Mathlib.Omega.{arith}
use mathlib.Core.Path.{◌≡◌, refl, sym, ap, subst, ◌∙◌}
use mathlib.Core.Logic.{◌⊎◌, inl, inr}
use mathlib.Core.List.{List, []}
use mathlib.Core.Bool.{false}
use lib.ListN.{length}
use Rattle.std.specs.Prelude.{Ok, Err}
use Rattle.octets.specs.Choice.{pick_case}
use Rattle.items.specs.Records.{Rec}
use Rattle.items.specs.Reading.{Out, items_of}
use Rattle.items.specs.Reading.Out.{good, bad}
use Rattle.services.specs.Reading.{layout_for, after_tags, read_service}
use Rattle.services.specs.Layout.{Message}
use Rattle.services.specs.Layout.Message.{read_property, read_property_ack, write_property, who_is, i_am, error_of}
use Rattle.services.specs.Shows.{For}
use Rattle.services.specs.Parts.{Answer}
use Rattle.services.specs.declared.Service.{Service}
use Rattle.services.specs.declared.Service.TheVariants as Of
use Rattle.services.proofs.Refusals.{Low, Laid, nowhere, layout_numbers}
use Rattle.service_writer.specs.Layout.{kind_of, choice_of, octets_of}
use Rattle.service_writer.specs.Fault.{too_wide, refusal_of, fault_of}
use Rattle.demands.specs.Words.{Between}
use Rattle.demands.specs.Demands.{ServiceNumbers, ServiceWriterNumbers}
use Rattle.demands.proofs.Numbers.{bad_row}

-- ---- tags first
tags_first : (f : List Rec → Answer) {o : Out} {n : ℕ} → o ≡ bad n → after_tags f o ≡ Err n
tags_first f e = rw e

tags_good : (f : List Rec → Answer) {o : Out} {rs : List Rec} {end : ℕ} → o ≡ good rs end → after_tags f o ≡ f rs
tags_good f e = rw e

abbrev Numbered : ℕ → ℕ → Answer → Type 0
Numbered kind choice a = ((n : ℕ) → a ≡ Err n → Between 40 43 n) × ((a ≡ Err 43 → (m : Message) → For kind choice m → ⊥) × (((m : Message) → For kind choice m → ⊥) → a ≡ Err 43))

numbered : (kind choice : ℕ) (a : Answer) → Laid kind choice a → Numbered kind choice a
numbered kind choice a (inl x) =
    (λ n e. (let z = subst Low e x.1 in (z.0, omega (arith, z.1))), (λ e. (let z = subst Low e x.1 in absurd (omega (arith, z.1))), λ none. absurd (none x.0.0 x.0.1)))
numbered kind choice a (inr x) =
    (λ n e. (let q : Err n ≡ Err 43 = sym e ∙ x.1 in let z : n ≡ 43 = cc in (omega arith, omega arith)), (λ _. x.0, λ _. x.1))

pub service_numbers : ServiceNumbers
unfolding read_service
service_numbers kind choice s = (
  λ n e. tags_first (layout_for kind choice s) e,
  λ k w. subst (Numbered kind choice) (sym (tags_good (layout_for kind choice s) w.2)) (numbered kind choice _ (layout_numbers kind choice s w.0)),
)

-- ---- the writer: its own kind and choice have a layout, so 43 is none of its numbers
own : (v : Service) → (m : Message) × For (kind_of v) (choice_of v) m
own (Of.ReadProperty t) = (read_property nowhere, (refl, refl))
own (Of.ReadPropertyAck a) = (read_property_ack nowhere [], (refl, refl))
own (Of.WriteProperty w) = (write_property nowhere [] false 0, (refl, refl))
own (Of.WhoIs w) = (who_is false 0 0, (refl, refl))
own (Of.IAm i) = (i_am 0 0 0 0, (refl, refl))
own (Of.Error f) = (error_of 0 0, (refl, inl refl))

abbrev Thirty : ℕ → Type 0
Thirty n = (n ≡ 0) ⊎ Between 30 42 n

module _ (kind choice : ℕ) (o : List ℕ) (m : (m : Message) × For kind choice m) where
  read_numbers : (t : Out) → items_of o ≡ t → (a : Answer) → read_service kind choice o ≡ a → Thirty (refusal_of a)
  unfolding refusal_of
  read_numbers t e (Ok v) q = inl refl
  read_numbers (bad n) e (Err x) q =
      let w : Err x ≡ Err n = sym q ∙ (service_numbers kind choice o).0 n e in
      let z : x ≡ n = cc in
      let l = bad_row o n e in
      inr (omega (arith, l.0), omega (arith, l.1))
  read_numbers (good rs end) e (Err x) q =
      let h = (service_numbers kind choice o).1 (length rs) (rs, end, e, refl) in
      let l = h.0 x q in
      let ne : x ≡ 43 → ⊥ = λ z. h.1.0 (q ∙ ap Err z) m.0 m.1 in
      inr (omega (arith, l.0), omega (arith, l.1, ne))

pub service_writer_numbers : ServiceWriterNumbers
unfolding fault_of
service_writer_numbers v value =
    let o = octets_of v value in
    pick_case Thirty (too_wide v) (inr (omega arith, omega arith)) (read_numbers (kind_of v) (choice_of v) o (own v) (items_of o) refl (read_service (kind_of v) (choice_of v) o) refl)
