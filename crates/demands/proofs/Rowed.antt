-- A writer whose refusals are the rows of a table: each number exactly when, 61 last.
use Prim.Native.Nat.{ℕ, ◌≤◌, ◌<◌}
use native.Mathlib.Omega.{arith}
use mathlib.Core.Path.{◌≡◌, refl, sym, ap, subst, ◌∙◌}
use mathlib.Core.Logic.{◌↔◌, ◌⊎◌, inl, inr}
use mathlib.Core.Bool.{Bool, true, false}
use mathlib.Core.List.{List}
use lib.Dec.{ltb, eqb}
use lib.ListN.{length, drop, length-append, length-drop}
use lib.Seq.{drop_at}
use borrow.Author.Tests.{ltb-true, ltb-false, lt-ltb, le-ltb, eq-eqb, ne_eqb}
use Rattle.std.specs.Prelude.{Ok, Err}
use Rattle.octets.specs.Choice.{pick, by_test, pick_cases, impossible}
use Rattle.octets.specs.Laid.{answer_of, area_of, Laid, laid_wrote}
use Rattle.octets.specs.Laid.{Written}
use Rattle.messages.specs.Table.{Table, First, NoRow}
use Rattle.messages.specs.Table.Table.{end, row}
use Rattle.messages.proofs.Table.{first_one, first_none}

-- f is the number that the table gives, 0 where no row's words hold
pub data Judged (T : Table) (f : ℕ) : Type 0 where
  fine : f ≡ 0 → NoRow T → Judged T f
  faulty : (f ≡ 0 → ⊥) → First T f → Judged T f

-- no fault exactly where no row's words hold
pub judged_clear : (T : Table) (f : ℕ) → Judged T f → NoRow T → f ≡ 0
judged_clear T f (fine z _) clear = z
judged_clear T f (faulty _ first) clear = absurd (first_none T f first clear)

pub clear_judged : (T : Table) (f : ℕ) → Judged T f → f ≡ 0 → NoRow T
clear_judged T f (fine _ clear) z = clear
clear_judged T f (faulty s _) z = absurd (s z)

-- ---- a table is gone through by tests in its order
-- a test that is one of a row's words, and then the rest
pub row_test : (n : ℕ) (Words : Type 0) (t : Table) (b : Bool) {f : ℕ} → (n ≡ 0 → ⊥) → (b ≡ true → Words) → (b ≡ false → Judged (row n Words t) f) → Judged (row n Words t) (pick b n f)
row_test n Words t b {f} nonzero holds on = pick_cases (Judged (row n Words t)) b (λ e. faulty nonzero (inl (holds e, refl))) on

-- words that do not hold
pub row_past : (n : ℕ) (Words : Type 0) (t : Table) {f : ℕ} → (Words → ⊥) → Judged t f → Judged (row n Words t) f
row_past n Words t not (fine z r) = fine z (not, r)
row_past n Words t not (faulty s r) = faulty s (inr (not, r))

-- nothing is wrong
pub no_rows : Judged end 0
no_rows = fine refl tt

-- words that do not hold bound the number from above
pub at_most : (m n : ℕ) → (m < n → ⊥) → n ≤ m
at_most m n h = by_test (ltb m n) (λ t. absurd (h (ltb-true m n t))) (λ t. ltb-false m n t)

-- ---- answers apart
pub refused_same : (m n : ℕ) → ◌≡◌ {A = Written} (Err m) (Err n) → m ≡ n
refused_same m n e = cc

wrote_same : (m n : ℕ) → ◌≡◌ {A = Written} (Ok m) (Ok n) → m ≡ n
wrote_same m n e = cc

pub refused_not : {P : Type 0} (m n : ℕ) → ◌≡◌ {A = Written} (Err m) (Ok n) → P
refused_not m n e = impossible (cc)

-- ---- what a writer answers: the octets o in an area, where no row's words hold
abbrev pub Short : Table → (o area : List ℕ) → ℕ → Type 0
Short T o area n = NoRow T × (n ≡ 61) × (length area < length o)

abbrev pub Long : Table → (o area : List ℕ) → ℕ → Type 0
Long T o area n = NoRow T × (length o ≤ length area) × (n ≡ length o)

module _ (T : Table) (f : ℕ) (o area : List ℕ) (r : Written) (j : Judged T f) (answer : r ≡ answer_of f o area) where
  answer_faulty : (f ≡ 0 → ⊥) → r ≡ Err f
  unfolding answer_of
  answer_faulty s = answer ∙ rw (ne_eqb f 0 s)

  answer_short : f ≡ 0 → length area < length o → r ≡ Err 61
  unfolding answer_of
  answer_short z l = answer ∙ rw (eq-eqb f 0 z, lt-ltb (length area) (length o) l)

  answer_long : f ≡ 0 → length o ≤ length area → r ≡ Ok (length o)
  unfolding answer_of
  answer_long z l = answer ∙ rw (eq-eqb f 0 z, le-ltb (length area) (length o) l)

  -- a fault is the first row's number
  by_fault : (f ≡ 0 → ⊥) → First T f → (n : ℕ) → ((r ≡ Err n) ↔ (First T n ⊎ Short T o area n)) × ((r ≡ Ok n) ↔ Long T o area n)
  by_fault s g n =
      let is = answer_faulty s in (
        (λ q. (let same : f ≡ n = refused_same f n (sym is ∙ q) in inl (subst (First T) same g)), there),
        (λ q. refused_not f n (sym is ∙ q), λ q. absurd (first_none T f g q.0)),
      )
    where
      there : First T n ⊎ Short T o area n → r ≡ Err n
      there (inl h) = answer_faulty s ∙ ap Err (first_one T f n g h)
      there (inr h) = absurd (first_none T f g h.0)

  -- without one the area decides
  by_area : f ≡ 0 → NoRow T → (n : ℕ) → ((r ≡ Err n) ↔ (First T n ⊎ Short T o area n)) × ((r ≡ Ok n) ↔ Long T o area n)
  by_area z none n =
      by_test (ltb (length area) (length o))
      (λ t.
      let l = ltb-true _ _ t in
      let is = answer_short z l in (
        (λ q. inr (none, sym (refused_same 61 n (sym is ∙ q)), l), there),
        (λ q. refused_not 61 n (sym is ∙ q), λ q. absurd (omega (arith, l, q.1))),
      ))
      (λ t.
      let l = ltb-false _ _ t in
      let is = answer_long z l in (
        (λ q. refused_not n (length o) (sym q ∙ is), there),
        (λ q. (none, l, sym (wrote_same (length o) n (sym is ∙ q))), λ q. is ∙ ap Ok (sym q.2)),
      ))
    where
      there : First T n ⊎ Short T o area n → r ≡ Err n
      there (inl h) = absurd (first_none T n h none)
      there (inr h) = answer_short z h.2 ∙ ap Err (sym h.1)

  pub answers_by : (n : ℕ) → ((r ≡ Err n) ↔ (First T n ⊎ Short T o area n)) × ((r ≡ Ok n) ↔ Long T o area n)
  answers_by = by j
    where
      by : Judged T f → (n : ℕ) → ((r ≡ Err n) ↔ (First T n ⊎ Short T o area n)) × ((r ≡ Ok n) ↔ Long T o area n)
      by (fine z none) = by_area z none
      by (faulty s g) = by_fault s g

-- ---- and what it leaves in the area
module _ (f : ℕ) (o area : List ℕ) (r : Written) (later : List ℕ) (l : Laid f o area r later) where
  -- a refusal leaves it as it was
  pub kept_by : (x : ℕ) → r ≡ Err x → later ≡ area
  unfolding answer_of area_of
  kept_by x q =
      by_test (eqb f 0)
      (λ a.
      by_test (ltb (length area) (length o))
      (λ b. l.after ∙ rw (a, b))
      (λ b. refused_not x (length o) (sym q ∙ l.answer ∙ rw (a, b))))
      (λ a. l.after ∙ rw a)

  room_by : (n : ℕ) → r ≡ Ok n → length o ≤ length area
  unfolding answer_of
  room_by n q =
      by_test (ltb (length area) (length o))
      (λ b.
      by_test (eqb f 0)
      (λ a. refused_not 61 n (sym (sym q ∙ l.answer ∙ rw (a, b))))
      (λ a. refused_not f n (sym (sym q ∙ l.answer ∙ rw a))))
      (λ b. ltb-false (length area) (length o) b)

  -- and nothing past what was written changes
  pub past_by : (n : ℕ) → r ≡ Ok n → (length later ≡ length area) × (drop n later ≡ drop n area)
  past_by n q =
      let w = laid_wrote f n o area later (subst (λ (x : Written). Laid f o area x later) q l) in
      let room = room_by n q in
      (rw (w.2, length-append, length-drop) (omega arith), rw (w.2, w.1) (drop_at o (drop (length o) area) (length o) refl))
