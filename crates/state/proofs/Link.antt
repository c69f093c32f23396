-- A link's octets are that link, and octets that are a link are its octets.
use Prim.Native.Nat.{ℕ, zero, suc, ◌+◌, ◌*◌, ◌/◌, ◌%◌, ◌≤◌, ◌<◌}
use native.Mathlib.Omega.{arith}
use mathlib.Core.Path.{◌≡◌, refl, ap, ◌∙◌}
use mathlib.Core.Bool.{true, false}
use mathlib.Core.List.{List, [], ◌∷◌, ◌++◌}
use lib.Dec.{eqb, leb}
use lib.ListN.{length, get_or, length-append}
use lib.Seq.{take_at, get_or-append-add}
use borrow.Author.Tests.{ne_eqb, lt-leb, eqb-true}
use Rattle.octets.specs.Choice.{pick_so, not_so}
use Rattle.octets.specs.Every.{octets_part}
use Rattle.octets.specs.Reading.{oct, Octets}
use Rattle.octets.specs.Splice.{splice}
use Rattle.frames.specs.declared.Phase.{Phase}
use Rattle.frames.specs.declared.Phase.TheVariants.{Hunting, Preamble, Header, Data}
use Rattle.frames.specs.declared.Link.{Link}
use Rattle.records.proofs.Areas.{three_laid}
use Rattle.records.proofs.Networks.{two_back}
use Rattle.state.specs.Link.{link_size, phase_octets, link_octets, PhaseFits, phase_good, phase_at, link_good, link_of}
use Rattle.state.proofs.Parts.{cut_run, cut_size, run_all, join}

pub phase_size : (p : Phase) → length (phase_octets p) ≡ 3
phase_size Hunting = refl
phase_size Preamble = refl
phase_size (Header got) = refl
phase_size (Data got) = refl

link_long : (l : Link) → length (link_octets l) ≡ 3 + (length l.head + 1)
unfolding link_octets
link_long l = rw (length-append, phase_size l.phase, length-append)

pub link_size_lem : (l : Link) → length l.head ≡ 5 → length (link_octets l) ≡ link_size
link_size_lem l h = link_long l ∙ rw h

pub link_shaped : (l : Link) → length (link_octets l) ≡ link_size → length l.head ≡ 5
link_shaped l h = let n = link_long l in omega arith

-- ---- the octets of a link are that link
behind_head : (head : List ℕ) (first : ℕ) → length head ≡ 5 → get_or (head ++ (first ∷ [])) 5 0 ≡ first
behind_head head first h =
    let n : length head + 0 ≡ 5 = omega arith in
    rw n at (get_or-append-add head (first ∷ []) 0 0)

phase_back : (p : Phase) (head : List ℕ) (first : ℕ) → length head ≡ 5
    → (link_of (phase_octets p ++ (head ++ (first ∷ []))) ≡ record { phase = p; head = head; first = first })
    × (link_good (phase_octets p ++ (head ++ (first ∷ []))) ≡ true)
unfolding link_of link_good phase_at phase_good
phase_back Hunting head first h = (rw (take_at head (first ∷ []) 5 h, behind_head head first h), refl)
phase_back Preamble head first h = (rw (take_at head (first ∷ []) 5 h, behind_head head first h), refl)
phase_back (Header got) head first h = (rw (take_at head (first ∷ []) 5 h, behind_head head first h), refl)
phase_back (Data got) head first h = (rw (take_at head (first ∷ []) 5 h, behind_head head first h, two_back got), refl)

pub link_back : (l : Link) → length l.head ≡ 5 → (link_of (link_octets l) ≡ l) × (link_good (link_octets l) ≡ true)
unfolding link_octets
link_back l h = phase_back l.phase l.head l.first h

-- ---- octets that are a link are its octets, and it fits them
pub record LinkFits (l : Link) : Type 0 where
  pub phase : PhaseFits l.phase
  pub head : length l.head ≡ 5
  pub head_octets : Octets l.head
  pub first : l.first < 256

pub phase_stands : (p high low : ℕ) → high < 256 → low < 256 → phase_good p high low ≡ true → (phase_octets (phase_at p high low) ≡ p ∷ high ∷ low ∷ []) × PhaseFits (phase_at p high low)
unfolding phase_good phase_at
phase_stands zero high low h l g =
    let a = pick_so (eqb high 0) (eqb low 0) false true not_so g in
    (rw (eqb-true high 0 a.0, eqb-true low 0 a.1), tt)
phase_stands (suc zero) high low h l g =
    let a = pick_so (eqb high 0) (eqb low 0) false true not_so g in
    (rw (eqb-true high 0 a.0, eqb-true low 0 a.1), tt)
phase_stands (suc (suc zero)) high low h l g = (rw (eqb-true high 0 g), l)
phase_stands (suc (suc (suc zero))) high low h l g =
    let d : (high * 256 + low) / 256 ≡ high = omega arith in
    let m : (high * 256 + low) % 256 ≡ low = omega arith in
    (rw (d, m), omega arith)
phase_stands (suc (suc (suc (suc p)))) high low h l g =
    let a : leb (suc (suc (suc (suc p)))) 1 ≡ false = lt-leb (suc (suc (suc (suc p)))) 1 (omega arith) in
    let b : eqb (suc (suc (suc (suc p)))) 2 ≡ false = ne_eqb (suc (suc (suc (suc p)))) 2 (λ e. omega arith) in
    let e : eqb (suc (suc (suc (suc p)))) 3 ≡ true = rw (a, b) at g in
    let z = eqb-true (suc (suc (suc (suc p)))) 3 e in
    absurd (omega arith)

module _ (s : List ℕ) (os : Octets s) (size : length s ≡ link_size) (good : link_good s ≡ true) where
  phased : (phase_octets (phase_at (oct s 0) (oct s 1) (oct s 2)) ≡ oct s 0 ∷ oct s 1 ∷ oct s 2 ∷ []) × PhaseFits (phase_at (oct s 0) (oct s 1) (oct s 2))
  unfolding link_good
  phased = phase_stands (oct s 0) (oct s 1) (oct s 2) (os 1) (os 2) good

  pub link_stands : link_octets (link_of s) ≡ s
  unfolding link_octets link_of
  link_stands =
      join phased.0 (ap (λ (l : List ℕ). l ++ (oct s 8 ∷ [])) (cut_run s 5 3 (omega arith)))
      ∙ run_all s link_size size

  pub link_fits : LinkFits (link_of s)
  unfolding link_of
  link_fits = record { phase = phased.1; head = cut_size 5 3 s (omega arith); head_octets = octets_part s 3 5 os; first = os 8 }

-- ---- its parts, laid one after the other
pub link_laid : (area p : List ℕ) (l : Link) {l₁ l₂ l₃ : List ℕ} → link_size ≤ length area → length l.head ≡ 5 → p ≡ phase_octets l.phase
    → l₁ ≡ splice area 0 p → l₂ ≡ splice l₁ 3 l.head → l₃ ≡ splice l₂ 8 (l.first ∷ []) → l₃ ≡ splice area 0 (link_octets l)
unfolding link_octets
link_laid area p l n h q e₁ e₂ e₃ =
    let m = phase_size l.phase in
    three_laid area 0 3 8 (phase_octets l.phase) l.head (l.first ∷ []) (rw q at e₁) e₂ e₃ (omega arith) (omega arith) (omega arith)
