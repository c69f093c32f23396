-- 59 of a link, asked of its octets where they stand: a law for each way through the tests.
use Prim.Native.Nat.{ℕ, zero, suc, ◌+◌, ◌*◌, ◌≤◌, ◌<◌}
use native.Mathlib.Omega.{arith}
use mathlib.Core.Path.{◌≡◌, refl, sym, ◌∙◌}
use mathlib.Core.Bool.{Bool, true, false}
use mathlib.Core.List.{List}
use lib.Dec.{eqb, ltb, leb, lit<}
use lib.ListN.{take, drop}
use lib.Seq.{get_or-take, get_or-drop}
use borrow.Author.Tests.{lt-ltb, le-leb, lt-leb, eq-eqb, ne_eqb}
use Rattle.octets.specs.Choice.{pick, both}
use Rattle.octets.specs.Reading.{oct}
use Rattle.frames.specs.Step.{most, length_of, data_sound, sound_in}
use Rattle.state.specs.Link.{link_size, phase_good, phase_at, link_good, link_of}
use Rattle.state.specs.Layout.{link_part}
use Rattle.state.specs.Calls.{state_at}
use Rattle.state.specs.Judging.{link_fair}
use Rattle.state.proofs.Parts.{both_last}

both_pick : (a b : Bool) → both a b ≡ pick a b false
both_pick true b = refl
both_pick false b = refl

-- the data phase: something left to come, of a length of 1 to 501
abbrev data_judged : ℕ → ℕ → Bool
data_judged got n = pick (eqb n 0) false (pick (leb n most) (ltb got (n + 2)) false)

data_judged_lem : (got n : ℕ) → data_sound got n ≡ data_judged got n
unfolding data_sound
data_judged_lem got zero = refl
data_judged_lem got (suc n) =
    rw (lt-ltb 0 (suc n) (omega arith), ne_eqb (suc n) 0 (λ e. omega arith)) (both_pick (leb (suc n) most) (ltb got (suc n + 2)))

-- the tests in the order in which they are made: phase p, the count's octets, the frame's length n
abbrev link_judged : ℕ → ℕ → ℕ → ℕ → Bool
link_judged p high low n =
    pick (leb p 1) (pick (eqb high 0) (eqb low 0) false)
    (pick (eqb p 2) (pick (eqb high 0) (ltb low 6) false) (pick (eqb p 3) (data_judged (high * 256 + low) n) false))

phase_judged : (p high low : ℕ) (h : List ℕ) → both (phase_good p high low) (sound_in (phase_at p high low) h) ≡ link_judged p high low (length_of h)
unfolding phase_good phase_at
phase_judged zero high low h = sym (both_last _ _ refl)
phase_judged (suc zero) high low h = sym (both_last _ _ refl)
phase_judged (suc (suc zero)) high low h = both_pick (eqb high 0) (ltb low 6)
phase_judged (suc (suc (suc zero))) high low h = data_judged_lem (high * 256 + low) (length_of h)
phase_judged (suc (suc (suc (suc p)))) high low h =
    let q = suc (suc (suc (suc p))) in
    rw (lt-leb q 1 (omega arith), ne_eqb q 2 (λ e. omega arith), ne_eqb q 3 (λ e. omega arith))

-- the link's octets are the first of the state's
pub at_link : (o : List ℕ) (k : ℕ) → k < link_size → oct (link_part o) k ≡ oct o k
at_link o k h = get_or-take link_size o k 0 h

at_head : (o : List ℕ) (k : ℕ) → k < 5 → oct (take 5 (drop 3 (link_part o))) k ≡ oct o (3 + k)
at_head o k h = get_or-take 5 (drop 3 (link_part o)) k 0 h ∙ get_or-drop 3 (link_part o) k 0 ∙ at_link o (3 + k) (omega arith)

link_judged_lem : (o : List ℕ) → link_fair o ≡ link_judged (oct o 0) (oct o 1) (oct o 2) (oct o 6 * 256 + oct o 7)
unfolding link_fair link_good link_of state_at length_of
link_judged_lem o =
    phase_judged (oct (link_part o) 0) (oct (link_part o) 1) (oct (link_part o) 2) (take 5 (drop 3 (link_part o)))
    ∙ rw (at_link o 0 (lit< tt), at_link o 1 (lit< tt), at_link o 2 (lit< tt), at_head o 3 (lit< tt), at_head o 4 (lit< tt))

-- ---- a law for each way
module _ (o : List ℕ) where
  module _ (early : oct o 0 ≤ 1) where
    pub early_fair : oct o 1 ≡ 0 → eqb (oct o 2) 0 ≡ link_fair o
    early_fair z = rw (link_judged_lem o, le-leb (oct o 0) 1 early, eq-eqb (oct o 1) 0 z)

    pub early_over : (oct o 1 ≡ 0 → ⊥) → false ≡ link_fair o
    early_over n = rw (link_judged_lem o, le-leb (oct o 0) 1 early, ne_eqb (oct o 1) 0 n)

  module _ (phase : oct o 0 ≡ 2) where
    pub header_fair : oct o 1 ≡ 0 → ltb (oct o 2) 6 ≡ link_fair o
    header_fair z = rw (link_judged_lem o, phase, eq-eqb (oct o 1) 0 z)

    pub header_over : (oct o 1 ≡ 0 → ⊥) → false ≡ link_fair o
    header_over n = rw (link_judged_lem o, phase, ne_eqb (oct o 1) 0 n)

  -- n: the length
  module _ (phase : oct o 0 ≡ 3) (n : ℕ) (long : n ≡ oct o 6 * 256 + oct o 7) where
    pub data_none : n ≡ 0 → false ≡ link_fair o
    data_none z = rw (link_judged_lem o, phase, ← long, z)

    pub data_over : most < n → false ≡ link_fair o
    data_over h = rw (link_judged_lem o, phase, ← long, ne_eqb n 0 (λ e. omega arith), lt-leb n most h)

    pub data_fair : (n ≡ 0 → ⊥) → n ≤ most → (got : ℕ) → got ≡ oct o 1 * 256 + oct o 2 → ltb got (n + 2) ≡ link_fair o
    data_fair z h got e = rw (link_judged_lem o, phase, ← long, ne_eqb n 0 z, le-leb n most h, ← e)

  pub no_phase : 1 < oct o 0 → (oct o 0 ≡ 2 → ⊥) → (oct o 0 ≡ 3 → ⊥) → false ≡ link_fair o
  no_phase h a b = rw (link_judged_lem o, lt-leb (oct o 0) 1 h, ne_eqb (oct o 0) 2 a, ne_eqb (oct o 0) 3 b)

-- for `search (rules, link_ways)`
pub ruleset link_ways = (early_fair, early_over, header_fair, header_over, data_none, data_over, data_fair, no_phase)
