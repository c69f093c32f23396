-- What is left of a value where its reading stopped, with the octets behind it.
use Prim.Native.Nat.{ℕ, ◌+◌, ◌-◌, ◌≤◌, ◌<◌}
use native.Mathlib.Omega.{arith}
use mathlib.Core.Path.{◌≡◌, sym, ap, subst, ◌∙◌}
use mathlib.Core.List.{List, [], ◌∷◌, ◌++◌}
use mathlib.Core.Bool.{Bool}
use lib.ListN.{length, get_or, take, drop, length-append, length-drop}
use lib.Seq.{take-length}
use borrow.Author.Tests.{lt-ltb, le-ltb}
use Rattle.octets.specs.Splice.{splice, splice_then, splice_inside}
use Rattle.std.specs.Prelude.{Ok, Err}
use Rattle.octets.specs.declared.refusal.Refusal.{Refusal}
use Rattle.octets.specs.Refusal.{number_of}
use Rattle.tags.specs.Types.{longest}
use Rattle.tags.specs.Reading.{head_at}
use Rattle.tags.specs.Head.Tag.{Item}
use Rattle.items.specs.Reading.{walk}
use Rattle.service_writer.specs.declared.judge.Phase.TheVariants.{Inside}
use Rattle.service_writer.specs.declared.judge.Reached.{Reached}
use Rattle.service_writer.specs.declared.judge.Cut.{Cut}
use Rattle.service_writer.specs.Judging.{out_fault, reading, moved_to, cut_of, FitsOne, Halted, Ready, Small, Stepped, Ran}
use Rattle.service_writer.proofs.Cuts.{Reaches, cut_head}
use Rattle.service_writer.proofs.Going.{step_refused, reading_moved, reading_rest}

-- an item that began nine octets before the end or more
module _ (s b : List ℕ) (request : Bool) (q : Reached) (halted : Halted s q) (room : q.at + 9 ≤ length s) (c : Cut) (is : c ≡ cut_of s q.at) where
  ready : Ready q
  ready = ((halted.0.1 (omega arith)).0, halted.1)

  reaches : Reaches s b c (head_at (s ++ b) q.at)
  reaches = subst (λ (x : Cut). Reaches s b x (head_at (s ++ b) q.at)) (sym is) (cut_head s b q.at room (halted.0.1 (omega arith)).1)

  there : q.at < length (s ++ b)
  there = omega (arith, length-append s b)

  pub cut_facts : (c.len ≤ longest) × (c.place ≤ length s) × (length s < c.place + c.len)
  cut_facts = (reaches.small, reaches.begins, reaches.ends)

  pub cut_fits : length s + length b ≤ longest → Ready q × (c.place + c.len ≤ longest + longest) × FitsOne s c.place c.len
  cut_fits small = (ready, omega (arith, reaches.small, reaches.begins), λ e. absurd (omega (arith, reaches.long)))

  pub beyond_none : length s + length b < c.place + c.len → 30 ≡ reading (s ++ b) request q
  beyond_none h =
      let l : length (s ++ b) < c.place + c.len = omega (arith, length-append s b) in
      sym (step_refused (s ++ b) request q ready there 30 (reaches.tag ∙ rw (lt-ltb (length (s ++ b)) (c.place + c.len) l)))

  module _ (h : c.place + c.len ≤ length s + length b) (x : Reached) (w : Stepped s request q (Item c.kind c.number 0 c.place c.len) (Ok x)) where
    tag : head_at (s ++ b) q.at ≡ Item c.kind c.number 0 c.place c.len
    tag = let l : c.place + c.len ≤ length (s ++ b) = omega (arith, length-append s b) in reaches.tag ∙ rw (le-ltb (length (s ++ b)) (c.place + c.len) l)

    pub beyond_some : (r : ℕ) → r ≡ reading b request (moved_to x (c.place + c.len - length s)) → r ≡ reading (s ++ b) request q
    beyond_some r e =
        let k : x.at ≡ length s + (c.place + c.len - length s) = omega (arith, reaches.ends, w.ends) in
        e ∙ sym (w.same b there tag ∙ reading_moved s b request x (c.place + c.len - length s) k)

    pub cut_small : length s + length b ≤ longest → Small b (moved_to x (c.place + c.len - length s))
    cut_small small = (omega arith, omega (arith, reaches.ends), w.deep)

-- eight octets or less, laid beside those behind them
module _ (s b : List ℕ) (request : Bool) (q : Reached) (halted : Halted s q) (room : length s - q.at ≤ 8) (few : length b ≤ 7) (area l m : List ℕ) (size : length area ≡ 16)
    (first : l ≡ splice area 0 (take (length s - q.at) (drop q.at s))) (then : m ≡ splice l (length s - q.at) b) where
  abbrev count : ℕ
  count = length s - q.at + length b

  left : length (drop q.at s) ≡ length s - q.at
  left = length-drop q.at s

  all : take (length s - q.at) (drop q.at s) ≡ drop q.at s
  all = rw (← left) (take-length (drop q.at s))

  tail : take count m ≡ drop q.at s ++ b
  tail =
      let x : List ℕ = drop q.at s in
      let k = left in
      let n : count ≡ length (x ++ b) = omega (arith, length-append x b) in
      let f : l ≡ splice area 0 x = first ∙ ap (splice area 0) all in
      let g : m ≡ splice l (0 + length x) b = then ∙ ap (λ (z : ℕ). splice l z b) (omega arith) in
      let w : m ≡ splice area 0 (x ++ b) = splice_then area 0 x b (omega arith) f g in
      rw (w, n) (splice_inside area 0 (x ++ b) (omega arith))

  pub tail_read : (r : ℕ) → r ≡ reading (take count m) request (moved_to q 0) → r ≡ reading (s ++ b) request q
  tail_read r e = e ∙ ap (λ (z : List ℕ). reading z request (moved_to q 0)) tail ∙ sym (reading_rest s b request q halted.0.0)

-- the reading of a value begins
abbrev pub start : ℕ → List ℕ → Reached
start left numbers = record { at = 0; left = left; numbers = numbers; depth = 1; phase = Ok Inside }

-- and goes on
module _ (s b : List ℕ) (request : Bool) (left : ℕ) (numbers : List ℕ) (three : get_or numbers 0 0 ≡ 3) where
  begun : reading (s ++ b) request (start left numbers) ≡ out_fault (s ++ b) request (Ok Inside) (walk left (s ++ b) 0 (3 ∷ []))
  unfolding reading
  begun = rw three

  pub judged_refused : (x : Refusal) → Ran s request (start left numbers) (Err x) → number_of x ≡ out_fault (s ++ b) request (Ok Inside) (walk left (s ++ b) 0 (3 ∷ []))
  judged_refused x ran = sym (ran.same b) ∙ begun

  pub judged_rest : (q : Reached) → Ran s request (start left numbers) (Ok q) → (r : ℕ) → r ≡ reading (s ++ b) request q → r ≡ out_fault (s ++ b) request (Ok Inside) (walk left (s ++ b) 0 (3 ∷ []))
  judged_rest q ran r e = e ∙ sym (ran.same b) ∙ begun
