-- What one tag, and going on from tag to tag, do to a reading that reached a place.
use Prim.Native.Nat.{ℕ, zero, suc, ◌+◌, ◌-◌, ◌≤◌, ◌<◌}
use native.Mathlib.Omega.{arith}
use mathlib.Core.Path.{◌≡◌, refl, sym, ap, subst, ◌∙◌}
use mathlib.Core.List.{List, [], ◌∷◌, ◌++◌, append-nil, append_assoc}
use mathlib.Core.Bool.{Bool, true, false}
use mathlib.Core.Logic.{⊎_elim}
use lib.ListN.{length, length-append, get_or, set, take, drop, take-append-drop}
use lib.Seq.{length-take-le}
use borrow.Author.Tests.{lt-leb, le-leb, eq-eqb, ne_eqb, eqb-true}
use Rattle.octets.specs.Choice.{impossible}
use Rattle.tags.specs.Types.{longest}
use Rattle.tags.specs.Reading.{head_at}
use Rattle.tags.specs.Head.{Tag, kind_of, seen_as, tag_of}
use Rattle.tags.specs.declared.Class.{Class}
use Rattle.tags.specs.declared.Tag as tag
use Rattle.tags.specs.Head.Tag.{Item, Opening, Closing}
use Rattle.tags.proofs.Bounds.{TagIn, head_in}
use Rattle.items.specs.Records.{rec}
use Rattle.items.specs.Reading.{Out, ending, closes, step, walk, deepest}
use Rattle.items.specs.Reading.Out.{bad}
use Rattle.items.proofs.Machine.{walk_ends, walk_steps}
use Rattle.items.proofs.HeadFront.{head_front}
use Rattle.item_judge.specs.Kinds.{stack}
use Rattle.item_judge.proofs.Stack.{stack_length, stack_push}
use Rattle.std.specs.Prelude.{Result, Ok, Err}
use Rattle.octets.specs.declared.refusal.Refusal.{Refusal}
use Rattle.octets.specs.declared.refusal.Refusal.TheVariants.{TooDeep, StrayClosing, TooManyItems}
use Rattle.octets.specs.Refusal.{number_of, numbered}
use Rattle.service_writer.specs.declared.judge.Phase.{Phase}
use Rattle.service_writer.specs.declared.judge.Phase.TheVariants.{Inside, Behind, Done}
use Rattle.service_writer.specs.declared.judge.Reached.{Reached}
use Rattle.service_writer.specs.Judging.{Stage, phase_after, phase_fault, out_fault, left_fault, open_of, reading, reading_on, moved_to, is_early, Ready, FitsOne, TagFits, Ends, Stepped, Ran}
use Rattle.service_writer.proofs.Phases.{phase_front, fault_moved, fault_more, fault_bad}

-- where an item may begin, it is read
walk_next : (k : ℕ) (s : List ℕ) (at : ℕ) (groups : List ℕ) → 0 < k → at < length s → walk k s at groups ≡ step (walk (k - 1) s) (head_at s at) groups
walk_next zero s at groups a h = absurd (omega arith)
walk_next (suc k) s at groups a h = let e : suc k - 1 ≡ k = omega arith in rw e (walk_steps k s at groups h)

module _ (s : List ℕ) (request : Bool) where
  -- one tag
  module _ (q : Reached) (ready : Ready q) (here : q.at < length s) where
    begins : (t : Tag) → head_at s q.at ≡ t → reading s request q ≡ out_fault s request (numbered q.phase) (step (walk (q.left - 1) s) t (open_of q))
    unfolding reading
    begins t e =
        ap (out_fault s request (numbered q.phase)) (walk_next q.left s q.at (open_of q) ready.0 here ∙ ap (λ (u : Tag). step (walk (q.left - 1) s) u (open_of q)) e)

    pub step_refused : (x : ℕ) → head_at s q.at ≡ Tag.Refused x → reading s request q ≡ x
    unfolding step
    step_refused x e = begins (Tag.Refused x) e ∙ fault_bad s request (numbered q.phase) x

    pub step_item : (k n v p l : ℕ) → head_at s q.at ≡ Item k n v p l → reading s request q ≡ out_fault s request (phase_after s request (numbered q.phase) (rec k n q.depth v p l)) (walk (q.left - 1) s (p + l) (open_of q))
    unfolding step
    step_item k n v p l e = begins (Item k n v p l) e ∙ rw (stack_length q.numbers q.depth) (fault_more s request (numbered q.phase) _ _)

    pub step_deep : (n p : ℕ) → head_at s q.at ≡ Opening n p → deepest ≤ q.depth → reading s request q ≡ 37
    unfolding step
    step_deep n p e h = begins (Opening n p) e ∙ rw (stack_length q.numbers q.depth, le-leb _ _ h) (fault_bad s request (numbered q.phase) 37)

    pub step_open : (n p : ℕ) → head_at s q.at ≡ Opening n p → q.depth < deepest
        → reading s request q ≡ out_fault s request (phase_after s request (numbered q.phase) (rec 2 n q.depth 0 p 0)) (walk (q.left - 1) s p (n ∷ open_of q))
    unfolding step
    step_open n p e h = begins (Opening n p) e ∙ rw (stack_length q.numbers q.depth, lt-leb _ _ h) (fault_more s request (numbered q.phase) _ _)

    pub step_none : (n p : ℕ) → head_at s q.at ≡ Closing n p → q.depth ≡ 0 → reading s request q ≡ 35
    unfolding step closes
    step_none n p e h = begins (Closing n p) e ∙ rw h (fault_bad s request (numbered q.phase) 35)

    pub step_other : (n p d : ℕ) → head_at s q.at ≡ Closing n p → q.depth ≡ suc d → (n ≡ get_or q.numbers d 0 → ⊥) → reading s request q ≡ 35
    unfolding step closes
    step_other n p d e h o = begins (Closing n p) e ∙ rw (h, ne_eqb _ _ o) (fault_bad s request (numbered q.phase) 35)

    pub step_close : (n p d : ℕ) → head_at s q.at ≡ Closing n p → q.depth ≡ suc d → n ≡ get_or q.numbers d 0
        → reading s request q ≡ out_fault s request (phase_after s request (numbered q.phase) (rec 3 n d 0 p 0)) (walk (q.left - 1) s p (stack q.numbers d))
    unfolding step closes
    step_close n p d e h o = begins (Closing n p) e ∙ rw (h, eq-eqb _ _ o, stack_length q.numbers d) (fault_more s request (numbered q.phase) _ _)

-- what the step of the code does, whatever octets follow
module _ (s : List ℕ) (request : Bool) (q : Reached) (ready : Ready q) where
  never : {X : Type 0} (x : ℕ) → suc x ≡ 0 → X
  never x e = absurd (omega arith)

  onward : (b : List ℕ) (x : Reached) (y : Stage) (o : Out) → y ≡ numbered x.phase → o ≡ walk x.left (s ++ b) x.at (open_of x) → out_fault (s ++ b) request y o ≡ reading (s ++ b) request x
  unfolding reading
  onward b x y o e d = rw (e, d)

  pub stepped_item : (k n p l : ℕ) → FitsOne s p l → (y : Result Phase Refusal) → numbered y ≡ phase_after s request (numbered q.phase) (rec k n q.depth 0 p l)
      → (v : ℕ) → Stepped s request q (Item k n v p l) (Ok (record { at = p + l; left = q.left - 1; numbers = q.numbers; depth = q.depth; phase = y }))
  stepped_item k n p l fits y d v = record {
    deep = ready.1;
    ends = refl;
    same = λ b here e. step_item (s ++ b) request q ready here k n v p l e ∙ onward b _ _ _ (phase_front s b request (numbered q.phase) k n q.depth v p l fits ∙ sym d) refl;
  }

  stepped_refused : (t : Tag) (x : Refusal) → ((b : List ℕ) → q.at < length (s ++ b) → head_at (s ++ b) q.at ≡ t → reading (s ++ b) request q ≡ number_of x) → Stepped s request q t (Err x)
  stepped_refused t x f = record { deep = tt; ends = tt; same = f }

  module _ (n p : ℕ) where
    pub stepped_deep : deepest ≤ q.depth → Stepped s request q (Opening n p) (Err TooDeep)
    stepped_deep h = stepped_refused (Opening n p) TooDeep (λ b here e. step_deep (s ++ b) request q ready here n p e h)

    pub stepped_open : (y : Result Phase Refusal) → q.depth < deepest → q.depth < length q.numbers → numbered y ≡ phase_after s request (numbered q.phase) (rec 2 n q.depth 0 p 0)
        → Stepped s request q (Opening n p) (Ok (record { at = p; left = q.left - 1; numbers = set q.numbers q.depth n; depth = q.depth + 1; phase = y }))
    stepped_open y h w d = record {
      deep = omega arith;
      ends = refl;
      same = λ b here e. step_open (s ++ b) request q ready here n p e h ∙ onward b _ _ _ (phase_front s b request (numbered q.phase) 2 n q.depth 0 p 0 (λ z. never 0 (sym z)) ∙ sym d) (ap (walk (q.left - 1) (s ++ b) p) (sym (stack_push q.numbers n q.depth w)));
    }

    pub stepped_none : q.depth ≡ 0 → Stepped s request q (Closing n p) (Err StrayClosing)
    stepped_none h = stepped_refused (Closing n p) StrayClosing (λ b here e. step_none (s ++ b) request q ready here n p e h)

    module _ (some : q.depth ≡ 0 → ⊥) where
      inner : q.depth ≡ suc (q.depth - 1)
      inner = go q.depth some
        where
          go : (d : ℕ) → (d ≡ 0 → ⊥) → d ≡ suc (d - 1)
          go zero f = absurd (f refl)
          go (suc d) f = omega arith

      pub stepped_other : (n ≡ get_or q.numbers (q.depth - 1) 0 → ⊥) → Stepped s request q (Closing n p) (Err StrayClosing)
      stepped_other o = stepped_refused (Closing n p) StrayClosing (λ b here e. step_other (s ++ b) request q ready here n p (q.depth - 1) e inner o)

      pub stepped_close : (y : Result Phase Refusal) → n ≡ get_or q.numbers (q.depth - 1) 0 → numbered y ≡ phase_after s request (numbered q.phase) (rec 3 n (q.depth - 1) 0 p 0)
          → Stepped s request q (Closing n p) (Ok (record { at = p; left = q.left - 1; numbers = q.numbers; depth = q.depth - 1; phase = y }))
      stepped_close y o d = record {
        deep = omega (arith, ready.1);
        ends = refl;
        same = λ b here e. step_close (s ++ b) request q ready here n p (q.depth - 1) e inner o ∙ onward b _ _ _ (phase_front s b request (numbered q.phase) 3 n (q.depth - 1) 0 p 0 (λ z. never 0 (sym z)) ∙ sym d) refl;
      }

  -- an item of a class
  pub as_item : (t : tag.Tag) (x : Result Reached Refusal) (class : Class) (k n v p l : ℕ) → t ≡ tag.TheVariants.Item class n v p l → k ≡ kind_of class → Stepped s request q (Item k n v p l) x → Stepped s request q (seen_as t) x
  as_item t x class k n v p l e d h = rw (e, ← d) h

-- Tag after tag. What was reached so far:
abbrev pub Sofar : List ℕ → Bool → Reached → Reached → Type 0
Sofar s request from q = (q.at ≤ length s) × (q.depth ≤ 16) × ((b : List ℕ) → reading (s ++ b) request from ≡ reading (s ++ b) request q)

module _ (s : List ℕ) (request : Bool) (from q : Reached) (so : Sofar s request from q) where
  module _ (here : q.at < length s) where
    behind : (b : List ℕ) → q.at < length (s ++ b)
    behind b = omega (arith, length-append s b)

    -- 38: "a 2,049th item begins"
    full : (k : ℕ) (o : List ℕ) (at : ℕ) (groups : List ℕ) → k ≡ 0 → at < length o → walk k o at groups ≡ bad 38
    unfolding walk
    full k o at groups e h = rw (e, lt-leb _ _ h)

    pub ran_full : q.left ≡ 0 → Ran s request from (Err TooManyItems)
    unfolding reading
    ran_full e = record { halted = tt; same = λ b. so.2 b ∙ rw (full q.left (s ++ b) q.at (open_of q) e (behind b)) (fault_bad (s ++ b) request (numbered q.phase) 38) }

    module _ (some : 0 < q.left) (t : Result tag.Tag Refusal) (seen : tag_of t ≡ head_at s q.at) where
      early_is : (u : Tag) → is_early u ≡ true → u ≡ Tag.Refused 30
      early_is (Item k n v p l) e = impossible (cc)
      early_is (Opening n p) e = impossible (cc)
      early_is (Closing n p) e = impossible (cc)
      early_is (Tag.Refused x) e = rw (eqb-true x 30 e)

      pub ran_early : is_early (tag_of t) ≡ true → Ran s request from (Ok q)
      ran_early e = record { halted = ((so.0, λ _. (some, sym seen ∙ early_is (tag_of t) e)), so.1); same = so.2 }

      pub ready_now : Ready q
      ready_now = (some, so.1)

      pub fits_now : length s ≤ longest → (u : tag.Tag) → t ≡ Ok u → TagFits s (seen_as u)
      fits_now small u e = subst (TagFits s) (sym seen ∙ ap tag_of e) (go (head_at s q.at) (head_in s q.at))
        where
          go : (u : Tag) → TagIn s q.at u → TagFits s u
          go (Item k n v p l) i = (omega (arith, i.within), λ e. omega (arith, i.within))
          go (Opening n p) i = tt
          go (Closing n p) i = tt
          go (Tag.Refused x) i = tt

      module _ (late : is_early (tag_of t) ≡ false) where
        same_tag : (b : List ℕ) → head_at (s ++ b) q.at ≡ tag_of t
        same_tag b = ⊎_elim (λ h. let z : is_early (tag_of t) ≡ true = ap is_early (seen ∙ h) in impossible (cc)) (λ h. h ∙ sym seen) (head_front s b q.at)

        pub ran_bad : (x : Refusal) → t ≡ Err x → Ran s request from (Err x)
        ran_bad x e = record { halted = tt; same = λ b. so.2 b ∙ step_refused (s ++ b) request q ready_now (behind b) (number_of x) (same_tag b ∙ ap tag_of e) }

        module _ (u : tag.Tag) (is : t ≡ Ok u) where
          pub ran_refused : (x : Refusal) → Stepped s request q (seen_as u) (Err x) → Ran s request from (Err x)
          ran_refused x w = record { halted = tt; same = λ b. so.2 b ∙ w.same b (behind b) (same_tag b ∙ ap tag_of is) }

          module _ (x : Reached) (w : Stepped s request q (seen_as u) (Ok x)) where
            pub further : (q.at < x.at) × (x.at ≤ length s)
            further = go (seen_as u) (subst (TagIn s q.at) (sym seen ∙ ap tag_of is) (head_in s q.at)) w.ends
              where
                go : (u : Tag) → TagIn s q.at u → Ends u x.at → (q.at < x.at) × (x.at ≤ length s)
                go (Item k n v p l) i h = (omega (arith, i.on), omega (arith, i.within))
                go (Opening n p) i h = (omega (arith, i.on), omega (arith, i.within))
                go (Closing n p) i h = (omega (arith, i.on), omega (arith, i.within))
                go (Tag.Refused y) i h = absurd h

            pub sofar_next : Sofar s request from x
            sofar_next = (further.1, w.deep, λ b. so.2 b ∙ w.same b (behind b) (same_tag b ∙ ap tag_of is))

-- nothing is missing of a tag that was read
pub good_late : (u : tag.Tag) → is_early (seen_as u) ≡ false
good_late (tag.TheVariants.Item k n v p l) = refl
good_late (tag.TheVariants.Opening n p) = refl
good_late (tag.TheVariants.Closing n p) = refl

-- The end: what is missing, what stays open, else what the layout says.
module _ (s : List ℕ) (request : Bool) (from : Reached) where
  same_end : (x : Result Reached Refusal) → Ran s request from x → reading s request from ≡ reading_on s request x
  same_end x ran = rw append-nil at (ran.same [])

  pub ended_refused : (x : Refusal) → Ran s request from (Err x) → number_of x ≡ reading s request from
  ended_refused x ran = sym (same_end (Err x) ran)

  module _ (q : Reached) (ran : Ran s request from (Ok q)) where
    pub ended_early : q.at < length s → 30 ≡ reading s request from
    ended_early h =
        let w = ran.halted.0.1 h in
        sym (same_end (Ok q) ran ∙ step_refused s request q (w.0, ran.halted.1) h 30 w.1)

    at_end : length s ≤ q.at → reading s request q ≡ out_fault s request (numbered q.phase) (ending q.at (open_of q))
    unfolding reading
    at_end h = rw (walk_ends q.left s q.at (open_of q) h)

    pub ended_open : length s ≤ q.at → 0 < q.depth → 36 ≡ reading s request from
    unfolding ending out_fault
    ended_open h d = sym (same_end (Ok q) ran ∙ at_end h ∙ go q.depth d)
      where
        go : (n : ℕ) → 0 < n → out_fault s request (numbered q.phase) (ending q.at (stack q.numbers n)) ≡ 36
        go zero z = absurd (omega arith)
        go (suc n) z = refl

    module _ (h : length s ≤ q.at) (d : q.depth ≡ 0) where
      ended_done : phase_fault (numbered q.phase) ≡ reading s request from
      unfolding ending out_fault left_fault
      ended_done = sym (same_end (Ok q) ran ∙ at_end h ∙ rw d)

      pub ended_wrong : (x : Refusal) → q.phase ≡ Err x → number_of x ≡ reading s request from
      unfolding phase_fault
      ended_wrong x e = rw e at ended_done

      pub ended_inside : (m : Phase) → q.phase ≡ Ok m → m ≡ Inside → 40 ≡ reading s request from
      unfolding phase_fault
      ended_inside m e f = rw (e, f) at ended_done

      pub ended_good : (m : Phase) → q.phase ≡ Ok m → (m ≡ Inside → ⊥) → 0 ≡ reading s request from
      unfolding phase_fault
      ended_good Inside e f = absurd (f refl)
      ended_good Behind e f = rw e at ended_done
      ended_good Done e f = rw e at ended_done

-- The same reading behind other octets.
pub reading_moved : (a s : List ℕ) (request : Bool) (q : Reached) (p : ℕ) → q.at ≡ length a + p → reading (a ++ s) request q ≡ reading s request (moved_to q p)
unfolding reading
reading_moved a s request q p e = rw (e, fault_moved a s request (numbered q.phase) q.left p (open_of q))

-- What is left of the octets, before others, read by itself.
pub reading_rest : (s b : List ℕ) (request : Bool) (q : Reached) → q.at ≤ length s → reading (s ++ b) request q ≡ reading (drop q.at s ++ b) request (moved_to q 0)
reading_rest s b request q h =
    let l : length (take q.at s) ≡ q.at = length-take-le q.at s h in
    let e : s ++ b ≡ take q.at s ++ (drop q.at s ++ b) = ap (λ (x : List ℕ). x ++ b) (sym (take-append-drop q.at s)) ∙ append_assoc (take q.at s) (drop q.at s) b in
    ap (λ (x : List ℕ). reading x request q) e ∙ reading_moved (take q.at s) (drop q.at s ++ b) request q 0 (omega arith)
