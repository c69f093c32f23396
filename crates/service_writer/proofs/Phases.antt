-- The layout's number for the records that are left: by the octets in front, behind other octets, and record by record.
use Prim.Native.Nat.{ℕ, zero, suc, ◌+◌, ◌*◌, ◌≤◌, ◌<◌}
use native.Mathlib.Omega.{arith}
use mathlib.Core.Path.{◌≡◌, refl, sym, ap, ◌∙◌}
use mathlib.Core.List.{List, [], ◌∷◌, ◌++◌}
use mathlib.Core.Bool.{Bool, true, false}
use lib.ListN.{length, get_or-append}
use lib.Seq.{get_or-append-add}
use lib.Dec.{ltb, eqb}
use borrow.Author.Tests.{lt-ltb, le-ltb, ltb-false, eqb-true, eqb-false, eq-eqb, ne_eqb}
use Rattle.octets.specs.Choice.{pick, pick_same, by_test}
use Rattle.octets.specs.Reading.{oct}
use Rattle.octets.specs.Numbers.{value_at, long_form, value_wide, value_shift}
use Rattle.items.specs.Records.{Rec, rec}
use Rattle.items.specs.Reading.{Out, more, walk}
use Rattle.items.specs.Reading.Out.{good, bad}
use Rattle.items.proofs.LeftToRight.{record_moved, records_moved, out_moved, walk_moved}
use Rattle.services.specs.Parts.{number_rule}
use Rattle.std.specs.Prelude.{Result, Ok, Err}
use Rattle.octets.specs.declared.refusal.Refusal.{Refusal}
use Rattle.octets.specs.Refusal.{number_of, numbered}
use Rattle.service_writer.specs.declared.judge.Phase.{Phase}
use Rattle.service_writer.specs.declared.judge.Phase.TheVariants.{Inside, Behind, Done}
use Rattle.service_writer.specs.Judging.{Stage, shut_of, rank_of, phase_after, left_fault, out_fault, FitsOne}

-- a number of two to four octets in its shortest form is above 16
not_long : (s : List ℕ) (p l : ℕ) → 1 < l → long_form (oct s p) l ≡ false → 0 < oct s p
unfolding long_form
not_long s p l h e =
    by_test (eqb (oct s p) 0) (λ z. let x : ltb 1 l ≡ false = rw z at e in absurd (omega (arith, ltb-false 1 l x))) (λ z. let n = eqb-false (oct s p) 0 z in omega arith)

above : (s : List ℕ) (p l : ℕ) → (l ≡ 0 → ⊥) → (l ≡ 1 → ⊥) → l ≤ 4 → long_form (oct s p) l ≡ false → 16 < value_at s p l
above s p zero a b c e = absurd (a refl)
above s p (suc zero) a b c e = absurd (b refl)
above s p (suc (suc zero)) a b c e = omega (arith, value_wide s p 1 (not_long s p 2 (omega arith) e))
above s p (suc (suc (suc zero))) a b c e = omega (arith, value_wide s p 2 (not_long s p 3 (omega arith) e))
above s p (suc (suc (suc (suc zero)))) a b c e = omega (arith, value_wide s p 3 (not_long s p 4 (omega arith) e))
above s p (suc (suc (suc (suc (suc l))))) a b c e = absurd (omega arith)

-- "priority 1 to 16" is one octet
module _ (s : List ℕ) (k n d v p : ℕ) where
  pub rule_other : (l : ℕ) → (l ≡ 1 → ⊥) → number_rule s 1 16 (rec k n d v p l) ≡ 41
  unfolding number_rule
  rule_other l other =
      by_test (eqb l 0) (λ e. rw e) (λ z.
      by_test (ltb 4 l) (λ e. rw (z, e)) (λ f.
      by_test (long_form (oct s p) l) (λ e. rw (z, f, e)) (λ g.
      by_test (ltb (value_at s p l) 1) (λ e. rw (z, f, g, e)) (λ h.
      rw (z, f, g, h, lt-ltb 16 (value_at s p l) (above s p l (eqb-false l 0 z) other (ltb-false 4 l f) g))))))

  pub rule_one : number_rule s 1 16 (rec k n d v p 1) ≡ pick (ltb (oct s p) 1) 41 (pick (ltb 16 (oct s p)) 41 0)
  unfolding number_rule long_form value_at
  rule_one =
      let e : p + 0 ≡ p = omega arith in
      let z : 0 * 256 + oct s p ≡ oct s p = omega arith in
      rw (e, z, pick_same (eqb (oct s p) 0) false)

-- a context item 4 as a priority
module _ (s : List ℕ) (p l : ℕ) where
  pub rank_other : (l ≡ 1 → ⊥) → Err 41 ≡ rank_of (number_rule s 1 16 (rec 1 4 0 0 p l))
  unfolding rank_of
  rank_other h = rw (rule_other s 1 4 0 0 p l h)

  pub rank_low : l ≡ 1 → oct s p < 1 → Err 41 ≡ rank_of (number_rule s 1 16 (rec 1 4 0 0 p l))
  unfolding rank_of
  rank_low e h = rw (e, rule_one s 1 4 0 0 p, lt-ltb _ _ h)

  pub rank_high : l ≡ 1 → 1 ≤ oct s p → 16 < oct s p → Err 41 ≡ rank_of (number_rule s 1 16 (rec 1 4 0 0 p l))
  unfolding rank_of
  rank_high e a h = rw (e, rule_one s 1 4 0 0 p, le-ltb _ _ a, lt-ltb _ _ h)

  pub rank_good : l ≡ 1 → 1 ≤ oct s p → oct s p ≤ 16 → Ok Done ≡ rank_of (number_rule s 1 16 (rec 1 4 0 0 p l))
  unfolding rank_of
  rank_good e a h = rw (e, rule_one s 1 4 0 0 p, le-ltb _ _ a, le-ltb _ _ h)

-- the layout after one more item
module _ (s : List ℕ) (request : Bool) (x : Result Phase Refusal) (k n d p l : ℕ) where
  pub passed_wrong : (y : Refusal) → x ≡ Err y → Err (number_of y) ≡ phase_after s request (numbered x) (rec k n d 0 p l)
  unfolding phase_after
  passed_wrong y e = rw e

  module _ (m : Phase) (so : x ≡ Ok m) where
    pub passed_kind : m ≡ Inside → (k ≡ 3 → ⊥) → Ok Inside ≡ phase_after s request (numbered x) (rec k n d 0 p l)
    unfolding phase_after
    passed_kind e h = rw (so, e, ne_eqb k 3 h)

    pub passed_depth : m ≡ Inside → k ≡ 3 → (d ≡ 0 → ⊥) → Ok Inside ≡ phase_after s request (numbered x) (rec k n d 0 p l)
    unfolding phase_after
    passed_depth e f h = rw (so, e, eq-eqb k 3 f, ne_eqb d 0 h)

    pub passed_behind : m ≡ Inside → k ≡ 3 → d ≡ 0 → request ≡ true → Ok Behind ≡ phase_after s request (numbered x) (rec k n d 0 p l)
    unfolding phase_after shut_of
    passed_behind e f h g = rw (so, e, eq-eqb k 3 f, eq-eqb d 0 h, g)

    pub passed_shut : m ≡ Inside → k ≡ 3 → d ≡ 0 → request ≡ false → Ok Done ≡ phase_after s request (numbered x) (rec k n d 0 p l)
    unfolding phase_after shut_of
    passed_shut e f h g = rw (so, e, eq-eqb k 3 f, eq-eqb d 0 h, g)

    pub passed_other : m ≡ Behind → (k ≡ 1 → ⊥) → Err 42 ≡ phase_after s request (numbered x) (rec k n d 0 p l)
    unfolding phase_after
    passed_other e h = rw (so, e, ne_eqb k 1 h)

    pub passed_number : m ≡ Behind → k ≡ 1 → (n ≡ 4 → ⊥) → Err 42 ≡ phase_after s request (numbered x) (rec k n d 0 p l)
    unfolding phase_after
    passed_number e f h = rw (so, e, eq-eqb k 1 f, ne_eqb n 4 h)

    pub passed_ranked : m ≡ Behind → k ≡ 1 → n ≡ 4 → (y : Stage) → y ≡ rank_of (number_rule s 1 16 (rec 1 4 0 0 p l)) → y ≡ phase_after s request (numbered x) (rec k n d 0 p l)
    unfolding phase_after number_rule
    passed_ranked e f h y g = g ∙ rw (so, e, f, h)

    pub passed_done : m ≡ Done → Err 42 ≡ phase_after s request (numbered x) (rec k n d 0 p l)
    unfolding phase_after
    passed_done e = rw (so, e)

pub ruleset passes = (passed_wrong, passed_kind, passed_depth, passed_behind, passed_shut, passed_other, passed_number, passed_ranked, passed_done)

rule_front : (s b : List ℕ) (k n d v p l : ℕ) → FitsOne s p l → number_rule (s ++ b) 1 16 (rec k n d v p l) ≡ number_rule s 1 16 (rec k n d 0 p l)
rule_front s b k n d v p l fits =
    by_test (eqb l 1)
    (λ e. let o = eqb-true l 1 e in rw (o, rule_one (s ++ b) k n d v p, rule_one s k n d 0 p, get_or-append s b 0 p (fits o)))
    (λ e. rule_other (s ++ b) k n d v p l (eqb-false l 1 e) ∙ sym (rule_other s k n d 0 p l (eqb-false l 1 e)))

-- what the octets in front say of an item that lies in them, all of them say
pub phase_front : (s b : List ℕ) (request : Bool) (x : Stage) (k n d v p l : ℕ) → FitsOne s p l → phase_after (s ++ b) request x (rec k n d v p l) ≡ phase_after s request x (rec k n d 0 p l)
unfolding phase_after
phase_front s b request (Ok Inside) k n d v p l fits = refl
phase_front s b request (Ok Behind) k n d v p l fits = rw (rule_front s b k n d v p l fits)
phase_front s b request (Ok Done) k n d v p l fits = refl
phase_front s b request (Err y) k n d v p l fits = refl

-- behind other octets the records' places are moved, and the number is the same
module _ (a s : List ℕ) (request : Bool) where
  value_moved : (p l : ℕ) → value_at (a ++ s) (length a + p) l ≡ value_at s p l
  value_moved p l = value_shift (a ++ s) s (length a + p) p l (λ j _. let e : length a + p + j ≡ length a + (p + j) = omega arith in rw e (get_or-append-add a s (p + j) 0))

  rule_moved : (low high : ℕ) (r : Rec) → number_rule (a ++ s) low high (record_moved (length a) r) ≡ number_rule s low high r
  unfolding number_rule
  rule_moved low high r = rw (get_or-append-add a s r.place 0, value_moved r.place r.len)

  phase_moved : (x : Stage) (r : Rec) → phase_after (a ++ s) request x (record_moved (length a) r) ≡ phase_after s request x r
  unfolding phase_after
  phase_moved (Ok Inside) r = refl
  phase_moved (Ok Behind) r = rw (rule_moved 1 16 r)
  phase_moved (Ok Done) r = refl
  phase_moved (Err y) r = refl

  left_moved : (x : Stage) (rs : List Rec) → left_fault (a ++ s) request x (records_moved (length a) rs) ≡ left_fault s request x rs
  unfolding left_fault records_moved
  left_moved x [] = refl
  left_moved x (r ∷ rs) = left_moved (phase_after (a ++ s) request x (record_moved (length a) r)) rs ∙ ap (λ (y : Stage). left_fault s request y rs) (phase_moved x r)

  out_moved_lem : (x : Stage) (o : Out) → out_fault (a ++ s) request x (out_moved (length a) o) ≡ out_fault s request x o
  unfolding out_fault out_moved
  out_moved_lem x (good rs end) = left_moved x rs
  out_moved_lem x (bad y) = refl

  pub fault_moved : (x : Stage) (k at : ℕ) (groups : List ℕ) → out_fault (a ++ s) request x (walk k (a ++ s) (length a + at) groups) ≡ out_fault s request x (walk k s at groups)
  fault_moved x k at groups = rw (walk_moved a s k at groups) (out_moved_lem x (walk k s at groups))

-- record by record
pub fault_more : (s : List ℕ) (request : Bool) (x : Stage) (r : Rec) (o : Out) → out_fault s request x (more (r ∷ []) o) ≡ out_fault s request (phase_after s request x r) o
unfolding out_fault more left_fault
fault_more s request x r (good rs end) = refl
fault_more s request x r (bad y) = refl

pub fault_bad : (s : List ℕ) (request : Bool) (x : Stage) (y : ℕ) → out_fault s request x (bad y) ≡ y
unfolding out_fault
fault_bad s request x y = refl
