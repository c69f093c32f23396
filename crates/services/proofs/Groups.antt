-- A group among items: the items in it are whole by themselves, and the reading goes past their records.
use Prim.Native.Nat.{ℕ, zero, suc, ◌+◌, ◌-◌, ◌≤◌}
use native.Mathlib.Omega.{arith}
use native.Mathlib.Numerals.{add-one}
use mathlib.Core.Path.{◌≡◌, refl, ap}
use mathlib.Core.List.{List, [], ◌∷◌, ◌++◌}
use mathlib.Core.Bool.{false}
use lib.ListN.{length, length-append}
use lib.Dec.{eqb}
use borrow.Author.Tests.{ne_eqb}
use Rattle.octets.specs.Choice.{both}
use Rattle.tags.specs.Layout.{Thing, encode, tag_length}
use Rattle.tags.specs.Layout.Thing.{application, boolean, context, opening, closing}
use Rattle.items.specs.Records.{Rec}
use Rattle.items.specs.Grammar.{encode_all, Balanced, record_of, depth_after, records_from}
use Rattle.services.specs.Parts.{Answer, after_group}

-- more items may begin
pub balanced_more : (k j : ℕ) → k ≤ j → (groups : List ℕ) (ts : List Thing) → Balanced k groups ts → Balanced j groups ts
balanced_more k j h [] [] b = tt
balanced_more k j h (n ∷ groups) [] b = absurd b
balanced_more zero j h groups (t ∷ ts) b = absurd b
balanced_more (suc k) zero h groups (t ∷ ts) b = absurd (omega arith)
balanced_more (suc k) (suc j) h groups (application n xs ∷ ts) b = balanced_more k j (omega arith) groups ts b
balanced_more (suc k) (suc j) h groups (boolean v ∷ ts) b = balanced_more k j (omega arith) groups ts b
balanced_more (suc k) (suc j) h groups (context n xs ∷ ts) b = balanced_more k j (omega arith) groups ts b
balanced_more (suc k) (suc j) h groups (opening n ∷ ts) b = (b.0, balanced_more k j (omega arith) (n ∷ groups) ts b.1)
balanced_more (suc k) (suc j) h [] (closing n ∷ ts) b = absurd b
balanced_more (suc k) (suc j) h (m ∷ groups) (closing n ∷ ts) b = (b.0, balanced_more k j (omega arith) groups ts b.1)

-- the items up to the closing of the outermost group c, and those behind it
pub record Split (c k : ℕ) (groups : List ℕ) (ts : List Thing) : Type 0 where
  pub inner : List Thing
  pub rest : List Thing
  pub room : ℕ
  pub things : ts ≡ inner ++ (closing c ∷ rest)
  pub whole : Balanced k groups inner
  pub most : room ≤ k
  pub behind : Balanced room [] rest

module _ (c : ℕ) where
  -- one item more, in the group
  split_more : (k : ℕ) (groups inside : List ℕ) (t : Thing) (ts : List Thing) → ((us : List Thing) → Balanced k inside us → Balanced (suc k) groups (t ∷ us)) → Split c k inside ts → Split c (suc k) groups (t ∷ ts)
  split_more k groups inside t ts f s =
      record { inner = t ∷ s.inner; rest = s.rest; room = s.room; things = ap (λ (us : List Thing). t ∷ us) s.things; whole = f s.inner s.whole; most = omega (arith, s.most); behind = s.behind }

  pub split : (k : ℕ) (groups : List ℕ) (ts : List Thing) → Balanced k (groups ++ (c ∷ [])) ts → Split c k groups ts
  split k [] [] b = absurd b
  split k (m ∷ groups) [] b = absurd b
  split zero groups (t ∷ ts) b = absurd b
  split (suc k) groups (application n xs ∷ ts) b = split_more k groups groups (application n xs) ts (λ us v. v) (split k groups ts b)
  split (suc k) groups (boolean x ∷ ts) b = split_more k groups groups (boolean x) ts (λ us v. v) (split k groups ts b)
  split (suc k) groups (context n xs ∷ ts) b = split_more k groups groups (context n xs) ts (λ us v. v) (split k groups ts b)
  split (suc k) groups (opening n ∷ ts) b = split_more k groups (n ∷ groups) (opening n) ts (λ us v. (omega (arith, b.0, length-append groups (c ∷ [])), v)) (split k (n ∷ groups) ts b.1)
  split (suc k) [] (closing n ∷ ts) b = record { inner = []; rest = ts; room = k; things = rw b.0; whole = tt; most = omega arith; behind = b.1 }
  split (suc k) (m ∷ groups) (closing n ∷ ts) b = split_more k (m ∷ groups) groups (closing n) ts (λ us v. (b.0, v)) (split k groups ts b.1)

-- a record that does not close the group
abbrev Quiet : Rec → Type 0
Quiet r = both (eqb r.kind 3) (eqb r.depth 0) ≡ false

-- past the records of a group's items to its closing's
module _ (next : ℕ → List Rec → Answer) (c : ℕ) (rest : List Thing) where
  abbrev Closes : ℕ → List Rec → Type 0
  Closes end rs = after_group next rs ≡ next (end + tag_length (closing c)) (records_from (end + length (encode (closing c))) 0 rest)

  -- one item more
  past_more : (at d e : ℕ) (t : Thing) (ts : List Thing) → Quiet (record_of at d t) → depth_after d t ≡ e → Closes (at + length (encode t) + length (encode_all ts)) (records_from (at + length (encode t)) e (ts ++ (closing c ∷ rest)))
      → Closes (at + length (encode_all (t ∷ ts))) (records_from at d ((t ∷ ts) ++ (closing c ∷ rest)))
  unfolding after_group records_from encode_all
  past_more at d e t ts quiet deep h =
      let z : at + length (encode t ++ encode_all ts) ≡ at + length (encode t) + length (encode_all ts) = omega (arith, length-append (encode t) (encode_all ts)) in
      rw (z, quiet, deep) h

  pub past : (k at : ℕ) (groups : List ℕ) (ts : List Thing) → Balanced k groups ts → Closes (at + length (encode_all ts)) (records_from at (suc (length groups)) (ts ++ (closing c ∷ rest)))
  unfolding record_of after_group records_from encode_all
  past k at [] [] b = let z : at + 0 ≡ at = omega arith in rw z
  past k at (n ∷ groups) [] b = absurd b
  past zero at groups (t ∷ ts) b = absurd b
  past (suc k) at groups (application n xs ∷ ts) b = past_more at _ _ (application n xs) ts refl refl (past k (at + length (encode (application n xs))) groups ts b)
  past (suc k) at groups (boolean x ∷ ts) b = past_more at _ _ (boolean x) ts refl refl (past k (at + length (encode (boolean x))) groups ts b)
  past (suc k) at groups (context n xs ∷ ts) b = past_more at _ _ (context n xs) ts refl refl (past k (at + length (encode (context n xs))) groups ts b)
  past (suc k) at groups (opening n ∷ ts) b = past_more at _ _ (opening n) ts refl (add-one (suc (length groups))) (past k (at + length (encode (opening n))) (n ∷ groups) ts b.1)
  past (suc k) at [] (closing n ∷ ts) b = absurd b
  past (suc k) at (m ∷ groups) (closing n ∷ ts) b =
      let d : suc (suc (length groups)) - 1 ≡ suc (length groups) = omega arith in
      past_more at _ _ (closing n) ts (rw d (ne_eqb (suc (length groups)) 0 (omega arith))) d (past k (at + length (encode (closing n))) groups ts b.1)
