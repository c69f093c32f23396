-- The slot of a key: what the search finds is open to the key, where it finds none no slot is, and a slot that is open to the key is found where no two have one key.
use mathlib.Core.Path.{◌≡◌, sym, ◌∙◌}
use mathlib.Core.Bool.{true}
use mathlib.Core.List.{List}
use mathlib.Core.Option.{none, some}
use Prim.Native.Nat.{ℕ, ◌<◌}
use lib.ListN.{length}
use Rattle.octets.specs.Choice.{both_left, both_right, not_so}
use Rattle.messages.specs.Slots.{Keys, KeyLaws, Slot, empty, slot_at, open_to, slot_of}
use Rattle.messages.specs.Sound.{Apart}
use Rattle.messages.proofs.Lowest.{lowest_some, lowest_none, lowest_sole, lowest_no}

module _ {Key : Type 0} (K : Keys Key) (L : KeyLaws K) (k : Key) (s : List (Slot Key)) where
  opens : (i : ℕ) → (slot_at K s i).used ≡ true → (slot_at K s i).key ≡ k → open_to K k (slot_at K s i) ≡ true
  opens i u e = rw (u, e) (L.self k)

  mine : (i : ℕ) → open_to K k (slot_at K s i) ≡ true → ((slot_at K s i).used ≡ true) × ((slot_at K s i).key ≡ k)
  mine i o = let t = slot_at K s i in (both_left t.used _ o, L.only t.key k (both_right t.used _ o))

  pub slot_some : (i : ℕ) → slot_of K k s ≡ some i → (i < length s) × ((slot_at K s i).used ≡ true) × ((slot_at K s i).key ≡ k)
  slot_some i e =
      let at = lowest_some (open_to K k) (empty K) s i e in
      let is = mine i at.1 in
      (at.0, is.0, is.1)

  pub slot_none : slot_of K k s ≡ none → (j : ℕ) → j < length s → (slot_at K s j).used ≡ true → (slot_at K s j).key ≡ k → ⊥
  slot_none e j l u q = not_so (sym (lowest_none (open_to K k) (empty K) s j e l) ∙ opens j u q)

  pub slot_sole : Apart K s → (i : ℕ) → i < length s → (slot_at K s i).used ≡ true → (slot_at K s i).key ≡ k → slot_of K k s ≡ some i
  slot_sole A i l u q =
      lowest_sole (open_to K k) (empty K) s i l (opens i u q) (λ j m o. let is = mine j o in A j i m l is.0 u (is.1 ∙ sym q))

  pub slot_shut : ((j : ℕ) → j < length s → (slot_at K s j).used ≡ true → (slot_at K s j).key ≡ k → ⊥) → slot_of K k s ≡ none
  slot_shut h = lowest_no (open_to K k) (empty K) s (λ j l o. let is = mine j o in h j l is.0 is.1)
