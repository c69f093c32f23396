-- From inside open groups to the closing of the outermost one, which is the last item: what the reading of one item runs through, and that it is a group whose
-- items close what they open.
use Prim.Native.Nat.{ℕ, zero, suc, ◌≤◌, ◌<◌}
use native.Mathlib.Omega.{arith}
use mathlib.Core.Path.{◌≡◌, refl, ap, subst}
use mathlib.Core.List.{List, [], ◌∷◌, ◌++◌}
use lib.ListN.{length, length-append}
use Rattle.tags.specs.Layout.{Thing}
use Rattle.tags.specs.Layout.Thing.{application, boolean, context, opening, closing}
use Rattle.items.specs.Reading.{most_items, deepest}
use Rattle.items.specs.Grammar.{Balanced}
use Rattle.items.specs.OneItem.{Single, OneItem}
use Rattle.items.specs.OneItem.OneItem.{single, group}

-- behind one item, what P says of the groups that are then open and of the items that follow
abbrev pub Behind : (List ℕ → List Thing → Type 0) → List ℕ → Thing → List Thing → Type 0
Behind P groups (application n xs) ts = P groups ts
Behind P groups (boolean v) ts = P groups ts
Behind P groups (context n xs) ts = P groups ts
Behind P groups (opening n) ts = (length groups < deepest) × P (n ∷ groups) ts
Behind P [] (closing n) ts = ⊥
Behind P (m ∷ groups) (closing n) ts = (n ≡ m) × P groups ts

-- with at most k items
abbrev pub Closing : ℕ → List ℕ → List Thing → Type 0
Closing zero [] [] = Unit {0}
Closing zero [] (t ∷ ts) = ⊥
Closing zero (n ∷ groups) ts = ⊥
Closing (suc k) [] [] = Unit {0}
Closing (suc k) [] (t ∷ ts) = ⊥
Closing (suc k) (n ∷ groups) [] = ⊥
Closing (suc k) (n ∷ groups) (t ∷ ts) = Behind (λ gs us. Closing k gs us) (n ∷ groups) t ts

pub closed_none : (k : ℕ) (ts : List Thing) → Closing k [] ts → ts ≡ []
closed_none k [] c = refl
closed_none zero (t ∷ ts) c = absurd c
closed_none (suc k) (t ∷ ts) c = absurd c

pub none_closed : (k : ℕ) → Closing k [] []
none_closed zero = tt
none_closed (suc k) = tt

-- ---- it is balanced
pub closing_balanced : (k : ℕ) (groups : List ℕ) (ts : List Thing) → Closing k groups ts → Balanced k groups ts
closing_balanced zero [] [] c = tt
closing_balanced zero [] (t ∷ ts) c = absurd c
closing_balanced zero (n ∷ groups) ts c = absurd c
closing_balanced (suc k) [] [] c = tt
closing_balanced (suc k) [] (t ∷ ts) c = absurd c
closing_balanced (suc k) (n ∷ groups) [] c = absurd c
closing_balanced (suc k) (m ∷ groups) (application n xs ∷ ts) c = closing_balanced k (m ∷ groups) ts c
closing_balanced (suc k) (m ∷ groups) (boolean v ∷ ts) c = closing_balanced k (m ∷ groups) ts c
closing_balanced (suc k) (m ∷ groups) (context n xs ∷ ts) c = closing_balanced k (m ∷ groups) ts c
closing_balanced (suc k) (m ∷ groups) (opening n ∷ ts) c = (c.0, closing_balanced k (n ∷ m ∷ groups) ts c.1)
closing_balanced (suc k) (m ∷ groups) (closing n ∷ ts) c = (c.0, closing_balanced k groups ts c.1)

-- ---- its last item closes the outermost group, and the items in front close what they open, but for the groups that were open inside it
pub record Inner (k : ℕ) (inside : List ℕ) (n : ℕ) (ts : List Thing) : Type 0 where
  pub items : List Thing
  pub all : ts ≡ items ++ (closing n ∷ [])
  pub own : Balanced k inside items

within_one : (inside : List ℕ) (n d : ℕ) → length (inside ++ (n ∷ [])) < d → length inside < d
within_one inside n d h = omega (arith, length-append inside (n ∷ []))

module _ (n : ℕ) where
  inner_more : (k : ℕ) (inside behind : List ℕ) (t : Thing) (ts : List Thing) → ((us : List Thing) → Balanced k behind us → Balanced (suc k) inside (t ∷ us))
      → Inner k behind n ts → Inner (suc k) inside n (t ∷ ts)
  inner_more k inside behind t ts b i = record { items = t ∷ i.items; all = ap (λ (us : List Thing). t ∷ us) i.all; own = b i.items i.own }

  pub closing_inner : (k : ℕ) (inside : List ℕ) (ts : List Thing) → Closing k (inside ++ (n ∷ [])) ts → Inner k inside n ts
  closing_inner zero [] ts c = absurd c
  closing_inner zero (m ∷ inside) ts c = absurd c
  closing_inner (suc k) [] [] c = absurd c
  closing_inner (suc k) (m ∷ inside) [] c = absurd c
  closing_inner (suc k) [] (application x xs ∷ ts) c = inner_more k [] [] (application x xs) ts (λ us b. b) (closing_inner k [] ts c)
  closing_inner (suc k) [] (boolean v ∷ ts) c = inner_more k [] [] (boolean v) ts (λ us b. b) (closing_inner k [] ts c)
  closing_inner (suc k) [] (context x xs ∷ ts) c = inner_more k [] [] (context x xs) ts (λ us b. b) (closing_inner k [] ts c)
  closing_inner (suc k) [] (opening x ∷ ts) c =
      inner_more k [] (x ∷ []) (opening x) ts (λ us b. (omega arith, b)) (closing_inner k (x ∷ []) ts c.1)
  closing_inner (suc k) [] (closing x ∷ ts) c =
      record { items = []; all = rw (c.0, closed_none k ts c.1); own = tt }
  closing_inner (suc k) (m ∷ inside) (application x xs ∷ ts) c = inner_more k (m ∷ inside) (m ∷ inside) (application x xs) ts (λ us b. b) (closing_inner k (m ∷ inside) ts c)
  closing_inner (suc k) (m ∷ inside) (boolean v ∷ ts) c = inner_more k (m ∷ inside) (m ∷ inside) (boolean v) ts (λ us b. b) (closing_inner k (m ∷ inside) ts c)
  closing_inner (suc k) (m ∷ inside) (context x xs ∷ ts) c = inner_more k (m ∷ inside) (m ∷ inside) (context x xs) ts (λ us b. b) (closing_inner k (m ∷ inside) ts c)
  closing_inner (suc k) (m ∷ inside) (opening x ∷ ts) c =
      inner_more k (m ∷ inside) (x ∷ m ∷ inside) (opening x) ts (λ us b. (within_one (m ∷ inside) n deepest c.0, b)) (closing_inner k (x ∷ m ∷ inside) ts c.1)
  closing_inner (suc k) (m ∷ inside) (closing x ∷ ts) c =
      inner_more k (m ∷ inside) inside (closing x) ts (λ us b. (c.0, b)) (closing_inner k inside ts c.1)

  -- ---- and items that close what they open, behind them its closing, are that
  pub inner_closing : (j k : ℕ) (inside : List ℕ) (ts : List Thing) → Balanced j inside ts → Balanced k (inside ++ (n ∷ [])) (ts ++ (closing n ∷ [])) → Closing k (inside ++ (n ∷ [])) (ts ++ (closing n ∷ []))
  inner_closing j zero [] [] b c = absurd c
  inner_closing j (suc k) [] [] b c = (refl, none_closed k)
  inner_closing j k (m ∷ inside) [] b c = absurd b
  inner_closing zero k inside (t ∷ ts) b c = absurd b
  inner_closing (suc j) zero inside (t ∷ ts) b c = absurd c
  inner_closing (suc j) (suc k) [] (application x xs ∷ ts) b c = inner_closing j k [] ts b c
  inner_closing (suc j) (suc k) [] (boolean v ∷ ts) b c = inner_closing j k [] ts b c
  inner_closing (suc j) (suc k) [] (context x xs ∷ ts) b c = inner_closing j k [] ts b c
  inner_closing (suc j) (suc k) [] (opening x ∷ ts) b c = (c.0, inner_closing j k (x ∷ []) ts b.1 c.1)
  inner_closing (suc j) (suc k) [] (closing x ∷ ts) b c = absurd b
  inner_closing (suc j) (suc k) (m ∷ inside) (application x xs ∷ ts) b c = inner_closing j k (m ∷ inside) ts b c
  inner_closing (suc j) (suc k) (m ∷ inside) (boolean v ∷ ts) b c = inner_closing j k (m ∷ inside) ts b c
  inner_closing (suc j) (suc k) (m ∷ inside) (context x xs ∷ ts) b c = inner_closing j k (m ∷ inside) ts b c
  inner_closing (suc j) (suc k) (m ∷ inside) (opening x ∷ ts) b c = (c.0, inner_closing j k (x ∷ m ∷ inside) ts b.1 c.1)
  inner_closing (suc j) (suc k) (m ∷ inside) (closing x ∷ ts) b c = (c.0, inner_closing j k inside ts b.1 c.1)

-- more may begin than do
more_room : (k j : ℕ) (groups : List ℕ) (ts : List Thing) → k ≤ j → Balanced k groups ts → Balanced j groups ts
more_room k j [] [] h b = tt
more_room k j (m ∷ groups) [] h b = absurd b
more_room zero j groups (t ∷ ts) h b = absurd b
more_room (suc k) zero groups (t ∷ ts) h b = absurd (omega arith)
more_room (suc k) (suc j) groups (application n xs ∷ ts) h b = more_room k j groups ts (omega arith) b
more_room (suc k) (suc j) groups (boolean v ∷ ts) h b = more_room k j groups ts (omega arith) b
more_room (suc k) (suc j) groups (context n xs ∷ ts) h b = more_room k j groups ts (omega arith) b
more_room (suc k) (suc j) groups (opening n ∷ ts) h b = (b.0, more_room k j (n ∷ groups) ts (omega arith) b.1)
more_room (suc k) (suc j) [] (closing n ∷ ts) h b = absurd b
more_room (suc k) (suc j) (m ∷ groups) (closing n ∷ ts) h b = (b.0, more_room k j groups ts (omega arith) b.1)

-- ---- one whole item, where no group is open
alone : (k : ℕ) (t : Thing) (ts : List Thing) → Single t → Closing k [] ts → OneItem (t ∷ ts)
alone k t ts s c = single t s (ap (λ (us : List Thing). t ∷ us) (closed_none k ts c))

pub behind_one : (k : ℕ) → k ≤ most_items → (t : Thing) (ts : List Thing) → Behind (Closing k) [] t ts → OneItem (t ∷ ts)
behind_one k h (application n xs) ts c = alone k (application n xs) ts tt c
behind_one k h (boolean v) ts c = alone k (boolean v) ts tt c
behind_one k h (context n xs) ts c = alone k (context n xs) ts tt c
behind_one k h (opening n) ts c =
    let i = closing_inner n k [] ts c.1 in
    group n i.items (more_room k most_items [] i.items h i.own) (ap (λ (us : List Thing). opening n ∷ us) i.all)
behind_one k h (closing n) ts c = absurd c

pub behind_balanced : (k : ℕ) (t : Thing) (ts : List Thing) → Behind (Closing k) [] t ts → Balanced (suc k) [] (t ∷ ts)
behind_balanced k (application n xs) ts c = closing_balanced k [] ts c
behind_balanced k (boolean v) ts c = closing_balanced k [] ts c
behind_balanced k (context n xs) ts c = closing_balanced k [] ts c
behind_balanced k (opening n) ts c = (c.0, closing_balanced k (n ∷ []) ts c.1)
behind_balanced k (closing n) ts c = absurd c

-- its first item, and what stands behind that
pub record First (k : ℕ) (ts : List Thing) : Type 0 where
  pub first : Thing
  pub rest : List Thing
  pub all : ts ≡ first ∷ rest
  pub behind : Behind (Closing k) [] first rest

single_behind : (k : ℕ) (t : Thing) → Single t → Behind (Closing k) [] t []
single_behind k (application n xs) s = none_closed k
single_behind k (boolean v) s = none_closed k
single_behind k (context n xs) s = none_closed k
single_behind k (opening n) s = absurd s
single_behind k (closing n) s = absurd s

pub one_first : (k : ℕ) (ts : List Thing) → OneItem ts → Balanced (suc k) [] ts → First k ts
one_first k ts (single t s e) b = record { first = t; rest = []; all = e; behind = single_behind k t s }
one_first k ts (group n inner own e) b =
    let w : Balanced (suc k) [] (opening n ∷ (inner ++ (closing n ∷ []))) = subst (Balanced (suc k) []) e b in
    record { first = opening n; rest = inner ++ (closing n ∷ []); all = e; behind = (w.0, inner_closing n most_items k [] inner own w.1) }
