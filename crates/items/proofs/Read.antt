-- The ways through the function that reads all items, and each group in them: by whether a group is open.
use Prim.Native.Nat.{ℕ, ◌+◌, ◌-◌, ◌≤◌, ◌<◌}
use native.Mathlib.Omega.{arith}
use mathlib.Core.Path.{◌≡◌, refl, sym, ◌∙◌}
use mathlib.Core.List.{List}
use lib.ListN.{length}
use lib.Dec.{eqb}
use borrow.Author.Tests.{eqb-true, eqb-false}
use Rattle.std.specs.Prelude.{Option, Some, None, Bool, true, false, not, is_some}
use Rattle.std.specs.Option.{option_eq}
use Rattle.tags.specs.Reading.{head_at}
use Rattle.tags.specs.Head.{Tag}
use Rattle.tags.specs.Head.Tag.{Item, Opening, Closing}
use Rattle.items.specs.Reading.{most_items, deepest}
use Rattle.items.specs.Cycle.{ReadReady, ReadSays, put_record}
use Rattle.items.specs.Records.{rec_at}
use Rattle.items.specs.Answers.{Step}
use Rattle.items.specs.Answers.Step.{Next, Refused}
use Rattle.items.proofs.Ways.{Within, within_none, Through, through_none, fewer_inside}
use Rattle.items.proofs.Ways.{group_ends, group_over, group_refuses, group_alone, group_deeper, group_opens, group_inner, group_shuts, group_differs}
use Rattle.items.proofs.Ways.{run_ends, run_over, run_stops, run_shut, run_alone, run_opens, run_inner}

-- read on from `from`, after j items into the area l₀, up to a later place, after i items
abbrev pub Walked : Option ℕ → List ℕ → ℕ → ℕ → ℕ → List ℕ → List ℕ → ℕ → ℕ → Type 0
Walked None s from d j l₀ l at i = Through s l₀ l at i
Walked (Some n) s from d j l₀ l at i = Within s from n (d - 1) j l₀ l at i

pub walked_none : (w : Option ℕ) (s : List ℕ) (from d j : ℕ) (l : List ℕ) → ReadReady w s from d j → Walked w s from d j l l from j
walked_none None s from d j l r = rw (r.1, r.3) (through_none s l)
walked_none (Some n) s from d j l r = within_none s from n (d - 1) j l

-- a test that is denied
not_false : (b : Bool) → false ≡ not b → b ≡ true
not_false true e = refl
not_false false e = cc

not_true : (b : Bool) → true ≡ not b → b ≡ false
not_true true e = cc
not_true false e = refl

-- one group more, and the groups outside it
again : (d : ℕ) → 0 < d → d - 1 + 1 ≡ d
again d h = omega arith

outside : (d : ℕ) → d + 1 - 1 ≡ d
outside d = omega arith

module _ (s : List ℕ) (from d j : ℕ) (l₀ l : List ℕ) (at i : ℕ) where
  abbrev Ready : Option ℕ → Type 0
  Ready w = ReadReady w s from d j

  abbrev Going : Option ℕ → Type 0
  Going w = Walked w s from d j l₀ l at i

  -- the octets' end
  pub read_open : (w : Option ℕ) → Going w → length s ≤ at → true ≡ is_some w → (later : List ℕ) → ReadSays w s from d j l₀ later (Refused 36)
  read_open None o h e later = cc
  read_open (Some n) o h e later = group_ends s from n (d - 1) j l₀ l at i o h

  pub read_ends : (w : Option ℕ) → Ready w → Going w → length s ≤ at → false ≡ is_some w → ReadSays w s from d j l₀ l (Next at i)
  read_ends None r o h e = run_ends s l₀ l at i o r.0 h
  read_ends (Some n) r o h e = cc

  module _ (here : at < length s) where
    pub read_over : (w : Option ℕ) → Ready w → Going w → most_items ≤ i → (later : List ℕ) → ReadSays w s from d j l₀ later (Refused 38)
    read_over None r o h later = run_over s l₀ l at i o here r.0 h later
    read_over (Some n) r o h later = group_over s from n (d - 1) j l₀ l at i o here h

    -- by the tag at the place
    module _ (room : i < most_items) where
      pub read_refuses : (w : Option ℕ) → Ready w → Going w → (x : ℕ) → Tag.Refused x ≡ head_at s at → (later : List ℕ) → ReadSays w s from d j l₀ later (Refused x)
      read_refuses None r o x e later = run_stops s l₀ l at i o here room x e r.0 later
      read_refuses (Some n) r o x e later = group_refuses s from n (d - 1) j l₀ l at i o here room x e

      module _ (t : Tag) (e : t ≡ head_at s at) where
        pub read_alone : (w : Option ℕ) → Ready w → Going w → (k m v p len : ℕ) → t ≡ Item k m v p len → (l1 : List ℕ) → l1 ≡ put_record l i (rec_at d t)
            → length l1 ≡ length l → Walked w s from d j l₀ l1 (p + len) (i + 1)
        read_alone None r o k m v p len q l1 f same = run_alone s l₀ l at i o here room k m v p len (sym q ∙ e) l1 (rw (q, r.2) at f) same
        read_alone (Some n) r o k m v p len q l1 f same =
            group_alone s from n (d - 1) j l₀ l at i o here room k m v p len (sym q ∙ e) l1 (rw (again d r.0) (rw q at f)) same

        pub read_deeper : (w : Option ℕ) → Ready w → Going w → (m p : ℕ) → t ≡ Opening m p → deepest ≤ d → (later : List ℕ) → ReadSays w s from d j l₀ later (Refused 37)
        read_deeper None r o m p q h later = absurd (omega (arith, r.2))
        read_deeper (Some n) r o m p q h later = group_deeper s from n (d - 1) j l₀ l at i o here room m p (sym q ∙ e) (omega arith)

        -- a group in it is read in a smaller turn
        pub read_falls : (w : Option ℕ) → Ready w → Going w → (m p : ℕ) → t ≡ Opening m p → (u : ℕ) → length s - from ≡ u → length s - p < u
        read_falls None r o m p q u h = omega (arith, r.1, fewer_inside s at m p (sym q ∙ e))
        read_falls (Some n) r o m p q u h = omega (arith, o.onward, fewer_inside s at m p (sym q ∙ e))

        -- and, of the number m, after its opening
        module _ (m p : ℕ) (q : t ≡ Opening m p) (h : d < deepest) (l1 l2 : List ℕ) (f : l1 ≡ put_record l i (rec_at d t)) where
          abbrev Inner : Step → Type 0
          Inner r = ReadSays (Some m) s p (d + 1) (i + 1) l1 l2 r

          pub read_opens : (w : Option ℕ) → Ready w → Going w → (to k : ℕ) → Inner (Next to k) → length l1 ≡ length l → length l2 ≡ length l1 → Walked w s from d j l₀ l2 to k
          read_opens None r o to k g one two =
              run_opens s l₀ l at i o here room m p (sym q ∙ e) l1 l2 (rw (q, r.2) at f) to k (rw (outside d, r.2) at g) one two
          read_opens (Some n) r o to k g one two =
              let a = again d r.0 in
              group_opens s from n (d - 1) j l₀ l at i o here room m p (sym q ∙ e) (omega arith) l1 l2 (rw a (rw q at f)) to k (rw a (rw (outside d) at g)) one two

          pub read_inner : (w : Option ℕ) → Ready w → Going w → (x : ℕ) → Inner (Refused x) → (later : List ℕ) → ReadSays w s from d j l₀ later (Refused x)
          read_inner None r o x g later = run_inner s l₀ l at i o here room m p (sym q ∙ e) l1 l2 (rw (q, r.2) at f) x (rw (outside d, r.2) at g) r.0 later
          read_inner (Some n) r o x g later =
              let a = again d r.0 in
              group_inner s from n (d - 1) j l₀ l at i o here room m p (sym q ∙ e) (omega arith) l1 l2 (rw a (rw q at f)) x (rw a (rw (outside d) at g))

        pub read_shuts : (w : Option ℕ) → Ready w → Going w → (m p : ℕ) → t ≡ Closing m p → false ≡ not (option_eq eqb w (Some m)) → (l1 : List ℕ) → l1 ≡ put_record l i (rec_at (d - 1) t)
            → ReadSays w s from d j l₀ l1 (Next p (i + 1))
        read_shuts None r o m p q own l1 f = cc
        read_shuts (Some n) r o m p q own l1 f =
            let z : m ≡ n = sym (eqb-true n m (not_false (eqb n m) own)) in
            group_shuts s from n (d - 1) j l₀ l at i o here room m p (sym q ∙ e) z l1 (rw (q, z) at f)

        pub read_differs : (w : Option ℕ) → Ready w → Going w → (m p : ℕ) → t ≡ Closing m p → true ≡ not (option_eq eqb w (Some m)) → (later : List ℕ) → ReadSays w s from d j l₀ later (Refused 35)
        read_differs None r o m p q other later = run_shut s l₀ l at i o here room m p (sym q ∙ e) r.0 later
        read_differs (Some n) r o m p q other later =
            group_differs s from n (d - 1) j l₀ l at i o here room m p (sym q ∙ e) (λ z. eqb-false n m (not_true (eqb n m) other) (sym z))
