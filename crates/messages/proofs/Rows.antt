-- The rows one at a time, as code follows them: by the slot of the key, by each test in its order, by MOR.
use mathlib.Core.Path.{◌≡◌, ap}
use mathlib.Core.Bool.{true, false}
use mathlib.Core.Option.{Option, none, some}
use Prim.Native.Nat.{ℕ, ◌+◌, ◌*◌}
use lib.Dec.{eqb, ltb}
use lib.ListN.{length, set}
use Rattle.octets.specs.Choice.{pick_false, pick_true}
use Rattle.octets.specs.Splice.{splice}
use Rattle.messages.specs.Slots.{room, Keys, Segment, Slot, Box, lowest, or_else, empty, slot_at, is_free, slot_of}
use Rattle.messages.specs.Rows.{starts, done, kept, lost, awaiting, record_at, settle, settled, fitted, rows, rebuild}
use Rattle.messages.specs.Rows.Answer.{taken, completed}

module _ {Key : Type 0} (K : Keys Key) (g : Segment Key) (b : Box Key) where
  pub rebuild_open : (i : ℕ) → slot_of K g.key b.slots ≡ some i → rebuild K g b ≡ rows K g (some i) (slot_at K b.slots i) b
  unfolding rebuild
  rebuild_open i e = ap (λ (o : Option ℕ). rows K g o (record_at K b.slots o) b) e

  pub rebuild_new : slot_of K g.key b.slots ≡ none → rebuild K g b ≡ rows K g none (empty K) b
  unfolding rebuild
  rebuild_new e = ap (λ (o : Option ℕ). rows K g o (record_at K b.slots o) b) e

  -- a key that is not open
  pub new_51 : starts K g none (empty K) ≡ false → rows K g none (empty K) b ≡ kept 51 b
  new_51 z = rw z

  pub new_start : starts K g none (empty K) ≡ true → rows K g none (empty K) b ≡ fitted K g none 0 b
  new_start z = rw z

  -- a key that is open in slot i
  module _ (i : ℕ) (t : Slot Key) where
    pub open_restart : starts K g (some i) t ≡ true → rows K g (some i) t b ≡ fitted K g (some i) 0 b
    open_restart z = rw z

    pub open_52 : starts K g (some i) t ≡ false → eqb g.number t.next ≡ false → rows K g (some i) t b ≡ kept 52 b
    open_52 z n = rw (z, n)

    pub open_53 : starts K g (some i) t ≡ false → eqb g.number t.next ≡ true → eqb g.choice t.choice ≡ false → rows K g (some i) t b ≡ kept 53 b
    open_53 z n c = rw (z, n, c)

    pub open_on : starts K g (some i) t ≡ false → eqb g.number t.next ≡ true → eqb g.choice t.choice ≡ true → rows K g (some i) t b ≡ fitted K g (some i) t.held b
    open_on z n c = rw (z, n, c)

  -- 54 and what comes behind it
  module _ (o : Option ℕ) (n : ℕ) where
    pub fitted_54 : ltb room (n + length g.octets) ≡ true → fitted K g o n b ≡ lost K 54 o b
    fitted_54 r = pick_true (ltb room (n + length g.octets)) _ _ r

    pub fitted_on : ltb room (n + length g.octets) ≡ false → fitted K g o n b ≡ settled K g (or_else o (lowest (is_free K) b.slots)) n b
    fitted_on r = pick_false (ltb room (n + length g.octets)) _ _ r

  -- by MOR
  module _ (i n : ℕ) where
    pub settle_more : g.mor ≡ true
        → settle K g i n b ≡ done (taken i (n + length g.octets)) (set b.slots i (awaiting K g (n + length g.octets))) (splice b.area (room * i + n) g.octets)
    settle_more e = pick_true g.mor _ _ e

    pub settle_last : g.mor ≡ false
        → settle K g i n b ≡ done (completed i (n + length g.octets)) (set b.slots i (empty K)) (splice b.area (room * i + n) g.octets)
    settle_last e = pick_false g.mor _ _ e
