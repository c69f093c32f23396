-- One key by itself: what it has open, and what a segment of it gives, whatever other keys do.
use Rattle.std.specs.Prelude.{◌≡◌, Bool, true, false, List, [], ◌∷◌, ◌++◌, ℕ, ◌*◌, eqb, ltb, length}
use Rattle.std.proofs.Math.Option.{Option, none, some}
use Rattle.octets.specs.Choice.{pick, both, non}
use Rattle.messages.specs.Slots.{room, part, Keys, Segment, Box, lowest, is_some, slot_at, is_free, slot_of}
use Rattle.messages.specs.Rows.{Answer, starts_at, next_number, rebuild, forget}
use Rattle.messages.specs.Rows.Answer.{refused, taken, completed}
use Rattle.messages.specs.History.{Deed}
use Rattle.messages.specs.History.Deed.{segment, forgetting}

-- a message that is open
pub record Open : Type 0 where
  pub next : ℕ
  pub choice : ℕ
  pub octets : List ℕ

-- an answer without the slot's number, and with a completed message's octets
pub data Reply : Type 0 where
  refuses : ℕ → Reply
  takes : ℕ → Reply
  gives : List ℕ → Reply

-- the reply, and what the key has open then
pub record Gone : Type 0 where
  pub reply : Reply
  pub left : Option Open

abbrev pub gone : Reply → Option Open → Gone
gone r v = record { reply = r; left = v }

-- what is open, if anything
abbrev pub opened : Option Open → Bool
opened none = false
opened (some v) = true

abbrev pub next_of : Option Open → ℕ
next_of none = 0
next_of (some v) = v.next

abbrev pub choice_of : Option Open → ℕ
choice_of none = 0
choice_of (some v) = v.choice

abbrev pub octets_of : Option Open → List ℕ
octets_of none = []
octets_of (some v) = v.octets

module _ {Key : Type 0} (K : Keys Key) where
  -- what a key has open, its octets read off the area
  abbrev pub view_at : Box Key → Option ℕ → Option Open
  view_at b none = none
  view_at b (some i) =
      let t = slot_at K b.slots i in
      some (record { next = t.next; choice = t.choice; octets = part (room * i) t.held b.area })

  abbrev pub view : Key → Box Key → Option Open
  view k b = view_at b (slot_of K k b.slots)

  -- no slot is free
  abbrev pub crowded : Box Key → Bool
  crowded b = non (is_some (lowest (is_free K) b.slots))

abbrev pub reply_of : Answer → List ℕ → Reply
reply_of (refused n) a = refuses n
reply_of (taken i n) a = takes n
reply_of (completed i n) a = gives (part (room * i) n a)

-- the rows over what the key has open; full: no slot is free
abbrev pub alone : {Key : Type 0} → Segment Key → Option Open → Bool → Gone
alone g v full =
    let anew = starts_at g.number (opened v) (next_of v) in
    let later = both (opened v) (non anew) in
    let whole = pick anew [] (octets_of v) ++ g.octets in
    pick (both (non anew) (non (opened v))) (gone (refuses 51) v)
    (pick (both later (non (eqb g.number (next_of v)))) (gone (refuses 52) v)
    (pick (both later (non (eqb g.choice (choice_of v)))) (gone (refuses 53) v)
    (pick (ltb room (length whole)) (gone (refuses 54) none)
    (pick (both (non (opened v)) full) (gone (refuses 50) v)
    (pick g.mor (gone (takes (length whole)) (some (record { next = next_number g.number; choice = g.choice; octets = whole })))
    (gone (gives whole) none))))))

-- ---- a key's part of a run: its segments, and the forget orders that named its slot
pub data Own (Key : Type 0) : Type 0 where
  heard : Segment Key → Own Key
  dropped : Own Key

abbrev pub is_at : ℕ → Option ℕ → Bool
is_at i none = false
is_at i (some j) = eqb i j

module _ {Key : Type 0} (K : Keys Key) (k : Key) where
  abbrev pub own : Box Key → List (Deed Key) → List (Own Key)
  own b [] = []
  own b (segment g ∷ ds) = pick (K.same g.key k) (heard g ∷ own (rebuild K g b).box ds) (own (rebuild K g b).box ds)
  own b (forgetting i ∷ ds) = pick (is_at i (slot_of K k b.slots)) (dropped ∷ own (forget K i b) ds) (own (forget K i b) ds)

  -- the answers to its segments
  abbrev pub replies : Box Key → List (Deed Key) → List Reply
  replies b [] = []
  replies b (segment g ∷ ds) =
      let d = rebuild K g b in
      pick (K.same g.key k) (reply_of d.answer d.box.area ∷ replies d.box ds) (replies d.box ds)
  replies b (forgetting i ∷ ds) = replies (forget K i b) ds

-- the answers that they would have by themselves
abbrev pub single : {Key : Type 0} → Option Open → List (Own Key) → List Reply
single v [] = []
single v (heard g ∷ os) = (alone g v false).reply ∷ single (alone g v false).left os
single v (dropped ∷ os) = single none os

-- none is answered 50
abbrev pub NoFifty : List Reply → Type 0
NoFifty [] = Unit {0}
NoFifty (r ∷ rs) = (r ≡ refuses 50 → ⊥) × NoFifty rs
