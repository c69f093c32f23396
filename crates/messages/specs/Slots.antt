-- Keys, segments, slots and the message area, for any type of keys.
use Rattle.std.specs.Prelude.{◌≡◌, Bool, true, false, List, [], ◌∷◌, ℕ, zero, suc, get_or, take, drop}
use Rattle.std.proofs.Math.Option.{Option, none, some}
use Rattle.octets.specs.Choice.{pick, both, non}

-- "Slot s owns message area octets 16384 s to 16384 s + 16383"
abbrev pub room : ℕ
room = 16384

-- n octets of an area from a place on
abbrev pub part : ℕ → ℕ → List ℕ → List ℕ
part base n a = take n (drop base a)

-- how keys are compared, the key of a record of zeros, and whether a key is one that some header gives, which 59 asks of open slots
pub record Keys (Key : Type 0) : Type 0 where
  pub same : Key → Key → Bool
  pub nil : Key
  pub given : Key → Bool

-- the comparison tells equal keys
pub record KeyLaws {Key : Type 0} (K : Keys Key) : Type 0 where
  pub only : (a b : Key) → K.same a b ≡ true → a ≡ b
  pub self : (a : Key) → K.same a a ≡ true

-- a segment: its key, its number, whether more follow (MOR), its service choice, its parameters
pub record Segment (Key : Type 0) : Type 0 where
  pub key : Key
  pub number : ℕ
  pub mor : Bool
  pub choice : ℕ
  pub octets : List ℕ

-- a slot's record; next: the number that must come, held: the octets laid so far
pub record Slot (Key : Type 0) : Type 0 where
  pub used : Bool
  pub key : Key
  pub next : ℕ
  pub choice : ℕ
  pub held : ℕ

-- the slots and the message area
pub record Box (Key : Type 0) : Type 0 where
  pub slots : List (Slot Key)
  pub area : List ℕ

abbrev pub boxed : {Key : Type 0} → List (Slot Key) → List ℕ → Box Key
boxed s a = record { slots = s; area = a }

-- the lowest place of a list where a test holds
abbrev pub above : Option ℕ → Option ℕ
above none = none
above (some i) = some (suc i)

abbrev pub lowest : {X : Type 0} → (X → Bool) → List X → Option ℕ
lowest f [] = none
lowest f (x ∷ xs) = pick (f x) (some zero) (above (lowest f xs))

abbrev pub or_else : Option ℕ → Option ℕ → Option ℕ
or_else none y = y
or_else (some i) y = some i

abbrev pub is_some : Option ℕ → Bool
is_some none = false
is_some (some i) = true

module _ {Key : Type 0} (K : Keys Key) where
  -- "Freeing zeroes a slot's record"
  abbrev pub empty : Slot Key
  empty = record { used = false; key = K.nil; next = 0; choice = 0; held = 0 }

  abbrev pub slot_at : List (Slot Key) → ℕ → Slot Key
  slot_at s i = get_or s i empty

  -- the slot is open and has the key
  abbrev pub open_to : Key → Slot Key → Bool
  open_to k t = both t.used (K.same t.key k)

  abbrev pub is_free : Slot Key → Bool
  is_free t = non t.used

  -- the slot of a key, if it is open
  abbrev pub slot_of : Key → List (Slot Key) → Option ℕ
  slot_of k s = lowest (open_to k) s
