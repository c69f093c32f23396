-- What 59 asks of a state's octets, part by part: of the link, of two slots, of a slot by itself. With the edition's octet it is `fair_of` (proofs/Fair).
use Rattle.std.specs.Prelude.{ℕ, zero, suc, ◌+◌, ◌*◌, ◌≤◌, ◌<◌, ◌≡◌, Bool, true, List, leb}
use Rattle.octets.specs.Choice.{pick, both, non}
use Rattle.octets.specs.Reading.{oct}
use Rattle.frames.specs.Step.{sound_of}
use Rattle.messages.specs.Slots.{room}
use Rattle.messages.specs.Sound.{strange}
use Rattle.collector.specs.Calls.{slot_count}
use Rattle.rebuild.specs.View.{keys, same_key, seen}
use Rattle.state.specs.Link.{link_good}
use Rattle.state.specs.Slot.{slot_size, front_size}
use Rattle.state.specs.Layout.{slot_place, link_part}
use Rattle.state.specs.Calls.{good_at, slot_at, state_at}

-- the link: its octets are a link's, and not of "a state in header or data with nothing left to come, in data with a length of 0 or above 501"
unfoldable pub link_fair : List ℕ → Bool
link_fair o = both (link_good (link_part o)) (sound_of (state_at o).receiver)

-- slot i by itself: its octets are a slot's, and not of an open slot whose key no header gives, nor of "a slot holding over 16,384"
unfoldable pub slot_fair : List ℕ → ℕ → Bool
slot_fair o i = both (good_at o i) (both (non (strange keys (seen (slot_at o i)))) (leb (slot_at o i).held room))

-- n slots from number i on
abbrev pub slots_fair : List ℕ → ℕ → ℕ → Bool
slots_fair o i zero = true
slots_fair o i (suc n) = both (slot_fair o i) (slots_fair o (suc i) n)

-- slots i and j have one key
unfoldable pub one_key : List ℕ → ℕ → ℕ → Bool
one_key o i j = same_key (slot_at o i).key (slot_at o j).key

-- slot j is not open with slot i's key
unfoldable pub apart : List ℕ → ℕ → ℕ → Bool
apart o i j = non (both (slot_at o j).used (one_key o i j))

-- nor is any of n slots from number j on
abbrev pub apart_from : List ℕ → ℕ → ℕ → ℕ → Bool
apart_from o i j zero = true
apart_from o i j (suc n) = both (apart o i j) (apart_from o i (suc j) n)

-- slot i, if it is open, has its key to itself among the n slots behind it
unfoldable pub alone : List ℕ → ℕ → ℕ → Bool
alone o i n = pick (slot_at o i).used (apart_from o i (suc i) n) true

-- no "two open slots of one key" among n slots from number i on
abbrev pub pairs_fair : List ℕ → ℕ → ℕ → Bool
pairs_fair o i zero = true
pairs_fair o i (suc n) = both (alone o i n) (pairs_fair o (suc i) n)

-- ---- what the quick tests say when they say yes

-- octet k of no slot is above r
abbrev pub Over : List ℕ → ℕ → ℕ → Type 0
Over o k r = (i : ℕ) → i < slot_count → oct o (slot_place i + k) ≤ r

-- four octets from a place on as one number, the first of them lowest
unfoldable pub four_at : List ℕ → ℕ → ℕ
four_at o at = oct o at + oct o (at + 1) * 256 + oct o (at + 2) * 65536 + oct o (at + 3) * 16777216

-- the slot at a place has no address: the octets behind its first nine are 0
abbrev pub NoAddress : List ℕ → ℕ → Type 0
NoAddress o at = (k : ℕ) → front_size ≤ k → k < slot_size → oct o (at + k) ≡ 0

-- nothing is wrong with any slot, or with two of them
pub record AllFair (o : List ℕ) : Type 0 where
  pub slots : slots_fair o 0 slot_count ≡ true
  pub pairs : pairs_fair o 0 slot_count ≡ true
