-- Demand 2, frames and damages: "Frames .. are accepted exactly when ASHRAE 135, as document 01 condenses it, accepts them", and each of "1-4: damage" is
-- given exactly where the page gives it. `Whole` has the page's words for each outcome, `Free` says where no frame is open: neither asks the reading.
use Rattle.std.specs.Prelude.{◌≡◌, List, [], ◌∷◌, ◌++◌, ◌↔◌, ℕ, ◌<◌, ◌≤◌}
use Rattle.std.proofs.Math.Option.{some}
use Rattle.runs.specs.Run.{Event, ended, outcomes}
use Rattle.runs.specs.Run.Event.{octet, silence}
use Rattle.frames.specs.declared.Receiver.{Receiver}
use Rattle.frames.specs.Step.{fresh_of}
use Rattle.trunk.specs.Reading.{Out, held_of, came, read_from}
use Rattle.trunk.specs.Reading.Out.{good, damage}
use Rattle.trunk.specs.Spans.{Bytes, OutcomeAt}
use Rattle.trunk.specs.Demand.{Sound}

-- From any state that 59 passes: an outcome ends at a place exactly when a whole span that ends in it stands there, up to that place, with no frame open
-- where it begins. What the state holds comes first.
abbrev pub OutcomesExact : Type 0
OutcomesExact = (r : Receiver) → Sound r → (es : List Event) → Bytes (came (held_of r) ++ es) → (q : ℕ) (o : Out)
    → (ended q (read_from r es) ≡ some o) ↔ OutcomeAt (came (held_of r) ++ es) q o

-- "After the header check octet: bad check is damage 1; then length above 501 is damage 2. Bad data check is damage 3." "A silence .. within header or
-- data .. is damage 4": each of the four exactly, and no other number
abbrev pub DamageExact : Type 0
DamageExact = (r : Receiver) → Sound r → (es : List Event) → Bytes (came (held_of r) ++ es) → (q n : ℕ)
    → ((ended q (read_from r es) ≡ some (damage n)) ↔ OutcomeAt (came (held_of r) ++ es) q (damage n))
    × (ended q (read_from r es) ≡ some (damage n) → (0 < n) × (n ≤ 4))

-- at one place at most one outcome ends
abbrev pub OneOutcome : Type 0
OneOutcome = (es : List Event) → Bytes es → (q : ℕ) (o o' : Out) → OutcomeAt es q o → OutcomeAt es q o' → o ≡ o'

-- ---- one recording, written out
-- the page's whole case, and its header with the last bit of the check octet wrong
abbrev pub token_head : List ℕ
token_head = 0x01 ∷ 0x02 ∷ 0x01 ∷ 0x00 ∷ 0x00 ∷ []

abbrev pub token : List ℕ
token = 0x55 ∷ 0xFF ∷ (token_head ++ (0xF5 ∷ []))

abbrev pub bad_token : List ℕ
bad_token = 0x55 ∷ 0xFF ∷ (token_head ++ (0xF4 ∷ []))

-- a header with length 502
abbrev pub too_long : List ℕ
too_long = 0x55 ∷ 0xFF ∷ 0x05 ∷ 0x01 ∷ 0x02 ∷ 0x01 ∷ 0xF6 ∷ 0x21 ∷ []

-- three octets of data, up to their check octets 3B 9D
abbrev pub three_head : List ℕ
three_head = 0x05 ∷ 0x01 ∷ 0x02 ∷ 0x00 ∷ 0x03 ∷ []

abbrev pub three : List ℕ
three = 0x55 ∷ 0xFF ∷ (three_head ++ (0xD9 ∷ 0x01 ∷ 0x02 ∷ 0x03 ∷ []))

-- noise with a 55 and a silence (places 0 to 3); the whole case (to 11); its damaged header (to 19); 55 55 FF (20 to 28); a length of 502 (to 36); a bad
-- data check (to 49); a good one (to 62); a header cut by a silence (to 66); data cut by a silence (to 78); noise that begins with FF
abbrev pub worked_trunk : List Event
worked_trunk =
    (octet 0x00 ∷ octet 0x55 ∷ octet 0x12 ∷ silence ∷ [])
    ++ (came (token ++ (bad_token ++ ((0x55 ∷ token) ++ (too_long ++ (three ++ (0x3B ∷ 0x9C ∷ (three ++ (0x3B ∷ 0x9D ∷ 0x55 ∷ 0xFF ∷ 0x07 ∷ []))))))))
    ++ ((silence ∷ [])
    ++ (came three
    ++ (silence ∷ octet 0xFF ∷ octet 0x00 ∷ []))))

-- each outcome with its place
abbrev pub TrunkWorked : Type 0
TrunkWorked =
    outcomes (read_from fresh_of worked_trunk)
    ≡ (11, good token_head [])
    ∷ (19, damage 1)
    ∷ (28, good token_head [])
    ∷ (36, damage 2)
    ∷ (49, damage 3)
    ∷ (62, good three_head (0x01 ∷ 0x02 ∷ 0x03 ∷ []))
    ∷ (66, damage 4)
    ∷ (78, damage 4)
    ∷ []
