-- The layouts of the six services, as items, and their rules, apart from any reading.
use Rattle.std.specs.Prelude.{ℕ, ◌+◌, ◌*◌, ◌≤◌, Bool, true, false, ◌≡◌, List, [], ◌∷◌, ◌++◌}
use Rattle.octets.specs.Choice.{pick}
use Rattle.octets.specs.Numbers.{digits, width_of}
use Rattle.tags.specs.Layout.{Thing}
use Rattle.tags.specs.Layout.Thing.{application, context, opening, closing}
use Rattle.items.specs.Grammar.{encode_all, Balanced, Grammar}
use Rattle.items.specs.Reading.{most_items}
use Rattle.services.specs.Reading.{last_instance}
use Rattle.services.specs.Parts.{any_number}

-- a service with its value as items
pub record Pointed : Type 0 where
  pub object : ℕ
  pub instance : ℕ
  pub property : ℕ
  pub indexed : Bool
  pub index : ℕ

pub data Message : Type 0 where
  read_property : Pointed → Message
  read_property_ack : Pointed → List Thing → Message
  write_property : Pointed → List Thing → Bool → ℕ → Message
  who_is : Bool → ℕ → ℕ → Message
  i_am : ℕ → ℕ → ℕ → ℕ → Message
  error_of : ℕ → ℕ → Message

-- a number in its shortest form
abbrev pub shortest : ℕ → List ℕ
shortest v = digits (width_of v) v

abbrev pub optional : Bool → ℕ → ℕ → List Thing
optional here n v = pick here (context n (shortest v) ∷ []) []

unfoldable pub pointed : Pointed → List Thing
pointed t = context 0 (digits 4 (t.object * 4194304 + t.instance)) ∷ context 1 (shortest t.property) ∷ optional t.indexed 2 t.index

unfoldable pub valued : List Thing → List Thing
valued ts = opening 3 ∷ (ts ++ (closing 3 ∷ []))

unfoldable pub things_of_message : Message → List Thing
things_of_message (read_property t) = pointed t
things_of_message (read_property_ack t ts) = pointed t ++ valued ts
things_of_message (write_property t ts ranked priority) = pointed t ++ (valued ts ++ optional ranked 4 priority)
things_of_message (who_is limited low high) = pick limited (context 0 (shortest low) ∷ context 1 (shortest high) ∷ []) []
things_of_message (i_am instance longest segmentation vendor) =
    application 12 (digits 4 (8 * 4194304 + instance)) ∷ application 2 (shortest longest) ∷ application 9 (shortest segmentation) ∷ application 2 (shortest vendor) ∷ []
things_of_message (error_of class code) = application 9 (shortest class) ∷ application 9 (shortest code) ∷ []

abbrev pub encode : Message → List ℕ
encode m = encode_all (things_of_message m)

-- "Fields of absent optional parts are not looked at, and are read as 0."
abbrev pub Absent : Bool → ℕ → Type 0
Absent here v = here ≡ false → v ≡ 0

pub record Pointing (t : Pointed) : Type 0 where
  pub object : t.object ≤ 1023
  pub instance : t.instance ≤ last_instance
  pub property : t.property ≤ any_number
  pub index : t.index ≤ any_number
  pub absent : Absent t.indexed t.index

abbrev pub Ranges : Message → Type 0
Ranges (read_property t) = Pointing t
Ranges (read_property_ack t ts) = Pointing t
Ranges (write_property t ts ranked priority) = Pointing t × (ranked ≡ true → (1 ≤ priority) × (priority ≤ 16)) × Absent ranked priority
Ranges (who_is limited low high) = (limited ≡ true → (low ≤ high) × (high ≤ last_instance)) × Absent limited low × Absent limited high
Ranges (i_am instance longest segmentation vendor) = (instance ≤ last_instance) × (longest ≤ any_number) × (segmentation ≤ 3) × (vendor ≤ 65535)
Ranges (error_of class code) = (class ≤ any_number) × (code ≤ any_number)

-- the value is whole items by itself: it closes nothing that it did not open
abbrev pub WholeValue : Message → Type 0
WholeValue (read_property t) = Unit {0}
WholeValue (read_property_ack t ts) = Balanced most_items [] ts
WholeValue (write_property t ts ranked priority) = Balanced most_items [] ts
WholeValue (who_is limited low high) = Unit {0}
WholeValue (i_am instance longest segmentation vendor) = Unit {0}
WholeValue (error_of class code) = Unit {0}

-- the fields are in range, the value is whole items, and the whole is a good list of items
pub record Valid (m : Message) : Type 0 where
  pub ranges : Ranges m
  pub value : WholeValue m
  pub items : Grammar (things_of_message m)
