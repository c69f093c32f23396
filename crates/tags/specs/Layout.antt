-- The layout of an item and its rules, apart from any reading (clause 20.2).
use Rattle.std.specs.Prelude.{ℕ, ◌+◌, ◌*◌, ◌/◌, ◌%◌, ◌≤◌, ◌≡◌, List, [], ◌∷◌, ◌++◌, Bool, true, false, length, ltb, leb, eqb}
use Rattle.octets.specs.Choice.{pick, both, non}
use Rattle.octets.specs.Has.{Has}
use Rattle.tags.specs.Types.{longest, least, most}
use Rattle.tags.specs.Head.{Tag}
use Rattle.tags.specs.Head.Tag.{Item, Opening, Closing, Refused}

-- what an item is: an application value that is no boolean, by its type; a boolean, 0 or 1; a context value; an opening and a closing of a group
pub data Thing : Type 0 where
  application : ℕ → List ℕ → Thing
  boolean : ℕ → Thing
  context : ℕ → List ℕ → Thing
  opening : ℕ → Thing
  closing : ℕ → Thing

-- the number in the tag octet, and the octet after it where that has none
unfoldable pub high_bits : ℕ → ℕ
high_bits n = pick (ltb n 15) n 15

unfoldable pub number_octets : ℕ → List ℕ
number_octets n = pick (ltb n 15) [] (n ∷ [])

-- the length in the tag octet, and the octets after it where that has none
unfoldable pub low_bits : ℕ → ℕ
low_bits l = pick (ltb l 5) l 5

unfoldable pub length_octets : ℕ → List ℕ
length_octets l = pick (ltb l 5) [] (pick (ltb l 254) (l ∷ []) (254 ∷ l / 256 ∷ l % 256 ∷ []))

unfoldable pub encode : Thing → List ℕ
encode (application n xs) = (n * 16 + low_bits (length xs)) ∷ (length_octets (length xs) ++ xs)
encode (boolean v) = (16 + v) ∷ []
encode (context n xs) = (high_bits n * 16 + 8 + low_bits (length xs)) ∷ (number_octets n ++ (length_octets (length xs) ++ xs))
encode (opening n) = (high_bits n * 16 + 14) ∷ number_octets n
encode (closing n) = (high_bits n * 16 + 15) ∷ number_octets n

-- "2 unsigned and 9 enumerated, 1 to 4 octets, first not 00 if more than one"
abbrev pub short_unsigned : List ℕ → Bool
short_unsigned [] = false
short_unsigned (x ∷ []) = true
short_unsigned (x ∷ y ∷ rest) = non (eqb x 0)

-- "3 signed, 1 to 4, two's complement, shortest": the first octet is not there for the second's sign alone
abbrev pub short_signed : List ℕ → Bool
short_signed [] = false
short_signed (x ∷ []) = true
short_signed (x ∷ y ∷ rest) = both (non (both (eqb x 0) (ltb y 128))) (non (both (eqb x 255) (leb 128 y)))

-- "7 characters, at least 1, first is set 0 to 5"
abbrev pub good_characters : List ℕ → Bool
good_characters [] = false
good_characters (x ∷ rest) = leb x 5

-- "8 bits, at least 1, first is unused count 0 to 7, and 0 if alone"
abbrev pub good_bits : List ℕ → Bool
good_bits [] = false
good_bits (x ∷ []) = eqb x 0
good_bits (x ∷ y ∷ rest) = leb x 7

-- the contents rule of each application type; the others ask nothing of their contents
unfoldable pub good_contents : ℕ → List ℕ → Bool
good_contents n xs =
    pick (eqb n 2) (short_unsigned xs)
    (pick (eqb n 9) (short_unsigned xs)
    (pick (eqb n 3) (short_signed xs)
    (pick (eqb n 7) (good_characters xs)
    (pick (eqb n 8) (good_bits xs) true))))

-- an application value: a type 0 to 12 that is no boolean, a length that the type has, contents that keep its rule
pub record Application (n : ℕ) (xs : List ℕ) : Type 0 where
  pub known : n ≤ 12
  pub other : n ≡ 1 → ⊥
  pub low : least n ≤ length xs
  pub high : length xs ≤ most n
  pub rule : good_contents n xs ≡ true

abbrev pub Valid : Thing → Type 0
Valid (application n xs) = Application n xs
Valid (boolean v) = v ≤ 1
Valid (context n xs) = (n ≤ 254) × (length xs ≤ longest)
Valid (opening n) = n ≤ 254
Valid (closing n) = n ≤ 254

-- how many octets the tag takes before the contents
unfoldable pub tag_length : Thing → ℕ
tag_length (application n xs) = 1 + length (length_octets (length xs))
tag_length (boolean v) = 1
tag_length (context n xs) = 1 + length (number_octets n) + length (length_octets (length xs))
tag_length (opening n) = 1 + length (number_octets n)
tag_length (closing n) = 1 + length (number_octets n)

-- the contents; a boolean, an opening and a closing have none
abbrev pub contents_of : Thing → List ℕ
contents_of (application n xs) = xs
contents_of (boolean v) = []
contents_of (context n xs) = xs
contents_of (opening n) = []
contents_of (closing n) = []

-- what a head read at a place is, for the item that stands there: "Place is the octet after the tag."
unfoldable pub tag_of : ℕ → Thing → Tag
tag_of at (application n xs) = Item 0 n 0 (at + tag_length (application n xs)) (length xs)
tag_of at (boolean v) = Item 0 1 v (at + tag_length (boolean v)) 0
tag_of at (context n xs) = Item 1 n 0 (at + tag_length (context n xs)) (length xs)
tag_of at (opening n) = Opening n (at + tag_length (opening n))
tag_of at (closing n) = Closing n (at + tag_length (closing n))

-- a head that is no refusal
abbrev pub Good : Tag → Type 0
Good (Item k n v p l) = Unit {0}
Good (Opening n p) = Unit {0}
Good (Closing n p) = Unit {0}
Good (Refused x) = ⊥

-- a head is that of an item which keeps the rules and stands at the place
abbrev pub Stands : List ℕ → ℕ → Tag → Type 0
Stands s at u = (t : Thing) × Valid t × Has s at (encode t) × (u ≡ tag_of at t)
