-- The rows 30 to 39 over a run of items, each "given exactly when", and the records of a run that is read: items/specs/Rows says a row's words of the octets.
use Rattle.std.specs.Prelude.{ℕ, zero, suc, ◌+◌, ◌*◌, ◌/◌, ◌%◌, ◌≤◌, ◌<◌, ◌≡◌, ◌↔◌, ◌⊎◌, List, [], ◌∷◌, ◌++◌, length, drop}
use Rattle.octets.specs.Reading.{Octets}
use Rattle.tags.specs.Layout.{Thing, encode, contents_of, tag_length}
use Rattle.tags.specs.Layout.Thing.{application, boolean, context, opening, closing}
use Rattle.items.specs.Records.{Rec, rec, record_octets, records_octets}
use Rattle.items.specs.Reading.{items_of}
use Rattle.items.specs.Reading.Out.{good, bad}
use Rattle.items.specs.Grammar.{encode_all, Grammar, record_of, depth_after, records_from}
use Rattle.items.specs.Listing.{ReadAs, listed_of, Listed, listing}
use Rattle.items.specs.Rows.{Row}
use Rattle.items.specs.Answers.{Tally}
use Rattle.demands.specs.Words.{One}

-- ---- "No. | Given exactly when": a run of items is refused with a number exactly when the row of that number says so. 39 "over 16,384 parameter octets
-- (judged first)"; else, behind good items with their groups open (GoodFront): 38 "a 2,049th item begins", 35 "closing tag without the same number
-- innermost", 37 "opening with 16 open", 36 "end with a group open", and 30 to 34 as at one tag (TagRows).
abbrev pub ItemRows : Type 0
ItemRows = (o : List ℕ) → Octets o → (x : ℕ) → (items_of o ≡ bad x) ↔ Row x o

-- ---- any octets are exactly one thing: good items with every group closed (0), or what one row says. The reading is not named here.
abbrev pub Verdict : List ℕ → ℕ → Type 0
Verdict o x = ((x ≡ 0) × ((ts : List Thing) × Grammar ts × (o ≡ encode_all ts))) ⊎ Row x o

abbrev pub ItemsOneRow : Type 0
ItemsOneRow = (o : List ℕ) → Octets o → One ℕ (Verdict o)

-- a run is read as n items exactly when it is n good items with every group closed
abbrev pub ItemsCount : Type 0
ItemsCount = (o : List ℕ) → Octets o → (n : ℕ) → ReadAs o n ↔ ((ts : List Thing) × Grammar ts × (o ≡ encode_all ts) × (length ts ≡ n))

-- ---- "Octets are judged left to right": a number other than those of a missing octet (30, 36) stands, whatever follows within 16,384 octets
abbrev pub ItemsLeftToRight : Type 0
ItemsLeftToRight = (o more : List ℕ) (x : ℕ) → length (o ++ more) ≤ 16384 → (x ≡ 30 → ⊥) → (x ≡ 36 → ⊥)
    → items_of o ≡ bad x → items_of (o ++ more) ≡ bad x

-- ---- "Reading writes one 12-octet record an item": the records of items of the grammar, from place 0 and depth 0, and no others
abbrev pub ItemsRecords : Type 0
ItemsRecords = ((ts : List Thing) → Grammar ts → items_of (encode_all ts) ≡ good (records_from 0 0 ts) (length (encode_all ts)))
    × ((o : List ℕ) → Octets o → (rs : List Rec) (end : ℕ) → items_of o ≡ good rs end
    → (ts : List Thing) × Grammar ts × (o ≡ encode_all ts) × (rs ≡ records_from 0 0 ts) × (end ≡ length o))

-- from a place and a depth on: "kind (0 application, 1 context, 2 opening, 3 closing), number, depth, boolean value else 0, contents place and length", "Place is
-- the octet after the tag. An opening and its closing have the depth outside them."
pub record RecordsOf : Type 0 where
  pub none : (at d : ℕ) → records_from at d [] ≡ []
  pub next : (at d : ℕ) (t : Thing) (ts : List Thing) → records_from at d (t ∷ ts) ≡ record_of at d t ∷ records_from (at + length (encode t)) (depth_after d t) ts
  -- an item's octets are its tag and then its contents
  pub tag : (t : Thing) → length (encode t) ≡ tag_length t + length (contents_of t)
  pub of_application : (at d n : ℕ) (xs : List ℕ) → record_of at d (application n xs) ≡ rec 0 n d 0 (at + tag_length (application n xs)) (length xs)
  pub of_boolean : (at d v : ℕ) → record_of at d (boolean v) ≡ rec 0 1 d v (at + tag_length (boolean v)) 0
  pub of_context : (at d n : ℕ) (xs : List ℕ) → record_of at d (context n xs) ≡ rec 1 n d 0 (at + tag_length (context n xs)) (length xs)
  pub of_opening : (at d n : ℕ) → record_of at d (opening n) ≡ rec 2 n d 0 (at + tag_length (opening n)) 0
  pub of_closing : (at d n : ℕ) → record_of at (d + 1) (closing n) ≡ rec 3 n d 0 (at + tag_length (closing n)) 0
  -- the depth behind it
  pub alone : (d n v : ℕ) (xs : List ℕ) → (depth_after d (application n xs) ≡ d) × (depth_after d (boolean v) ≡ d) × (depth_after d (context n xs) ≡ d)
  pub opens : (d n : ℕ) → (depth_after d (opening n) ≡ d + 1) × (depth_after (d + 1) (closing n) ≡ d)

-- their octets, one record after the other: "kind .., number, depth, boolean value else 0, contents place and length (4 each, high octet first)"
abbrev pub RecordsLaid : Type 0
RecordsLaid = (records_octets [] ≡ [])
    × ((k n d v p l : ℕ) (rs : List Rec)
    → records_octets (rec k n d v p l ∷ rs)
    ≡ k ∷ n ∷ d ∷ v
    ∷ p / 16777216 % 256 ∷ p / 65536 % 256 ∷ p / 256 % 256 ∷ p % 256
    ∷ l / 16777216 % 256 ∷ l / 65536 % 256 ∷ l / 256 % 256 ∷ l % 256 ∷ records_octets rs)

-- listing leaves them at the front of the area, where they fit, "and nothing past a result is written"
abbrev pub ListedRecords : Type 0
ListedRecords = ((ts : List Thing) → Grammar ts → (area later : List ℕ) (r : Tally) → Listed (encode_all ts) area r later → 12 * length ts ≤ length area
    → (r ≡ Tally.Items (length ts)) × (later ≡ records_octets (records_from 0 0 ts) ++ drop (12 * length ts) area))
    × ((o : List ℕ) → Octets o → (area later : List ℕ) (n : ℕ) → Listed o area (Tally.Items n) later
    → (ts : List Thing) × Grammar ts × (o ≡ encode_all ts) × (n ≡ length ts) × (later ≡ records_octets (records_from 0 0 ts) ++ drop (12 * n) area))

-- ---- worked records, places and depths by hand: 21 05, 11, 19 07, 2E, 3E, 44 42 39 99 9A, 3F, F9 14 55, 2F
abbrev pub some_items : List Thing
some_items =
    application 2 (5 ∷ [])
    ∷ boolean 1
    ∷ context 1 (7 ∷ [])
    ∷ opening 2
    ∷ opening 3
    ∷ application 4 (0x42 ∷ 0x39 ∷ 0x99 ∷ 0x9A ∷ [])
    ∷ closing 3
    ∷ context 20 (0x55 ∷ [])
    ∷ closing 2
    ∷ []

abbrev pub some_octets : List ℕ
some_octets =
    0x21 ∷ 0x05 ∷ 0x11 ∷ 0x19 ∷ 0x07 ∷ 0x2E ∷ 0x3E ∷ 0x44 ∷ 0x42 ∷ 0x39 ∷ 0x99 ∷ 0x9A ∷ 0x3F ∷ 0xF9 ∷ 0x14 ∷ 0x55 ∷ 0x2F ∷ []

-- "kind .., number, depth, boolean value else 0, contents place and length"; "Place is the octet after the tag. An opening and its closing have the depth
-- outside them."
abbrev pub some_records : List Rec
some_records =
    rec 0 2 0 0 1 1
    ∷ rec 0 1 0 1 3 0
    ∷ rec 1 1 0 0 4 1
    ∷ rec 2 2 0 0 6 0
    ∷ rec 2 3 1 0 7 0
    ∷ rec 0 4 2 0 8 4
    ∷ rec 3 3 1 0 13 0
    ∷ rec 1 20 1 0 15 1
    ∷ rec 3 2 0 0 17 0
    ∷ []

pub record RecordsWorked : Type 0 where
  -- "(4 each, high octet first)", no two octets alike
  pub twelve : record_octets (rec 2 17 3 1 0x04050607 0x08090A0B) ≡ 2 ∷ 17 ∷ 3 ∷ 1 ∷ 4 ∷ 5 ∷ 6 ∷ 7 ∷ 8 ∷ 9 ∷ 10 ∷ 11 ∷ []
  -- the run's layout, its records, and its reading
  pub layout : encode_all some_items ≡ some_octets
  pub records : records_from 0 0 some_items ≡ some_records
  pub read : items_of some_octets ≡ good some_records 17
  -- 21 05 11 are two items: 24 octets and more are enough, in 23 and fewer it is 61 and two, and all 23 stay
  pub answers : (listed_of 26 (items_of (0x21 ∷ 0x05 ∷ 0x11 ∷ [])) ≡ Tally.Items 2) × (listed_of 24 (items_of (0x21 ∷ 0x05 ∷ 0x11 ∷ [])) ≡ Tally.Items 2)
      × (listed_of 23 (items_of (0x21 ∷ 0x05 ∷ 0x11 ∷ [])) ≡ Tally.Small 2) × (listed_of 0 (items_of (0x21 ∷ 0x05 ∷ 0x11 ∷ [])) ≡ Tally.Small 2)
  pub short : listing
      (71 ∷ 72 ∷ 73 ∷ 74 ∷ 75 ∷ 76 ∷ 77 ∷ 78 ∷ 79 ∷ 80 ∷ 81 ∷ 82 ∷ 83 ∷ 84 ∷ 85 ∷ 86 ∷ 87 ∷ 88 ∷ 89 ∷ 90 ∷ 91 ∷ 92 ∷ 93 ∷ [])
      (items_of (0x21 ∷ 0x05 ∷ 0x11 ∷ []))
      ≡ 71 ∷ 72 ∷ 73 ∷ 74 ∷ 75 ∷ 76 ∷ 77 ∷ 78 ∷ 79 ∷ 80 ∷ 81 ∷ 82 ∷ 83 ∷ 84 ∷ 85 ∷ 86 ∷ 87 ∷ 88 ∷ 89 ∷ 90 ∷ 91 ∷ 92 ∷ 93 ∷ []
  -- listed over 26 octets: the last two stay
  pub listed : listing
      (71 ∷ 72 ∷ 73 ∷ 74 ∷ 75 ∷ 76 ∷ 77 ∷ 78 ∷ 79 ∷ 80 ∷ 81 ∷ 82 ∷ 83 ∷ 84 ∷ 85 ∷ 86 ∷ 87 ∷ 88 ∷ 89 ∷ 90 ∷ 91 ∷ 92 ∷ 93 ∷ 94 ∷ 95 ∷ 96 ∷ [])
      (items_of (0x21 ∷ 0x05 ∷ 0x11 ∷ []))
      ≡ 0 ∷ 2 ∷ 0 ∷ 0 ∷ 0 ∷ 0 ∷ 0 ∷ 1 ∷ 0 ∷ 0 ∷ 0 ∷ 1 ∷ 0 ∷ 1 ∷ 0 ∷ 1 ∷ 0 ∷ 0 ∷ 0 ∷ 3 ∷ 0 ∷ 0 ∷ 0 ∷ 0 ∷ 95 ∷ 96 ∷ []

-- ---- worked answers with no octets lent, at both sides of each limit: 61 with the count needed, or the tag's number
abbrev pub Needs : List ℕ → ℕ → Type 0
Needs o n = listed_of 0 (items_of o) ≡ Tally.Small n

abbrev pub Refuses : List ℕ → ℕ → Type 0
Refuses o x = listed_of 0 (items_of o) ≡ Tally.Refused x

-- an octet so many times
unfoldable pub times : ℕ → ℕ → List ℕ
times zero x = []
times (suc n) x = x ∷ times n x

pub record ItemsWorked : Type 0 where
  -- 35: "closing tag without the same number innermost"
  -- 3E 3F; 3F; 3E 4F; 3E 4E 4F 3F; 3E 4E 3F; 3E 3F 3F; FE 10 FF 10; FE 10 FF 11
  pub closing : Needs (0x3E ∷ 0x3F ∷ []) 2 × Refuses (0x3F ∷ []) 35 × Refuses (0x3E ∷ 0x4F ∷ []) 35 × Needs (0x3E ∷ 0x4E ∷ 0x4F ∷ 0x3F ∷ []) 4
      × Refuses (0x3E ∷ 0x4E ∷ 0x3F ∷ []) 35 × Refuses (0x3E ∷ 0x3F ∷ 0x3F ∷ []) 35 × Needs (0xFE ∷ 0x10 ∷ 0xFF ∷ 0x10 ∷ []) 2
      × Refuses (0xFE ∷ 0x10 ∷ 0xFF ∷ 0x11 ∷ []) 35
  -- "An extended number, with its 35 or 37, is judged at its second octet", and 31 before them
  -- 3E FF; 3E FF 03; 3E FF 0F
  pub extended : Refuses (0x3E ∷ 0xFF ∷ []) 30 × Refuses (0x3E ∷ 0xFF ∷ 0x03 ∷ []) 31 × Refuses (0x3E ∷ 0xFF ∷ 0x0F ∷ []) 35
  -- 36: "end with a group open"
  -- no octet, which is success and no item; 3E; 3E 4E 4F; 3E 11
  pub left_open_lem : (listed_of 0 (items_of []) ≡ Tally.Items 0) × Refuses (0x3E ∷ []) 36 × Refuses (0x3E ∷ 0x4E ∷ 0x4F ∷ []) 36 × Refuses (0x3E ∷ 0x11 ∷ []) 36
  -- 37: "opening with 16 open". 0E sixteen times and 0F as often; 0E sixteen times, then nothing, 11, 0E, FE, FE 0E, FE 0F
  pub deep : Needs (times 16 0x0E ++ times 16 0x0F) 32 × Refuses (times 16 0x0E) 36 × Refuses (times 16 0x0E ++ (0x11 ∷ [])) 36
      × Refuses (times 17 0x0E) 37 × Refuses (times 16 0x0E ++ (0xFE ∷ [])) 30 × Refuses (times 16 0x0E ++ (0xFE ∷ 0x0E ∷ [])) 31
      × Refuses (times 16 0x0E ++ (0xFE ∷ 0x0F ∷ [])) 37
  -- 30 to 34 behind a good item, before what follows
  -- 11 25; 11 D0 3F; 11 15 3F; 11 20 3F; 11 22 00 3F
  pub tags : Refuses (0x11 ∷ 0x25 ∷ []) 30 × Refuses (0x11 ∷ 0xD0 ∷ 0x3F ∷ []) 31 × Refuses (0x11 ∷ 0x15 ∷ 0x3F ∷ []) 32
      × Refuses (0x11 ∷ 0x20 ∷ 0x3F ∷ []) 33 × Refuses (0x11 ∷ 0x22 ∷ 0x00 ∷ 0x3F ∷ []) 34

-- 38: "a 2,049th item begins", with any octet; 2,048 are read, and 2,048 with a group open are 36. The items are nulls, 00.
pub record ItemsMost : Type 0 where
  pub most : Needs (times 2048 0) 2048
  pub over : (r : List ℕ) → Octets r → 0 < length r → length r ≤ 14336 → Refuses (times 2048 0 ++ r) 38
  pub unclosed : Refuses (0x3E ∷ times 2047 0) 36
