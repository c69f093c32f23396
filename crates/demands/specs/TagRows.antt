-- The rows 30 to 34 at one tag, each "given exactly when", in document 01's words: tags/specs/Rows says a row's words of the octets at a place.
use Rattle.std.specs.Prelude.{ℕ, ◌<◌, ◌≡◌, ◌↔◌, ◌⊎◌, List, [], ◌∷◌, ◌++◌, length}
use Rattle.octets.specs.Reading.{Octets}
use Rattle.octets.specs.Has.{Has}
use Rattle.tags.specs.Types.{longest, least, most}
use Rattle.tags.specs.Reading.{head_at}
use Rattle.tags.specs.Layout as Tags
use Rattle.tags.specs.Rows.{Given}
use Rattle.tags.specs.Head.{Tag}
use Rattle.tags.specs.Head.Tag.{Item, Opening, Closing, Refused}
use Rattle.demands.specs.Words.{One}

-- ---- "No. | Given exactly when": the tag at a place is refused with a number exactly when the row of that number says so. The rows of a tag are
-- 30 "item ends early" (Early), 31 "extended number below 15 or 255; application number above 12" (WrongNumber), 32 "not shortest; application 6 or 7;
-- boolean 2 to 5" (NotShortest), 33 "contents length wrong for its type, or over 16,384" (WrongLength), 34 "contents rule broken" (WrongContents).
abbrev pub TagRows : Type 0
TagRows = (s : List ℕ) → Octets s → (at x : ℕ) → (head_at s at ≡ Refused x) ↔ Given x s at

-- ---- any octets at any place are exactly one thing: a tag that keeps the rules (0), or what one row says. The reading is not named here.
abbrev pub Verdict : List ℕ → ℕ → ℕ → Type 0
Verdict s at x = ((x ≡ 0) × ((t : Tags.Thing) × Tags.Valid t × Has s at (Tags.encode t))) ⊎ Given x s at

abbrev pub TagsOne : Type 0
TagsOne = (s : List ℕ) → Octets s → (at : ℕ) → One ℕ (Verdict s at)

-- ---- "Octets are judged left to right": an answer other than 30 stands, whatever follows
abbrev pub TagsLeftToRight : Type 0
TagsLeftToRight = (s more : List ℕ) (at : ℕ) → (head_at s at ≡ Refused 30 → ⊥) → head_at (s ++ more) at ≡ head_at s at

-- "item ends early", "a missing octet when it is reached": 30 is given exactly where octets that follow can still change the answer
abbrev pub TagsUndecided : Type 0
TagsUndecided = (s : List ℕ) → Octets s → (at : ℕ) → (head_at s at ≡ Refused 30) ↔ ((more : List ℕ) × Octets more × (head_at (s ++ more) at ≡ head_at s at → ⊥))

-- and so of every tag that keeps the rules, cut anywhere
abbrev pub TagsCut : Type 0
TagsCut = (t : Tags.Thing) → Tags.Valid t → (front more : List ℕ) → Tags.encode t ≡ front ++ more → 0 < length more → head_at front 0 ≡ Refused 30

-- ---- "Application types": how many contents octets each may have. A boolean has none.
abbrev pub Takes : ℕ → ℕ → ℕ → Type 0
Takes n low high = (least n ≡ low) × (most n ≡ high)

pub record TypeLengths : Type 0 where
  -- "0 null, length 0"
  pub null : Takes 0 0 0
  -- "2 unsigned and 9 enumerated, 1 to 4 octets"
  pub unsigned : Takes 2 1 4
  pub enumerated : Takes 9 1 4
  -- "3 signed, 1 to 4"
  pub signed : Takes 3 1 4
  -- "4 real, 4; 5 double, 8"
  pub real : Takes 4 4 4
  pub double : Takes 5 8 8
  -- "6 octets, any; 7 characters, at least 1 ..; 8 bits, at least 1": up to 16,384
  pub octets : Takes 6 0 16384
  pub characters : Takes 7 1 16384
  pub bits : Takes 8 1 16384
  -- "10 date, 11 time, 12 object, 4"
  pub date : Takes 10 4 4
  pub time : Takes 11 4 4
  pub object : Takes 12 4 4
  -- "or over 16,384"
  pub over : longest ≡ 16384

-- ---- worked values: the contents of each application type at both ends of its rule with their neighbours, and every case that a row's words settle
abbrev pub Reads : List ℕ → Tag → Type 0
Reads r u = head_at r 0 ≡ u

abbrev pub Refuses : List ℕ → ℕ → Type 0
Refuses r x = head_at r 0 ≡ Refused x

pub record TagsWorked : Type 0 where
  -- "0 null, length 0"
  -- 00; 01; 05 05
  pub null : Reads (0 ∷ []) (Item 0 0 0 1 0) × Refuses (1 ∷ []) 33 × Refuses (5 ∷ 5 ∷ []) 33
  -- "1 boolean, length bits 0 or 1 are the value, no contents"; 32: "boolean 2 to 5"
  -- 10; 11; 12; 15; 16
  pub boolean : Reads (16 ∷ []) (Item 0 1 0 1 0) × Reads (17 ∷ []) (Item 0 1 1 1 0) × Refuses (18 ∷ []) 32 × Refuses (21 ∷ []) 32
      × Refuses (22 ∷ []) 32
  -- "2 unsigned .., 1 to 4 octets, first not 00 if more than one"
  -- 20; 21 00; 24 01 00 00 00; 25 05; 22 00; 22 00 05; 22 01; 22 01 00
  pub unsigned : Refuses (32 ∷ []) 33 × Reads (33 ∷ 0 ∷ []) (Item 0 2 0 1 1) × Reads (36 ∷ 1 ∷ 0 ∷ 0 ∷ 0 ∷ []) (Item 0 2 0 1 4)
      × Refuses (37 ∷ 5 ∷ []) 33 × Refuses (34 ∷ 0 ∷ []) 34 × Refuses (34 ∷ 0 ∷ 5 ∷ []) 34 × Refuses (34 ∷ 1 ∷ []) 30
      × Reads (34 ∷ 1 ∷ 0 ∷ []) (Item 0 2 0 1 2)
  -- "3 signed, 1 to 4, two's complement, shortest"
  -- 30; 31 FF; 34 80 00 00 00; 35 05; 32 FF 7F; 32 FF 80; 32 00 80; 32 00 7F; 32 FF; 32 00
  pub signed : Refuses (48 ∷ []) 33 × Reads (49 ∷ 255 ∷ []) (Item 0 3 0 1 1) × Reads (52 ∷ 128 ∷ 0 ∷ 0 ∷ 0 ∷ []) (Item 0 3 0 1 4)
      × Refuses (53 ∷ 5 ∷ []) 33 × Reads (50 ∷ 255 ∷ 127 ∷ []) (Item 0 3 0 1 2) × Refuses (50 ∷ 255 ∷ 128 ∷ []) 34
      × Reads (50 ∷ 0 ∷ 128 ∷ []) (Item 0 3 0 1 2) × Refuses (50 ∷ 0 ∷ 127 ∷ []) 34 × Refuses (50 ∷ 255 ∷ []) 30 × Refuses (50 ∷ 0 ∷ []) 30
  -- "4 real, 4"
  -- 43; 44 42 39 99 9A; 45 05
  pub real : Refuses (67 ∷ []) 33 × Reads (68 ∷ 66 ∷ 57 ∷ 153 ∷ 154 ∷ []) (Item 0 4 0 1 4) × Refuses (69 ∷ 5 ∷ []) 33
  -- "5 double, 8"
  -- 54; 55 07; 55 08 01 02 03 04 05 06 07 08; 55 09
  pub double : Refuses (84 ∷ []) 33 × Refuses (85 ∷ 7 ∷ []) 33 × Reads (85 ∷ 8 ∷ 1 ∷ 2 ∷ 3 ∷ 4 ∷ 5 ∷ 6 ∷ 7 ∷ 8 ∷ []) (Item 0 5 0 2 8)
      × Refuses (85 ∷ 9 ∷ []) 33
  -- "6 octets, any", up to 16,384
  -- 60; 65 05 01 02 03 04 05; 65 FE 40 00; 65 FE 40 01
  pub octets : Reads (96 ∷ []) (Item 0 6 0 1 0) × Reads (101 ∷ 5 ∷ 1 ∷ 2 ∷ 3 ∷ 4 ∷ 5 ∷ []) (Item 0 6 0 2 5) × Refuses (101 ∷ 254 ∷ 64 ∷ 0 ∷ []) 30
      × Refuses (101 ∷ 254 ∷ 64 ∷ 1 ∷ []) 33
  -- "7 characters, at least 1, first is set 0 to 5"
  -- 70; 71 01; 71 05; 71 06; 75 05 06
  pub characters : Refuses (112 ∷ []) 33 × Reads (113 ∷ 1 ∷ []) (Item 0 7 0 1 1) × Reads (113 ∷ 5 ∷ []) (Item 0 7 0 1 1) × Refuses (113 ∷ 6 ∷ []) 34
      × Refuses (117 ∷ 5 ∷ 6 ∷ []) 34
  -- "8 bits, at least 1, first is unused count 0 to 7, and 0 if alone"
  -- 80; 81 00; 81 01; 82 07 FF; 82 08; 82 07
  pub bits : Refuses (128 ∷ []) 33 × Reads (129 ∷ 0 ∷ []) (Item 0 8 0 1 1) × Refuses (129 ∷ 1 ∷ []) 34 × Reads (130 ∷ 7 ∷ 255 ∷ []) (Item 0 8 0 1 2)
      × Refuses (130 ∷ 8 ∷ []) 34 × Refuses (130 ∷ 7 ∷ []) 30
  -- "9 enumerated, 1 to 4 octets, first not 00 if more than one"
  -- 90; 91 00; 94 01 00 00 00; 95 05; 92 00
  pub enumerated : Refuses (144 ∷ []) 33 × Reads (145 ∷ 0 ∷ []) (Item 0 9 0 1 1) × Reads (148 ∷ 1 ∷ 0 ∷ 0 ∷ 0 ∷ []) (Item 0 9 0 1 4)
      × Refuses (149 ∷ 5 ∷ []) 33 × Refuses (146 ∷ 0 ∷ []) 34
  -- "10 date, 11 time, 12 object, 4"
  -- A3; A4 01 02 03 04; A5 05
  pub date : Refuses (163 ∷ []) 33 × Reads (164 ∷ 1 ∷ 2 ∷ 3 ∷ 4 ∷ []) (Item 0 10 0 1 4) × Refuses (165 ∷ 5 ∷ []) 33
  -- B3; B4 01 02 03 04; B5 05
  pub time : Refuses (179 ∷ []) 33 × Reads (180 ∷ 1 ∷ 2 ∷ 3 ∷ 4 ∷ []) (Item 0 11 0 1 4) × Refuses (181 ∷ 5 ∷ []) 33
  -- C3; C4 01 02 03 04; C5 05
  pub object : Refuses (195 ∷ []) 33 × Reads (196 ∷ 1 ∷ 2 ∷ 3 ∷ 4 ∷ []) (Item 0 12 0 1 4) × Refuses (197 ∷ 5 ∷ []) 33
  -- 31: "application number above 12", at the tag octet or at the second; before 32, "within one, by row order"; 32: "application 6 or 7"
  -- D0; D6; E7; 06; C7; F6; F7; F0; F0 05; F0 0F; F0 FF
  pub above : Refuses (208 ∷ []) 31 × Refuses (214 ∷ []) 31 × Refuses (231 ∷ []) 31 × Refuses (6 ∷ []) 32 × Refuses (199 ∷ []) 32
      × Refuses (246 ∷ []) 32 × Refuses (247 ∷ []) 32 × Refuses (240 ∷ []) 30 × Refuses (240 ∷ 5 ∷ []) 31 × Refuses (240 ∷ 15 ∷ []) 31
      × Refuses (240 ∷ 255 ∷ []) 31
  -- 31: "extended number below 15 or 255", of context tags
  -- F8; F8 0E; F8 0F; F8 FE; F8 FF; F9 0F 07; FE; FE 0E; FE 0F; FF 03; FF FE
  pub extended : Refuses (248 ∷ []) 30 × Refuses (248 ∷ 14 ∷ []) 31 × Reads (248 ∷ 15 ∷ []) (Item 1 15 0 2 0)
      × Reads (248 ∷ 254 ∷ []) (Item 1 254 0 2 0) × Refuses (248 ∷ 255 ∷ []) 31 × Reads (249 ∷ 15 ∷ 7 ∷ []) (Item 1 15 0 2 1) × Refuses (254 ∷ []) 30
      × Refuses (254 ∷ 14 ∷ []) 31 × Reads (254 ∷ 15 ∷ []) (Opening 15 2) × Refuses (255 ∷ 3 ∷ []) 31 × Reads (255 ∷ 254 ∷ []) (Closing 254 2)
  -- "Length 5: the next octet holds 5 to 253, or 254 and two octets (254 to 65535), or 255 and four. Only the shortest form is good."
  -- 25; 25 04; 25 FE 00 05; 65 04; 65 FE; 65 FE 00; 65 FE 00 FD; 65 FE 00 FE; 65 FF 00 00 FF; 65 FF 00 00 FF FF; 65 FF 00 01 00 00
  pub forms : Refuses (37 ∷ []) 30 × Refuses (37 ∷ 4 ∷ []) 32 × Refuses (37 ∷ 254 ∷ 0 ∷ 5 ∷ []) 32 × Refuses (101 ∷ 4 ∷ []) 32
      × Refuses (101 ∷ 254 ∷ []) 30 × Refuses (101 ∷ 254 ∷ 0 ∷ []) 30 × Refuses (101 ∷ 254 ∷ 0 ∷ 253 ∷ []) 32 × Refuses (101 ∷ 254 ∷ 0 ∷ 254 ∷ []) 30
      × Refuses (101 ∷ 255 ∷ 0 ∷ 0 ∷ 255 ∷ []) 30 × Refuses (101 ∷ 255 ∷ 0 ∷ 0 ∷ 255 ∷ 255 ∷ []) 32 × Refuses (101 ∷ 255 ∷ 0 ∷ 1 ∷ 0 ∷ 0 ∷ []) 33
  -- "Context contents are any octets", up to 16,384; "Context 6 opens, 7 closes"
  -- 08; 09; 09 00; 0A 00 00; 0D 04; 0D 05 00 00 00 00 00; 0D FE 40 00; 0D FE 40 01; 0E; EF
  pub context : Reads (8 ∷ []) (Item 1 0 0 1 0) × Refuses (9 ∷ []) 30 × Reads (9 ∷ 0 ∷ []) (Item 1 0 0 1 1) × Reads (10 ∷ 0 ∷ 0 ∷ []) (Item 1 0 0 1 2)
      × Refuses (13 ∷ 4 ∷ []) 32 × Reads (13 ∷ 5 ∷ 0 ∷ 0 ∷ 0 ∷ 0 ∷ 0 ∷ []) (Item 1 0 0 2 5) × Refuses (13 ∷ 254 ∷ 64 ∷ 0 ∷ []) 30
      × Refuses (13 ∷ 254 ∷ 64 ∷ 1 ∷ []) 33 × Reads (14 ∷ []) (Opening 0 1) × Reads (239 ∷ []) (Closing 14 1)
  -- a missing octet
  -- no octet
  pub nothing : Refuses [] 30
