-- "Given exactly when": the rows 30 to 34 in the page's words, of the octets that stand at a place, apart from any reading.
use Rattle.std.specs.Prelude.{ℕ, ◌+◌, ◌/◌, ◌%◌, ◌≤◌, ◌<◌, ◌≡◌, ◌⊎◌, List, length}
use Rattle.octets.specs.Reading.{oct}
use Rattle.octets.specs.Numbers.{value_at}
use Rattle.tags.specs.Types.{longest, least, most}

-- ---- "Tag octet: bits 7-4 number, bit 3 context, 2-0 length."
abbrev pub number_bits : ℕ → ℕ
number_bits b = b / 16

abbrev pub length_bits : ℕ → ℕ
length_bits b = b % 8

abbrev pub IsContext : ℕ → Type 0
IsContext b = b % 16 / 8 ≡ 1

abbrev pub IsApplication : ℕ → Type 0
IsApplication b = b % 16 / 8 ≡ 0

-- a tag octet that no row refuses by itself for 6 or 7 in the length bits: those of a context tag open and close
abbrev pub BitsFine : ℕ → Type 0
BitsFine b = IsContext b ⊎ (length_bits b ≤ 5)

-- ---- "Number 15: the next octet holds 15 to 254." n is the number of the tag at a place, p the place after it
pub data NumberTo (s : List ℕ) (at n p : ℕ) : Type 0 where
  number_inside : number_bits (oct s at) ≤ 14 → n ≡ number_bits (oct s at) → p ≡ at + 1 → NumberTo s at n p
  number_next : number_bits (oct s at) ≡ 15 → at + 1 < length s → 15 ≤ oct s (at + 1) → oct s (at + 1) ≤ 254 → n ≡ oct s (at + 1) → p ≡ at + 2
      → NumberTo s at n p

-- ---- "Length 5: the next octet holds 5 to 253, or 254 and two octets (254 to 65535), or 255 and four."
-- the length octets at p say v, in a form that is for low and more; q is the place after them
pub data Spelled (s : List ℕ) (p v low q : ℕ) : Type 0 where
  one_octet : p < length s → oct s p ≤ 253 → v ≡ oct s p → low ≡ 5 → q ≡ p + 1 → Spelled s p v low q
  two_octets : p + 2 < length s → oct s p ≡ 254 → v ≡ value_at s (p + 1) 2 → low ≡ 254 → q ≡ p + 3 → Spelled s p v low q
  four_octets : p + 4 < length s → oct s p ≡ 255 → v ≡ value_at s (p + 1) 4 → low ≡ 65536 → q ≡ p + 5 → Spelled s p v low q

-- an octet of them is missing
pub data LengthCut (s : List ℕ) (p : ℕ) : Type 0 where
  cut_first : length s ≤ p → LengthCut s p
  cut_two : p < length s → oct s p ≡ 254 → length s ≤ p + 2 → LengthCut s p
  cut_four : p < length s → oct s p ≡ 255 → length s ≤ p + 4 → LengthCut s p

-- "Only the shortest form is good": length bits l, and octets at p, hold the length v in that form; q is the place after it
pub data LengthTo (s : List ℕ) (l p v q : ℕ) : Type 0 where
  length_inside : l ≤ 4 → v ≡ l → q ≡ p → LengthTo s l p v q
  length_next : l ≡ 5 → (low : ℕ) → Spelled s p v low q → low ≤ v → LengthTo s l p v q

-- ---- the tags that have a length, p the place after their number
-- an application type up to 12 that is no boolean
pub record TypeTag (s : List ℕ) (at n p : ℕ) : Type 0 where
  pub here : at < length s
  pub class : IsApplication (oct s at)
  pub number : number_bits (oct s at) ≡ n
  pub known : n ≤ 12
  pub other : n ≡ 1 → ⊥
  pub bits : length_bits (oct s at) ≤ 5
  pub after : p ≡ at + 1

-- a context tag that does not open or close
pub record ContextTag (s : List ℕ) (at n p : ℕ) : Type 0 where
  pub here : at < length s
  pub class : IsContext (oct s at)
  pub number : NumberTo s at n p
  pub bits : length_bits (oct s at) ≤ 5

abbrev pub Tagged : List ℕ → ℕ → ℕ → Type 0
Tagged s at p = ((n : ℕ) × TypeTag s at n p) ⊎ ((n : ℕ) × ContextTag s at n p)

-- ---- the contents rules, each broken by octets that are there: v contents octets of type n are to stand at q
pub data Broken (s : List ℕ) (q n v : ℕ) : Type 0 where
  -- "2 unsigned and 9 enumerated, .. first not 00 if more than one"
  leading_zero : (n ≡ 2) ⊎ (n ≡ 9) → 2 ≤ v → q < length s → oct s q ≡ 0 → Broken s q n v
  -- "3 signed, .. two's complement, shortest"
  sign_again : n ≡ 3 → 2 ≤ v → q + 1 < length s → ((oct s q ≡ 0) × (oct s (q + 1) < 128)) ⊎ ((oct s q ≡ 255) × (128 ≤ oct s (q + 1))) → Broken s q n v
  -- "7 characters, .. first is set 0 to 5"
  unknown_set : n ≡ 7 → q < length s → 5 < oct s q → Broken s q n v
  -- "8 bits, .. first is unused count 0 to 7, and 0 if alone"
  unused_over : n ≡ 8 → q < length s → 7 < oct s q → Broken s q n v
  unused_alone : n ≡ 8 → v ≡ 1 → q < length s → 0 < oct s q → Broken s q n v

-- ---- 30: "item ends early"; "a missing octet when it is reached"
pub data Early (s : List ℕ) (at : ℕ) : Type 0 where
  no_octet : length s ≤ at → Early s at
  no_number : at + 1 ≡ length s → number_bits (oct s at) ≡ 15 → BitsFine (oct s at) → Early s at
  no_length : (p : ℕ) → Tagged s at p → length_bits (oct s at) ≡ 5 → LengthCut s p → Early s at
  no_contents : (n p v q : ℕ) → TypeTag s at n p → LengthTo s (length_bits (oct s at)) p v q
      → least n ≤ v → v ≤ most n → (Broken s q n v → ⊥) → length s < q + v → Early s at
  no_context : (n p v q : ℕ) → ContextTag s at n p → LengthTo s (length_bits (oct s at)) p v q → v ≤ longest → length s < q + v → Early s at

-- ---- 31: "extended number below 15 or 255; application number above 12". "An extended number .. is judged at its second octet"
pub data WrongNumber (s : List ℕ) (at : ℕ) : Type 0 where
  next_wrong : at + 1 < length s → number_bits (oct s at) ≡ 15 → BitsFine (oct s at) → (oct s (at + 1) < 15) ⊎ (oct s (at + 1) ≡ 255) → WrongNumber s at
  type_above : at < length s → IsApplication (oct s at) → 12 < number_bits (oct s at) → number_bits (oct s at) < 15 → WrongNumber s at
  next_above : at + 1 < length s → IsApplication (oct s at) → number_bits (oct s at) ≡ 15 → length_bits (oct s at) ≤ 5
      → 15 ≤ oct s (at + 1) → oct s (at + 1) ≤ 254 → WrongNumber s at

-- ---- 32: "not shortest; application 6 or 7; boolean 2 to 5". 13 and 14 are 31 before, within one octet "by row order"
pub data NotShortest (s : List ℕ) (at : ℕ) : Type 0 where
  longer_form : (p v low q : ℕ) → Tagged s at p → length_bits (oct s at) ≡ 5 → Spelled s p v low q → v < low → NotShortest s at
  six_seven : at < length s → IsApplication (oct s at) → (number_bits (oct s at) ≤ 12) ⊎ (number_bits (oct s at) ≡ 15) → 6 ≤ length_bits (oct s at)
      → NotShortest s at
  boolean_over : at < length s → IsApplication (oct s at) → number_bits (oct s at) ≡ 1 → 2 ≤ length_bits (oct s at) → length_bits (oct s at) ≤ 5 → NotShortest s at

-- ---- 33: "contents length wrong for its type, or over 16,384"; "an extended length, with its 33, at its last" octet
pub data WrongLength (s : List ℕ) (at : ℕ) : Type 0 where
  wrong_length : (n p v q : ℕ) → TypeTag s at n p → LengthTo s (length_bits (oct s at)) p v q → (v < least n) ⊎ (most n < v) → WrongLength s at
  over_length : (p v q : ℕ) → Tagged s at p → LengthTo s (length_bits (oct s at)) p v q → longest < v → WrongLength s at

-- ---- 34: "contents rule broken"; "a contents rule at the octet that decides it"
pub data WrongContents (s : List ℕ) (at : ℕ) : Type 0 where
  rule_broken : (n p v q : ℕ) → TypeTag s at n p → LengthTo s (length_bits (oct s at)) p v q → least n ≤ v → v ≤ most n → Broken s q n v → WrongContents s at

-- ---- x is given, exactly when
pub data Given (x : ℕ) (s : List ℕ) (at : ℕ) : Type 0 where
  thirty : x ≡ 30 → Early s at → Given x s at
  thirty_one : x ≡ 31 → WrongNumber s at → Given x s at
  thirty_two : x ≡ 32 → NotShortest s at → Given x s at
  thirty_three : x ≡ 33 → WrongLength s at → Given x s at
  thirty_four : x ≡ 34 → WrongContents s at → Given x s at
