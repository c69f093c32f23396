-- The reading of one item at a place: "Octets are judged left to right and a missing octet when it is reached; within one, by row order."
use Rattle.std.specs.Prelude.{ℕ, ◌+◌, ◌-◌, ◌/◌, ◌%◌, List, Bool, false, length, ltb, leb, eqb}
use Rattle.octets.specs.Choice.{pick}
use Rattle.octets.specs.Reading.{oct, be16, reach, refuse}
use Rattle.tags.specs.Types.{longest, least, most}
use Rattle.tags.specs.Head.{Field}
use Rattle.tags.specs.Head.Field.{Is, Bad}
use Rattle.tags.specs.Head.{Tag}
use Rattle.tags.specs.Head.Tag.{Item, Opening, Closing, Refused}

-- "Number 15: the next octet holds 15 to 254." 31: "extended number below 15 or 255"
unfoldable pub number_at : List ℕ → ℕ → Field
number_at s at =
    reach s at (Bad 30)
    (pick (ltb (oct s at / 16) 15) (Is (oct s at / 16) (at + 1))
    (reach s (at + 1) (Bad 30)
    (refuse (ltb (oct s (at + 1)) 15) (Bad 31)
    (refuse (ltb 254 (oct s (at + 1))) (Bad 31) (Is (oct s (at + 1)) (at + 2))))))

-- "or 254 and two octets (254 to 65535)": judged at the last; 32 not shortest, 33 over 16,384
unfoldable pub two_at : List ℕ → ℕ → Field
two_at s at =
    reach s at (Bad 30)
    (reach s (at + 1) (Bad 30)
    (refuse (ltb (be16 s at) 254) (Bad 32)
    (refuse (ltb longest (be16 s at)) (Bad 33)
    (Is (be16 s at) (at + 2)))))

-- "or 255 and four": below 65,536 is not the shortest form, and all else is over 16,384
unfoldable pub four_at : List ℕ → ℕ → Field
four_at s at =
    reach s at (Bad 30)
    (refuse (ltb (length s - at) 4) (Bad 30)
    (refuse (eqb (be16 s at) 0) (Bad 32) (Bad 33)))

-- "Length 5: the next octet holds 5 to 253, or 254 and two octets, or 255 and four. Only the shortest form is good."
unfoldable pub length_at : List ℕ → ℕ → ℕ → Field
length_at s at l =
    pick (ltb l 5) (Is l at)
    (reach s at (Bad 30)
    (refuse (ltb (oct s at) 5) (Bad 32)
    (pick (ltb (oct s at) 254) (Is (oct s at) (at + 1))
    (pick (eqb (oct s at) 254) (two_at s (at + 1)) (four_at s (at + 1))))))

-- what the tag octet alone breaks, 0 where nothing. 31: "application number above 12"; 32: "application 6 or 7; boolean 2 to 5"
unfoldable pub first_rule : ℕ → ℕ
first_rule b =
    pick (eqb (b % 16 / 8) 1) 0
    (pick (eqb (b / 16) 15) (pick (ltb (b % 8) 6) 0 32)
    (pick (ltb 12 (b / 16)) 31
    (pick (ltb 5 (b % 8)) 32
    (pick (eqb (b / 16) 1) (pick (ltb 1 (b % 8)) 32 0) 0))))

-- what the first contents octet a breaks: "7 characters, .. first is set 0 to 5"; "8 bits, .. first is unused count 0 to 7, and 0 if alone";
-- "2 unsigned and 9 enumerated, .. first not 00 if more than one"
unfoldable pub first_content : ℕ → ℕ → ℕ → ℕ
first_content n len a =
    pick (eqb n 7) (pick (ltb 5 a) 34 0)
    (pick (eqb n 8) (pick (ltb 7 a) 34 (pick (eqb len 1) (pick (ltb 0 a) 34 0) 0))
    (pick (eqb a 0) (pick (ltb 1 len) (pick (eqb n 2) 34 (pick (eqb n 9) 34 0)) 0) 0))

-- whether the contents are all there
unfoldable pub whole_at : List ℕ → ℕ → ℕ → ℕ
whole_at s p len = pick (ltb (length s - p) len) 30 0

-- two's complement, a longer form than needed: the first octet only repeats the second's sign
unfoldable pub sign_bad : ℕ → ℕ → Bool
sign_bad a b = pick (eqb a 0) (ltb b 128) (pick (eqb a 255) (leb 128 b) false)

-- "a contents rule at the octet that decides it": the second, of a signed number
unfoldable pub signed_at : List ℕ → ℕ → ℕ → ℕ
signed_at s p len =
    pick (ltb len 2) (whole_at s p len)
    (reach s (p + 1) 30
    (refuse (sign_bad (oct s p) (oct s (p + 1))) 34 (whole_at s p len)))

-- what len contents octets at p break for application type n: 30, 34 or 0
unfoldable pub contents_at : List ℕ → ℕ → ℕ → ℕ → ℕ
contents_at s p n len =
    pick (eqb len 0) 0
    (reach s p 30
    (refuse (ltb 0 (first_content n len (oct s p))) (first_content n len (oct s p))
    (pick (eqb n 3) (signed_at s p len) (whole_at s p len))))

-- where a field is good, what follows it; else its refusal
abbrev pub and_then : Field → (ℕ → ℕ → Tag) → Tag
and_then (Is v p) f = f v p
and_then (Bad x) f = Refused x

-- "Context 6 opens, 7 closes"; "Context contents are any octets"
unfoldable pub context_at : List ℕ → ℕ → ℕ → ℕ → Tag
context_at s l n p =
    pick (eqb l 6) (Opening n p)
    (pick (eqb l 7) (Closing n p)
    (and_then (length_at s p l) (λ v q.
    refuse (ltb (length s) q) (Refused 30)
    (refuse (ltb (length s - q) v) (Refused 30)
    (Item 1 n 0 q v)))))

-- "1 boolean, length bits 0 or 1 are the value, no contents"; 33: "contents length wrong for its type"
unfoldable pub application_at : List ℕ → ℕ → ℕ → ℕ → Tag
application_at s l n p =
    refuse (ltb 12 n) (Refused 31)
    (pick (eqb n 1) (Item 0 1 l p 0)
    (and_then (length_at s p l) (λ v q.
    refuse (ltb v (least n)) (Refused 33)
    (refuse (ltb (most n) v) (Refused 33)
    (refuse (ltb 0 (contents_at s q n v)) (Refused (contents_at s q n v))
    (Item 0 n 0 q v))))))

-- "Tag octet: bits 7-4 number, bit 3 context, 2-0 length."
unfoldable pub head_at : List ℕ → ℕ → Tag
head_at s at =
    reach s at (Refused 30)
    (refuse (ltb 0 (first_rule (oct s at))) (Refused (first_rule (oct s at)))
    (and_then (number_at s at) (λ n p.
    pick (eqb (oct s at % 16 / 8) 1) (context_at s (oct s at % 8) n p)
    (application_at s (oct s at % 8) n p))))
