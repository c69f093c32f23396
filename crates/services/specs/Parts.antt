-- What the layouts share: a part of a service is read off the records of the parameters, left to right, and the rest goes on.
-- "40: the next item is missing or not of the wanted kind and number. 41: wrong length, a longer form than needed, or out of range."
use Rattle.std.specs.Prelude.{ℕ, ◌-◌, ◌/◌, ◌%◌, Bool, true, false, List, [], ◌∷◌, ltb, eqb, Result, Ok, Err}
use Rattle.octets.specs.Choice.{pick, both, non}
use Rattle.octets.specs.Reading.{oct, refuse}
use Rattle.octets.specs.Numbers.{value_at, long_form}
use Rattle.items.specs.Records.{Rec}
use Rattle.services.specs.declared.Service.{Service}
use Rattle.services.specs.declared.Span.{Span}

-- what reading a service answers: the service with its own fields, or the number of the refusal
abbrev pub Answer : Type 0
Answer = Result Service ℕ

-- how reading goes on with what a part gave and the records after it
abbrev pub Then : Type 0
Then = ℕ → List Rec → Answer

-- an item of this kind and number (0 application, 1 context, 2 opening)
abbrev pub is : ℕ → ℕ → Rec → Bool
is kind number r = both (eqb r.kind kind) (eqb r.number number)

-- "An optional parameter is present exactly when the next item is a context item of its number."
unfoldable pub present : ℕ → List Rec → Bool
present number [] = false
present number (r ∷ rest) = is 1 number r

-- the wanted item, judged, with its value
unfoldable pub wanted : ℕ → ℕ → (Rec → ℕ) → (Rec → ℕ) → Then → List Rec → Answer
wanted kind number rule value next [] = Err 40
wanted kind number rule value next (r ∷ rest) =
    refuse (non (is kind number r)) (Err 40)
    (refuse (ltb 0 (rule r)) (Err (rule r))
    (next (value r) rest))

-- the number that an item's contents are
abbrev pub number_of : List ℕ → Rec → ℕ
number_of s r = value_at s r.place r.len

-- "Context numbers follow types 2 and 9": one to four octets, shortest, and within the range
unfoldable pub number_rule : List ℕ → ℕ → ℕ → Rec → ℕ
number_rule s low high r =
    pick (eqb r.len 0) 41
    (pick (ltb 4 r.len) 41
    (pick (long_form (oct s r.place) r.len) 41
    (pick (ltb (number_of s r) low) 41
    (pick (ltb high (number_of s r)) 41 0))))

-- any number that four octets hold
abbrev pub any_number : ℕ
any_number = 4294967295

-- "10-bit type, 22-bit instance": four octets
unfoldable pub object_rule : Rec → ℕ
object_rule r = pick (eqb r.len 4) 0 41

abbrev pub type_of : ℕ → ℕ
type_of v = v / 4194304

abbrev pub instance_of : ℕ → ℕ
instance_of v = v % 4194304

-- a context number within a range, and an application one of type n (2 unsigned, 9 enumerated)
abbrev pub context_number : List ℕ → ℕ → ℕ → ℕ → Then → List Rec → Answer
context_number s number low high = wanted 1 number (number_rule s low high) (number_of s)

abbrev pub application_number : List ℕ → ℕ → ℕ → ℕ → Then → List Rec → Answer
application_number s number low high = wanted 0 number (number_rule s low high) (number_of s)

abbrev pub context_object : List ℕ → ℕ → Then → List Rec → Answer
context_object s number = wanted 1 number object_rule (number_of s)

-- an optional number: whether it is there, and its value, else 0
unfoldable pub optional_number : List ℕ → ℕ → ℕ → ℕ → (Bool → ℕ → List Rec → Answer) → List Rec → Answer
optional_number s number low high next rs = pick (present number rs) (context_number s number low high (next true) rs) (next false 0 rs)

-- the records after the closing of the group that is open, and the place of that closing: the first of the depth outside it
unfoldable pub after_group : (ℕ → List Rec → Answer) → List Rec → Answer
after_group next [] = Err 40
after_group next (r ∷ rest) = pick (both (eqb r.kind 3) (eqb r.depth 0)) (next r.place rest) (after_group next rest)

-- "a group 3, the value, possibly empty": the octets between the opening's tag and the closing's, which is one octet
unfoldable pub group : ℕ → (Span → List Rec → Answer) → List Rec → Answer
group number next [] = Err 40
group number next (r ∷ rest) =
    refuse (non (is 2 number r)) (Err 40)
    (after_group (λ end. next (record { at = r.place; len = end - 1 - r.place })) rest)

-- 42: "an item after the last"
unfoldable pub last : Service → List Rec → Answer
last v [] = Ok v
last v (r ∷ rest) = Err 42
