-- What writing items refuses: a test over the records from the first to the last, with the numbers of the open groups, innermost first.
use Rattle.std.specs.Prelude.{ℕ, ◌/◌, ◌%◌, List, [], ◌∷◌, Bool, true, false, length, ltb, leb, eqb, Result, Ok, Err}
use Rattle.octets.specs.Choice.{pick, both}
use Rattle.tags.specs.Types.{longest}
use Rattle.tags.specs.Layout.{Thing}
use Rattle.tags.specs.Layout.Thing.{application, boolean, context, opening, closing}
use Rattle.tags.specs.Decide.{valid_thing}
use Rattle.items.specs.Records.{Rec, records_at, thing_of, things_of}
use Rattle.items.specs.Reading.{most_items, deepest}
use Rattle.items.specs.Grammar.{encode_all, record_of}

-- "one 12-octet record an item": the records of a record area
abbrev pub records_in : List ℕ → List Rec
records_in area = records_at area 0 (length area / 12)

-- "places not compared"
unfoldable pub alike : Rec → Rec → Bool
alike r s =
    both (eqb r.kind s.kind)
    (both (eqb r.number s.number)
    (both (eqb r.depth s.depth)
    (both (eqb r.value s.value) (eqb r.len s.len))))

-- whether an item may stand inside these groups; not: "opening with 16 open", "closing tag without the same number innermost"
abbrev pub stands : List ℕ → Thing → Bool
stands groups (application n xs) = true
stands groups (boolean v) = true
stands groups (context n xs) = true
stands groups (opening n) = ltb (length groups) deepest
stands [] (closing n) = false
stands (m ∷ outer) (closing n) = eqb n m

-- the groups that are open after it
abbrev pub open_after : List ℕ → Thing → List ℕ
open_after groups (application n xs) = groups
open_after groups (boolean v) = groups
open_after groups (context n xs) = groups
open_after groups (opening n) = n ∷ groups
open_after [] (closing n) = []
open_after (m ∷ outer) (closing n) = outer

-- a record is good inside these groups where it is that of the item which it names, and the item keeps its rules and may stand there.
-- Contents outside the source are fewer than the record says.
unfoldable pub good_record : List ℕ → List ℕ → Rec → Bool
good_record source groups r =
    both (alike r (record_of 0 (length groups) (thing_of source r)))
    (both (valid_thing (thing_of source r)) (stands groups (thing_of source r)))

-- every record is good inside the groups that are open at it, and none is open at the end
unfoldable pub good_from : List ℕ → List ℕ → List Rec → Bool
good_from source groups [] = eqb (length groups) 0
good_from source groups (r ∷ rs) = both (good_record source groups r) (good_from source (open_after groups (thing_of source r)) rs)

-- at most 2,048 records, all good, of at most 16,384 octets
unfoldable pub good_records : List ℕ → List Rec → Bool
good_records source rs =
    both (leb (length rs) most_items)
    (both (good_from source [] rs) (leb (length (encode_all (things_of source rs))) longest))

-- 62: "a record area not a multiple of 12 octets, records naming contents outside the source, or records which, with those contents, are the
-- reading of no octets (places not compared)". That the test says so is proved of Meaning's words.
unfoldable pub write_fault : List ℕ → List ℕ → ℕ
write_fault area source = pick (eqb (length area % 12) 0) (pick (good_records source (records_in area)) 0 62) 62

-- what judging answers: the octets that the items take, or the number of the refusal
abbrev pub Judged : Type 0
Judged = Result ℕ ℕ

unfoldable pub judged : List ℕ → List ℕ → Judged
judged area source = pick (eqb (write_fault area source) 0) (Ok (length (encode_all (things_of source (records_in area))))) (Err (write_fault area source))
