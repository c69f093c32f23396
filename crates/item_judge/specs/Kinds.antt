-- The same test of a record kind by kind, in the order in which it is made, on the values that the code has.
use Rattle.std.specs.Prelude.{ℕ, zero, suc, ◌-◌, List, [], ◌∷◌, Bool, true, false, length, get_or, take, drop, ltb, leb, eqb, Option, Some, None}
use Rattle.octets.specs.Choice.{pick, both}
use Rattle.tags.specs.Types.{longest, least, most}
use Rattle.tags.specs.Layout.{good_contents}
use Rattle.items.specs.Records.{Rec, rec}
use Rattle.items.specs.Reading.{deepest}
use Rattle.item_judge.specs.declared.Record.{Record}

-- the record that a value of the code is
abbrev pub rec_of : Record → Rec
rec_of r = rec r.kind r.number r.depth r.value r.place r.len

-- the open groups that an array of the code is, innermost first
abbrev pub stack : List ℕ → ℕ → List ℕ
stack xs zero = []
stack xs (suc d) = get_or xs d 0 ∷ stack xs d

-- the number of the innermost one
abbrev pub innermost : List ℕ → Option ℕ
innermost [] = None
innermost (m ∷ outer) = Some m

-- whether contents lie in a source of so many octets; where there are none the place is not looked at
unfoldable pub inside_test : ℕ → ℕ → ℕ → Bool
inside_test size place len = pick (eqb len 0) true (pick (leb place size) (leb len (size - place)) false)

-- contents of an application type that lie in the source and keep the type's rule
unfoldable pub contents_rule : List ℕ → ℕ → ℕ → ℕ → Bool
contents_rule source n place len = both (inside_test (length source) place len) (good_contents n (take len (drop place source)))

-- contents of an application type: their length, and these
unfoldable pub type_rule : List ℕ → ℕ → ℕ → ℕ → Bool
type_rule source n place len = both (leb (least n) len) (both (leb len (most n)) (contents_rule source n place len))

unfoldable pub boolean_rule : ℕ → Rec → Bool
boolean_rule d r = both (eqb r.depth d) (both (leb r.value 1) (eqb r.len 0))

unfoldable pub application_rule : List ℕ → ℕ → Rec → Bool
application_rule source d r =
    both (eqb r.depth d)
    (both (eqb r.value 0)
    (both (leb r.number 12) (type_rule source r.number r.place r.len)))

unfoldable pub context_rule : List ℕ → ℕ → Rec → Bool
context_rule source d r =
    both (eqb r.depth d)
    (both (eqb r.value 0)
    (both (leb r.number 254)
    (both (leb r.len longest) (inside_test (length source) r.place r.len))))

-- an opening with d groups open, and a closing that leaves d open
unfoldable pub bracket_rule : ℕ → Rec → Bool
bracket_rule d r =
    both (eqb r.depth d)
    (both (eqb r.value 0)
    (both (leb r.number 254) (eqb r.len 0)))

abbrev pub closing_rule : List ℕ → Rec → Bool
closing_rule [] r = false
closing_rule (m ∷ outer) r = both (eqb r.number m) (bracket_rule (length outer) r)

unfoldable pub kind_rule : List ℕ → List ℕ → Rec → Bool
kind_rule source groups r =
    pick (eqb r.kind 0) (pick (eqb r.number 1) (boolean_rule (length groups) r) (application_rule source (length groups) r))
    (pick (eqb r.kind 1) (context_rule source (length groups) r)
    (pick (eqb r.kind 2) (both (ltb (length groups) deepest) (bracket_rule (length groups) r))
    (pick (eqb r.kind 3) (closing_rule groups r) false)))

-- the groups after a good record of a kind and number
abbrev pub without : List ℕ → List ℕ
without [] = []
without (m ∷ outer) = outer

unfoldable pub groups_after : ℕ → ℕ → List ℕ → List ℕ
groups_after kind number groups = pick (eqb kind 2) (number ∷ groups) (pick (eqb kind 3) (without groups) groups)
