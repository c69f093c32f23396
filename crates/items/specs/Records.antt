-- The 12-octet record of an item.
use Rattle.std.specs.Prelude.{ℕ, zero, suc, ◌+◌, List, [], ◌∷◌, ◌++◌, take, drop, eqb}
use Rattle.octets.specs.Choice.{pick}
use Rattle.octets.specs.Reading.{oct}
use Rattle.octets.specs.Numbers.{value_at, digits}
use Rattle.tags.specs.Head.{Tag}
use Rattle.tags.specs.Head.Tag.{Item, Opening, Closing, Refused}
use Rattle.tags.specs.Layout.{Thing}
use Rattle.tags.specs.Layout.Thing.{application, boolean, context, opening, closing}
use Rattle.items.specs.declared.records.Record.{Record}

-- "kind (0 application, 1 context, 2 opening, 3 closing), number, depth, boolean value else 0, contents place and length (4 each, high octet first)"
pub record Rec : Type 0 where
  pub kind : ℕ
  pub number : ℕ
  pub depth : ℕ
  pub value : ℕ
  pub place : ℕ
  pub len : ℕ

abbrev pub rec : ℕ → ℕ → ℕ → ℕ → ℕ → ℕ → Rec
rec k n d v p l = record { kind = k; number = n; depth = d; value = v; place = p; len = l }

-- the record of a tag, with d groups open around it
abbrev pub rec_at : ℕ → Tag → Rec
rec_at d (Item k n v p l) = rec k n d v p l
rec_at d (Opening n p) = rec 2 n d 0 p 0
rec_at d (Closing n p) = rec 3 n d 0 p 0
rec_at d (Refused x) = rec 0 0 0 0 0 0

-- the record that a value of the code is
abbrev pub rec_of : Record → Rec
rec_of r = rec r.kind r.number r.depth r.value r.place r.len

unfoldable pub record_octets : Rec → List ℕ
record_octets r = (r.kind ∷ r.number ∷ r.depth ∷ r.value ∷ []) ++ (digits 4 r.place ++ digits 4 r.len)

unfoldable pub records_octets : List Rec → List ℕ
records_octets [] = []
records_octets (r ∷ rs) = record_octets r ++ records_octets rs

-- the record that stands at a place of a record area, and the n records from there on
unfoldable pub record_at : List ℕ → ℕ → Rec
record_at s p = rec (oct s p) (oct s (p + 1)) (oct s (p + 2)) (oct s (p + 3)) (value_at s (p + 4) 4) (value_at s (p + 8) 4)

unfoldable pub records_at : List ℕ → ℕ → ℕ → List Rec
records_at s p zero = []
records_at s p (suc n) = record_at s p ∷ records_at s (p + 12) n

-- the item that a record names, with its contents in the source. The place of a record with length 0 is not looked at.
unfoldable pub thing_of : List ℕ → Rec → Thing
thing_of source r =
    pick (eqb r.kind 0) (pick (eqb r.number 1) (boolean r.value) (application r.number (take r.len (drop r.place source))))
    (pick (eqb r.kind 1) (context r.number (take r.len (drop r.place source)))
    (pick (eqb r.kind 2) (opening r.number) (closing r.number)))

unfoldable pub things_of : List ℕ → List Rec → List Thing
things_of source [] = []
things_of source (r ∷ rs) = thing_of source r ∷ things_of source rs
