-- What reading a field and a tag answers, as the definitions say it: plain data, with document 01's numbers. The code's answers are seen so.
use Rattle.std.specs.Prelude.{ℕ, Result, Ok, Err}
use Rattle.octets.specs.declared.refusal.Refusal.{Refusal}
use Rattle.octets.specs.Refusal.{number_of}
use Rattle.tags.specs.declared.Field as field
use Rattle.tags.specs.declared.Class.{Class}
use Rattle.tags.specs.declared.Class.TheVariants.{Application, Context}
use Rattle.tags.specs.declared.Tag as tag

-- a field of a tag: its value and the place after it, or the number of its refusal
pub data Field : Type 0 where
  Is : ℕ → ℕ → Field
  Bad : ℕ → Field

-- what stands at a place: an item (kind 0 application, 1 context; number, value, place, length), an opening, a closing, or the number of a refusal
pub data Tag : Type 0 where
  Item : ℕ → ℕ → ℕ → ℕ → ℕ → Tag
  Opening : ℕ → ℕ → Tag
  Closing : ℕ → ℕ → Tag
  Refused : ℕ → Tag

abbrev pub field_of : Result field.Field Refusal → Field
field_of (Ok f) = Is f.value f.next
field_of (Err x) = Bad (number_of x)

-- "kind (0 application, 1 context, ..)"
abbrev pub kind_of : Class → ℕ
kind_of Application = 0
kind_of Context = 1

abbrev pub seen_as : tag.Tag → Tag
seen_as (tag.TheVariants.Item c n v p l) = Item (kind_of c) n v p l
seen_as (tag.TheVariants.Opening n p) = Opening n p
seen_as (tag.TheVariants.Closing n p) = Closing n p

abbrev pub tag_of : Result tag.Tag Refusal → Tag
tag_of (Ok t) = seen_as t
tag_of (Err x) = Refused (number_of x)
