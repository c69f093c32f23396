-- What a good record says of its item: the layout, which is one for all kinds, its length, and the groups that are open after it.
use Prim.Native.Nat.{ℕ, ◌≤◌, ◌<◌}
use native.Mathlib.Omega.{arith}
use native.Mathlib.Nat.{zero-add, add-zero, add_assoc}
use mathlib.Core.Path.{◌≡◌, sym, ap, ◌∙◌}
use mathlib.Core.List.{List, [], ◌∷◌, append-nil}
use mathlib.Core.Bool.{true}
use lib.ListN.{length, take, drop, length-append}
use lib.Dec.{ltb}
use borrow.Author.Tests.{lt-ltb, ltb-true}
use Rattle.octets.specs.Choice.{impossible}
use Rattle.tags.specs.Types.{longest}
use Rattle.tags.specs.Layout.{Thing, encode, contents_of, number_octets, length_octets, high_bits, low_bits}
use Rattle.tags.specs.Layout.Thing.{application, boolean, context, opening, closing}
use Rattle.items.specs.Records.{Rec, thing_of}
use Rattle.items.specs.Reading.{deepest}
use Rattle.items.specs.Grammar.{record_of}
use Rattle.item_judge.specs.Judge.{open_after}
use Rattle.item_judge.specs.Meaning.{named}
use Rattle.item_judge.specs.Kinds.{groups_after}
use Rattle.item_judge.specs.OneLayout.{low_part, tag_octet, layout, size_of}
use Rattle.item_judge.proofs.Good.{Good, good_named, good_len}
use Rattle.tags.proofs.Exact.{most_longest}

module _ (source groups : List ℕ) (r : Rec) where
  lay_as : (t : Thing) → Good groups r t → named source r ≡ contents_of t → encode t ≡ layout source r
  unfolding layout encode record_of tag_octet low_part number_octets length_octets high_bits low_bits
  lay_as (application n xs) g e =
      let small : ltb n 15 ≡ true = lt-ltb n 15 (omega (arith, g.valid.known)) in
      rw (e, g.fields.0, g.fields.1, g.fields.3, g.fields.4, small, zero-add)
  lay_as (boolean v) g e = rw (e, g.fields.0, g.fields.1, g.fields.3, g.fields.4, add-zero)
  lay_as (context n xs) g e = rw (e, g.fields.0, g.fields.1, g.fields.4, add_assoc)
  lay_as (opening n) g e = rw (e, g.fields.0, g.fields.1, g.fields.4, append-nil (number_octets n))
  lay_as (closing n) g e = rw (e, g.fields.0, g.fields.1, g.fields.4, append-nil (number_octets n))

  pub lay_thing : Good groups r (thing_of source r) → encode (thing_of source r) ≡ layout source r
  lay_thing g = lay_as (thing_of source r) g (good_named source groups r g)

  pub lay_size : Good groups r (thing_of source r) → length (encode (thing_of source r)) ≡ size_of r.number r.len
  unfolding layout size_of
  lay_size g =
      let e : length (take r.len (drop r.place source)) ≡ r.len = ap length (good_named source groups r g) ∙ sym (good_len groups r (thing_of source r) g) in
      rw (lay_thing g) (simp (length-append, e) (omega arith))

  -- contents of at most 16,384 octets
  pub good_short : (t : Thing) → Good groups r t → r.len ≤ longest
  good_short (application n xs) g = omega (arith, good_len groups r (application n xs) g, g.valid.high, most_longest n)
  good_short (boolean v) g = omega (arith, good_len groups r (boolean v) g)
  good_short (context n xs) g = omega (arith, good_len groups r (context n xs) g, g.valid.1)
  good_short (opening n) g = omega (arith, good_len groups r (opening n) g)
  good_short (closing n) g = omega (arith, good_len groups r (closing n) g)

  -- an opening has room, and a closing a group to close
  pub good_room : (t : Thing) → Good groups r t → r.kind ≡ 2 → length groups < deepest
  unfolding record_of
  good_room (application n xs) g k = absurd (omega (arith, g.fields.0))
  good_room (boolean v) g k = absurd (omega (arith, g.fields.0))
  good_room (context n xs) g k = absurd (omega (arith, g.fields.0))
  good_room (opening n) g k = ltb-true (length groups) deepest g.fits
  good_room (closing n) g k = absurd (omega (arith, g.fields.0))

pub good_some : (groups : List ℕ) (r : Rec) (t : Thing) → Good groups r t → r.kind ≡ 3 → 0 < length groups
unfolding record_of
good_some groups r (application n xs) g k = absurd (omega (arith, g.fields.0))
good_some groups r (boolean v) g k = absurd (omega (arith, g.fields.0))
good_some groups r (context n xs) g k = absurd (omega (arith, g.fields.0))
good_some groups r (opening n) g k = absurd (omega (arith, g.fields.0))
good_some [] r (closing n) g k = impossible (cc g.fits)
good_some (m ∷ outer) r (closing n) g k = omega arith

-- the groups that are open after it, by its kind and number
pub good_after : (groups : List ℕ) (r : Rec) (t : Thing) → Good groups r t → open_after groups t ≡ groups_after r.kind r.number groups
unfolding record_of groups_after
good_after groups r (application n xs) g = rw g.fields.0
good_after groups r (boolean v) g = rw g.fields.0
good_after groups r (context n xs) g = rw g.fields.0
good_after groups r (opening n) g = rw (g.fields.0, g.fields.1)
good_after [] r (closing n) g = rw g.fields.0
good_after (m ∷ outer) r (closing n) g = rw g.fields.0
