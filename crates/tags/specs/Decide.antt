-- The rules of an item as a test: it holds exactly for the items that there are.
use Rattle.std.specs.Prelude.{◌≡◌, Bool, true, length, leb, eqb}
use Rattle.std.proofs.Common.{leb-true, le-leb, ne_eqb}
use Rattle.std.proofs.lemmas.Bool.{eqb-false}
use Rattle.octets.specs.Choice.{both, non, both_true, true_both, non_true}
use Rattle.tags.specs.Types.{longest, least, most}
use Rattle.tags.specs.Layout.{Thing, Valid, good_contents}
use Rattle.tags.specs.Layout.Thing.{application, boolean, context, opening, closing}

unfoldable pub valid_thing : Thing → Bool
valid_thing (application n xs) = both (leb n 12) (both (non (eqb n 1)) (both (leb (least n) (length xs)) (both (leb (length xs) (most n)) (good_contents n xs))))
valid_thing (boolean v) = leb v 1
valid_thing (context n xs) = both (leb n 254) (leb (length xs) longest)
valid_thing (opening n) = leb n 254
valid_thing (closing n) = leb n 254

-- the test holds only of items that keep the rules
pub valid_test : (t : Thing) → valid_thing t ≡ true → Valid t
unfolding valid_thing
valid_test (application n xs) e =
    let a = both_true (leb n 12) _ e in
    let b = both_true (non (eqb n 1)) _ a.1 in
    let c = both_true (leb (least n) (length xs)) _ b.1 in
    let d = both_true (leb (length xs) (most n)) _ c.1 in
    record {
      known = leb-true n 12 a.0;
      other = eqb-false n 1 (non_true (eqb n 1) b.0);
      low = leb-true (least n) (length xs) c.0;
      high = leb-true (length xs) (most n) d.0;
      rule = d.1;
    }
valid_test (boolean v) e = leb-true v 1 e
valid_test (context n xs) e = let a = both_true (leb n 254) (leb (length xs) longest) e in (leb-true n 254 a.0, leb-true (length xs) longest a.1)
valid_test (opening n) e = leb-true n 254 e
valid_test (closing n) e = leb-true n 254 e

-- and of all of them
pub test_valid : (t : Thing) → Valid t → valid_thing t ≡ true
unfolding valid_thing
test_valid (application n xs) v = rw (le-leb n 12 v.known, ne_eqb n 1 v.other, le-leb (least n) (length xs) v.low, le-leb (length xs) (most n) v.high) v.rule
test_valid (boolean v) h = le-leb v 1 h
test_valid (context n xs) h = true_both (leb n 254) (leb (length xs) longest) (le-leb n 254 h.0) (le-leb (length xs) longest h.1)
test_valid (opening n) h = le-leb n 254 h
test_valid (closing n) h = le-leb n 254 h
