-- Octets are read as a report exactly when they are the octets of one that the rules allow.
use Prim.Native.Nat.{ℕ, ◌+◌, ◌*◌, ◌/◌, ◌%◌}
use mathlib.Core.Path.{◌≡◌, refl, sym, ap, ◌∙◌}
use mathlib.Core.Bool.{Bool, true, false}
use mathlib.Core.List.{List, [], ◌∷◌}
use mathlib.Core.Option.{none, some}
use native.Mathlib.Omega.{arith}
use lib.Dec.{eqb, leb}
use lib.ListN.{length}
use borrow.Author.Tests.{eqb-true, eq-eqb, leb-true, le-leb}
use Rattle.octets.specs.Choice.{both, both_true, true_both, pick_so, impossible, not_so}
use Rattle.octets.specs.Exact.{Exactly}
use Rattle.octets.specs.Has.{has_all}
use Rattle.octets.specs.Numbers.{value_at, value_none, value_more, value_below, value_digits, digits_four}
use Rattle.octets.specs.Reading.{oct, Octets}
use Rattle.reports.specs.declared.Apdu.{Apdu}
use Rattle.reports.specs.declared.Frame.{Frame}
use Rattle.reports.specs.declared.Report.{Report}
use Rattle.reports.specs.Layout.{report_size, report_octets}
use Rattle.reports.specs.Kinds.{no_frame, no_apdu}
use Rattle.reports.specs.Valid.{Row, filled, Lacks, Valid}
use Rattle.reports.specs.Reading.{report_at, filled_or0, frame_or0, apdu_or0, lacks_in, kind_in, rest_in, read_report, Reads}
use Rattle.reports.proofs.Octets.{octets_of, octets_of_lem, report_size_lem}

-- ---- the test of what a kind lacks, both ways
lacked : (b : Bool) (x : ℕ) → filled_or0 b x ≡ true → b ≡ false → x ≡ 0
lacked true x e f = not_so (sym f)
lacked false x e f = eqb-true x 0 e

tested : (b : Bool) (x : ℕ) → (b ≡ false → x ≡ 0) → filled_or0 b x ≡ true
tested true x h = refl
tested false x h = eq-eqb x 0 (h refl)

three : (b : Bool) (x y z : ℕ) → both (filled_or0 b x) (both (filled_or0 b y) (filled_or0 b z)) ≡ true → b ≡ false → (x ≡ 0) × (y ≡ 0) × (z ≡ 0)
three b x y z e f =
    let a = both_true (filled_or0 b x) (both (filled_or0 b y) (filled_or0 b z)) e in
    let c = both_true (filled_or0 b y) (filled_or0 b z) a.1 in
    (lacked b x a.0 f, lacked b y c.0 f, lacked b z c.1 f)

frame_lacked : (b : Bool) (f : Frame) → frame_or0 b f ≡ true → b ≡ false → f ≡ no_frame
frame_lacked b f e h = let z = three b f.kind f.destination f.source e h in λ i. record { kind = z.0 i; destination = z.1 i; source = z.2 i }

frame_tested : (b : Bool) (f : Frame) → (b ≡ false → f ≡ no_frame) → frame_or0 b f ≡ true
frame_tested true f h = refl
frame_tested false f h = ap (λ (x : Frame). frame_or0 false x) (h refl)

apdu_lacked : (b : Bool) (a : Apdu) → apdu_or0 b a ≡ true → b ≡ false → a ≡ no_apdu
apdu_lacked b a e h = let z = three b a.first a.invoke a.choice e h in λ i. record { first = z.0 i; invoke = z.1 i; choice = z.2 i }

apdu_tested : (b : Bool) (a : Apdu) → (b ≡ false → a ≡ no_apdu) → apdu_or0 b a ≡ true
apdu_tested true a h = refl
apdu_tested false a h = ap (λ (x : Apdu). apdu_or0 false x) (h refl)

module _ (f : Row) (r : Report) where
  abbrev last_two : Bool
  last_two = both (filled_or0 f.slot r.slot) (filled_or0 f.length r.length)

  abbrev last_three : Bool
  last_three = both (apdu_or0 f.apdu r.apdu) last_two

  abbrev last_four : Bool
  last_four = both (frame_or0 f.frame r.frame) last_three

  pub lacks_by : lacks_in f r ≡ true → Lacks f r
  unfolding lacks_in
  lacks_by e =
      let a = both_true (filled_or0 f.number r.number) last_four e in
      let b = both_true (frame_or0 f.frame r.frame) last_three a.1 in
      let c = both_true (apdu_or0 f.apdu r.apdu) last_two b.1 in
      let d = both_true (filled_or0 f.slot r.slot) (filled_or0 f.length r.length) c.1 in
      record {
        number = lacked f.number r.number a.0;
        frame = frame_lacked f.frame r.frame b.0;
        apdu = apdu_lacked f.apdu r.apdu c.0;
        slot = lacked f.slot r.slot d.0;
        length = lacked f.length r.length d.1;
      }

  by_lacks : Lacks f r → lacks_in f r ≡ true
  unfolding lacks_in
  by_lacks h =
      true_both (filled_or0 f.number r.number) last_four (tested f.number r.number h.number)
      (true_both (frame_or0 f.frame r.frame) last_three (frame_tested f.frame r.frame h.frame)
      (true_both (apdu_or0 f.apdu r.apdu) last_two (apdu_tested f.apdu r.apdu h.apdu)
      (true_both (filled_or0 f.slot r.slot) (filled_or0 f.length r.length) (tested f.slot r.slot h.slot) (tested f.length r.length h.length))))

-- ---- what is read stands there
four_octets : (o : List ℕ) (p : ℕ) → value_at o p 4 ≡ ((oct o (p + 0) * 256 + oct o (p + 1)) * 256 + oct o (p + 2)) * 256 + oct o (p + 3)
four_octets o p = omega (arith, value_none o p, value_more o p 0, value_more o p 1, value_more o p 2, value_more o p 3)

module _ (o : List ℕ) (os : Octets o) (l : length o ≡ report_size) where
  one_by_one : o ≡ oct o 0 ∷ oct o 1 ∷ oct o 2 ∷ oct o 3 ∷ oct o 4 ∷ oct o 5 ∷ oct o 6 ∷ oct o 7 ∷ oct o 8 ∷ oct o 9 ∷ oct o 10 ∷ oct o 11 ∷ oct o 12 ∷ oct o 13 ∷ oct o 14 ∷ oct o 15 ∷ []
  one_by_one =
      has_all o _ (
        omega arith,
        refl,
        (
          omega arith,
          refl,
          (
            omega arith,
            refl,
            (
              omega arith,
              refl,
              (
                omega arith,
                refl,
                (
                  omega arith,
                  refl,
                  (
                    omega arith,
                    refl,
                    (
                      omega arith,
                      refl,
                      (omega arith, refl, (omega arith, refl, (omega arith, refl, (omega arith, refl, (omega arith, refl, (omega arith, refl, (omega arith, refl, (omega arith, refl, omega arith)))))))),
                    ),
                  ),
                ),
              ),
            ),
          ),
        ),
      ) (sym l)

  stands : rest_in o ≡ true → o ≡ report_octets (report_at o)
  unfolding rest_in report_at
  stands e =
      let a = both_true (eqb (oct o 13) 0) (both (eqb (oct o 14) 0) (eqb (oct o 15) 0)) e in
      let b = both_true (eqb (oct o 14) 0) (eqb (oct o 15) 0) a.1 in
      let z13 = eqb-true (oct o 13) 0 a.0 in
      let z14 = eqb-true (oct o 14) 0 b.0 in
      let z15 = eqb-true (oct o 15) 0 b.1 in
      let v = four_octets o 8 in
      let d8 : value_at o 8 4 / 16777216 % 256 ≡ oct o 8 = omega (arith, os 8, os 9, os 10, os 11) in
      let d9 : value_at o 8 4 / 65536 % 256 ≡ oct o 9 = omega (arith, os 8, os 9, os 10, os 11) in
      let d10 : value_at o 8 4 / 256 % 256 ≡ oct o 10 = omega (arith, os 8, os 9, os 10, os 11) in
      let d11 : value_at o 8 4 % 256 ≡ oct o 11 = omega (arith, os 8, os 9, os 10, os 11) in
      one_by_one ∙ sym (octets_of_lem (report_at o) ∙ rw (d8, d9, d10, d11, z13, z14, z15))

sound : (o : List ℕ) (r : Report) → Octets o → Reads o r → Valid r × (o ≡ report_octets r)
unfolding read_report kind_in report_at
sound o r os e =
    let no : none ≡ some r → ⊥ = λ z. impossible (cc) in
    let a = pick_so (eqb (length o) report_size) _ none (some r) no e in
    let b = pick_so (rest_in o) _ none (some r) no a.1 in
    let c = pick_so (kind_in (oct o 0)) _ none (some r) no b.1 in
    let d = pick_so (lacks_in (filled (oct o 0)) (report_at o)) (some (report_at o)) none (some r) no c.1 in
    let k = both_true (leb 1 (oct o 0)) (leb (oct o 0) 7) c.0 in
    let q : report_at o ≡ r = cc in
    let v : Valid (report_at o) =
    record {
      first = leb-true 1 (oct o 0) k.0;
      last = leb-true (oct o 0) 7 k.1;
      lacks = lacks_by (filled (oct o 0)) (report_at o) d.0;
      fits = record { kind = os 0; number = os 1; frame_type = os 2; destination = os 3; source = os 4; first = os 5; invoke = os 6; choice = os 12; slot = os 7; length = value_below o os 8 4 };
    } in
    (rw q at v, stands o os (eqb-true (length o) report_size a.0) b.0 ∙ ap report_octets q)

-- ---- what the rules allow reads back
module _ (r : Report) (h : Valid r) where
  value_back : value_at (octets_of r) 8 4 ≡ r.length
  value_back =
      let d : List ℕ = r.length / 16777216 % 256 ∷ r.length / 65536 % 256 ∷ r.length / 256 % 256 ∷ r.length % 256 ∷ [] in
      four_octets (octets_of r) 8 ∙ sym (four_octets d 0) ∙ rw (digits_four r.length) at (value_digits 4 r.length h.fits.length)

  back : report_at (report_octets r) ≡ r
  unfolding report_at
  back = rw (octets_of_lem r, value_back)

  rest_back : rest_in (report_octets r) ≡ true
  unfolding rest_in
  rest_back = rw (octets_of_lem r)

  kind_back : kind_in r.kind ≡ true
  unfolding kind_in
  kind_back = true_both (leb 1 r.kind) (leb r.kind 7) (le-leb 1 r.kind h.first) (le-leb r.kind 7 h.last)

  complete : Reads (report_octets r) r
  unfolding read_report
  complete = rw (eq-eqb (length (report_octets r)) report_size (report_size_lem r), rest_back, back, kind_back, by_lacks (filled r.kind) r h.lacks)

pub report_exactly : Exactly Reads Valid report_octets
report_exactly = record { sound = sound; complete = complete }
