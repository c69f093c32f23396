-- Every run can be offered by the exported calls: from an area that holds a state which 59 passes, each call of the box can be made over it.
use Prim.Native.Nat.{ℕ}
use mathlib.Core.Path.{◌≡◌, refl, sym, ap, subst, ◌∙◌}
use mathlib.Core.List.{List, []}
use mathlib.Core.Option.{Option, none, some}
use lib.ListN.{length, length-map}
use borrow.Author.Tests.{eq-eqb, eqb-true}
use Rattle.octets.specs.Choice.{both_left}
use Rattle.runs.specs.Run.{Run, ends}
use Rattle.runs.specs.Offered.{Offer, Made, answer, box_calls}
use Rattle.runs.specs.Offered.Offer.{over, call}
use Rattle.runs.proofs.Carrying.{Carries, carried}
use Rattle.apdu.specs.declared.Edition.{Edition}
use Rattle.trunk.specs.Reading.{held_of}
use Rattle.rebuild.specs.View.{back}
use Rattle.rebuild.proofs.Seen.{view_unview}
use Rattle.reports.specs.Layout.{report_size}
use Rattle.collector.specs.Calls.{box, slots_of, said_so, written, Answered, feed_refusal, feeding, silence_refusal, stilling}
use Rattle.collector.specs.Offering.{Passes}
use Rattle.collector.specs.declared.Collector.{Collector}
use Rattle.collector.proofs.Alike.{Boxed, blank, sixteen, feeding_box, stilling_box}
use Rattle.collector.proofs.Reached.{FairAt, FairAnswer, feed_fair, still_fair, free_fair}
use Rattle.collector.proofs.Demand.{boxed_way}
use Rattle.records.specs.Flag.{flag}
use Rattle.state.specs.Layout.{state_octets}
use Rattle.state.specs.Calls.{Loads}
use Rattle.state.proofs.Whole.{Shaped}
use Rattle.state.proofs.Exact.{shaped_loads}
use Rattle.hitchbarley.specs.Trunk.{Left, state_by, state_of, passed, bar, inside, feed_bar, feed_left, silence_bar, silence_left, forgotten, forget_left, Feeds, Stills, Forgets}
use Rattle.hitchbarley.specs.Offering.{Heard, told_by, Areas, calls, Calling, Linked}
use Rattle.hitchbarley.specs.Offering.Calling.{made}
use Rattle.hitchbarley.proofs.Passed.{whole}
use Rattle.hitchbarley.proofs.Demand.{inside_is}
use Rattle.hitchbarley.proofs.Sizes.{Sized, sized_back, sized_fed, sized_still, sized_freed, sized_loaded}

told_back : (x : Option (List ℕ)) (report : List ℕ) → x ≡ told_by (flag (said_so x)) (written x report)
told_back none report = refl
told_back (some y) report = refl

-- what passes 59 has its arrays, so its octets are loaded as it
fair_loads : (d : Edition) (x : Boxed) → FairAt x → Sized x.1 → Loads (state_octets (state_by d x.0 x.1)) (state_by d x.0 x.1)
fair_loads d x F q =
    let four : length x.1 ≡ 4 = eqb-true (length x.1) 4 (both_left _ _ F.slots) in
    let h : Shaped (state_by d x.0 x.1) = record { head = F.receiver.head; store = F.receiver.store; four = length-map x.1 back ∙ four; slots = sized_back x.1 q } in
    shaped_loads (state_by d x.0 x.1) h

-- a state area and a message area that hold what the box of an edition holds
pub record Stands (d : Edition) (x : Boxed) (s : Areas) : Type 0 where
  pub fair : FairAt x
  pub sizes : Sized x.1
  pub loads : Loads s.0 (state_by d x.0 x.1)
  pub area : s.1 ≡ x.2

module _ (d : Edition) (x : Boxed) (s : Areas) (S : Stands d x s) where
  abbrev held : Collector
  held = state_by d x.0 x.1

  within : inside s.0 ≡ held
  within = inside_is s.0 held S.loads

  edition_is : (inside s.0).edition ≡ d
  edition_is = ap (λ (c : Collector). c.edition) within

  long : length s.1 ≡ 65536
  long = ap length S.area ∙ eqb-true (length x.2) 65536 S.fair.area

  -- what a call leaves
  left_by : (y : Boxed) → FairAt y → Sized y.1 → Stands d y (state_octets (state_by d y.0 y.1), y.2)
  left_by y F q = record { fair = F; sizes = q; loads = fair_loads d y F q; area = refl }

  module _ (piece : List ℕ) (n : ℕ) (said : Option (List ℕ)) (y : Boxed) (q : answer n said y.0 y.1 y.2 ≡ (box d).feed x.0 x.1 x.2 piece) where
    fed : feeding (inside s.0) blank s.1 piece ≡ answer n said y.0 y.1 y.2
    fed = rw within (feeding_box held blank s.1 piece sixteen ∙ rw (view_unview x.1, S.area) (sym q))

    bar_none : feed_bar s.0 blank s.1 ≡ 0
    unfolding feed_bar bar
    bar_none = rw (eq-eqb (length blank) report_size sixteen, eq-eqb (length s.1) 65536 long, S.loads)

    left_fed : feed_left s.0 blank s.1 piece ≡ passed d (feed_refusal (inside s.0) blank s.1) (answer n said y.0 y.1 y.2) blank
    unfolding feed_left
    left_fed = rw (bar_none, fed, edition_is)

    fair_fed : FairAt y
    fair_fed = subst FairAnswer (sym q) (feed_fair d S.fair piece)

    sizes_fed : Sized y.1
    sizes_fed = subst (λ (w : Answered). Sized w.slots) (sym q) (sized_fed d S.fair S.sizes piece)

    feeds : Feeds s.0 blank s.1 piece (feed_refusal (inside s.0) blank s.1) n (flag (said_so said)) (state_octets (state_by d y.0 y.1)) (written said blank) y.2
    feeds =
        record {
          number = sym (ap (λ (d : Left). d.number) left_fed);
          ate = sym (ap (λ (d : Left). d.eaten) left_fed);
          spoke = sym (ap (λ (d : Left). d.reported) left_fed);
          state_after = sym (ap (λ (d : Left). d.state) left_fed);
          report_after = sym (ap (λ (d : Left). d.report) left_fed);
          area_after = sym (ap (λ (d : Left). d.area) left_fed);
          again = λ _. rw edition_is (subst (λ (w : Answered). Loads (state_octets (state_by d y.0 y.1)) (state_of d w)) (sym fed) (fair_loads d y fair_fed sizes_fed));
        }

  module _ (said : Option (List ℕ)) (y : Boxed) (q : answer 0 said y.0 y.1 y.2 ≡ (box d).still x.0 x.1 x.2) where
    abbrev quiet : Answered
    quiet = stilling (inside s.0) blank []

    fell : answer 0 quiet.said quiet.state quiet.slots s.1 ≡ answer 0 said y.0 y.1 y.2
    fell = rw within (stilling_box held blank s.1 sixteen ∙ rw (view_unview x.1, S.area) (sym q))

    silence_none : silence_bar s.0 blank ≡ 0
    unfolding silence_bar bar
    silence_none = rw (eq-eqb (length blank) report_size sixteen, S.loads)

    left_fell : silence_left s.0 blank ≡ passed d (silence_refusal (inside s.0) blank) quiet blank
    unfolding silence_left
    left_fell = rw (silence_none, edition_is)

    fair_fell : FairAt y
    fair_fell = subst FairAnswer (sym q) (still_fair d S.fair)

    sizes_fell : Sized y.1
    sizes_fell = subst (λ (w : Answered). Sized w.slots) (sym q) (sized_still d S.fair S.sizes)

    stills : Stills s.0 blank (silence_refusal (inside s.0) blank) (flag (said_so said)) (state_octets (state_by d y.0 y.1)) (written said blank)
    stills =
        record {
          number = sym (ap (λ (d : Left). d.number) left_fell);
          spoke = sym (ap (λ (d : Left). d.reported) left_fell ∙ ap (λ (d : Answered). flag (said_so d.said)) fell);
          state_after = sym (ap (λ (d : Left). d.state) left_fell ∙ ap (λ (w : Answered). state_octets (state_of d w)) fell);
          report_after = sym (ap (λ (d : Left). d.report) left_fell ∙ ap (λ (d : Answered). written d.said blank) fell);
          again = λ _. rw edition_is (subst (λ (w : Answered). Loads (state_octets (state_by d y.0 y.1)) (state_of d w)) (sym fell) (fair_loads d y fair_fell sizes_fell));
        }

    same_area : y.2 ≡ s.1
    same_area = sym (ap (λ (d : Answered). d.area) fell)

  module _ (i : ℕ) (y : Boxed) (q : y ≡ (x.0, (box d).free i x.0 x.1, x.2)) where
    freed : forgotten (inside s.0) i ≡ state_by d y.0 y.1
    freed = rw (within, view_unview x.1, q)

    left_freed : (forget_left s.0 i).state ≡ state_octets (state_by d y.0 y.1)
    unfolding forget_left bar
    left_freed = rw S.loads (ap state_octets freed)

    fair_freed : FairAt y
    fair_freed = subst FairAt (sym q) (free_fair d S.fair i)

    sizes_freed : Sized y.1
    sizes_freed = subst (λ (w : Boxed). Sized w.1) (sym q) (sized_freed d S.fair S.sizes i)

    forgets : Forgets s.0 i (forget_left s.0 i).number (state_octets (state_by d y.0 y.1))
    forgets =
        record {
          number = refl;
          state_after = sym left_freed;
          again = λ _. subst (Loads (state_octets (state_by d y.0 y.1))) (sym freed) (fair_loads d y fair_freed sizes_freed);
        }

linking : (d : Edition) → Carries (box_calls (box d)) calls (Stands d)
linking d =
    record {
      feeds = λ x y s piece n said S q. (
        (state_octets (state_by d y.0 y.1), y.2),
        record {
          report = blank;
          report' = written said blank;
          number = feed_refusal (inside s.0) blank s.1;
          reported = flag (said_so said);
          sixteen = sixteen;
          sized = long d x s S;
          promise = feeds d x s S piece n said y q;
          says = told_back said blank;
        },
        left_by d x s S y (fair_fed d x s S piece n said y q) (sizes_fed d x s S piece n said y q),
      );
      stills = λ x y s said S q. (
        (state_octets (state_by d y.0 y.1), y.2),
        record {
          report = blank;
          report' = written said blank;
          number = silence_refusal (inside s.0) blank;
          reported = flag (said_so said);
          sixteen = sixteen;
          promise = stills d x s S said y q;
          says = told_back said blank;
          area = same_area d x s S said y q;
        },
        left_by d x s S y (fair_fell d x s S said y q) (sizes_fell d x s S said y q),
      );
      forgets = λ x y s i S q. (
        (state_octets (state_by d y.0 y.1), y.2),
        record {
          number = (forget_left s.0 i).number;
          promise = forgets d x s S i y q;
          area = ap (λ (x : Boxed). x.2) q ∙ sym S.area;
        },
        left_by d x s S y (fair_freed d x s S i y q) (sizes_freed d x s S i y q),
      );
    }

-- by the three calls alone
widened : {p : ℕ} {s t : Areas} {run : Run} {rs : List (ℕ × List ℕ)} → Offer (Made calls) p s run rs t → Offer Calling p s run rs t
widened over = over
widened (call lent run c o) = call lent run (made c) (widened o)

pub some_way : (state : List ℕ) (c : Collector) (area : List ℕ) → Loads state c → Passes c → length area ≡ 65536 → (run : Run)
    → (h : Heard) × Linked (length (held_of c.receiver)) state area run h
some_way state c area l P z run =
    let w = boxed_way c area P z run in
    let x : Boxed = (c.receiver, slots_of c, area) in
    let F : FairAt x = record { receiver = P.receiver; slots = P.slots; area = eq-eqb (length area) 65536 z } in
    let same : c ≡ state_by c.edition c.receiver (slots_of c) = whole c c.edition c.receiver (slots_of c) refl refl refl in
    let S : Stands c.edition x (state, area) = record { fair = F; sizes = sized_loaded state c l; loads = subst (Loads state) same l; area = refl } in
    let t = carried (linking c.edition) {u = (state, area)} S w.1 in
    (ends w.0.reports t.0.0 tt t.0.1, widened t.1)
