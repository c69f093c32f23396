-- Each exported call's promise allows an answer, and no other.
use Prim.Native.Nat.{ℕ}
use mathlib.Core.Path.{◌≡◌, refl, sym, ◌∙◌}
use mathlib.Core.Bool.{Bool}
use mathlib.Core.List.{List}
use lib.Dec.{eqb}
use lib.ListN.{length}
use Rattle.octets.specs.Choice.{pick}
use Rattle.octets.specs.Reading.{Octets}
use Rattle.octets.specs.Laid.{written_count, answer_of, area_of}
use Rattle.apdu.specs.declared.Edition.{Edition}
use Rattle.cutter.specs.Layout.{segments_of, octets_of}
use Rattle.cutter.specs.Calls.{count_in}
use Rattle.cutter.specs.declared.Way.{Way}
use Rattle.items.specs.Reading.{items_of, one_at, end_of}
use Rattle.items.specs.Listing.{tally_number, tally_count, listed_of, listing}
use Rattle.collector.specs.Calls.{fresh_collector}
use Rattle.state.specs.Edition.{edition_of}
use Rattle.state.specs.Layout.{state_size, state_octets}
use Rattle.state.specs.Calls.{Saves}
use Rattle.hitchbarley.specs.Trunk as Trunk
use Rattle.hitchbarley.specs.Answers.{written_number, Writes, Fills, FillsTo}
use Rattle.hitchbarley.specs.Items.{one_number, one_place, Lists, Steps}
use Rattle.hitchbarley.specs.Writers.{message_at, cut_fault, Cuts}
use Rattle.hitchbarley.proofs.One.{writes_one, fills_one, fills_to_one, lists_one, steps_one, saves_one, feeds_one, stills_one, forgets_one, writes_some, fills_some, fills_to_some, lists_some, steps_some}
use Rattle.hitchbarley.proofs.Kept.{saves_some, feeds_some, stills_some, forgets_some}
use Rattle.demands.specs.Words.{One}
use Rattle.demands.specs.Exported.{OneExported}
use Rattle.demands.proofs.ReplayExported.{replayed}

-- a promise that is an equation
equal : (x : ℕ) → One ℕ (λ r. r ≡ x)
equal x = record { answer = x; allowed = refl; same = λ r r' a b. a ∙ sym b }

-- ---- the calls of a trunk
fresh : (state : List ℕ) (later : ℕ) → One (ℕ × List ℕ) (λ x. Saves (fresh_collector (edition_of later)) state x.0 x.1)
fresh state later =
    record {
      answer = (pick (eqb (length state) state_size) 0 60, pick (eqb (length state) state_size) (state_octets (fresh_collector (edition_of later))) state);
      allowed = saves_some (edition_of later) state;
      same = λ r r' a b. let e = saves_one a b in λ i. (e.0 i, e.1 i);
    }

fed : (state piece report area : List ℕ) → Octets state
    → One (ℕ × ℕ × ℕ × List ℕ × List ℕ × List ℕ) (λ x. Trunk.Feeds state report area piece x.0 x.1 x.2 x.3 x.4 x.5)
fed state piece report area os =
    let d = Trunk.feed_left state report area piece in
    record {
      answer = (d.number, d.eaten, d.reported, d.state, d.report, d.area);
      allowed = feeds_some state os report area piece;
      same = λ r r' a b. let e = feeds_one a b in λ i. (e.0 i, e.1 i, e.2 i, e.3 i, e.4 i, e.5 i);
    }

fell : (state report : List ℕ) → Octets state → One (ℕ × ℕ × List ℕ × List ℕ) (λ x. Trunk.Stills state report x.0 x.1 x.2 x.3)
fell state report os =
    let d = Trunk.silence_left state report in
    record {
      answer = (d.number, d.reported, d.state, d.report);
      allowed = stills_some state os report;
      same = λ r r' a b. let e = stills_one a b in λ i. (e.0 i, e.1 i, e.2 i, e.3 i);
    }

forgot : (state : List ℕ) (slot : ℕ) → Octets state → One (ℕ × List ℕ) (λ x. Trunk.Forgets state slot x.0 x.1)
forgot state slot os =
    let d = Trunk.forget_left state slot in
    record { answer = (d.number, d.state); allowed = forgets_some state os slot; same = λ r r' a b. let e = forgets_one a b in λ i. (e.0 i, e.1 i) }

-- ---- readers into a record area, and writers
filled : (size : ℕ) (good : Bool) (f : ℕ) (o area : List ℕ) → One (ℕ × List ℕ) (λ x. Fills size good f o area x.0 x.1)
filled size good f o area =
    record {
      answer = (pick (eqb (length area) size) f 60, pick (eqb (length area) size) (pick good o area) area);
      allowed = fills_some size good f o area;
      same = λ r r' a b. let e = fills_one a b in λ i. (e.0 i, e.1 i);
    }

filled_to : (size : ℕ) (good : Bool) (f : ℕ) (o : List ℕ) (place : ℕ) (area : List ℕ)
    → One (ℕ × ℕ × List ℕ) (λ x. FillsTo size good f o place area x.0 x.1 x.2)
filled_to size good f o place area =
    record {
      answer = (
        pick (eqb (length area) size) f 60,
        pick (eqb (length area) size) (pick good place 0) 0,
        pick (eqb (length area) size) (pick good o area) area,
      );
      allowed = fills_to_some size good f o place area;
      same = λ r r' a b. let e = fills_to_one a b in λ i. (e.0 i, e.1 i, e.2 i);
    }

wrote : (f : ℕ) (o area : List ℕ) → One (ℕ × ℕ × List ℕ) (λ x. Writes f o area x.0 x.1 x.2)
wrote f o area =
    record {
      answer = (written_number (answer_of f o area), written_count (answer_of f o area), area_of f o area);
      allowed = writes_some f o area;
      same = λ r r' a b. let e = writes_one a b in λ i. (e.0 i, e.1 i, e.2 i);
    }

cut : (e : Edition) (fields : List ℕ) (w : Way) (params out : List ℕ) → One (ℕ × ℕ × ℕ × List ℕ) (λ x. Cuts e fields w params out x.0 x.1 x.2 x.3)
cut e fields w params out =
    let f = cut_fault e fields w (length params) in
    let o = octets_of (message_at fields) w params in
    record {
      answer = (
        written_number (answer_of f o out),
        written_count (answer_of f o out),
        count_in (answer_of f o out) (segments_of w.each (length params)),
        area_of f o out,
      );
      allowed = record { written = writes_some f o out; count = refl };
      same = λ r r' a b. let e = writes_one a.written b.written in let s = a.count ∙ sym b.count in λ i. (e.0 i, e.1 i, s i, e.2 i);
    }

-- ---- items
listed : (s area : List ℕ) → One (ℕ × ℕ × List ℕ) (λ x. Lists s area x.0 x.1 x.2)
listed s area =
    let t = listed_of (length area) (items_of s) in
    record {
      answer = (tally_number t, tally_count t, listing area (items_of s));
      allowed = lists_some s area;
      same = λ r r' a b. let e = lists_one a b in λ i. (e.0 i, e.1 i, e.2 i);
    }

stepped : (s : List ℕ) (at : ℕ) → One (ℕ × ℕ) (λ x. Steps s at x.0 x.1)
stepped s at =
    let o = end_of (one_at s at) in
    record { answer = (one_number o, one_place o); allowed = steps_some s at; same = λ r r' a b. let e = steps_one a b in λ i. (e.0 i, e.1 i) }

pub one_exported : OneExported
one_exported =
    record {
      hb_header_check = λ head. equal _;
      hb_data_check = λ payload. equal _;
      hb_header_run = λ register piece. equal _;
      hb_data_run = λ register piece. equal _;
      hb_fresh = fresh;
      hb_feed = fed;
      hb_silence = fell;
      hb_forget = forgot;
      hb_replay = replayed;
      hb_npdu_read = λ octets fields. filled_to _ _ _ _ _ fields;
      hb_npdu_write = λ fields out. wrote _ _ out;
      hb_apdu_read = λ octets later fields. filled_to _ _ _ _ _ fields;
      hb_apdu_write = λ fields later out. wrote _ _ out;
      hb_items_list = listed;
      hb_item_next = stepped;
      hb_item_step = λ octets at item. filled_to _ _ _ _ _ item;
      hb_items_write = λ listed source out. wrote _ _ out;
      hb_service_read = λ kind choice params fields. filled _ _ _ _ fields;
      hb_service_write = λ fields value out. wrote _ _ out;
      hb_frame_write = λ kind destination source payload out. wrote _ _ out;
      hb_cut = λ fields later reply priority each params out. cut _ fields _ params out;
    }
