-- Each call's promise allows an answer, and no other.
use Prim.Native.Nat.{ℕ}
use mathlib.Core.Path.{◌≡◌, refl, sym, ap, ◌∙◌}
use mathlib.Core.List.{List, []}
use Rattle.octets.specs.Laid.{Laid, answer_of, area_of, laid_one}
use Rattle.octets.specs.Laid.{Written}
use Rattle.apdu.specs.declared.Edition.{Edition}
use Rattle.cutter.specs.Layout.{segments_of, octets_of}
use Rattle.cutter.specs.Fault.{fault_of}
use Rattle.cutter.specs.Calls.{count_in, Cuts}
use Rattle.cutter.specs.declared.Message.{Message}
use Rattle.cutter.specs.declared.Way.{Way}
use Rattle.cutter.specs.Calls.{Parted}
use Rattle.items.specs.Reading.{items_of}
use Rattle.items.specs.Listing.{Listed, listed_of, listing, listed_one}
use Rattle.items.specs.Answers.{Tally}
use Rattle.messages.specs.Rows.{Done, forget_number, forgotten}
use Rattle.rebuild.specs.View.{keys, view, unview}
use Rattle.rebuild.specs.Calls as Rebuild
use Rattle.rebuild.specs.declared.Key.{Key}
use Rattle.rebuild.specs.declared.Slots.{Slots}
use Rattle.rebuild.specs.Calls.{Taken}
use Rattle.rebuild.specs.Calls.{Forgot as Freed}
use Rattle.rebuild.proofs.Seen.{view_unview}
use Rattle.rebuild.proofs.Giving as Giving
use lib.ListN.{length}
use Rattle.collector.specs.Calls.{written, said_so, feed_refusal, feeding, Feeds, silence_refusal, stilling, Stills, Forgets}
use Rattle.collector.specs.declared.Collector.{Collector}
use Rattle.collector.specs.Answers.{Fed}
use Rattle.collector.specs.Answers.{Fell}
use Rattle.collector.specs.Answers.{Forgot}
use Rattle.collector.proofs.Alike.{feeds_one, stills_one, forgets_one, state_of, tells, falls, forgot_by, forgets}
use Rattle.playback.specs.Calls.{playing, Plays}
use Rattle.playback.specs.Answers.{Played}
use Rattle.playback.proofs.Alike.{plays_one, played_by, comes}
use Rattle.reader.specs.declared.Reader.{Reader}
use denote.Ref.{Bor}
use Rattle.demands.specs.Words.{One}
use Rattle.demands.specs.Demands.{OneAnswer}

-- a promise that is an equation
equal : (A : Type 0) (x : A) → One A (λ r. r ≡ x)
equal A x = record { answer = x; allowed = refl; same = λ r r' a b. a ∙ sym b }

-- a writer's, and listing's
laid : (f : ℕ) (o out : List ℕ) → One (Written × List ℕ) (λ x. Laid f o out x.0 x.1)
laid f o out =
    record {
      answer = (answer_of f o out, area_of f o out);
      allowed = record { answer = refl; after = refl };
      same = λ r r' a b. let e = laid_one a b in λ i. (e.0 i, e.1 i);
    }

listed : (s out : List ℕ) → One (Tally × List ℕ) (λ x. Listed s out x.0 x.1)
listed s out =
    record {
      answer = (listed_of (length out) (items_of s), listing out (items_of s));
      allowed = record { answer = refl; after = refl };
      same = λ r r' a b. let e = listed_one a b in λ i. (e.0 i, e.1 i);
    }

-- the cutter's: as a writer's, and the number of segments beside it
cuts_one : {e : Edition} {m : Message} {w : Way} {params out later later' : List ℕ} {r r' : Parted} → Cuts e m w params out r later → Cuts e m w params out r' later'
    → (r.answer ≡ r'.answer) × (r.segments ≡ r'.segments) × (later ≡ later')
cuts_one {w = w} {params = params} a b =
    let same = laid_one a.laid b.laid in
    (same.0, a.segments ∙ ap (λ (x : Written). count_in x (segments_of w.each (length params))) same.0 ∙ sym b.segments, same.1)

parted : (e : Edition) (m : Message) (w : Way) (params out : List ℕ) → One (Parted × List ℕ) (λ x. Cuts e m w params out x.0 x.1)
parted e m w params out =
    let f = fault_of e m w (length params) in
    let o = octets_of m w params in
    record {
      answer = (record { answer = answer_of f o out; segments = count_in (answer_of f o out) (segments_of w.each (length params)) }, area_of f o out);
      allowed = record { laid = record { answer = refl; after = refl }; segments = refl };
      same = λ r r' a b. let q = cuts_one a b in λ i. (record { answer = q.0 i; segments = q.1 i }, q.2 i);
    }

-- the reader value's
placed : (s : Bor (List ℕ)) (at : ℕ) → One Reader (λ r. (r.params ≡ s) × (r.at ≡ at))
placed s at =
    record {
      answer = record { params = s; at = at };
      allowed = (refl, refl);
      same = λ r r' a b. let p = a.0 ∙ sym b.0 in let q = a.1 ∙ sym b.1 in λ i. record { params = p i; at = q i };
    }

-- rebuilding's
given : (d : Done Key) → One (Taken × List ℕ) (λ x. Rebuild.Gives d x.0 x.1)
given d =
    record {
      answer = (record { answer = Rebuild.step_of d.answer; slots = unview d.box.slots }, d.box.area);
      allowed = record { answer = refl; slots = view_unview d.box.slots; area = refl };
      same = λ r r' a b. let e = Giving.gives_one a b in λ i. (record { answer = e.0 i; slots = e.1.0 i }, e.1.1 i);
    }

freed : (t : Slots) (s : ℕ) → One Freed (λ r. Rebuild.Forgets t s r)
freed t s =
    record {
      answer = record { number = forget_number keys s (view t); slots = unview (forgotten keys s (view t)) };
      allowed = record { number = refl; slots = view_unview (forgotten keys s (view t)) };
      same = λ r r' a b. let e = Giving.forgets_one a b in λ i. record { number = e.0 i; slots = e.1 i };
    }

-- the collector's
fed : (c : Collector) (piece report area : List ℕ) → One (Fed × List ℕ × List ℕ) (λ x. Feeds c report area piece x.0 x.1 x.2)
fed c piece report area =
    let d = feeding c report area piece in
    record {
      answer = (record { refused = feed_refusal c report area; eaten = d.eaten; reported = said_so d.said; state = state_of c.edition d }, written d.said report, d.area);
      allowed = tells c.edition (feed_refusal c report area) d report;
      same = λ r r' a b. let e = feeds_one c report area piece a b in λ i. (e.0 i, e.1 i, e.2 i);
    }

fell : (c : Collector) (report : List ℕ) → One (Fell × List ℕ) (λ x. Stills c report x.0 x.1)
fell c report =
    let d = stilling c report [] in
    record {
      answer = (record { refused = silence_refusal c report; reported = said_so d.said; state = state_of c.edition d }, written d.said report);
      allowed = falls c.edition (silence_refusal c report) d report;
      same = λ r r' a b. let e = stills_one c report a b in λ i. (e.0 i, e.1 i);
    }

forgot : (c : Collector) (s : ℕ) → One Forgot (λ r. Forgets c s r)
forgot c s = record { answer = forgot_by c s; allowed = forgets c s; same = λ r r' a b. forgets_one c s a b }

replayed : (c : Collector) (records report area : List ℕ) → One (Played × List ℕ × List ℕ) (λ x. Plays c report area records x.0 x.1 x.2)
replayed c o report area =
    let w = playing c report area o in
    record {
      answer = (played_by c.edition w, written w.left.said report, w.left.area);
      allowed = comes c.edition w report;
      same = λ x y a b. (let q = plays_one c report area o a b in λ i. (q.0 i, q.1 i, q.2 i));
    }

pub one_answer : OneAnswer
one_answer =
    record {
      header_step_lem = λ reg octet. equal ℕ _;
      header_run_lem = λ reg s. equal ℕ _;
      header_check_lem = λ s. equal ℕ _;
      data_step_lem = λ reg octet. equal ℕ _;
      data_run_lem = λ reg s. equal ℕ _;
      data_check_lem = λ s. equal ℕ _;
      receiver_fresh = equal _ _;
      receiver_feed = λ m piece. equal _ _;
      receiver_silence = λ m. equal _ _;
      frames_write = λ kind to from d out. laid _ _ out;
      npdu_read = λ s. equal _ _;
      npdu_write = λ h out. laid _ _ out;
      apdu_read = λ e s. equal _ _;
      apdu_write = λ e p out. laid _ _ out;
      apdu_fault_lem = λ e p. equal _ _;
      cut = λ e m w params out. parted e m w params out;
      cut_front = λ w n. equal _ _;
      items_list = λ s out. listed s out;
      items_item_at = λ s at. equal _ _;
      items_whole_at = λ s at. equal _ _;
      items_write = λ records source out. laid _ _ out;
      services_read = λ kind choice s. equal _ _;
      services_write = λ v value out. laid _ _ out;
      reader_new = λ s. placed s 0;
      reader_next = λ q. equal _ _;
      reader_moved = λ q at. placed q.params at;
      reader_first = λ s. equal _ _;
      rebuild_take = λ t g o area. given _;
      rebuild_forget = λ t s. freed t s;
      collector_fresh = λ e. equal _ _;
      collector_feed = λ c piece report area. fed c piece report area;
      collector_silence = λ c report. fell c report;
      collector_forget = λ c s. forgot c s;
      replay = λ c records report area. replayed c records report area;
    }
