-- What each call's contract says, as the check holds the call to it: cited, not copied. `Pre` is what a call asks of its caller, `Post` what it promises
-- of its answer and of everything lent. So a weaker promise, or a `requires`, in any crate below is refused here.
use Rattle.std.specs.Prelude.{ℕ, ◌≡◌, List, eqb, Result, ⊤}
use Rattle.std.specs.Borrow.{Bor, MutBor}
use base.Fml.{Lft}
use Rattle.octets.specs.Laid.{Laid}
use Rattle.octets.specs.Refusal.{numbered, fault_of}
use Rattle.octets.specs.declared.refusal.Refusal.{Refusal}
use Rattle.sums.specs.Sums.{header_step, header_run, header_check, data_step, data_run, data_sent}
use Rattle.frames.specs.Step.{fresh_of, feed_of, silence_of}
use Rattle.frames.specs.declared.Receiver.{Receiver}
use Rattle.frames.specs.declared.Fed as Piece
use Rattle.frames.specs.declared.Fell as Silence
use Rattle.frames.specs.Answers.{fed_by, fell_by}
use Rattle.frames.specs.Layout.{frame_octets}
use Rattle.frame_writer.specs.Fault as FrameFault
use Rattle.npdu.specs.Reading.{read_npdu, reading_of}
use Rattle.npdu.specs.Layout as Network
use Rattle.npdu.specs.Fault as NetworkFault
use Rattle.npdu.specs.declared.Npdu.{Npdu}
use Rattle.npdu.specs.declared.Header.{Header as NetworkHeader}
use Rattle.apdu.specs.Reading.{read_apdu}
use Rattle.apdu.specs.Layout as Header
use Rattle.apdu.specs.Fault as HeaderFault
use Rattle.apdu.specs.declared.Edition.{Edition}
use Rattle.apdu.specs.declared.Pdu.{Pdu}
use Rattle.cutter.specs.Calls as Cutter
use Rattle.cutter.specs.Fault.{front_fault}
use Rattle.cutter.specs.declared.Message.{Message}
use Rattle.cutter.specs.declared.Way.{Way}
use Rattle.cutter.specs.Calls.{parted_of}
use Rattle.cutter.specs.declared.Extent.{Extent}
use Rattle.items.specs.Grammar as Items
use Rattle.items.specs.Reading.{item_at, one_at, end_of}
use Rattle.items.specs.Records.{things_of}
use Rattle.items.specs.Listing.{Listed}
use Rattle.items.specs.Answers.{tally_of, one_of}
use Rattle.items.specs.declared.Unlisted.{Unlisted}
use Rattle.item_judge.specs.Judge.{write_fault, records_in}
use Rattle.services.specs.Reading.{read_service}
use Rattle.services.specs.declared.Service.{Service}
use Rattle.service_writer.specs.Layout as ServiceWriter
use Rattle.service_writer.specs.Fault as ServiceFault
use Rattle.reader.specs.Reading.{step_of}
use Rattle.reader.specs.Answers.{answer_of}
use Rattle.reader.specs.declared.Step.{Step as ReaderStep}
use Rattle.rebuild.specs.Calls as Rebuild
use Rattle.rebuild.specs.declared.Slots.{Slots}
use Rattle.rebuild.specs.declared.Segment.{Segment as Head}
use Rattle.rebuild.specs.declared.Taken as Rebuilt
use Rattle.collector.specs.Calls.{fresh_collector, Feeds, Stills, Forgets}
use Rattle.collector.specs.declared.Collector.{Collector}
use Rattle.collector.specs.declared.Fed as Eaten
use Rattle.collector.specs.declared.Fell as Stilled
use Rattle.collector.specs.Answers.{fed_of, fell_of, forgot_of}
use Rattle.playback.specs.Calls.{Plays}
use Rattle.playback.specs.Answers.{played_of}
use Rattle.playback.specs.declared.Played.{Played}
use Rattle.records.specs.Network.{npdu_size, npdu_record, npdu_at}
use Rattle.records.specs.Application.{apdu_size, apdu_at}
use Rattle.records.specs.Service.{service_size, service_at}
use Rattle.state.specs.Edition.{edition_of}
use Rattle.state.specs.Calls.{Saves}
use Rattle.hitchbarley.specs.Trunk as Trunk
use Rattle.hitchbarley.specs.Replay.{Replays}
use Rattle.hitchbarley.specs.Answers.{Writes, Fills, FillsTo}
use Rattle.hitchbarley.specs.Headers.{apdu_good, apdu_number, apdu_octets, apdu_params, npdu_fault, apdu_fault}
use Rattle.hitchbarley.specs.Items.{Lists, Steps, step_good, step_number, step_record, step_place}
use Rattle.hitchbarley.specs.Services.{service_good, service_number, service_octets, service_fault}
use Rattle.hitchbarley.specs.Writers.{way_at, Cuts}
use Rattle.sums.proofs.header_step.Reads as header_step_call
use Rattle.sums.proofs.header_run.Reads as header_run_call
use Rattle.sums.proofs.header_check.Reads as header_check_call
use Rattle.sums.proofs.data_step.Reads as data_step_call
use Rattle.sums.proofs.data_run.Reads as data_run_call
use Rattle.sums.proofs.data_check.Reads as data_check_call
use Rattle.frames.proofs.Receiver.fresh.Reads as receiver_fresh_call
use Rattle.frames.proofs.Receiver.feed.Reads as receiver_feed_call
use Rattle.frames.proofs.Receiver.silence.Reads as receiver_silence_call
use Rattle.frame_writer.proofs.write.Reads as frames_write_call
use Rattle.npdu.proofs.read.Reads as npdu_read_call
use Rattle.npdu.proofs.write.Reads as npdu_write_call
use Rattle.apdu.proofs.read.Reads as apdu_read_call
use Rattle.apdu_writer.proofs.write.Reads as apdu_write_call
use Rattle.apdu_writer.proofs.judge.Reads as apdu_judge_call
use Rattle.cutter.proofs.cut.Reads as cut_call
use Rattle.cutter.proofs.judge_front.Reads as cut_front_call
use Rattle.items.proofs.list.Reads as items_list_call
use Rattle.items.proofs.item_at.Reads as items_item_at_call
use Rattle.items.proofs.whole_at.Reads as items_whole_at_call
use Rattle.item_writer.proofs.write.Reads as items_write_call
use Rattle.services.proofs.read.Reads as services_read_call
use Rattle.service_writer.proofs.write.Reads as services_write_call
use Rattle.reader.proofs.first.Reads as reader_first_call
use Rattle.reader.proofs.step_at.Reads as reader_step_at_call
use Rattle.reader.proofs.step_from.Reads as reader_step_from_call
use Rattle.rebuild.proofs.take.Reads as rebuild_take_call
use Rattle.rebuild.proofs.forget.Reads as rebuild_forget_call
use Rattle.collector.proofs.Collector.fresh.Reads as collector_fresh_call
use Rattle.collector.proofs.Collector.feed.Reads as collector_feed_call
use Rattle.collector.proofs.Collector.silence.Reads as collector_silence_call
use Rattle.collector.proofs.Collector.forget.Reads as collector_forget_call
use Rattle.playback.proofs.replay.Reads as replay_call
use Rattle.hitchbarley.proofs.sum_calls.hb_header_check.Reads as hb_header_check_call
use Rattle.hitchbarley.proofs.sum_calls.hb_data_check.Reads as hb_data_check_call
use Rattle.hitchbarley.proofs.sum_calls.hb_header_run.Reads as hb_header_run_call
use Rattle.hitchbarley.proofs.sum_calls.hb_data_run.Reads as hb_data_run_call
use Rattle.hitchbarley.proofs.trunk_calls.hb_fresh.Reads as hb_fresh_call
use Rattle.hitchbarley.proofs.trunk_calls.hb_feed.Reads as hb_feed_call
use Rattle.hitchbarley.proofs.trunk_calls.hb_silence.Reads as hb_silence_call
use Rattle.hitchbarley.proofs.trunk_calls.hb_forget.Reads as hb_forget_call
use Rattle.hitchbarley.proofs.replay_calls.hb_replay.Reads as hb_replay_call
use Rattle.hitchbarley.proofs.header_calls.hb_npdu_read.Reads as hb_npdu_read_call
use Rattle.hitchbarley.proofs.header_calls.hb_npdu_write.Reads as hb_npdu_write_call
use Rattle.hitchbarley.proofs.header_calls.hb_apdu_read.Reads as hb_apdu_read_call
use Rattle.hitchbarley.proofs.header_calls.hb_apdu_write.Reads as hb_apdu_write_call
use Rattle.hitchbarley.proofs.item_calls.hb_items_list.Reads as hb_items_list_call
use Rattle.hitchbarley.proofs.item_calls.hb_item_next.Reads as hb_item_next_call
use Rattle.hitchbarley.proofs.item_calls.hb_item_step.Reads as hb_item_step_call
use Rattle.hitchbarley.proofs.item_calls.hb_items_write.Reads as hb_items_write_call
use Rattle.hitchbarley.proofs.service_calls.hb_service_read.Reads as hb_service_read_call
use Rattle.hitchbarley.proofs.service_calls.hb_service_write.Reads as hb_service_write_call
use Rattle.hitchbarley.proofs.writer_calls.hb_frame_write.Reads as hb_frame_write_call
use Rattle.hitchbarley.proofs.writer_calls.hb_cut.Reads as hb_cut_call

-- the call asks nothing of its caller; all that it may answer and leave is what the page says, and all that the page says it may
pub record Contract (Pre Post Page : Type 0) : Type 0 where
  pub asks_nothing : Pre
  pub says : Post → Page
  pub no_more : Page → Post

-- the library's calls; an area x that is lent to be written is x before and x' after. κ1, κ2, .. are the lifetimes of the loans
pub record Contracts : Type 0 where
  pub header_step_lem : (reg octet : ℕ) (r : ℕ)
      → Contract (header_step_call.Pre tt (reg, (octet, tt))) (header_step_call.Post tt (reg, (octet, tt)) r (reg, (octet, tt)))
      (r ≡ header_step reg octet)
  pub header_run_lem : (κ1 : Lft) (reg : ℕ) (s : Bor (List ℕ)) (r : ℕ)
      → Contract (header_run_call.Pre (κ1, tt) (reg, (s, tt))) (header_run_call.Post (κ1, tt) (reg, (s, tt)) r (reg, (s, tt)))
      (r ≡ header_run reg s.now)
  pub header_check_lem : (κ1 : Lft) (s : Bor (List ℕ)) (r : ℕ)
      → Contract (header_check_call.Pre (κ1, tt) (s, tt)) (header_check_call.Post (κ1, tt) (s, tt) r (s, tt))
      (r ≡ header_check s.now)
  pub data_step_lem : (reg octet : ℕ) (r : ℕ)
      → Contract (data_step_call.Pre tt (reg, (octet, tt))) (data_step_call.Post tt (reg, (octet, tt)) r (reg, (octet, tt)))
      (r ≡ data_step reg octet)
  pub data_run_lem : (κ1 : Lft) (reg : ℕ) (s : Bor (List ℕ)) (r : ℕ)
      → Contract (data_run_call.Pre (κ1, tt) (reg, (s, tt))) (data_run_call.Post (κ1, tt) (reg, (s, tt)) r (reg, (s, tt)))
      (r ≡ data_run reg s.now)
  pub data_check_lem : (κ1 : Lft) (s : Bor (List ℕ)) (r : ℕ)
      → Contract (data_check_call.Pre (κ1, tt) (s, tt)) (data_check_call.Post (κ1, tt) (s, tt) r (s, tt))
      (r ≡ data_sent s.now)
  pub receiver_fresh : (r : Receiver)
      → Contract (receiver_fresh_call.Pre tt tt) (receiver_fresh_call.Post tt tt r tt)
      (r ≡ fresh_of)
  pub receiver_feed : (κ1 : Lft) (m : Receiver) (piece : Bor (List ℕ)) (r : Result Piece.Fed Refusal)
      → Contract (receiver_feed_call.Pre (κ1, tt) (m, (piece, tt))) (receiver_feed_call.Post (κ1, tt) (m, (piece, tt)) r (m, (piece, tt)))
      (fed_by m r ≡ feed_of m piece.now)
  pub receiver_silence : (m : Receiver) (r : Result Silence.Fell Refusal)
      → Contract (receiver_silence_call.Pre tt (m, tt)) (receiver_silence_call.Post tt (m, tt) r (m, tt))
      (fell_by m r ≡ silence_of m)
  pub frames_write : (κ1 κ2 : Lft) (kind to from : ℕ) (d : Bor (List ℕ)) (out out' : MutBor (List ℕ)) (r : Result ℕ Refusal)
      → Contract (frames_write_call.Pre (κ1, (κ2, tt)) (kind, (to, (from, (d, (out, tt)))))) (frames_write_call.Post (κ1, (κ2, tt)) (kind, (to, (from, (d, (out, tt))))) r (kind, (to, (from, (d, (out', tt))))))
      (Laid (FrameFault.fault_of d.now) (frame_octets kind to from d.now) out.now (numbered r) out'.now)
  pub npdu_read : (κ1 : Lft) (s : Bor (List ℕ)) (r : Result NetworkHeader Refusal)
      → Contract (npdu_read_call.Pre (κ1, tt) (s, tt)) (npdu_read_call.Post (κ1, tt) (s, tt) r (s, tt))
      (reading_of r ≡ read_npdu s.now)
  pub npdu_write : (κ1 : Lft) (h : Npdu) (out out' : MutBor (List ℕ)) (r : Result ℕ Refusal)
      → Contract (npdu_write_call.Pre (κ1, tt) (h, (out, tt))) (npdu_write_call.Post (κ1, tt) (h, (out, tt)) r (h, (out', tt)))
      (Laid (NetworkFault.fault_of h) (Network.encode h) out.now (numbered r) out'.now)
  pub apdu_read : (κ1 : Lft) (e : Edition) (s : Bor (List ℕ)) (r : Result Pdu Refusal)
      → Contract (apdu_read_call.Pre (κ1, tt) (e, (s, tt))) (apdu_read_call.Post (κ1, tt) (e, (s, tt)) r (e, (s, tt)))
      (numbered r ≡ read_apdu e s.now)
  pub apdu_write : (κ1 : Lft) (e : Edition) (p : Pdu) (out out' : MutBor (List ℕ)) (r : Result ℕ Refusal)
      → Contract (apdu_write_call.Pre (κ1, tt) (e, (p, (out, tt)))) (apdu_write_call.Post (κ1, tt) (e, (p, (out, tt))) r (e, (p, (out', tt))))
      (Laid (HeaderFault.fault_of e p) (Header.header p) out.now (numbered r) out'.now)
  pub apdu_fault_lem : (e : Edition) (p : Pdu) (r : Result ⊤ Refusal)
      → Contract (apdu_judge_call.Pre tt (e, (p, tt))) (apdu_judge_call.Post tt (e, (p, tt)) r (e, (p, tt)))
      (fault_of r ≡ HeaderFault.fault_of e p)
  pub cut : (κ1 κ2 : Lft) (e : Edition) (m : Message) (w : Way) (params : Bor (List ℕ)) (out out' : MutBor (List ℕ)) (r : Result Extent Refusal)
      → Contract (cut_call.Pre (κ1, (κ2, tt)) (e, (m, (w, (params, (out, tt)))))) (cut_call.Post (κ1, (κ2, tt)) (e, (m, (w, (params, (out, tt))))) r (e, (m, (w, (params, (out', tt))))))
      (Cutter.Cuts e m w params.now out.now (parted_of r) out'.now)
  pub cut_front : (w : Way) (n : ℕ) (r : Result ⊤ Refusal)
      → Contract (cut_front_call.Pre tt (w, (n, tt))) (cut_front_call.Post tt (w, (n, tt)) r (w, (n, tt)))
      (fault_of r ≡ front_fault w n)
  pub items_list : (κ1 κ2 : Lft) (s : Bor (List ℕ)) (out out' : MutBor (List ℕ)) (r : Result ℕ Unlisted)
      → Contract (items_list_call.Pre (κ1, (κ2, tt)) (s, (out, tt))) (items_list_call.Post (κ1, (κ2, tt)) (s, (out, tt)) r (s, (out', tt)))
      (Listed s.now out.now (tally_of r) out'.now)
  pub items_item_at : (κ1 : Lft) (s : Bor (List ℕ)) (at : ℕ) (r : Result ℕ Refusal)
      → Contract (items_item_at_call.Pre (κ1, tt) (s, (at, tt))) (items_item_at_call.Post (κ1, tt) (s, (at, tt)) r (s, (at, tt)))
      (one_of r ≡ end_of (one_at s.now at))
  pub items_whole_at : (κ1 : Lft) (s : Bor (List ℕ)) (at : ℕ) (r : Result ℕ Refusal)
      → Contract (items_whole_at_call.Pre (κ1, tt) (s, (at, tt))) (items_whole_at_call.Post (κ1, tt) (s, (at, tt)) r (s, (at, tt)))
      (one_of r ≡ end_of (item_at s.now at))
  pub items_write : (κ1 κ2 κ3 : Lft) (records source : Bor (List ℕ)) (out out' : MutBor (List ℕ)) (r : Result ℕ Refusal)
      → Contract (items_write_call.Pre (κ1, (κ2, (κ3, tt))) (records, (source, (out, tt)))) (items_write_call.Post (κ1, (κ2, (κ3, tt))) (records, (source, (out, tt))) r (records, (source, (out', tt))))
      (Laid (write_fault records.now source.now) (Items.encode_all (things_of source.now (records_in records.now))) out.now (numbered r) out'.now)
  pub services_read : (κ1 : Lft) (kind choice : ℕ) (s : Bor (List ℕ)) (r : Result Service Refusal)
      → Contract (services_read_call.Pre (κ1, tt) (kind, (choice, (s, tt)))) (services_read_call.Post (κ1, tt) (kind, (choice, (s, tt))) r (kind, (choice, (s, tt))))
      (numbered r ≡ read_service kind choice s.now)
  pub services_write : (κ1 κ2 : Lft) (v : Service) (value : Bor (List ℕ)) (out out' : MutBor (List ℕ)) (r : Result ℕ Refusal)
      → Contract (services_write_call.Pre (κ1, (κ2, tt)) (v, (value, (out, tt)))) (services_write_call.Post (κ1, (κ2, tt)) (v, (value, (out, tt))) r (v, (value, (out', tt))))
      (Laid (ServiceFault.fault_of v value.now) (ServiceWriter.octets_of v value.now) out.now (numbered r) out'.now)
  pub reader_first : (κ1 : Lft) (s : Bor (List ℕ)) (r : Result ReaderStep Refusal)
      → Contract (reader_first_call.Pre (κ1, tt) (s, tt)) (reader_first_call.Post (κ1, tt) (s, tt) r (s, tt))
      (answer_of r ≡ step_of s.now 0)
  pub reader_step_at : (κ1 : Lft) (s : Bor (List ℕ)) (at : ℕ) (r : Result ReaderStep Refusal)
      → Contract (reader_step_at_call.Pre (κ1, tt) (s, (at, tt))) (reader_step_at_call.Post (κ1, tt) (s, (at, tt)) r (s, (at, tt)))
      (answer_of r ≡ step_of s.now at)
  -- `next`, of the reader that `new` made and `moved` brought to the place: those three hold a reference and have no plain reading
  pub reader_step_from : (κ1 : Lft) (s : Bor (List ℕ)) (at : ℕ) (r : Result ReaderStep Refusal)
      → Contract (reader_step_from_call.Pre (κ1, tt) (s, (at, tt))) (reader_step_from_call.Post (κ1, tt) (s, (at, tt)) r (s, (at, tt)))
      (answer_of r ≡ step_of s.now at)
  pub rebuild_take : (κ1 κ2 : Lft) (t : Slots) (g : Head) (o : Bor (List ℕ)) (area area' : MutBor (List ℕ)) (r : Rebuilt.Taken)
      → Contract (rebuild_take_call.Pre (κ1, (κ2, tt)) (t, (g, (o, (area, tt))))) (rebuild_take_call.Post (κ1, (κ2, tt)) (t, (g, (o, (area, tt)))) r (t, (g, (o, (area', tt)))))
      (Rebuild.Gives (Rebuild.taking t g o.now area.now) (Rebuild.taken_of r) area'.now)
  pub rebuild_forget : (t : Slots) (s : ℕ) (r : Result Slots Refusal)
      → Contract (rebuild_forget_call.Pre tt (t, (s, tt))) (rebuild_forget_call.Post tt (t, (s, tt)) r (t, (s, tt)))
      (Rebuild.Forgets t s (Rebuild.forgot_of t r))
  pub collector_fresh : (e : Edition) (r : Collector)
      → Contract (collector_fresh_call.Pre tt (e, tt)) (collector_fresh_call.Post tt (e, tt) r (e, tt))
      (r ≡ fresh_collector e)
  pub collector_feed : (κ1 κ2 κ3 : Lft) (c : Collector) (piece : Bor (List ℕ)) (report report' area area' : MutBor (List ℕ)) (r : Result Eaten.Fed Refusal)
      → Contract (collector_feed_call.Pre (κ1, (κ2, (κ3, tt))) (c, (piece, (report, (area, tt))))) (collector_feed_call.Post (κ1, (κ2, (κ3, tt))) (c, (piece, (report, (area, tt)))) r (c, (piece, (report', (area', tt)))))
      (Feeds c report.now area.now piece.now (fed_of c r) report'.now area'.now)
  pub collector_silence : (κ1 : Lft) (c : Collector) (report report' : MutBor (List ℕ)) (r : Result Stilled.Fell Refusal)
      → Contract (collector_silence_call.Pre (κ1, tt) (c, (report, tt))) (collector_silence_call.Post (κ1, tt) (c, (report, tt)) r (c, (report', tt)))
      (Stills c report.now (fell_of c r) report'.now)
  pub collector_forget : (c : Collector) (s : ℕ) (r : Result Collector Refusal)
      → Contract (collector_forget_call.Pre tt (c, (s, tt))) (collector_forget_call.Post tt (c, (s, tt)) r (c, (s, tt)))
      (Forgets c s (forgot_of c r))
  pub replay : (κ1 κ2 κ3 : Lft) (c : Collector) (records : Bor (List ℕ)) (report report' area area' : MutBor (List ℕ)) (r : Played)
      → Contract (replay_call.Pre (κ1, (κ2, (κ3, tt))) (c, (records, (report, (area, tt))))) (replay_call.Post (κ1, (κ2, (κ3, tt))) (c, (records, (report, (area, tt)))) r (c, (records, (report', (area', tt)))))
      (Plays c report.now area.now records.now (played_of r) report'.now area'.now)

-- the calls that C and Rust link, as hitchbarley has them: hitchbarley_c, which no crate can stand on, shows that its exports promise the same (proofs/Exports)
pub record ExportedContracts : Type 0 where
  pub hb_header_check : (κ1 : Lft) (head : Bor (List ℕ)) (r : ℕ)
      → Contract (hb_header_check_call.Pre (κ1, tt) (head, tt)) (hb_header_check_call.Post (κ1, tt) (head, tt) r (head, tt))
      (r ≡ header_check head.now)
  pub hb_data_check : (κ1 : Lft) (payload : Bor (List ℕ)) (r : ℕ)
      → Contract (hb_data_check_call.Pre (κ1, tt) (payload, tt)) (hb_data_check_call.Post (κ1, tt) (payload, tt) r (payload, tt))
      (r ≡ data_sent payload.now)
  pub hb_header_run : (κ1 : Lft) (register : ℕ) (piece : Bor (List ℕ)) (r : ℕ)
      → Contract (hb_header_run_call.Pre (κ1, tt) (register, (piece, tt))) (hb_header_run_call.Post (κ1, tt) (register, (piece, tt)) r (register, (piece, tt)))
      (r ≡ header_run register piece.now)
  pub hb_data_run : (κ1 : Lft) (register : ℕ) (piece : Bor (List ℕ)) (r : ℕ)
      → Contract (hb_data_run_call.Pre (κ1, tt) (register, (piece, tt))) (hb_data_run_call.Post (κ1, tt) (register, (piece, tt)) r (register, (piece, tt)))
      (r ≡ data_run register piece.now)
  pub hb_fresh : (κ1 : Lft) (state state' : MutBor (List ℕ)) (later : ℕ) (r : ℕ)
      → Contract (hb_fresh_call.Pre (κ1, tt) (state, (later, tt))) (hb_fresh_call.Post (κ1, tt) (state, (later, tt)) r (state', (later, tt)))
      (Saves (fresh_collector (edition_of later)) state.now r state'.now)
  pub hb_feed : (κ1 κ2 κ3 κ4 κ5 κ6 : Lft) (state state' : MutBor (List ℕ)) (piece : Bor (List ℕ)) (report report' area area' : MutBor (List ℕ)) (eaten eaten' reported reported' : MutBor ℕ) (r : ℕ)
      → Contract (hb_feed_call.Pre (κ1, (κ2, (κ3, (κ4, (κ5, (κ6, tt)))))) (state, (piece, (report, (area, (eaten, (reported, tt))))))) (hb_feed_call.Post (κ1, (κ2, (κ3, (κ4, (κ5, (κ6, tt)))))) (state, (piece, (report, (area, (eaten, (reported, tt)))))) r (state', (piece, (report', (area', (eaten', (reported', tt)))))))
      (Trunk.Feeds state.now report.now area.now piece.now r eaten'.now reported'.now state'.now report'.now area'.now)
  pub hb_silence : (κ1 κ2 κ3 : Lft) (state state' report report' : MutBor (List ℕ)) (reported reported' : MutBor ℕ) (r : ℕ)
      → Contract (hb_silence_call.Pre (κ1, (κ2, (κ3, tt))) (state, (report, (reported, tt)))) (hb_silence_call.Post (κ1, (κ2, (κ3, tt))) (state, (report, (reported, tt))) r (state', (report', (reported', tt))))
      (Trunk.Stills state.now report.now r reported'.now state'.now report'.now)
  pub hb_forget : (κ1 : Lft) (state state' : MutBor (List ℕ)) (slot : ℕ) (r : ℕ)
      → Contract (hb_forget_call.Pre (κ1, tt) (state, (slot, tt))) (hb_forget_call.Post (κ1, tt) (state, (slot, tt)) r (state', (slot, tt)))
      (Trunk.Forgets state.now slot r state'.now)
  pub hb_replay : (κ1 κ2 κ3 κ4 κ5 κ6 : Lft) (state state' : MutBor (List ℕ)) (records : Bor (List ℕ)) (report report' area area' : MutBor (List ℕ)) (eaten eaten' reported reported' : MutBor ℕ) (r : ℕ)
      → Contract (hb_replay_call.Pre (κ1, (κ2, (κ3, (κ4, (κ5, (κ6, tt)))))) (state, (records, (report, (area, (eaten, (reported, tt))))))) (hb_replay_call.Post (κ1, (κ2, (κ3, (κ4, (κ5, (κ6, tt)))))) (state, (records, (report, (area, (eaten, (reported, tt)))))) r (state', (records, (report', (area', (eaten', (reported', tt)))))))
      (Replays state.now report.now area.now records.now r eaten'.now reported'.now state'.now report'.now area'.now)
  pub hb_npdu_read : (κ1 κ2 κ3 : Lft) (octets : Bor (List ℕ)) (fields fields' : MutBor (List ℕ)) (next next' : MutBor ℕ) (r : ℕ)
      → Contract (hb_npdu_read_call.Pre (κ1, (κ2, (κ3, tt))) (octets, (fields, (next, tt)))) (hb_npdu_read_call.Post (κ1, (κ2, (κ3, tt))) (octets, (fields, (next, tt))) r (octets, (fields', (next', tt))))
      ((let h = read_npdu octets.now in FillsTo npdu_size (eqb h.refused 0) h.refused (npdu_record h.head) h.next fields.now r next'.now fields'.now))
  pub hb_npdu_write : (κ1 κ2 κ3 : Lft) (fields : Bor (List ℕ)) (out out' : MutBor (List ℕ)) (wrote wrote' : MutBor ℕ) (r : ℕ)
      → Contract (hb_npdu_write_call.Pre (κ1, (κ2, (κ3, tt))) (fields, (out, (wrote, tt)))) (hb_npdu_write_call.Post (κ1, (κ2, (κ3, tt))) (fields, (out, (wrote, tt))) r (fields, (out', (wrote', tt))))
      (Writes (npdu_fault fields.now) (Network.encode (npdu_at fields.now)) out.now r wrote'.now out'.now)
  pub hb_apdu_read : (κ1 κ2 κ3 : Lft) (octets : Bor (List ℕ)) (later : ℕ) (fields fields' : MutBor (List ℕ)) (next next' : MutBor ℕ) (r : ℕ)
      → Contract (hb_apdu_read_call.Pre (κ1, (κ2, (κ3, tt))) (octets, (later, (fields, (next, tt))))) (hb_apdu_read_call.Post (κ1, (κ2, (κ3, tt))) (octets, (later, (fields, (next, tt)))) r (octets, (later, (fields', (next', tt)))))
      ((let a = read_apdu (edition_of later) octets.now in FillsTo apdu_size (apdu_good a) (apdu_number a) (apdu_octets a) (apdu_params a) fields.now r next'.now fields'.now))
  pub hb_apdu_write : (κ1 κ2 κ3 : Lft) (fields : Bor (List ℕ)) (later : ℕ) (out out' : MutBor (List ℕ)) (wrote wrote' : MutBor ℕ) (r : ℕ)
      → Contract (hb_apdu_write_call.Pre (κ1, (κ2, (κ3, tt))) (fields, (later, (out, (wrote, tt))))) (hb_apdu_write_call.Post (κ1, (κ2, (κ3, tt))) (fields, (later, (out, (wrote, tt)))) r (fields, (later, (out', (wrote', tt)))))
      (Writes (apdu_fault (edition_of later) fields.now) (Header.header (apdu_at fields.now)) out.now r wrote'.now out'.now)
  pub hb_items_list : (κ1 κ2 κ3 : Lft) (octets : Bor (List ℕ)) (listed listed' : MutBor (List ℕ)) (count count' : MutBor ℕ) (r : ℕ)
      → Contract (hb_items_list_call.Pre (κ1, (κ2, (κ3, tt))) (octets, (listed, (count, tt)))) (hb_items_list_call.Post (κ1, (κ2, (κ3, tt))) (octets, (listed, (count, tt))) r (octets, (listed', (count', tt))))
      (Lists octets.now listed.now r count'.now listed'.now)
  pub hb_item_next : (κ1 κ2 : Lft) (octets : Bor (List ℕ)) (at : ℕ) (next next' : MutBor ℕ) (r : ℕ)
      → Contract (hb_item_next_call.Pre (κ1, (κ2, tt)) (octets, (at, (next, tt)))) (hb_item_next_call.Post (κ1, (κ2, tt)) (octets, (at, (next, tt))) r (octets, (at, (next', tt))))
      (Steps octets.now at r next'.now)
  pub hb_item_step : (κ1 κ2 κ3 : Lft) (octets : Bor (List ℕ)) (at : ℕ) (item item' : MutBor (List ℕ)) (next next' : MutBor ℕ) (r : ℕ)
      → Contract (hb_item_step_call.Pre (κ1, (κ2, (κ3, tt))) (octets, (at, (item, (next, tt))))) (hb_item_step_call.Post (κ1, (κ2, (κ3, tt))) (octets, (at, (item, (next, tt)))) r (octets, (at, (item', (next', tt)))))
      ((let x = step_of octets.now at in FillsTo 12 (step_good x) (step_number x) (step_record x) (step_place x) item.now r next'.now item'.now))
  pub hb_items_write : (κ1 κ2 κ3 κ4 : Lft) (listed source : Bor (List ℕ)) (out out' : MutBor (List ℕ)) (wrote wrote' : MutBor ℕ) (r : ℕ)
      → Contract (hb_items_write_call.Pre (κ1, (κ2, (κ3, (κ4, tt)))) (listed, (source, (out, (wrote, tt))))) (hb_items_write_call.Post (κ1, (κ2, (κ3, (κ4, tt)))) (listed, (source, (out, (wrote, tt)))) r (listed, (source, (out', (wrote', tt)))))
      (Writes (write_fault listed.now source.now) (Items.encode_all (things_of source.now (records_in listed.now))) out.now r wrote'.now out'.now)
  pub hb_service_read : (κ1 κ2 : Lft) (kind choice : ℕ) (params : Bor (List ℕ)) (fields fields' : MutBor (List ℕ)) (r : ℕ)
      → Contract (hb_service_read_call.Pre (κ1, (κ2, tt)) (kind, (choice, (params, (fields, tt))))) (hb_service_read_call.Post (κ1, (κ2, tt)) (kind, (choice, (params, (fields, tt)))) r (kind, (choice, (params, (fields', tt)))))
      ((let a = read_service kind choice params.now in Fills service_size (service_good a) (service_number a) (service_octets a) fields.now r fields'.now))
  pub hb_service_write : (κ1 κ2 κ3 κ4 : Lft) (fields value : Bor (List ℕ)) (out out' : MutBor (List ℕ)) (wrote wrote' : MutBor ℕ) (r : ℕ)
      → Contract (hb_service_write_call.Pre (κ1, (κ2, (κ3, (κ4, tt)))) (fields, (value, (out, (wrote, tt))))) (hb_service_write_call.Post (κ1, (κ2, (κ3, (κ4, tt)))) (fields, (value, (out, (wrote, tt)))) r (fields, (value, (out', (wrote', tt)))))
      (Writes (service_fault fields.now value.now) (ServiceWriter.octets_of (service_at fields.now) value.now) out.now r wrote'.now out'.now)
  pub hb_frame_write : (κ1 κ2 κ3 : Lft) (kind destination source : ℕ) (payload : Bor (List ℕ)) (out out' : MutBor (List ℕ)) (wrote wrote' : MutBor ℕ) (r : ℕ)
      → Contract (hb_frame_write_call.Pre (κ1, (κ2, (κ3, tt))) (kind, (destination, (source, (payload, (out, (wrote, tt))))))) (hb_frame_write_call.Post (κ1, (κ2, (κ3, tt))) (kind, (destination, (source, (payload, (out, (wrote, tt)))))) r (kind, (destination, (source, (payload, (out', (wrote', tt)))))))
      (Writes (FrameFault.fault_of payload.now) (frame_octets kind destination source payload.now) out.now r wrote'.now out'.now)
  pub hb_cut : (κ1 κ2 κ3 κ4 κ5 : Lft) (fields : Bor (List ℕ)) (later reply priority each : ℕ) (params : Bor (List ℕ)) (out out' : MutBor (List ℕ)) (wrote wrote' segments segments' : MutBor ℕ) (r : ℕ)
      → Contract (hb_cut_call.Pre (κ1, (κ2, (κ3, (κ4, (κ5, tt))))) (fields, (later, (reply, (priority, (each, (params, (out, (wrote, (segments, tt)))))))))) (hb_cut_call.Post (κ1, (κ2, (κ3, (κ4, (κ5, tt))))) (fields, (later, (reply, (priority, (each, (params, (out, (wrote, (segments, tt))))))))) r (fields, (later, (reply, (priority, (each, (params, (out', (wrote', (segments', tt))))))))))
      (Cuts (edition_of later) fields.now (way_at fields.now reply priority each) params.now out.now r wrote'.now segments'.now out'.now)
