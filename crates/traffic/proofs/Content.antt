-- What the collector hears of one segment of a message that was cut: the segment itself, and the report of each answer to it.
use Prim.Native.Nat.{ℕ, ◌+◌, ◌*◌}
use native.Mathlib.Omega.{arith}
use mathlib.Core.Path.{◌≡◌, refl, sym, ap, ◌∙◌}
use mathlib.Core.Logic.{◌⊎◌, inl, inr}
use mathlib.Core.Bool.{Bool, true, false}
use mathlib.Core.List.{List, ◌++◌}
use mathlib.Core.Option.{some}
use lib.ListN.{drop}
use lib.Seq.{drop_at}
use Rattle.std.specs.Prelude.{Ok}
use Rattle.octets.specs.Choice.{pick, given}
use Rattle.octets.specs.Reading.{oct}
use Rattle.npdu.specs.Address.{absent, part_address, source_of, destination_of}
use Rattle.npdu.specs.Exact.{accepted}
use Rattle.npdu.specs.Fault as Network
use Rattle.npdu.specs.Layout.{encode, shown as shownHead}
use Rattle.npdu.specs.Reading.{read_npdu}
use Rattle.npdu.specs.Valid.{Kept}
use Rattle.npdu.specs.declared.Header.{Header}
use Rattle.npdu.proofs.Exact.{reads_written}
use Rattle.npdu.proofs.Sizes.{fault_none}
use Rattle.apdu.specs.Fault as Header
use Rattle.apdu.specs.Fault.{shown, shown_segment}
use Rattle.apdu.specs.Fields.{params_at}
use Rattle.apdu.specs.Layout.{header, flag, first_octet}
use Rattle.apdu.specs.Reading.{read_apdu}
use Rattle.apdu.specs.Valid.{Follows}
use Rattle.apdu.specs.declared.Edition.{Edition}
use Rattle.apdu.proofs.Exact.{written_reads_back}
use Rattle.apdu.proofs.Headers.{header_length_lem}
use Rattle.items.specs.Reading.{items_of}
use Rattle.trunk.specs.Reading.Out.{good}
use Rattle.messages.specs.Slots as Slots
use Rattle.messages.specs.Slots.{room}
use Rattle.messages.specs.Rows.{Answer}
use Rattle.messages.specs.Rows.Answer.{taken, completed}
use Rattle.rebuild.specs.View.{nowhere}
use Rattle.rebuild.specs.Calls.{step_of}
use Rattle.reports.specs.Layout.{report_octets}
use Rattle.reports.specs.Kinds.{segment_taken, complete}
use Rattle.collector.specs.Heard.{frame_of, heard_of, Route, route_of, parts_of}
use Rattle.collector.specs.Frame.{by_tags, Content, apdu_content, npdu_content, content_of, segment_in, step_report, answered_report, segment_at, answered_at}
use Rattle.collector.specs.Frame.Content.{message}
use Rattle.collector.proofs.Content.{content_5, content_6, npdu_apdu, apdu_good_lem}
use Rattle.cutter.specs.Layout.{network_head, pdu_of, npdu_of}
use Rattle.cutter.specs.declared.Message.{Message}
use Rattle.cutter.specs.declared.Message.TheVariants.{Request, ComplexAck}
use Rattle.cutter.specs.declared.Way.{Way}
use Rattle.cutter.proofs.Lengths.{network_length}
use Rattle.traffic.specs.Heard.{first_octet_of, apdu_of, parts_in, segment_of}

-- ---- the network header without addresses
module _ (w : Way) where
  kept : Kept (network_head w)
  kept = record { dest_kept = refl; source_kept = refl }

  head_shown : shownHead (network_head w) ≡ network_head w
  unfolding shownHead given
  head_shown = refl

  pub head_read : (t : List ℕ) → Network.fault_of (network_head w) ≡ 0 → accepted 2 (network_head w) ≡ read_npdu (encode (network_head w) ++ t)
  head_read t z = sym (reads_written (network_head w) t (fault_none (network_head w) z) kept ∙ rw (network_length w, head_shown))

  pub behind_head : (t : List ℕ) → drop 2 (encode (network_head w) ++ t) ≡ t
  behind_head t = drop_at (encode (network_head w)) t 2 (network_length w)

-- no address on either side
abbrev direct : Route
direct = record { source = nowhere; destination = nowhere }

direct_route : (w : Way) → route_of (network_head w) ≡ direct
unfolding source_of destination_of part_address absent given
direct_route w = refl

-- ---- the header of a segment
-- its first octet
first_request : (more sa : Bool) → 8 + pick more 4 0 + pick sa 2 0 ≡ first_octet 0 true more sa false
unfolding first_octet flag given
first_request true true = refl
first_request true false = refl
first_request false true = refl
first_request false false = refl

first_ack : (more : Bool) → 48 + 8 + pick more 4 0 ≡ first_octet 3 true more false false
unfolding first_octet flag given
first_ack true = refl
first_ack false = refl

module _ (window : ℕ) (more : Bool) (k : ℕ) (part : List ℕ) where
  pdu_shown : (m : Message) → shown (pdu_of m window more k) ≡ pdu_of m window more k
  unfolding shown_segment given
  pdu_shown (Request q) = refl
  pdu_shown (ComplexAck q) = refl

  follows : (m : Message) → Follows (pdu_of m window more k) part
  follows (Request q) = tt
  follows (ComplexAck q) = tt

  pub header_read : (e : Edition) (m : Message) → Header.fault_of e (pdu_of m window more k) ≡ 0 → read_apdu e (header (pdu_of m window more k) ++ part) ≡ Ok (pdu_of m window more k)
  header_read e m z = let p = pdu_of m window more k in written_reads_back e p part z (follows m) ∙ ap Ok (pdu_shown m)

  pub behind_header : (m : Message) → drop (params_at (pdu_of m window more k)) (header (pdu_of m window more k) ++ part) ≡ part
  behind_header m = let p = pdu_of m window more k in drop_at (header p) part (params_at p) (header_length_lem p)

  first_octet_lem : (m : Message) → first_octet_of m more ≡ oct (header (pdu_of m window more k) ++ part) 0
  first_octet_lem (Request q) = first_request more q.sa
  first_octet_lem (ComplexAck q) = first_ack more

  -- what it says, taken apart
  apdu_in : (m : Message) → (parts_in m window more k).apdu ≡ apdu_of m more
  unfolding parts_of
  apdu_in (Request q) = refl
  apdu_in (ComplexAck q) = refl

  segment_in_lem : (e : Edition) (head : List ℕ) (m : Message)
      → segment_in (heard_of e head) (message direct (parts_in m window more k) (header (pdu_of m window more k) ++ part)) ≡ some (segment_of head m more k part)
  unfolding parts_of given
  segment_in_lem e head (Request q) = rw (behind_header (Request q))
  segment_in_lem e head (ComplexAck q) = rw (behind_header (ComplexAck q))

-- ---- one segment, in a good frame of type 5 or 6
module _ (e : Edition) (m : Message) (w : Way) (more : Bool) (k : ℕ) (part head : List ℕ) (carries : (oct head 0 ≡ 5) ⊎ (oct head 0 ≡ 6))
    (ruled : Network.fault_of (network_head w) ≡ 0) (sound : Header.fault_of e (pdu_of m w.window more k) ≡ 0) where
  abbrev apdu : List ℕ
  apdu = header (pdu_of m w.window more k) ++ part

  network_read : npdu_content e (npdu_of m w more k part) (read_npdu (npdu_of m w more k part)) ≡ apdu_content direct apdu (read_apdu e apdu)
  unfolding accepted
  network_read =
      let h : Header = record { npdu = network_head w; next = 2 } in
      npdu_apdu e (npdu_of m w more k part) (Ok h) (head_read w apdu ruled) h refl refl
      ∙ rw (direct_route w, behind_head w apdu)

  apdu_read : apdu_content direct apdu (read_apdu e apdu) ≡ message direct (parts_in m w.window more k) apdu
  apdu_read =
      let p = pdu_of m w.window more k in
      apdu_good_lem e direct apdu (Ok p) p (sym (header_read w.window more k part e m sound)) refl (ap (parts_of p) (first_octet_lem w.window more k part m))

  -- whichever of the two types
  by_type_lem : (oct head 0 ≡ 5) ⊎ (oct head 0 ≡ 6) → content_of (heard_of e head) (npdu_of m w more k part) ≡ npdu_content e (npdu_of m w more k part) (read_npdu (npdu_of m w more k part))
  by_type_lem (inl z) = content_5 (heard_of e head) (npdu_of m w more k part) z
  by_type_lem (inr z) = content_6 (heard_of e head) (npdu_of m w more k part) (λ y. omega arith) z

  -- the data are that segment
  content_is : content_of (heard_of e head) (npdu_of m w more k part) ≡ message direct (parts_in m w.window more k) apdu
  content_is = by_type_lem carries ∙ network_read ∙ apdu_read

  -- what is heard of it
  pub segment_heard : segment_at e (good head (npdu_of m w more k part)) ≡ some (segment_of head m more k part)
  segment_heard = ap (segment_in (heard_of e head)) content_is ∙ segment_in_lem w.window more k part e head m

  -- and what is reported, by the answer
  answered : (y : Answer) (area : List ℕ) → answered_at e (good head (npdu_of m w more k part)) y area ≡ report_octets (step_report (heard_of e head) (parts_in m w.window more k) (step_of y) area)
  answered y area = ap (λ (x : Content). report_octets (answered_report (heard_of e head) x y area)) content_is

  pub held_report : (i n : ℕ) (area : List ℕ) → answered_at e (good head (npdu_of m w more k part)) (taken i n) area ≡ report_octets (segment_taken (frame_of head) (apdu_of m more) i n)
  held_report i n area = answered (taken i n) area ∙ rw (apdu_in w.window more k part m)

  pub complete_report : (i n : ℕ) (area : List ℕ)
      → answered_at e (good head (npdu_of m w more k part)) (completed i n) area ≡ report_octets (by_tags (items_of (Slots.part (room * i) n area)) (complete (frame_of head) (apdu_of m more) i n))
  complete_report i n area = answered (completed i n) area ∙ rw (apdu_in w.window more k part m)
