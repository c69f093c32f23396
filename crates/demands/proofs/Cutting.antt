-- What the cutter wrote, NPDU by NPDU: each reads back, and the parts joined are the parameters.
use Prim.Native.Nat.{ℕ, zero, suc, ◌+◌, ◌-◌, ◌*◌, ◌≤◌, ◌<◌, min}
use native.Mathlib.Omega.{arith}
use native.Mathlib.Nat.{zero-add, zero-mul, add-zero}
use native.Mathlib.Numerals.{add-one}
use mathlib.Core.Path.{◌≡◌, refl, sym, ap, subst, ◌∙◌}
use mathlib.Core.List.{List, [], ◌∷◌, ◌++◌, append_assoc, append-nil}
use lib.Dec.{ltb, eqb}
use borrow.Author.Tests.{eqb-true, eqb-false}
use lib.ListN.{length, get_or, take, drop, length-append, length-take, length-drop}
use lib.Seq.{take_at, drop_at, take_all}
use Rattle.std.specs.Prelude.{Ok}
use Rattle.octets.specs.Choice.{by_test}
use Rattle.octets.specs.Laid.{Laid, laid_wrote}
use Rattle.octets.specs.Laid as Answers
use Rattle.npdu.specs.Layout.{encode}
use Rattle.apdu.specs.Layout.{header}
use Rattle.apdu.specs.Reading.{read_apdu}
use Rattle.apdu.specs.declared.Edition.{Edition}
use Rattle.cutter.specs.Layout.{network_head, pdu_of, segments_of, part_of, npdu_at, first_of, octets_of}
use Rattle.cutter.specs.Fault.{fault_of}
use Rattle.cutter.specs.Calls.{Cuts}
use Rattle.cutter.specs.Laying.{header_length}
use Rattle.cutter.specs.declared.Message.{Message}
use Rattle.cutter.specs.declared.Message.TheVariants.{Request, ComplexAck}
use Rattle.cutter.specs.declared.Way.{Way}
use Rattle.cutter.specs.Calls.{Parted}
use Rattle.cutter.proofs.Counts.{segments_least, part_length, parts_join}
use Rattle.cutter.proofs.Lengths.{network_length, pdu_length, npdu_length_lem}
use Rattle.cutter.proofs.Fine.{Fine, fine}
use Rattle.traffic.specs.Framed.{listed, npdus_from}
use Rattle.traffic.proofs.Content.{head_read, behind_head, header_read}
use Rattle.demands.specs.Cutting.{header_size, npdus_in, pdu_in, ReadsAs, joined_all, CutInto, CutSegments}
use Rattle.demands.proofs.CutRows.{header_size_lem}

nothing : (xs : List ℕ) → length xs ≡ 0 → xs ≡ []
nothing [] e = refl
nothing (x ∷ xs) e = absurd (omega arith)

-- ---- values in a row
module _ {A : Type 0} (f : ℕ → A) where
  listed_length : (k n : ℕ) → length (listed f k n) ≡ n
  listed_length k zero = refl
  listed_length k (suc n) = ap suc (listed_length (k + 1) n)

  listed_at : (k n i : ℕ) (none : A) → i < n → get_or (listed f k n) i none ≡ f (k + i)
  listed_at k zero i none l = absurd (omega arith)
  listed_at k (suc n) zero none l = ap f (sym (add-zero k))
  listed_at k (suc n) (suc i) none l = let on : k + 1 + i ≡ k + suc i = omega arith in listed_at (k + 1) n i none (omega arith) ∙ ap f on

module _ (m : Message) (w : Way) (count : ℕ) (params : List ℕ) where
  -- the first k end to end, and those behind them
  first_and : (n k : ℕ) → first_of m w count params (k + n) ≡ first_of m w count params k ++ joined_all (npdus_from m w count params k n)
  first_and zero k = rw (add-zero) (sym (append-nil (first_of m w count params k)))
  first_and (suc n) k =
      let on : k + suc n ≡ k + 1 + n = omega arith in
      let rest = joined_all (npdus_from m w count params (k + 1) n) in
      ap (first_of m w count params) on ∙ first_and n (k + 1) ∙ ap (λ (x : ℕ). first_of m w count params x ++ rest) (add-one k)
      ∙ append_assoc (first_of m w count params k) (npdu_at m w count params k) rest

  -- as the caller finds them, where all but the last have one size
  found : (size : ℕ) → ((k : ℕ) → k + 1 < count → length (npdu_at m w count params k) ≡ size) → (n k : ℕ) → k + suc n ≡ count
      → npdus_in size (suc n) (joined_all (npdus_from m w count params k (suc n))) ≡ npdus_from m w count params k (suc n)
  found size even zero k c = ap (λ (x : List ℕ). x ∷ []) (append-nil (npdu_at m w count params k))
  found size even (suc n) k c =
      let o = npdu_at m w count params k in
      let rest = joined_all (npdus_from m w count params (k + 1) (suc n)) in
      let here : length o ≡ size = even k (omega arith) in
      rw (take_at o rest size here, drop_at o rest size here) (ap (λ (x : List (List ℕ)). o ∷ x) (found size even n (k + 1) (omega arith)))

-- the parts in front, and those behind them
parts_and : (each : ℕ) (params : List ℕ) (n k : ℕ) → take (k * each) params ++ joined_all (listed (λ (i : ℕ). part_of each i params) k n) ≡ take ((k + n) * each) params
parts_and each params zero k = rw add-zero (append-nil (take (k * each) params))
parts_and each params (suc n) k =
    let on : k + 1 + n ≡ k + suc n = omega arith in
    let rest = joined_all (listed (λ (i : ℕ). part_of each i params) (k + 1) n) in
    sym (append_assoc (take (k * each) params) (part_of each k params) rest)
    ∙ ap (λ (x : List ℕ). x ++ rest) (parts_join each k params)
    ∙ parts_and each params n (k + 1)
    ∙ ap (λ (x : ℕ). take (x * each) params) on

-- ---- one NPDU
header_small : (m : Message) → header_length m ≤ 6
header_small (Request q) = omega arith
header_small (ComplexAck q) = omega arith

same_pdu : (m : Message) (window count k : ℕ) → pdu_of m window (ltb (k + 1) count) k ≡ pdu_in m window count k
same_pdu (Request q) window count k = refl
same_pdu (ComplexAck q) window count k = refl

module _ (e : Edition) (m : Message) (w : Way) (params : List ℕ) (ok : Fine e m w (length params)) where
  abbrev count : ℕ
  count = segments_of w.each (length params)

  least : 0 < w.each
  least = ok.range.some

  part_most : (k : ℕ) → length (part_of w.each k params) ≤ w.each
  part_most k = rw length-take (omega arith)

  -- all but the last have one size
  pub even_size : (k : ℕ) → k + 1 < count → length (npdu_at m w count params k) ≡ header_size m + w.each
  even_size k l =
      let n = npdu_length_lem m w count params k in
      let h = pdu_length m w.window (ltb (k + 1) count) k in
      let p = part_length w.each k params least l in
      let s = header_size_lem m in
      omega (arith, n, h, p, s)

  pub frame_fits : (k : ℕ) → length (npdu_at m w count params k) ≤ 501
  frame_fits k =
      let n = npdu_length_lem m w count params k in
      let h = pdu_length m w.window (ltb (k + 1) count) k in
      let p = part_most k in
      let s = ok.range.short in
      let l = header_small m in
      omega (arith, n, h, p, s, l)

  reads_as : (k : ℕ) → ReadsAs e m w count k (npdu_at m w count params k) (part_of w.each k params)
  unfolding npdu_at
  reads_as k =
      let more = ltb (k + 1) count in
      let part = part_of w.each k params in
      let apdu = header (pdu_of m w.window more k) ++ part in
      let front : length (encode (network_head w) ++ header (pdu_of m w.window more k)) ≡ header_size m =
      rw (length-append, network_length, pdu_length, header_size_lem) refl in
      record {
        head = network_head w;
        network = sym (head_read w apdu ok.range.network);
        plain = record { message = refl; destination = refl; source = refl; reply = refl; priority = refl };
        application = ap (read_apdu e) (behind_head w apdu) ∙ header_read w.window more k part e m (ok.header more k) ∙ ap Ok (same_pdu m w.window count k);
        parameters = ap (drop (header_size m)) (sym (append_assoc (encode (network_head w)) (header (pdu_of m w.window more k)) part)) ∙ drop_at (encode (network_head w) ++ header (pdu_of m w.window more k)) part (header_size m) front;
      }

  -- the last part is empty only where there are no parameters
  last_part : (k : ℕ) → k + 1 ≡ count → part_of w.each k params ≡ [] → params ≡ []
  last_part k c none =
      let l = segments_least w.each (length params) least in
      let size : length (part_of w.each k params) ≡ 0 = ap length none in
      let cut : min w.each (length params - k * w.each) ≡ 0 = rw (length-take, length-drop) at size in
      let before : count - 1 ≡ k = omega arith in
      nothing params
      (by_test (eqb (length params) 0) (λ z. eqb-true (length params) 0 z)
      (λ z. absurd (omega (arith, cut, least, rw before at (l.needed (omega (arith, eqb-false (length params) 0 z)))))))

  -- ---- all of them
  pub cut_into : CutInto e m w params count (npdus_from m w count params 0 count)
  cut_into =
      let parts = listed (λ (i : ℕ). part_of w.each i params) 0 count in
      let part_at : (k : ℕ) → k < count → get_or parts k [] ≡ part_of w.each k params = λ k l. listed_at (λ (i : ℕ). part_of w.each i params) 0 count k [] l ∙ ap (λ (i : ℕ). part_of w.each i params) (zero-add k) in
      let npdu-at : (k : ℕ) → k < count → get_or (npdus_from m w count params 0 count) k [] ≡ npdu_at m w count params k = λ k l. listed_at (npdu_at m w count params) 0 count k [] l ∙ ap (npdu_at m w count params) (zero-add k) in
      record {
        parts = parts;
        as_many = (listed_length (npdu_at m w count params) 0 count, listed_length (λ (i : ℕ). part_of w.each i params) 0 count);
        joined = rw (zero-mul, zero-add) at (parts_and w.each params count 0) ∙ take_all (count * w.each) params (segments_least w.each (length params) least).holds;
        even = λ k l. ap length (part_at k (omega arith)) ∙ part_length w.each k params least l;
        rest = λ k c. (subst (λ (x : List ℕ). length x ≤ w.each) (sym (part_at k (omega arith))) (part_most k), λ z. last_part k c (sym (part_at k (omega arith)) ∙ z));
        reads = λ k l. rw (npdu-at k l, part_at k l) (reads_as k);
        frames = λ k l. rw (npdu-at k l) (frame_fits k);
      }

  -- as the caller finds them in the result
  pub in_result : npdus_in (header_size m + w.each) count (octets_of m w params) ≡ npdus_from m w count params 0 count
  unfolding octets_of
  in_result =
      let size = header_size m + w.each in
      let c : suc (count - 1) ≡ count = omega (arith, (segments_least w.each (length params) least).some) in
      let all : first_of m w count params count ≡ joined_all (npdus_from m w count params 0 count) = rw zero-add at (first_and m w count params count 0) in
      ap (npdus_in size count) all
      ∙ subst (λ (x : ℕ). npdus_in size x (joined_all (npdus_from m w count params 0 x)) ≡ npdus_from m w count params 0 x) c (found m w count params size even_size (count - 1) 0 (omega arith))

-- ---- what was written, by the call's promise
pub record Written (e : Edition) (m : Message) (w : Way) (params : List ℕ) (r : Parted) (n : ℕ) (later : List ℕ) : Type 0 where
  pub ok : Fine e m w (length params)
  pub count : r.segments ≡ segments_of w.each (length params)
  pub octets : take n later ≡ octets_of m w params

pub written : {e : Edition} {m : Message} {w : Way} {params area : List ℕ} {r : Parted} {later : List ℕ} → Cuts e m w params area r later → (n : ℕ) → r.answer ≡ Ok n → Written e m w params r n later
written {e} {m} {w} {params} {area} {r} {later} l n q =
    let o = octets_of m w params in
    let laid = laid_wrote (fault_of e m w (length params)) n o area later (subst (λ (x : Answers.Written). Laid (fault_of e m w (length params)) o area x later) q l.laid) in
    record {
      ok = fine e m w (length params) laid.0;
      count = l.segments ∙ rw q;
      octets = rw laid.2 (take_at o (drop (length o) area) n (sym laid.1));
    }

pub cut_segments : CutSegments
cut_segments e m w params area r later l n q =
    let y = written l n q in
    rw (y.count, y.octets, in_result e m w params y.ok) (cut_into e m w params y.ok)
