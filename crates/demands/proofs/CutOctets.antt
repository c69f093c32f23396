-- What is cut of octets are octets.
use Prim.Native.Nat.{ℕ, ◌+◌, ◌*◌, ◌≤◌, ◌<◌}
use native.Mathlib.Omega.{arith}
use mathlib.Core.Logic.{inr}
use mathlib.Core.Bool.{Bool, true, false}
use mathlib.Core.List.{List, [], ◌∷◌}
use lib.Dec.{ltb}
use Rattle.octets.specs.Choice.{given}
use Rattle.octets.specs.Reading.{Octets}
use Rattle.octets.specs.Every.{octets_none, octets_more, octets_join, octets_part}
use Rattle.npdu.specs.Layout.{bit_of, control_of, part_octets, hop_octets, message_octets, parts_octets, tail_octets, encode}
use Rattle.apdu.specs.Editions.{most}
use Rattle.apdu.specs.Layout.{first_octet, tail, header}
use Rattle.apdu.proofs.FirstOctet.{flag_small}
use Rattle.apdu.specs.declared.Edition.{Edition}
use Rattle.apdu.specs.declared.Edition.TheVariants.{First, Later}
use Rattle.messages.specs.Table.{NoRow}
use Rattle.cutter.specs.Layout.{network_head, pdu_of, part_of, npdu_at}
use Rattle.cutter.specs.declared.Message.{Message}
use Rattle.cutter.specs.declared.Message.TheVariants.{Request, ComplexAck}
use Rattle.cutter.specs.declared.Way.{Way}
use Rattle.demands.specs.Cutting.{cut_rows}
use Rattle.demands.specs.CutAndFed.{InOctets}
use Rattle.demands.proofs.Rowed.{at_most}

-- a list of octets, one by one
abbrev Each : List ℕ → Type 0
Each [] = Unit {0}
Each (x ∷ xs) = (x < 256) × Each xs

each : (xs : List ℕ) → Each xs → Octets xs
each [] h = octets_none
each (x ∷ xs) h = octets_more x xs h.0 (each xs h.1)

-- the network header
network_octets_lem : (w : Way) → w.priority ≤ 3 → Octets (encode (network_head w))
unfolding encode control_of bit_of parts_octets part_octets tail_octets hop_octets message_octets given
network_octets_lem w p = each (encode (network_head w)) (omega arith, (control w.reply, tt))
  where
    control : (b : Bool) → given false 128 0 + given false 32 0 + given false 8 0 + given b 4 0 + w.priority < 256
    control true = omega arith
    control false = omega arith

first_octet_lem : (kind : ℕ) (a b c d : Bool) → kind ≤ 7 → first_octet kind a b c d < 256
unfolding first_octet
first_octet_lem kind a b c d k = omega (arith, flag_small a, flag_small b, flag_small c, flag_small d)

greatest : (e : Edition) → most e ≤ 7
greatest First = omega arith
greatest Later = omega arith

-- a segment's header
header_octets_lem : (e : Edition) (m : Message) (w : Way) (params : List ℕ) (more : Bool) (k : ℕ) → NoRow (cut_rows e m w params) → InOctets m → k < 256 → Octets (header (pdu_of m w.window more k))
unfolding tail given
header_octets_lem e (Request q) w params more k none os l =
    let window : w.window ≤ 127 = at_most 127 w.window (λ x. none.1.0 (inr (inr x))) in
    let code : q.accepts ≤ most e = at_most (most e) q.accepts none.1.1.1.0 in
    let size : q.size ≤ 5 = at_most 5 q.size none.1.1.1.1.0 in
    each (header (pdu_of (Request q) w.window more k))
    (first_octet_lem 0 true more q.sa false (omega arith), (omega (arith, code, size, greatest e), (os.1, (l, (omega (arith, window), (os.2, tt))))))
header_octets_lem e (ComplexAck q) w params more k none os l =
    let window : w.window ≤ 127 = at_most 127 w.window (λ x. none.1.0 (inr (inr x))) in
    each (header (pdu_of (ComplexAck q) w.window more k)) (first_octet_lem 3 true more false false (omega arith), (os.0, (l, (omega (arith, window), (os.1, tt)))))

pub npdu_octets : (e : Edition) (m : Message) (w : Way) (params : List ℕ) (count k : ℕ) → NoRow (cut_rows e m w params) → InOctets m → Octets params → k < 256 → Octets (npdu_at m w count params k)
unfolding npdu_at
npdu_octets e m w params count k none os ps l =
    octets_join (encode (network_head w)) _ (network_octets_lem w (at_most 3 w.priority none.1.1.0))
    (octets_join (header (pdu_of m w.window (ltb (k + 1) count) k)) (part_of w.each k params) (header_octets_lem e m w params (ltb (k + 1) count) k none os l)
    (octets_part params (k * w.each) w.each ps))
