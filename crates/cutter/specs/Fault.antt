-- What the cutter refuses, in the request's order: 39, 64, "then come the header writers' numbers", 63.
use Rattle.std.specs.Prelude.{ℕ, false, ltb, eqb}
use Rattle.octets.specs.Reading.{refuse}
use Rattle.npdu.specs.Fault as Network
use Rattle.apdu.specs.Fault as Header
use Rattle.apdu.specs.Fault.{or_else}
use Rattle.apdu.specs.declared.Edition.{Edition}
use Rattle.cutter.specs.Layout.{network_head, pdu_of, segments_of}
use Rattle.cutter.specs.declared.Message.{Message}
use Rattle.cutter.specs.declared.Way.{Way}

-- before the message itself is looked at, n being the number of its parameter octets: "more parameters are 39; then a segment .. size or a window out of range is
-- 64", "1 to 474", "windows are 1 to 127"; then the network header's number
unfoldable pub front_fault : Way → ℕ → ℕ
front_fault w n =
    refuse (ltb 16384 n) 39
    (refuse (eqb w.each 0) 64
    (refuse (ltb 474 w.each) 64
    (refuse (eqb w.window 0) 64
    (refuse (ltb 127 w.window) 64
    (Network.fault_of (network_head w))))))

-- "then more segments than 256 is 63"
unfoldable pub count_fault : ℕ → ℕ
count_fault count = refuse (ltb 256 count) 63 0

-- the first that holds, 0 for none
unfoldable pub fault_of : Edition → Message → Way → ℕ → ℕ
fault_of e m w n = or_else (front_fault w n) (or_else (Header.fault_of e (pdu_of m w.window false 0)) (count_fault (segments_of w.each n)))
