use Rattle.std.proofs.Common.{◌≡◌, ◌/◌, ◌%◌, arith}
use Rattle.octets.specs.Splice.{splice_then}
use Rattle.sums.specs.Sums.{data_check}
use Rattle.frame_writer.proofs.put_data.Goals as goal

pub returns : goal.returns
unfolding data_check
returns c =
    let a = c.args in
    let d = a.payload.now in
    let x = c.data_check.result in
    let high : x / 256 % 256 ≡ x / 256 = omega arith in
    splice_then a.out.now 8 d (data_check d) (omega arith) c.copy.ensures (rw (← c.data_check.ensures) (rw (c.to_le_bytes-check.ensures, high) at c.copy-2.ensures))
