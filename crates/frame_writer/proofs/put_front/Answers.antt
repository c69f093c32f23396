use Rattle.std.proofs.Common.{◌≡◌, ◌/◌, ◌%◌, arith}
use Rattle.frames.specs.Layout.{head_of}
use Rattle.frame_writer.specs.Front.{front_of}
use Rattle.frame_writer.proofs.put_front.Goals as goal

pub returns : goal.returns
unfolding front_of head_of
returns c =
    let n = c.args.n in
    let high : n / 256 % 256 ≡ n / 256 = omega arith in
    rw (← high) (rw (c.header_check-check.ensures, c.to_be_bytes.ensures) at c.copy.ensures)
