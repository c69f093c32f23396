use Rattle.std.proofs.Common.{◌≡◌, ◌/◌, ◌%◌, arith}
use Rattle.feeding.proofs.Spans.{count_set}
use Rattle.feeding.proofs.set_got.Goals as goal

pub returns : goal.returns
returns c =
    let n = c.args.got in
    let high : n / 256 % 256 ≡ n / 256 = omega arith in
    rw (c.to_be_bytes.ensures, high) (count_set _ _ _ c.requires)
