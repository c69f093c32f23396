use Rattle.std.proofs.Common.{rules}
use Rattle.feeding.proofs.Fronts.{front_early}
use Rattle.feeding.proofs.eat_front.Goals as goal

pub seek-i-requires : goal.seek-i-requires
seek-i-requires c = search (rules, front_early)
