-- One shifted is a power of two.
use Rattle.decimals.specs.Narrow.{shifted}
use Rattle.decimals.proofs.narrow.power.Goals as goal

pub returns : goal.returns
returns c = shifted c.args.bits c.requires
