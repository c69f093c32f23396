use Rattle.rebuild.proofs.Ways.{fits_54}
use Rattle.rebuild.proofs.rows.fitted.Goals as goal

pub returns-then-n-octets-gt16384 : goal.returns-then-n-octets-gt16384
returns-then-n-octets-gt16384 c = fits_54 c.args.t c.args.g c.args.octets.now c.args.area.now c.args.s c.args.n c.if-n-octets-gt16384.true c.lost.ensures
