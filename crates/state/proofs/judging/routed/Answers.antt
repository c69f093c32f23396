use Rattle.std.proofs.Common.{◌+◌, arith}
use Rattle.octets.specs.Reading.{oct, Octets}
use Rattle.state.proofs.Fours.{or_three}
use Rattle.state.proofs.SlotFair.{plain_free, routed_open}
use Rattle.state.proofs.judging.routed.Goals as goal

pub returns-then-o-at-eq0 : goal.returns-then-o-at-eq0
returns-then-o-at-eq0 c e =
    let os : Octets c.args.o.now = c.fits-o in
    let o = c.args.o.now in
    let at = c.slot_place-at.result in
    let b = or_three (oct o at) (oct o (at + 9)) (oct o (at + 20)) 1 c.if-o-at-gt1.false in
    plain_free o c.args.i at c.slot_place-at.ensures os (omega arith) (omega arith) b.1 b.2

pub returns-then-given : goal.returns-then-given
returns-then-given c e =
    let os : Octets c.args.o.now = c.fits-o in
    let o = c.args.o.now in
    let at = c.slot_place-at.result in
    let b = or_three (oct o at) (oct o (at + 9)) (oct o (at + 20)) 1 c.if-o-at-gt1.false in
    routed_open o c.args.i at c.slot_place-at.ensures os (omega arith) b.0 b.1 b.2 (c.given.ensures c.if-given.true) (c.given-then-given.ensures e)
