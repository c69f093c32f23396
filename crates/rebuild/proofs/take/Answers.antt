use Rattle.std.proofs.Common.{◌≡◌}
use Rattle.rebuild.proofs.Ways.{whole_left, whole_lent, takes_60, takes_open, takes_new}
use Rattle.rebuild.proofs.take.Goals as goal

pub returns-then-area-ne65536 : goal.returns-then-area-ne65536
returns-then-area-ne65536 c = takes_60 c.args.slots c.args.g c.args.octets.now c.args.area.now c.if-area-ne65536.true c.kept.ensures

pub returns-in-Some : goal.returns-in-Some
returns-in-Some c =
    let a = c.args in
    let h = c.if-area-ne65536.false in
    let q : c.unwrap-area.result.now ≡ a.area.now = whole_lent a.slots a.g a.octets.now a.area.now h (rw c.unwrap-area.ensures at c.first_chunk_mut.ensures.cases) in
    rw (whole_left a.slots a.g a.octets.now a.area.now h c.take_open.new.area)
    (takes_open a.slots a.g a.octets.now a.area.now h c.open_slot.result c.open_slot.ensures c.in-Some.s c.in-Some.is (rw q at c.take_open.ensures))

pub returns-in-None : goal.returns-in-None
returns-in-None c =
    let a = c.args in
    let h = c.if-area-ne65536.false in
    let q : c.unwrap-area.result.now ≡ a.area.now = whole_lent a.slots a.g a.octets.now a.area.now h (rw c.unwrap-area.ensures at c.first_chunk_mut.ensures.cases) in
    rw (whole_left a.slots a.g a.octets.now a.area.now h c.take_new.new.area)
    (takes_new a.slots a.g a.octets.now a.area.now h c.open_slot.result c.open_slot.ensures c.in-None.is (rw q at c.take_new.ensures))
