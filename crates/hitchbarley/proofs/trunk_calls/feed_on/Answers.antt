use Rattle.std.proofs.Common.{rules}
use Rattle.octets.specs.Reading.{Octets}
use Rattle.hitchbarley.proofs.Fed.{area_ready, fed_quiet, fed_damage, framed, fed_frame}
use Rattle.hitchbarley.proofs.trunk_calls.feed_on.Goals as goal

pub eat-f-requires : goal.eat-f-requires
eat-f-requires c = area_ready _ _ _ c.requires

pub good_frame-requires : goal.good_frame-requires
good_frame-requires c =
    -- the state area is octets, before the piece is eaten and behind it
    let os : Octets c.args.state.now = search rules in
    let os' : Octets c.eat-f.new.area = search rules in
    framed _ _ _ c.args.piece.now os c.requires c.eat-f.ensures os' c.in-Frame.is

pub returns-in-Quiet : goal.returns-in-Quiet
returns-in-Quiet c =
    let os : Octets c.args.state.now = search rules in
    let os' : Octets c.eat-f.new.area = search rules in
    fed_quiet _ _ _ c.args.piece.now os c.requires c.eat-f.ensures os' c.in-Quiet.is

pub returns-in-Damage : goal.returns-in-Damage
returns-in-Damage c =
    let os : Octets c.args.state.now = search rules in
    let os' : Octets c.eat-f.new.area = search rules in
    fed_damage _ _ _ c.args.piece.now os c.requires c.eat-f.ensures os' c.in-Damage.is c.put_damage.ensures

pub returns-in-Frame : goal.returns-in-Frame
returns-in-Frame c =
    let os : Octets c.args.state.now = search rules in
    let os' : Octets c.eat-f.new.area = search rules in
    fed_frame _ _ _ c.args.piece.now os c.requires c.eat-f.ensures os' c.in-Frame.is c.good_frame.ensures
