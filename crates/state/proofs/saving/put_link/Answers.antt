use Rattle.std.proofs.Common.{◌≡◌, length, rules, arith}
use Rattle.state.proofs.Link.{link_laid}
use Rattle.state.proofs.saving.put_link.Goals as goal

pub returns : goal.returns
returns c =
    let five : length c.args.l.head ≡ 5 = search rules in
    link_laid _ _ c.args.l (omega (arith, c.requires)) five c.phase_octets.ensures c.copy.ensures c.copy-2.ensures c.put.ensures
