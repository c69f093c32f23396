use Rattle.std.proofs.Common.{◌≡◌, length, rules}
use Rattle.state.proofs.Address.{address_laid}
use Rattle.state.proofs.saving.put_address.Goals as goal

pub returns : goal.returns
returns c =
    let seven : length c.args.a.octets ≡ 7 = search rules in
    address_laid _ _ c.args.a c.args.at c.requires seven c.number_octets.ensures c.copy.ensures c.copy-2.ensures
