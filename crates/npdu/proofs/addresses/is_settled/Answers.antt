use Rattle.std.proofs.Common.{sym, ◌∙◌}
use Rattle.octets.specs.Choice.{given_true, given_false}
use Rattle.npdu.specs.Address.{absent, settled}
use Rattle.npdu.specs.Reading.{address_of}
use Rattle.npdu.proofs.AddressLaws.{same_octets_is}
use Rattle.npdu.proofs.addresses.is_settled.Goals as goal

pub returns-then-a : goal.returns-then-a
unfolding settled address_of
returns-then-a c = c.eq.ensures ∙ rw (c.address.ensures, c.from.ensures) (same_octets_is _ _ ∙ sym (given_true _ _ _ c.if-a.true))

pub returns : goal.returns
unfolding settled absent
returns c = c.same_address.ensures ∙ sym (given_false _ _ _ c.if-a.false)
