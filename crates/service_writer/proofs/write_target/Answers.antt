use Rattle.std.proofs.Common.{sym, ◌∙◌}
use Rattle.services.specs.Layout.{things_of_message}
use Rattle.services.specs.Shows.{message_of}
use Rattle.services.specs.declared.Service.{Service}
use Rattle.service_writer.specs.Layout.{octets_of}
use Rattle.service_writer.specs.Fault.{too_wide}
use Rattle.service_writer.proofs.Promise
use Rattle.service_writer.proofs.write_target.Goals as goal

pub returns-then-wide : goal.returns-then-wide
unfolding message_of octets_of things_of_message too_wide
returns-then-wide c = Promise.wide_41 _ _ _ (sym c.wide.ensures ∙ c.if-wide.true)

pub returns : goal.returns
unfolding message_of octets_of things_of_message too_wide
returns c = Promise.settled (Service.ReadProperty c.args.t) _ _ _ _ _ (sym c.wide.ensures ∙ c.if-wide.false) (c.laid.ensures ∙ c.target.ensures.laid) c.settle.ensures
