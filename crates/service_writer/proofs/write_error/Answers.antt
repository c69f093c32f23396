use Rattle.std.proofs.Common.{refl, ◌∙◌}
use Rattle.services.specs.declared.Service.{Service}
use Rattle.service_writer.specs.Layout.{octets_of}
use Rattle.service_writer.specs.Fault.{too_wide}
use Rattle.service_writer.proofs.Promise
use Rattle.service_writer.proofs.write_error.Goals as goal

pub returns : goal.returns
unfolding octets_of too_wide
returns c = Promise.settled (Service.Error c.args.f) _ _ _ _ _ refl (c.laid.ensures ∙ c.error.ensures.laid) c.settle.ensures
