use Rattle.std.proofs.Common.{lt-ltb, le-ltb, ◌∙◌}
use Rattle.services.specs.declared.Service.{Service}
use Rattle.service_writer.specs.Layout.{octets_of}
use Rattle.service_writer.specs.Fault.{too_wide}
use Rattle.service_writer.proofs.Promise
use Rattle.service_writer.proofs.write_device.Goals as goal

pub returns-then-i-gt4194303 : goal.returns-then-i-gt4194303
unfolding octets_of too_wide
returns-then-i-gt4194303 c = Promise.wide_41 _ _ _ (lt-ltb _ _ c.if-i-gt4194303.true)

pub returns : goal.returns
unfolding octets_of too_wide
returns c = Promise.settled (Service.IAm c.args.i) _ _ _ _ _ (le-ltb _ _ c.if-i-gt4194303.false) (c.laid.ensures ∙ c.device.ensures.laid) c.settle.ensures
