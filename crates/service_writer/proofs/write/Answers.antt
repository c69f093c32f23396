use Rattle.std.proofs.Common.{refl}
use Rattle.service_writer.specs.Layout.{octets_of}
use Rattle.service_writer.proofs.Promise
use Rattle.service_writer.proofs.write.Goals as goal

pub returns-in-ReadProperty : goal.returns-in-ReadProperty
unfolding octets_of
returns-in-ReadProperty c = Promise.as_bare _ _ _ _ _ _ c.in-ReadProperty.is refl c.write_target.ensures

pub returns-in-ReadPropertyAck : goal.returns-in-ReadPropertyAck
unfolding octets_of
returns-in-ReadPropertyAck c = Promise.as_ack _ _ _ _ _ _ c.in-ReadPropertyAck.is c.write_ranked.ensures

pub returns-in-WriteProperty : goal.returns-in-WriteProperty
unfolding octets_of
returns-in-WriteProperty c = Promise.as_request _ _ _ _ _ _ c.in-WriteProperty.is _ c.then_some-priority.ensures c.write_ranked-in-WriteProperty.ensures

pub returns-in-WhoIs : goal.returns-in-WhoIs
unfolding octets_of
returns-in-WhoIs c = Promise.as_bare _ _ _ _ _ _ c.in-WhoIs.is refl c.write_limits.ensures

pub returns-in-IAm : goal.returns-in-IAm
unfolding octets_of
returns-in-IAm c = Promise.as_bare _ _ _ _ _ _ c.in-IAm.is refl c.write_device.ensures

pub returns-in-Error : goal.returns-in-Error
unfolding octets_of
returns-in-Error c = Promise.as_bare _ _ _ _ _ _ c.in-Error.is refl c.write_error.ensures
