use Rattle.collector.proofs.Content.{number_good, number_small, number_bad}
use Rattle.collector.proofs.frame.judge_tags.Goals as goal

pub returns-in-Ok : goal.returns-in-Ok
returns-in-Ok c = number_good _ _ _ c.list.result c.list.ensures c.in-Ok.is

-- 61
pub returns-in-Err-Small : goal.returns-in-Err-Small
returns-in-Err-Small c = number_small _ _ _ c.list.result c.list.ensures {n = c.in-Err-Small.field-0-0} (cc)

-- a tag's refusal
pub returns-in-Err-Refused : goal.returns-in-Err-Refused
returns-in-Err-Refused c = number_bad _ _ _ c.list.result c.list.ensures {n = c.in-Err-Refused.x} (cc)
