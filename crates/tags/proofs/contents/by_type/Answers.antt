use Rattle.std.proofs.Common.{rules}
use Rattle.tags.proofs.ByClass.{by_null, by_unsigned, by_signed, by_double, by_octets, by_characters, by_bits, by_four}
use Rattle.tags.proofs.contents.by_type.Goals as goal

pub returns-in-0 : goal.returns-in-0
returns-in-0 c = search (rules, by_null)

pub returns-in-2 : goal.returns-in-2
returns-in-2 c = search (rules, by_unsigned)

pub returns-in-3 : goal.returns-in-3
returns-in-3 c = search (rules, by_signed)

pub returns-in-5 : goal.returns-in-5
returns-in-5 c = search (rules, by_double)

pub returns-in-6 : goal.returns-in-6
returns-in-6 c = search (rules, by_octets)

pub returns-in-7 : goal.returns-in-7
returns-in-7 c = search (rules, by_characters)

pub returns-in-8 : goal.returns-in-8
returns-in-8 c = search (rules, by_bits)

pub returns-in_default : goal.returns-in_default
returns-in_default c = search (rules, by_four)
