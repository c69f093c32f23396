-- "Proved examples. One statement covers this list": check sums and items, by computation on the definitions.
use Rattle.sums.specs.Examples.{SumExamples}
use Rattle.sums.proofs.Examples.{sum_examples}
use Rattle.items.proofs.Examples.{Worked, worked}

pub proved_examples : SumExamples × Worked
proved_examples = (sum_examples, worked)
