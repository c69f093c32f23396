-- What the frame writer refuses.
use Rattle.std.specs.Prelude.{ℕ, List, ltb, length}
use Rattle.octets.specs.Reading.{refuse}
use Rattle.frames.specs.Step.{most}

-- "any type, destination, source, 0 to 501 data octets"; "a .. frame size .. out of range is 64"; 0: nothing is wrong with these data
unfoldable pub fault_of : List ℕ → ℕ
fault_of d = refuse (ltb most (length d)) 64 0
