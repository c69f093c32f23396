-- What stands before a frame's data.
use Rattle.std.specs.Prelude.{ℕ, List, [], ◌∷◌, ◌++◌}
use Rattle.sums.specs.Sums.{header_check}
use Rattle.frames.specs.Layout.{head_of}

-- "55 FF, type, destination, source, length (2 octets, high first), header check", of a frame of n data octets
unfoldable pub front_of : ℕ → ℕ → ℕ → ℕ → List ℕ
front_of kind to from n = let h = head_of kind to from n in 0x55 ∷ 0xFF ∷ (h ++ (header_check h ∷ []))
