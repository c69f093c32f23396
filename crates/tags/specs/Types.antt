-- The application types: how long their contents may be.
use Rattle.std.specs.Prelude.{ℕ, [], ◌∷◌, Bool, get_or, leb}
use Rattle.octets.specs.Choice.{both}

-- 33: "contents length wrong for its type, or over 16,384"
abbrev pub longest : ℕ
longest = 16384

-- 0 null, 1 boolean (no contents), 2 unsigned, 3 signed, 4 real, 5 double, 6 octets, 7 characters, 8 bits, 9 enumerated, 10 date, 11 time, 12 object
unfoldable pub least : ℕ → ℕ
least n = get_or (0 ∷ 0 ∷ 1 ∷ 1 ∷ 4 ∷ 8 ∷ 0 ∷ 1 ∷ 1 ∷ 1 ∷ 4 ∷ 4 ∷ 4 ∷ []) n 0

unfoldable pub most : ℕ → ℕ
most n = get_or (0 ∷ 0 ∷ 4 ∷ 4 ∷ 4 ∷ 8 ∷ longest ∷ longest ∷ longest ∷ 4 ∷ 4 ∷ 4 ∷ 4 ∷ []) n 0

-- whether contents of len octets are as long as type n has them
unfoldable pub right_length : ℕ → ℕ → Bool
right_length n len = both (leb (least n) len) (leb len (most n))
