-- A flag as an octet: 1 or 0 as it is written; any octet but 0 is set as it is read.
use Rattle.std.specs.Prelude.{ℕ, Bool, true, false, ◌≡◌, refl, List, ltb}
use Rattle.octets.specs.Reading.{oct}

abbrev pub flag : Bool → ℕ
flag false = 0
flag true = 1

abbrev pub flag_at : List ℕ → ℕ → Bool
flag_at o at = ltb 0 (oct o at)

pub flag_back : (b : Bool) → ltb 0 (flag b) ≡ b
flag_back true = refl
flag_back false = refl
