-- What a call over octets answers: 0 and the numbers that it gives back, or a refusal and 0 for each of them.
use Rattle.std.specs.Prelude.{ℕ, ◌≡◌, Bool, List, eqb, length, Ok, Err}
use Rattle.octets.specs.Choice.{pick}
use Rattle.octets.specs.Laid.{written_count, answer_of, area_of}
use Rattle.octets.specs.Laid.{Written}

-- a writer's answer: its number (the octets written: octets/Laid)
abbrev pub written_number : Written → ℕ
written_number (Ok n) = 0
written_number (Err x) = x

-- what a writer promises: f is the refusal that the values deserve, 0 for none; o the octets of the result
pub record Writes (f : ℕ) (o area : List ℕ) (r wrote : ℕ) (later : List ℕ) : Type 0 where
  pub number : r ≡ written_number (answer_of f o area)
  pub count : wrote ≡ written_count (answer_of f o area)
  pub after : later ≡ area_of f o area

-- what a reader into a record area promises: 60 where the area is not of its size; the reading's number f; where it is good, the record o
pub record Fills (size : ℕ) (good : Bool) (f : ℕ) (o area : List ℕ) (r : ℕ) (later : List ℕ) : Type 0 where
  pub number : r ≡ pick (eqb (length area) size) f 60
  pub after : later ≡ pick (eqb (length area) size) (pick good o area) area

-- the same, with the place after what was read, where it is good
pub record FillsTo (size : ℕ) (good : Bool) (f : ℕ) (o : List ℕ) (place : ℕ) (area : List ℕ) (r next : ℕ) (later : List ℕ) : Type 0 where
  pub filled : Fills size good f o area r later
  pub reached : next ≡ pick (eqb (length area) size) (pick good place 0) 0
