-- What a test with several parts says.
use mathlib.Core.Path.{◌≡◌, refl}
use mathlib.Core.Bool.{Bool, true, false}
use mathlib.Core.Option.{Option, none, some}
use Prim.Native.Nat.{ℕ}
use Rattle.octets.specs.Choice.{non, impossible}
use Rattle.messages.specs.Slots.{is_some}

pub never : {P : Type 0} → false ≡ true → P
never e = impossible (cc)

pub some_true : (o : Option ℕ) → is_some o ≡ true → (i : ℕ) × (o ≡ some i)
some_true none e = never e
some_true (some i) e = (i, refl)

pub none_false : (o : Option ℕ) → is_some o ≡ false → o ≡ none
none_false none e = refl
none_false (some i) e = cc

pub non_false : (a : Bool) → non a ≡ false → a ≡ true
non_false true e = refl
non_false false e = cc
