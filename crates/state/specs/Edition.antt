-- The edition's octet: 0 is the edition of 1995, 1 the later one.
use Rattle.std.specs.Prelude.{ℕ, Bool, eqb, leb}
use Rattle.octets.specs.Choice.{pick}
use Rattle.apdu.specs.declared.Edition.{Edition}
use Rattle.apdu.specs.declared.Edition.TheVariants.{First, Later}

abbrev pub edition_size : ℕ
edition_size = 1

abbrev pub edition_octet : Edition → ℕ
edition_octet First = 0
edition_octet Later = 1

-- which octet is no edition's: one above 1
unfoldable pub edition_good : ℕ → Bool
edition_good x = leb x 1

-- the edition that an octet says: any but 0 is the later one
unfoldable pub edition_of : ℕ → Edition
edition_of x = pick (eqb x 0) First Later
