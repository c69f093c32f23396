-- A header and the octets that follow it: what "accepted exactly when" is said of.
use Rattle.std.specs.Prelude.{ℕ, List, ◌++◌, ◌≡◌, drop}
use Rattle.npdu.specs.Layout.{encode}
use Rattle.npdu.specs.Valid.{Valid}
use Rattle.npdu.specs.Reading.{Reading, read_npdu}
use Rattle.npdu.specs.declared.Npdu.{Npdu}

pub record Followed : Type 0 where
  pub head : Npdu
  pub rest : List ℕ

-- the reading of o accepts, gives this header, and leaves these octets
pub record Reads (o : List ℕ) (v : Followed) : Type 0 where
  pub accepted : (read_npdu o).refused ≡ 0
  pub header : (read_npdu o).head ≡ v.head
  pub left : drop (read_npdu o).next o ≡ v.rest

abbrev pub ValidFirst : Followed → Type 0
ValidFirst v = Valid v.head

abbrev pub encode_all : Followed → List ℕ
encode_all v = encode v.head ++ v.rest

-- a reading that accepts: the header, and where what follows it begins
unfoldable pub accepted : ℕ → Npdu → Reading
accepted next head = record { refused = 0; next = next; head = head }
