-- How many octets a header takes.
use Rattle.std.specs.Prelude.{ℕ, ◌+◌, Bool, ltb}
use Rattle.octets.specs.Choice.{pick, given}
use Rattle.npdu.specs.declared.Npdu.{Npdu}

unfoldable pub part_size : Bool → ℕ → ℕ
part_size here len = given here (3 + len) 0

unfoldable pub hop_size : Bool → ℕ
hop_size here = given here 1 0

unfoldable pub kind_size : ℕ → ℕ
kind_size kind = pick (ltb kind 128) 1 3

unfoldable pub message_size : Bool → ℕ → ℕ
message_size here kind = given here (kind_size kind) 0

unfoldable pub parts_size : Npdu → ℕ
parts_size h = part_size h.dest h.dlen + part_size h.source h.slen

unfoldable pub tail_size : Npdu → ℕ
tail_size h = hop_size h.dest + message_size h.message h.kind

unfoldable pub size_of : Npdu → ℕ
size_of h = 2 + parts_size h + tail_size h
