-- Rows 10 to 14 at their edges, worked out on the definition of the reading.
use Prim.Native.Nat.{ℕ}
use mathlib.Core.List.{List, [], ◌∷◌, map}
use mathlib.Core.Path.{◌≡◌, refl}
use Rattle.octets.specs.Choice.{given}
use Rattle.npdu.specs.Reading.{no_part, part_len, part_net, part_of, part_if, ended, vendor_at, message_at, tail_at, refused_by, joined, after_tail, after_source, after_dest, after_version, read_npdu}

-- the number and the place where what follows begins
abbrev answer : List ℕ → List ℕ
answer o = (read_npdu o).refused ∷ (read_npdu o).next ∷ []

-- nothing; no control octet; no second octet of DNET; no DLEN; no address; no hop count; no type; no vendor; half a vendor
pub ends_early : map answer (
    [] ∷ (1 ∷ []) ∷ (1 ∷ 32 ∷ 0 ∷ []) ∷ (1 ∷ 32 ∷ 0 ∷ 5 ∷ []) ∷ (1 ∷ 32 ∷ 0 ∷ 5 ∷ 1 ∷ []) ∷ (1 ∷ 32 ∷ 0 ∷ 5 ∷ 0 ∷ []) ∷ (1 ∷ 128 ∷ []) ∷ (1 ∷ 128 ∷ 128 ∷ []) ∷ (1 ∷ 128 ∷ 128 ∷ 9 ∷ []) ∷ [])
    ≡ (10 ∷ 0 ∷ []) ∷ (10 ∷ 0 ∷ []) ∷ (10 ∷ 0 ∷ []) ∷ (10 ∷ 0 ∷ []) ∷ (10 ∷ 0 ∷ []) ∷ (10 ∷ 0 ∷ []) ∷ (10 ∷ 0 ∷ []) ∷ (10 ∷ 0 ∷ []) ∷ (10 ∷ 0 ∷ []) ∷ []
unfolding read_npdu after_version after_dest after_source after_tail joined refused_by tail_at message_at vendor_at ended part_if part_of part_net part_len no_part given
ends_early = refl

-- version before a missing control octet; bit 6; bit 4; DLEN 8; SLEN 0; DNET 0 before a missing DLEN; SNET 65535 before a bad SLEN
pub breaks_rules : map answer (
    (2 ∷ []) ∷ (1 ∷ 64 ∷ []) ∷ (1 ∷ 16 ∷ []) ∷ (1 ∷ 32 ∷ 0 ∷ 5 ∷ 8 ∷ []) ∷ (1 ∷ 8 ∷ 0 ∷ 5 ∷ 0 ∷ []) ∷ (1 ∷ 32 ∷ 0 ∷ 0 ∷ []) ∷ (1 ∷ 8 ∷ 255 ∷ 255 ∷ 0 ∷ []) ∷ [])
    ≡ (11 ∷ 0 ∷ []) ∷ (12 ∷ 0 ∷ []) ∷ (12 ∷ 0 ∷ []) ∷ (13 ∷ 0 ∷ []) ∷ (13 ∷ 0 ∷ []) ∷ (14 ∷ 0 ∷ []) ∷ (14 ∷ 0 ∷ []) ∷ []
unfolding read_npdu after_version after_dest after_source after_tail joined refused_by tail_at message_at vendor_at ended part_if part_of part_net part_len no_part given
breaks_rules = refl

-- no part; DNET 65535 with DLEN 0 and hop count 0; SNET 65534 with SLEN 1; type 7F; type 80 with its vendor, and an octet after it
pub accepts : map answer (
    (1 ∷ 0 ∷ []) ∷ (1 ∷ 32 ∷ 255 ∷ 255 ∷ 0 ∷ 0 ∷ []) ∷ (1 ∷ 8 ∷ 255 ∷ 254 ∷ 1 ∷ 9 ∷ []) ∷ (1 ∷ 128 ∷ 127 ∷ []) ∷ (1 ∷ 128 ∷ 128 ∷ 0 ∷ 9 ∷ 7 ∷ []) ∷ [])
    ≡ (0 ∷ 2 ∷ []) ∷ (0 ∷ 6 ∷ []) ∷ (0 ∷ 6 ∷ []) ∷ (0 ∷ 3 ∷ []) ∷ (0 ∷ 5 ∷ []) ∷ []
unfolding read_npdu after_version after_dest after_source after_tail joined refused_by tail_at message_at vendor_at ended part_if part_of part_net part_len no_part given
accepts = refl
