-- "Header writers refuse the first field in octet order that breaks a rule, with its number below; a priority above 3 is 12."
use Rattle.std.specs.Prelude.{ℕ, Bool, ltb, eqb}
use Rattle.octets.specs.Choice.{pick, given}
use Rattle.octets.specs.Reading.{refuse}
use Rattle.npdu.specs.declared.Npdu.{Npdu}

-- "DLEN/SLEN" 13, "DNET/SNET" 14: the network number stands before the length
unfoldable pub part_rules : ℕ → ℕ → ℕ → ℕ → ℕ
part_rules net len low top =
    refuse (eqb net 0) 14
    (refuse (ltb top net) 14
    (refuse (ltb len low) 13
    (refuse (ltb 7 len) 13 0)))

-- "Fields of an absent part .. aren't looked at"
unfoldable pub part_fault : Bool → ℕ → ℕ → ℕ → ℕ → ℕ
part_fault here net len low top = given here (part_rules net len low top) 0

-- the first of two refusals
unfoldable pub sooner : ℕ → ℕ → ℕ
sooner f g = pick (eqb f 0) g f

-- the refusal, or 0
unfoldable pub fault_of : Npdu → ℕ
fault_of h =
    refuse (ltb 3 h.priority) 12
    (sooner (part_fault h.dest h.dnet h.dlen 0 65535)
    (part_fault h.source h.snet h.slen 1 65534))
