-- What a writer's promise says of the octets that it leaves, and that each public call promises one answer.
use Prim.Native.Nat.{ℕ}
use native.Mathlib.Omega.{arith}
use mathlib.Core.Bool.{Bool, true, false}
use mathlib.Core.List.{List}
use Rattle.std.specs.Prelude.{Ok}
use mathlib.Core.Path.{◌≡◌, refl, sym, ◌∙◌}
use lib.ListN.{length, drop}
use borrow.Author.Tests.{ne_eqb, le-ltb}
use Rattle.octets.specs.Choice.{given}
use Rattle.octets.specs.Laid.{Written, Laid, laid_one, laid_wrote}
use Rattle.npdu.specs.Fault.{part_rules, part_fault, sooner, fault_of}
use Rattle.npdu.specs.Exact.{accepted}
use Rattle.npdu.specs.Layout.{encode, shown}
use Rattle.npdu.specs.Valid.{PartValid, Ruled, Kept}
use Rattle.npdu.specs.Reading.{Reading, read_npdu}
use Rattle.npdu.specs.declared.Npdu.{Npdu}
use Rattle.npdu.proofs.Exact.{reads_written}
use Rattle.npdu.proofs.Sizes.{fault_none}

-- a header that keeps to the rules is not refused
pub rules_fine : (here : Bool) (net len low top : ℕ) → (here ≡ true → PartValid net len low top) → part_fault here net len low top ≡ 0
unfolding part_fault part_rules given
rules_fine true net len low top v =
    let w = v refl in
    rw (ne_eqb net 0 (λ z. omega (arith, w.some_net)), le-ltb top net w.net_range, le-ltb len low w.len_least, le-ltb 7 len w.len_range)
rules_fine false net len low top v = refl

pub ruled_fine : (h : Npdu) → Ruled h → fault_of h ≡ 0
unfolding fault_of sooner
ruled_fine h r =
    rw (le-ltb 3 h.priority r.urgency, rules_fine h.dest h.dnet h.dlen 0 65535 r.destination) (rules_fine h.source h.snet h.slen 1 65534 r.origin)

-- "Fields of an absent part, and address octets past the length, aren't looked at and are read as 0": what was written reads back as what it shows
pub written_reads : (h : Npdu) (n : ℕ) (area later : List ℕ) → Kept h → Laid (fault_of h) (encode h) area (Ok n) later → read_npdu later ≡ accepted n (shown h)
written_reads h n area later k l =
    let w = laid_wrote (fault_of h) n (encode h) area later l in
    rw (w.2, w.1) (reads_written h (drop (length (encode h)) area) (fault_none h w.0) k)

-- any two answers that a call's promise allows are equal
pub read_one : (o : List ℕ) (r r' : Reading) → r ≡ read_npdu o → r' ≡ read_npdu o → r ≡ r'
read_one o r r' a b = a ∙ sym b

pub write_one : (h : Npdu) (area later later' : List ℕ) (r r' : Written) → Laid (fault_of h) (encode h) area r later → Laid (fault_of h) (encode h) area r' later' → (r ≡ r') × (later ≡ later')
write_one h area later later' r r' a b = laid_one a b
