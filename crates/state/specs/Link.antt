-- A link's octets, those in front of a state:
--     0        phase: 0 hunting, 1 preamble, 2 header, 3 data
--     1 - 2    octets of the header or of the data that came, high octet first; 0 in the first two phases
--     3 - 7    the frame's head: type, destination, source, length (2, high octet first)
--     8        the first check octet of the data
use Rattle.std.specs.Prelude.{ℕ, ◌+◌, ◌*◌, ◌/◌, ◌%◌, ◌<◌, Bool, false, List, [], ◌∷◌, ◌++◌, eqb, leb, take, drop}
use Rattle.octets.specs.Choice.{pick}
use Rattle.octets.specs.Reading.{oct}
use Rattle.frames.specs.declared.Phase.{Phase}
use Rattle.frames.specs.declared.Phase.TheVariants.{Hunting, Preamble, Header, Data}
use Rattle.frames.specs.declared.Link.{Link}

abbrev pub link_size : ℕ
link_size = 9

-- phase and count; a header's count is one octet
abbrev pub phase_octets : Phase → List ℕ
phase_octets Hunting = 0 ∷ 0 ∷ 0 ∷ []
phase_octets Preamble = 1 ∷ 0 ∷ 0 ∷ []
phase_octets (Header got) = 2 ∷ 0 ∷ got ∷ []
phase_octets (Data got) = 3 ∷ got / 256 ∷ got % 256 ∷ []

-- phase, count, head and first check octet
unfoldable pub link_octets : Link → List ℕ
link_octets l = phase_octets l.phase ++ (l.head ++ (l.first ∷ []))

-- the counts that a phase's type holds
abbrev pub PhaseFits : Phase → Type 0
PhaseFits Hunting = Unit {0}
PhaseFits Preamble = Unit {0}
PhaseFits (Header got) = got < 256
PhaseFits (Data got) = got < 65536

-- which octets are no link's: a phase above 3, a count above what the phase has
unfoldable pub phase_good : ℕ → ℕ → ℕ → Bool
phase_good p high low =
    pick (leb p 1) (pick (eqb high 0) (eqb low 0) false)
    (pick (eqb p 2) (eqb high 0) (eqb p 3))

unfoldable pub link_good : List ℕ → Bool
link_good s = phase_good (oct s 0) (oct s 1) (oct s 2)

-- the link that the octets are
unfoldable pub phase_at : ℕ → ℕ → ℕ → Phase
phase_at p high low = pick (eqb p 0) Hunting (pick (eqb p 1) Preamble (pick (eqb p 2) (Header low) (Data (high * 256 + low))))

unfoldable pub link_of : List ℕ → Link
link_of s = record { phase = phase_at (oct s 0) (oct s 1) (oct s 2); head = take 5 (drop 3 s); first = oct s 8 }
