-- Headers as octets: how long they are, which type their first octet has, and what stands behind them.
use Prim.Native.Nat.{ℕ, ◌+◌, ◌/◌, ◌<◌}
use native.Mathlib.Omega.{arith}
use native.Mathlib.Numerals.{add-one}
use mathlib.Core.Path.{◌≡◌, refl, sym, ◌∙◌}
use mathlib.Core.Bool.{Bool, true, false}
use mathlib.Core.List.{List, ◌∷◌, ◌++◌}
use lib.ListN.{length, drop, take-append-drop}
use lib.Seq.{drop-cons}
use Rattle.octets.specs.Choice.{given}
use Rattle.octets.specs.Reading.{oct}
use Rattle.octets.specs.Has.{Has, has_cut}
use Rattle.apdu.specs.declared.Pdu.{Pdu}
use Rattle.apdu.specs.declared.Pdu.TheVariants.{Request, Unconfirmed, SimpleAck, ComplexAck, SegmentAck, Error, Reject, Abort}
use Rattle.apdu.specs.Fields.{kind_of, params_at, tail_end}
use Rattle.apdu.specs.Layout.{segment, first_octet, tail, header}
use Rattle.apdu.proofs.FirstOctet.{parts_of_lem}

-- the place of the parameters is the header's length
tail_length : (at : ℕ) (seg mor : Bool) (number window choice : ℕ) → at + length (tail (segment seg mor number window) choice) ≡ tail_end at seg
unfolding tail tail_end given
tail_length at true mor number window choice = refl
tail_length at false mor number window choice = refl

pub header_length_lem : (p : Pdu) → length (header p) ≡ params_at p
header_length_lem (Request p) = let g = p.segment in omega (arith, tail_length 3 g.seg g.mor g.number g.window p.choice)
header_length_lem (Unconfirmed p) = refl
header_length_lem (SimpleAck p) = refl
header_length_lem (ComplexAck p) = let g = p.segment in omega (arith, tail_length 2 g.seg g.mor g.number g.window p.choice)
header_length_lem (SegmentAck p) = refl
header_length_lem (Error p) = refl
header_length_lem (Reject p) = refl
header_length_lem (Abort p) = refl

-- the type is the one of the first octet
first_kind : (x k : ℕ) (b3 b2 b1 b0 : Bool) → x ≡ first_octet k b3 b2 b1 b0 → x / 16 ≡ k
first_kind x k b3 b2 b1 b0 e = rw e (parts_of_lem k b3 b2 b1 b0).kind

pub header_kind : (s : List ℕ) (p : Pdu) → Has s 0 (header p) → oct s 0 / 16 ≡ kind_of p
header_kind s (Request p) h = first_kind _ _ _ _ _ _ h.1
header_kind s (Unconfirmed p) h = first_kind _ _ _ _ _ _ h.1
header_kind s (SimpleAck p) h = first_kind _ _ _ _ _ _ h.1
header_kind s (ComplexAck p) h = first_kind _ _ _ _ _ _ h.1
header_kind s (SegmentAck p) h = first_kind _ _ _ _ _ _ h.1
header_kind s (Error p) h = first_kind _ _ _ _ _ _ h.1
header_kind s (Reject p) h = first_kind _ _ _ _ _ _ h.1
header_kind s (Abort p) h = first_kind _ _ _ _ _ _ h.1

-- octets with a header in front are that header and what follows it
pub front : (s : List ℕ) (p : Pdu) → Has s 0 (header p) → s ≡ header p ++ drop (params_at p) s
front s p h = rw (← header_length_lem p) (sym (take-append-drop (length (header p)) s) ∙ rw (has_cut s 0 (header p) h))

-- and where there are more octets than the header's, one of them stands right behind it
pub front_more : (s : List ℕ) (p : Pdu) → Has s 0 (header p) → params_at p < length s → s ≡ header p ++ (oct s (params_at p) ∷ drop (params_at p + 1) s)
front_more s p h l = front s p h ∙ rw (add-one, drop-cons s (params_at p) 0 l)
