-- The service's record: its size, and what is read back of it.
use Prim.Native.Nat.{ℕ, ◌+◌, ◌/◌, ◌%◌, ◌≤◌, ◌<◌}
use native.Mathlib.Omega.{arith}
use mathlib.Core.Path.{◌≡◌, refl, ap, ◌∙◌}
use mathlib.Core.List.{List}
use lib.ListN.{length, get_or}
use lib.Dec.{lit≤}
use Rattle.octets.specs.Reading.{oct}
use Rattle.octets.specs.Numbers.{value_at}
use Rattle.services.specs.declared.Service.{Service}
use Rattle.services.specs.declared.Service.TheVariants.{ReadProperty, ReadPropertyAck, WriteProperty, WhoIs, IAm, Error}
use Rattle.records.specs.Flag.{flag_back}
use Rattle.records.specs.Service.{low32, fields_of, field_octets, service_record, fields_at, service_of, service_at, Spanned}
use Rattle.records.specs.declared.service.Fields.{Fields}
use Rattle.records.proofs.Networks.{two_back}

pub service_size_lem : (v : Service) → length (service_record v) ≡ 26
unfolding service_record
service_size_lem v = refl

-- its first octet is 0 to 5
pub service_sort : (v : Service) → oct (service_record v) 0 ≤ 5
unfolding service_record
service_sort (ReadProperty t) = lit≤ tt
service_sort (ReadPropertyAck a) = lit≤ tt
service_sort (WriteProperty w) = lit≤ tt
service_sort (WhoIs w) = lit≤ tt
service_sort (IAm i) = lit≤ tt
service_sort (Error f) = lit≤ tt

-- four octets that are a number's
four_back : (s : List ℕ) (p v : ℕ) → get_or s p 0 ≡ v / 16777216 → get_or s (p + 1) 0 ≡ v / 65536 % 256 → get_or s (p + 2) 0 ≡ v / 256 % 256 → get_or s (p + 3) 0 ≡ v % 256 → value_at s p 4 ≡ v
unfolding value_at
four_back s p v a b c d = let z : p + 0 ≡ p = omega arith in rw (z, a, b, c, d) (omega arith)

fields_back : (f : Fields) → fields_at (field_octets f) ≡ f
fields_back f =
    let o = field_octets f in
    rw (
      two_back f.short,
      four_back o 4 f.first refl refl refl refl,
      four_back o 8 f.second refl refl refl refl,
      four_back o 12 f.third refl refl refl refl,
      four_back o 16 f.place refl refl refl refl,
      four_back o 20 f.len refl refl refl refl,
    )

low_same : (n : ℕ) → n < 4294967296 → low32 n ≡ n
low_same n h = omega arith

of_back : (v : Service) → Spanned v → service_of (fields_of v) ≡ v
unfolding service_of
of_back (ReadProperty t) s = rw (flag_back t.indexed)
of_back (ReadPropertyAck a) s = rw (flag_back a.target.indexed, low_same a.value.at s.0, low_same a.value.len s.1)
of_back (WriteProperty w) s = rw (flag_back w.target.indexed, flag_back w.ranked, low_same w.value.at s.0, low_same w.value.len s.1)
of_back (WhoIs w) s = rw (flag_back w.limited)
of_back (IAm i) s = refl
of_back (Error f) s = refl

-- a service's record is read as that service
pub service_back : (v : Service) → Spanned v → service_at (service_record v) ≡ v
unfolding service_at service_record
service_back v s = ap service_of (fields_back (fields_of v)) ∙ of_back v s
