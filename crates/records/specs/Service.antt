-- A service as a record of 26 octets, each service with its own fields at the same places:
--
--     octets    ReadProperty, its ack, WriteProperty    Who-Is            I-Am            Error
--     0         0, 1, 2                                 3                 4               5
--     1         index present (1 or 0)                  limits present    segmentation
--     2 -  3    object type                                               vendor
--     4 -  7    instance                                low               instance        class
--     8 - 11    property                                high              longest         code
--    12 - 15    index
--    16 - 19    place of the value in the parameters: the ack and WriteProperty
--    20 - 23    length of the value: the same
--    24         priority present (1 or 0): WriteProperty
--    25         priority: WriteProperty
--
-- Numbers have the high octet first. What a service lacks is 0 as it is read, and is not looked at as it is written.
use Rattle.std.specs.Prelude.{ℕ, ◌*◌, ◌+◌, ◌/◌, ◌%◌, ◌<◌, List, [], ◌∷◌, ltb, eqb}
use Rattle.octets.specs.Choice.{pick}
use Rattle.octets.specs.Reading.{oct}
use Rattle.octets.specs.Numbers.{value_at}
use Rattle.services.specs.declared.Service.{Service}
use Rattle.services.specs.declared.Service.TheVariants.{ReadProperty, ReadPropertyAck, WriteProperty, WhoIs, IAm, Error}
use Rattle.services.specs.declared.Span.{Span}
use Rattle.services.specs.declared.Target.{Target}
use Rattle.records.specs.Flag.{flag}
use Rattle.records.specs.declared.service.Fields.{Fields}

abbrev pub service_size : ℕ
service_size = 26

-- ---- a service's fields at the record's places
-- what points at an object, with a value and a priority; a service without them
abbrev pub pointing : ℕ → Target → ℕ → ℕ → ℕ → ℕ → Fields
pointing sort t place len ranked priority =
    record { sort = sort; mark = flag t.indexed; short = t.object; first = t.instance; second = t.property; third = t.index; place = place; len = len; ranked = ranked; priority = priority }

abbrev pub plain : ℕ → ℕ → ℕ → ℕ → ℕ → Fields
plain sort mark short first second =
    record { sort = sort; mark = mark; short = short; first = first; second = second; third = 0; place = 0; len = 0; ranked = 0; priority = 0 }

-- a place or a length in four octets
abbrev pub low32 : ℕ → ℕ
low32 n = n % 4294967296

abbrev pub fields_of : Service → Fields
fields_of (ReadProperty t) = pointing 0 t 0 0 0 0
fields_of (ReadPropertyAck a) = pointing 1 a.target (low32 a.value.at) (low32 a.value.len) 0 0
fields_of (WriteProperty w) = pointing 2 w.target (low32 w.value.at) (low32 w.value.len) (flag w.ranked) w.priority
fields_of (WhoIs w) = plain 3 (flag w.limited) 0 w.low w.high
fields_of (IAm i) = plain 4 i.segmentation i.vendor i.instance i.longest
fields_of (Error f) = plain 5 0 0 f.class f.code

-- four octets of a number, and what follows them
abbrev pub four : ℕ → List ℕ → List ℕ
four v rest = v / 16777216 ∷ v / 65536 % 256 ∷ v / 256 % 256 ∷ v % 256 ∷ rest

abbrev pub field_octets : Fields → List ℕ
field_octets f =
    f.sort ∷ f.mark ∷ f.short / 256 ∷ f.short % 256 ∷ four f.first (four f.second (four f.third (four f.place (four f.len (f.ranked ∷ f.priority ∷ [])))))

unfoldable pub service_record : Service → List ℕ
service_record v = field_octets (fields_of v)

-- ---- the service that a record is, of a sort 0 to 5
abbrev pub fields_at : List ℕ → Fields
fields_at o =
    record { sort = oct o 0; mark = oct o 1; short = oct o 2 * 256 + oct o 3; first = value_at o 4 4; second = value_at o 8 4; third = value_at o 12 4; place = value_at o 16 4; len = value_at o 20 4; ranked = oct o 24; priority = oct o 25 }

abbrev pub target_in : Fields → Target
target_in f = record { object = f.short; instance = f.first; property = f.second; indexed = ltb 0 f.mark; index = f.third }

abbrev pub span_in : Fields → Span
span_in f = record { at = f.place; len = f.len }

unfoldable pub service_of : Fields → Service
service_of f =
    pick (eqb f.sort 0) (ReadProperty (target_in f))
    (pick (eqb f.sort 1) (ReadPropertyAck (record { target = target_in f; value = span_in f }))
    (pick (eqb f.sort 2) (WriteProperty (record { target = target_in f; value = span_in f; ranked = ltb 0 f.ranked; priority = f.priority }))
    (pick (eqb f.sort 3) (WhoIs (record { limited = ltb 0 f.mark; low = f.first; high = f.second }))
    (pick (eqb f.sort 4) (IAm (record { instance = f.first; longest = f.second; segmentation = f.mark; vendor = f.short }))
    (Error (record { class = f.first; code = f.second }))))))

unfoldable pub service_at : List ℕ → Service
service_at o = service_of (fields_at o)

-- the value's place and length are of four octets, as those of parameters that were read are
abbrev pub Spanned : Service → Type 0
Spanned (ReadProperty t) = Unit {0}
Spanned (ReadPropertyAck a) = (a.value.at < 4294967296) × (a.value.len < 4294967296)
Spanned (WriteProperty w) = (w.value.at < 4294967296) × (w.value.len < 4294967296)
Spanned (WhoIs w) = Unit {0}
Spanned (IAm i) = Unit {0}
Spanned (Error f) = Unit {0}
