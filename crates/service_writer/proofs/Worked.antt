-- What writers refuse, by computation.
use Prim.Native.Nat.{ℕ}
use mathlib.Core.Path.{◌≡◌, refl}
use mathlib.Core.List.{[], ◌∷◌}
use mathlib.Core.Bool.{Bool, true, false}
use Rattle.octets.specs.Numbers.{value_at, digits, width_of, long_form}
use Rattle.tags.specs.Types.{least, most}
use Rattle.tags.specs.Reading.{head_at, number_at, length_at, two_at, four_at, first_rule, first_content, contents_at, whole_at, sign_bad, signed_at, context_at, application_at}
use Rattle.tags.specs.Layout.{encode, high_bits, number_octets, low_bits, length_octets}
use Rattle.items.specs.Grammar.{encode_all}
use Rattle.items.specs.Reading.{more, ending, closes, step, walk, items_of}
use Rattle.services.specs.Parts.{present, wanted, number_rule, object_rule, optional_number, after_group, group, last}
use Rattle.services.specs.Reading.{target_parts, read_property, read_property_ack, write_property, who_is, device_rule, i_am, error_of, layout_for, read_service}
use Rattle.services.specs.Layout.{pointed, things_of_message}
use Rattle.services.specs.Shows.{message_of}
use Rattle.services.specs.declared.Service.{Service}
use Rattle.services.specs.declared.Service.TheVariants.{ReadProperty, ReadPropertyAck, WriteProperty, WhoIs, IAm}
use Rattle.services.specs.declared.Target.{Target}
use Rattle.service_writer.specs.Layout.{grouped, ranked, octets_of}
use Rattle.service_writer.specs.Fault.{wide_target, too_wide, refusal_of, fault_of}

-- analog input 5, property 85, and an index that is not there
abbrev target : ℕ → Target
target object = record { object = object; instance = 5; property = 85; indexed = false; index = 7 }

abbrev request : Bool → ℕ → Service
request here priority = WriteProperty (record { target = target 0; value = record { at = 0; len = 0 }; ranked = here; priority = priority })

pub record Worked : Type 0 where
  pub octets : octets_of (request true 8) (0x11 ∷ []) ≡ 0x0C ∷ 0x00 ∷ 0x00 ∷ 0x00 ∷ 0x05 ∷ 0x19 ∷ 0x55 ∷ 0x3E ∷ 0x11 ∷ 0x3F ∷ 0x49 ∷ 0x08 ∷ []
  pub fine : fault_of (request true 8) (0x11 ∷ []) ≡ 0
  pub absent : fault_of (request false 99) [] ≡ 0
  pub priority_17 : fault_of (request true 17) [] ≡ 41
  -- the value's tag numbers come before the priority's
  pub value_first : fault_of (request true 17) (0x22 ∷ 0x00 ∷ 0x05 ∷ []) ≡ 34
  pub wide : fault_of (ReadProperty (target 1024)) [] ≡ 41
  pub wide_first : fault_of (ReadPropertyAck (record { target = target 1024; value = record { at = 0; len = 0 } })) (0x22 ∷ 0x00 ∷ 0x05 ∷ []) ≡ 41
  pub low_above_high : fault_of (WhoIs (record { limited = true; low = 4; high = 3 })) [] ≡ 41
  pub segmentation_4 : fault_of (IAm (record { instance = 1; longest = 480; segmentation = 4; vendor = 99 })) [] ≡ 41
  -- "`3F 3E` as a value is 42"
  pub early : fault_of (request false 0) (0x3F ∷ 0x3E ∷ []) ≡ 42
  -- the octets after a value can end what it begins
  pub swallowed : fault_of (request true 63) (0x0A ∷ []) ≡ 0

pub worked : Worked
unfolding fault_of octets_of grouped ranked too_wide wide_target refusal_of message_of things_of_message pointed encode_all encode high_bits number_octets low_bits length_octets digits width_of read_service layout_for read_property read_property_ack write_property who_is i_am device_rule error_of target_parts present wanted number_rule object_rule optional_number after_group group last items_of walk step closes ending more head_at number_at length_at two_at four_at first_rule first_content contents_at whole_at sign_bad signed_at context_at application_at least most value_at long_form
worked =
    record {
      octets = refl;
      fine = refl;
      absent = refl;
      priority_17 = refl;
      value_first = refl;
      wide = refl;
      wide_first = refl;
      low_above_high = refl;
      segmentation_4 = refl;
      early = refl;
      swallowed = refl;
    }
