-- Worked services, by computation: those of source document 000 (F.3.5, F.3.8, F.4.9) and the places where readings could differ.
use Rattle.std.specs.Prelude.{Ok, Err}
use Prim.Native.Nat.{ℕ}
use mathlib.Core.Path.{◌≡◌, refl}
use mathlib.Core.List.{List, [], ◌∷◌, ◌++◌}
use mathlib.Core.Bool.{Bool, true, false}
use Rattle.octets.specs.Numbers.{value_at, long_form}
use Rattle.tags.specs.Types.{least, most}
use Rattle.tags.specs.Reading.{head_at, number_at, length_at, two_at, four_at, first_rule, first_content, contents_at, whole_at, sign_bad, signed_at, context_at, application_at}
use Rattle.items.specs.Reading.{more, ending, closes, step, walk, items_of}
use Rattle.services.specs.Parts.{present, wanted, number_rule, object_rule, optional_number, after_group, group, last}
use Rattle.services.specs.Reading.{target_parts, read_property, read_property_ack, write_property, who_is, device_rule, i_am, error_of, layout_for, read_service}
use Rattle.services.specs.declared.Service.TheVariants.{ReadProperty, ReadPropertyAck, WriteProperty, WhoIs, IAm, Error}
use Rattle.services.specs.declared.Target.{Target}

-- analog input 5 and analog value 1, property 85
abbrev input : List ℕ
input = 0x0C ∷ 0x00 ∷ 0x00 ∷ 0x00 ∷ 0x05 ∷ 0x19 ∷ 0x55 ∷ []

abbrev value : List ℕ
value = 0x0C ∷ 0x00 ∷ 0x80 ∷ 0x00 ∷ 0x01 ∷ 0x19 ∷ 0x55 ∷ []

abbrev target : ℕ → ℕ → Bool → ℕ → Target
target object instance indexed index = record { object = object; instance = instance; property = 85; indexed = indexed; index = index }

pub record Worked : Type 0 where
  pub request : read_service 0 12 input ≡ Ok (ReadProperty (target 0 5 false 0))
  pub indexed : read_service 0 12 (input ++ (0x29 ∷ 0x03 ∷ [])) ≡ Ok (ReadProperty (target 0 5 true 3))
  pub ack : read_service 3 12 (input ++ (0x3E ∷ 0x44 ∷ 0x42 ∷ 0x90 ∷ 0x99 ∷ 0x9A ∷ 0x3F ∷ [])) ≡ Ok (ReadPropertyAck (record { target = target 0 5 false 0; value = record { at = 8; len = 5 } }))
  pub empty : read_service 3 12 (input ++ (0x3E ∷ 0x3F ∷ [])) ≡ Ok (ReadPropertyAck (record { target = target 0 5 false 0; value = record { at = 8; len = 0 } }))
  pub write : read_service 0 15 (value ++ (0x3E ∷ 0x44 ∷ 0x43 ∷ 0x34 ∷ 0x00 ∷ 0x00 ∷ 0x3F ∷ [])) ≡ Ok (WriteProperty (record { target = target 2 1 false 0; value = record { at = 8; len = 5 }; ranked = false; priority = 0 }))
  pub priority : read_service 0 15 (value ++ (0x3E ∷ 0x3F ∷ 0x49 ∷ 0x10 ∷ [])) ≡ Ok (WriteProperty (record { target = target 2 1 false 0; value = record { at = 8; len = 0 }; ranked = true; priority = 16 }))
  pub priority_17 : read_service 0 15 (value ++ (0x3E ∷ 0x3F ∷ 0x49 ∷ 0x11 ∷ [])) ≡ Err 41
  pub who : read_service 1 8 (0x09 ∷ 0x03 ∷ 0x19 ∷ 0x03 ∷ []) ≡ Ok (WhoIs (record { limited = true; low = 3; high = 3 }))
  pub who_none : read_service 1 8 [] ≡ Ok (WhoIs (record { limited = false; low = 0; high = 0 }))
  pub low_above_high : read_service 1 8 (0x09 ∷ 0x04 ∷ 0x19 ∷ 0x03 ∷ []) ≡ Err 41
  pub only_low : read_service 1 8 (0x09 ∷ 0x03 ∷ []) ≡ Err 40
  pub only_high : read_service 1 8 (0x19 ∷ 0x03 ∷ []) ≡ Err 42
  pub am : read_service 1 0 (0xC4 ∷ 0x02 ∷ 0x00 ∷ 0x00 ∷ 0x03 ∷ 0x22 ∷ 0x04 ∷ 0x00 ∷ 0x91 ∷ 0x03 ∷ 0x21 ∷ 0x63 ∷ []) ≡ Ok (IAm (record { instance = 3; longest = 1024; segmentation = 3; vendor = 99 }))
  pub error_12 : read_service 5 12 (0x91 ∷ 0x02 ∷ 0x91 ∷ 0x20 ∷ []) ≡ Ok (Error (record { class = 2; code = 32 }))
  pub error_15 : read_service 5 15 (0x91 ∷ 0x02 ∷ 0x91 ∷ 0x20 ∷ []) ≡ Ok (Error (record { class = 2; code = 32 }))
  -- "an item after the last"; "`2E 2F` is not a context item of number 2"
  pub after_last : read_service 0 12 (input ++ (0x29 ∷ 0x03 ∷ 0x29 ∷ 0x03 ∷ [])) ≡ Err 42
  pub no_index : read_service 0 12 (input ++ (0x2E ∷ 0x2F ∷ [])) ≡ Err 42
  pub early : read_service 3 12 (input ++ (0x3E ∷ 0x3F ∷ 0x3E ∷ 0x3F ∷ [])) ≡ Err 42
  pub long_property : read_service 0 12 (0x0C ∷ 0x00 ∷ 0x00 ∷ 0x00 ∷ 0x05 ∷ 0x1A ∷ 0x00 ∷ 0x55 ∷ []) ≡ Err 41
  -- "Tag refusals 30 to 39 come before 43"
  pub other_choice_lem : read_service 0 14 input ≡ Err 43
  pub tags_first : read_service 0 14 (0x3E ∷ []) ≡ Err 36

pub worked : Worked
unfolding read_service layout_for read_property read_property_ack write_property who_is i_am device_rule error_of target_parts present wanted number_rule object_rule optional_number after_group group last items_of walk step closes ending more head_at number_at length_at two_at four_at first_rule first_content contents_at whole_at sign_bad signed_at context_at application_at least most value_at long_form
worked =
    record {
      request = refl;
      indexed = refl;
      ack = refl;
      empty = refl;
      write = refl;
      priority = refl;
      priority_17 = refl;
      who = refl;
      who_none = refl;
      low_above_high = refl;
      only_low = refl;
      only_high = refl;
      am = refl;
      error_12 = refl;
      error_15 = refl;
      after_last = refl;
      no_index = refl;
      early = refl;
      long_property = refl;
      other_choice_lem = refl;
      tags_first = refl;
    }
