-- The six services worked out: by computation.
use mathlib.Core.Path.{refl}
use Rattle.octets.specs.Numbers.{value_at, digits, width_of, long_form}
use Rattle.tags.specs.Types.{least, most}
use Rattle.tags.specs.Reading.{head_at, number_at, length_at, two_at, four_at, first_rule, first_content, contents_at, whole_at, sign_bad, signed_at, context_at, application_at}
use Rattle.tags.specs.Layout as tag
use Rattle.items.specs.Grammar.{encode_all}
use Rattle.items.specs.Reading.{more, ending, closes, step, walk, items_of}
use Rattle.services.specs.Parts.{present, wanted, number_rule, object_rule, optional_number, after_group, group, last}
use Rattle.services.specs.Reading.{target_parts, read_property, read_property_ack, write_property, who_is, device_rule, i_am, error_of, layout_for, read_service}
use Rattle.services.specs.Layout.{pointed, things_of_message}
use Rattle.services.specs.Shows.{message_of}
use Rattle.service_writer.specs.Layout.{octets_of, grouped, ranked}
use Rattle.service_writer.specs.Fault.{wide_target, too_wide, refusal_of, fault_of}
use Rattle.demands.specs.ServicesWorked.{ServicesWorked}

pub services_worked : ServicesWorked
unfolding fault_of octets_of grouped ranked too_wide wide_target refusal_of message_of things_of_message pointed encode_all tag.encode tag.high_bits tag.number_octets tag.low_bits tag.length_octets digits width_of read_service layout_for read_property read_property_ack write_property who_is i_am device_rule error_of target_parts present wanted number_rule object_rule optional_number after_group group last items_of walk step closes ending more head_at number_at length_at two_at four_at first_rule first_content contents_at whole_at sign_bad signed_at context_at application_at least most value_at long_form
services_worked =
    record {
      read = record { read = refl; fine = refl; written = refl };
      read_unindexed = record { read = refl; fine = refl; written = refl };
      ack = record { read = refl; fine = refl; written = refl };
      ack_empty = record { read = refl; fine = refl; written = refl };
      write = record { read = refl; fine = refl; written = refl };
      write_unranked = record { read = refl; fine = refl; written = refl };
      who_is_lem = record { read = refl; fine = refl; written = refl };
      who_is_all = record { read = refl; fine = refl; written = refl };
      i_am_lem = record { read = refl; fine = refl; written = refl };
      error_read = record { read = refl; fine = refl; written = refl };
      error_write = record { read = refl; fine = refl; written = refl };
    }
