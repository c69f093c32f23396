-- The services' rows: what the statements of specs/ServiceRows say, from the laws of services.
use Prim.Native.Nat.{ℕ}
use mathlib.Core.Path.{◌≡◌, refl, sym, ap, ◌∙◌}
use mathlib.Core.Logic.{inl, inr}
use mathlib.Core.List.{List}
use Rattle.std.specs.Prelude.{Ok, Err}
use Rattle.octets.specs.Reading.{Octets}
use Rattle.octets.specs.Numbers.{value_at, long_form}
use Rattle.tags.specs.Types.{least, most}
use Rattle.tags.specs.Layout.{Thing}
use Rattle.tags.specs.Reading.{head_at, number_at, length_at, two_at, four_at, first_rule, first_content, contents_at, whole_at, sign_bad, signed_at, context_at, application_at}
use Rattle.items.specs.Reading.{more, ending, closes, step, walk, items_of}
use Rattle.items.specs.Grammar.{encode_all, Grammar, Reads}
use Rattle.items.proofs.Exact.{exact}
use Rattle.services.specs.Parts.{present, wanted, number_rule, object_rule, optional_number, after_group, group, last}
use Rattle.services.specs.Reading.{target_parts, read_property, read_property_ack, write_property, who_is, device_rule, i_am, error_of, layout_for, read_service}
use Rattle.services.specs.Parts.{Answer}
use Rattle.services.proofs.Rows.{rows_exact, good_message, message_good}
use Rattle.demands.specs.ServiceRows.{ServiceRows, ServiceVerdict, ServicesOneRow, ServicesRefused}

pub service_rows : ServiceRows
service_rows kind choice o os ts r x = rows_exact kind choice o os ts r x

-- ---- exactly one
-- a refusal's number, 0 of what is good
abbrev number_of : Answer → ℕ
number_of (Ok v) = 0
number_of (Err x) = x

module _ (kind choice : ℕ) (ts : List Thing) (g : Grammar ts) (os : Octets (encode_all ts)) where
  abbrev read : Answer
  read = read_service kind choice (encode_all ts)

  items : Reads (encode_all ts) ts
  items = exact.complete ts g

  verdict_is : (x : ℕ) → ServiceVerdict kind choice ts x → x ≡ number_of read
  verdict_is x (inl (z, (m, ok, e))) = z ∙ sym (ap number_of (message_good kind choice (encode_all ts) os ts items m ok e).1)
  verdict_is x (inr w) = sym (ap number_of ((rows_exact kind choice (encode_all ts) os ts items x).1 w))

  verdict : (a : Answer) → read ≡ a → ServiceVerdict kind choice ts (number_of a)
  verdict (Ok v) e = inl (refl, good_message kind choice (encode_all ts) os ts items v e)
  verdict (Err x) e = inr ((rows_exact kind choice (encode_all ts) os ts items x).0 e)

pub services_one_row : ServicesOneRow
services_one_row kind choice ts g os =
    record {
      answer = number_of (read kind choice ts g os);
      allowed = verdict kind choice ts g os (read kind choice ts g os) refl;
      same = λ x y a b. verdict_is kind choice ts g os x a ∙ sym (verdict_is kind choice ts g os y b);
    }

-- ---- by computation
pub services_refused : ServicesRefused
unfolding read_service layout_for read_property read_property_ack write_property who_is i_am device_rule error_of target_parts present wanted number_rule object_rule optional_number after_group group last items_of walk step closes ending more head_at number_at length_at two_at four_at first_rule first_content contents_at whole_at sign_bad signed_at context_at application_at least most value_at long_form
services_refused =
    record {
      property_target = record {
        object_40 = (refl, refl, refl, refl);
        object_41 = (refl, refl, refl);
        property_40 = (refl, refl, refl, refl, refl);
        property_41 = (refl, refl, refl);
        index_41 = (refl, refl, refl);
      };
      property_good = ((_, refl), (_, refl), (_, refl), (_, refl), (_, refl), (_, refl));
      property_42 = (refl, refl, refl, refl);
      ack_target = record {
        object_40 = (refl, refl, refl, refl);
        object_41 = (refl, refl, refl);
        property_40 = (refl, refl, refl, refl, refl);
        property_41 = (refl, refl, refl);
        index_41 = (refl, refl, refl);
      };
      ack_value = record {
        empty = ((_, refl), (_, refl), (_, refl), (_, refl));
        value_40 = (refl, refl, refl, refl, refl, refl);
        value_42 = refl;
      };
      ack_42 = refl;
      write_target = record {
        object_40 = (refl, refl, refl, refl);
        object_41 = (refl, refl, refl);
        property_40 = (refl, refl, refl, refl, refl);
        property_41 = (refl, refl, refl);
        index_41 = (refl, refl, refl);
      };
      write_value = record {
        empty = ((_, refl), (_, refl), (_, refl), (_, refl));
        value_40 = (refl, refl, refl, refl, refl, refl);
        value_42 = refl;
      };
      priority_good = ((_, refl), (_, refl));
      priority_41 = (refl, refl, refl, refl, refl);
      write_42 = (refl, refl, refl);
      limits_good = ((_, refl), (_, refl), (_, refl), (_, refl));
      limits_42 = (refl, refl, refl);
      low_41 = (refl, refl, refl, refl);
      high_40 = (refl, refl, refl, refl);
      high_41 = (refl, refl, refl, refl, refl);
      high_42 = refl;
      am_good = ((_, refl), (_, refl), (_, refl));
      device_40 = (refl, refl, refl);
      device_41 = (refl, refl, refl);
      longest_40 = (refl, refl, refl, refl);
      segmentation_40 = (refl, refl);
      segmentation_41 = (refl, refl);
      vendor_40 = (refl, refl);
      vendor_41 = refl;
      am_42 = refl;
      error_good = ((_, refl), (_, refl));
      class_40 = (refl, refl, refl);
      code_40 = (refl, refl, refl);
      error_42 = (refl, refl);
      no_choice = (refl, refl, refl, refl, refl, refl, refl, refl, refl, refl);
    }
