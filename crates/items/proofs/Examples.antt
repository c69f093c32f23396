-- Document 01's worked items, by computation.
use mathlib.Core.Path.{◌≡◌, refl}
use mathlib.Core.List.{[], ◌∷◌}
use Rattle.octets.specs.Numbers.{value_at}
use Rattle.tags.specs.Types.{least, most}
use Rattle.tags.specs.Reading.{head_at, number_at, length_at, two_at, four_at, first_rule, first_content, contents_at, whole_at, sign_bad, signed_at, context_at, application_at}
use Rattle.tags.specs.Signed.{signed_value}
use Rattle.tags.specs.Signed.Whole.{minus}
use Rattle.items.specs.Records.{rec}
use Rattle.items.specs.Reading.{more, ending, closes, step, walk, items_of}
use Rattle.items.specs.Reading.Out.{good, bad}

pub record Worked : Type 0 where
  pub none : items_of [] ≡ good [] 0
  pub group : items_of (0x3E ∷ 0x44 ∷ 0x42 ∷ 0x39 ∷ 0x99 ∷ 0x9A ∷ 0x3F ∷ []) ≡ good (rec 2 3 0 0 1 0 ∷ rec 0 4 1 0 2 4 ∷ rec 3 3 0 0 7 0 ∷ []) 7
  pub boolean : items_of (0x11 ∷ []) ≡ good (rec 0 1 0 1 1 0 ∷ []) 1
  pub long_unsigned : items_of (0x22 ∷ 0x00 ∷ 0x05 ∷ []) ≡ bad 34
  pub signed : items_of (0x32 ∷ 0xFF ∷ 0x7F ∷ []) ≡ good (rec 0 3 0 0 1 2 ∷ []) 3
  pub signed_value_lem : signed_value (0x32 ∷ 0xFF ∷ 0x7F ∷ []) 1 2 ≡ minus 129
  pub long_signed : items_of (0x32 ∷ 0xFF ∷ 0x80 ∷ []) ≡ bad 34
  pub other_number_lem : items_of (0x3E ∷ 0x4F ∷ []) ≡ bad 35
  pub left_open_lem : items_of (0x3E ∷ []) ≡ bad 36
  pub lone_unused : items_of (0x81 ∷ 0x01 ∷ []) ≡ bad 34
  -- "`22 00` alone is 34, `32 FF` alone 30"
  pub early_unsigned : items_of (0x22 ∷ 0x00 ∷ []) ≡ bad 34
  pub early_signed : items_of (0x32 ∷ 0xFF ∷ []) ≡ bad 30

pub worked : Worked
unfolding items_of walk step closes ending more head_at number_at length_at two_at four_at first_rule first_content contents_at whole_at sign_bad signed_at context_at application_at least most signed_value value_at
worked =
    record {
      none = refl;
      group = refl;
      boolean = refl;
      long_unsigned = refl;
      signed = refl;
      signed_value_lem = refl;
      long_signed = refl;
      other_number_lem = refl;
      left_open_lem = refl;
      lone_unused = refl;
      early_unsigned = refl;
      early_signed = refl;
    }
