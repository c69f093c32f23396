-- Heads that the page names, worked out.
use mathlib.Core.Path.{◌≡◌, refl}
use mathlib.Core.List.{[], ◌∷◌}
use Rattle.octets.specs.Numbers.{value_at}
use Rattle.tags.specs.Types.{least, most}
use Rattle.tags.specs.Reading.{number_at, two_at, four_at, length_at, first_rule, first_content, whole_at, sign_bad, signed_at, contents_at, context_at, application_at, head_at}
use Rattle.tags.specs.Signed.{signed_value}
use Rattle.tags.specs.Signed.Whole.{minus}
use Rattle.tags.specs.Head.Tag.{Item, Opening, Closing, Refused}

pub record Worked : Type 0 where
  -- 3E 44 42 39 99 9A 3F, tag by tag
  pub opens : head_at (62 ∷ 68 ∷ 66 ∷ 57 ∷ 153 ∷ 154 ∷ 63 ∷ []) 0 ≡ Opening 3 1
  pub real : head_at (62 ∷ 68 ∷ 66 ∷ 57 ∷ 153 ∷ 154 ∷ 63 ∷ []) 1 ≡ Item 0 4 0 2 4
  pub closes : head_at (62 ∷ 68 ∷ 66 ∷ 57 ∷ 153 ∷ 154 ∷ 63 ∷ []) 6 ≡ Closing 3 7
  -- 11; a boolean has no contents octet
  pub boolean : head_at (17 ∷ []) 0 ≡ Item 0 1 1 1 0
  -- 22 00 05; 22 00 alone
  pub zero_first : head_at (34 ∷ 0 ∷ 5 ∷ []) 0 ≡ Refused 34
  pub zero_alone : head_at (34 ∷ 0 ∷ []) 0 ≡ Refused 34
  -- 32 FF 7F is -129; 32 FF 80; 32 FF alone
  pub signed : head_at (50 ∷ 255 ∷ 127 ∷ []) 0 ≡ Item 0 3 0 1 2
  pub signed_value_lem : signed_value (50 ∷ 255 ∷ 127 ∷ []) 1 2 ≡ minus 129
  pub signed_long : head_at (50 ∷ 255 ∷ 128 ∷ []) 0 ≡ Refused 34
  pub signed_cut : head_at (50 ∷ 255 ∷ []) 0 ≡ Refused 30
  -- 81 01
  pub unused : head_at (129 ∷ 1 ∷ []) 0 ≡ Refused 34
  -- 65 04 against 65 05
  pub form : head_at (101 ∷ 4 ∷ 1 ∷ 2 ∷ 3 ∷ 4 ∷ []) 0 ≡ Refused 32
  pub five : head_at (101 ∷ 5 ∷ 1 ∷ 2 ∷ 3 ∷ 4 ∷ 5 ∷ []) 0 ≡ Item 0 6 0 2 5
  -- an extended number: F9 0F 07 and F9 0E 07, F9 FF 07
  pub extended : head_at (249 ∷ 15 ∷ 7 ∷ []) 0 ≡ Item 1 15 0 2 1
  pub number_low : head_at (249 ∷ 14 ∷ 7 ∷ []) 0 ≡ Refused 31
  pub number_high : head_at (249 ∷ 255 ∷ 7 ∷ []) 0 ≡ Refused 31

pub worked : Worked
unfolding head_at number_at first_rule context_at application_at length_at two_at four_at least most contents_at first_content signed_at sign_bad whole_at signed_value value_at
worked =
    record {
      opens = refl;
      real = refl;
      closes = refl;
      boolean = refl;
      zero_first = refl;
      zero_alone = refl;
      signed = refl;
      signed_value_lem = refl;
      signed_long = refl;
      signed_cut = refl;
      unused = refl;
      form = refl;
      five = refl;
      extended = refl;
      number_low = refl;
      number_high = refl;
    }
