-- The rows 30 to 34 at one tag: what the statements of specs/TagRows say, from the laws of tags and items.
use Prim.Native.Nat.{ℕ, zero, suc, ◌+◌, ◌≤◌}
use native.Mathlib.Omega.{arith}
use mathlib.Core.Path.{◌≡◌, refl, sym, ap, subst, ◌∙◌}
use mathlib.Core.Logic.{inl, inr, ⊎_elim}
use mathlib.Core.List.{List, [], ◌∷◌, ◌++◌}
use lib.ListN.{length, length-append}
use Rattle.octets.specs.Reading.{Octets}
use Rattle.octets.specs.Has.{all_has}
use Rattle.octets.specs.Every.{octets_none, octets_more, octets_join}
use Rattle.tags.specs.Types.{least, most}
use Rattle.tags.specs.Reading.{number_at, two_at, four_at, length_at, first_rule, first_content, whole_at, sign_bad, signed_at, contents_at, context_at, application_at, head_at}
use Rattle.tags.specs.Layout.{Thing, encode, tag_of, Good, Stands}
use Rattle.tags.specs.Layout.Thing.{application, boolean, context, opening, closing}
use Rattle.tags.specs.Rows.{Early, Given}
use Rattle.tags.specs.Rows.Given.{thirty, thirty_one, thirty_two, thirty_three, thirty_four}
use Rattle.tags.specs.Head.{Tag}
use Rattle.tags.specs.Head.Tag.{Item, Opening, Closing, Refused}
use Rattle.tags.proofs.Bounds.{TagIn, head_in}
use Rattle.tags.proofs.Exact.{encode_length, head_complete, head_sound}
use Rattle.tags.proofs.Refusals.{TagHas}
use Rattle.tags.proofs.Rows.{rows_sound, rows_complete, rows_exact, early_short}
use Rattle.items.proofs.HeadFront.{head_front}
use Rattle.demands.specs.TagRows.{TagRows, Verdict, TagsOne, TagsLeftToRight, TagsUndecided, TagsCut, TypeLengths, TagsWorked}

pub tag_rows : TagRows
tag_rows s os at x = rows_exact s os at x

-- ---- exactly one
-- a refusal's number, 0 of what is good
abbrev number_of : Tag → ℕ
number_of (Item k n v p l) = 0
number_of (Opening n p) = 0
number_of (Closing n p) = 0
number_of (Refused x) = x

tag_zero : (at : ℕ) (t : Thing) → number_of (tag_of at t) ≡ 0
unfolding tag_of
tag_zero at (application n xs) = refl
tag_zero at (boolean v) = refl
tag_zero at (context n xs) = refl
tag_zero at (opening n) = refl
tag_zero at (closing n) = refl

module _ (s : List ℕ) (os : Octets s) (at : ℕ) where
  verdict_is : (x : ℕ) → Verdict s at x → x ≡ number_of (head_at s at)
  verdict_is x (inl (z, (t, v, h))) = z ∙ sym (ap number_of (head_complete s at t v h) ∙ tag_zero at t)
  verdict_is x (inr g) = sym (ap number_of (rows_complete s os at x g))

  stands : (u : Tag) → Stands s at u → Verdict s at 0
  stands u (t, v, h, e) = inl (refl, (t, v, h))

  verdict : (u : Tag) → (Good u → Stands s at u) → TagHas (λ x. Given x s at) u → Verdict s at (number_of u)
  verdict (Item k n v p l) f g = stands (Item k n v p l) (f tt)
  verdict (Opening n p) f g = stands (Opening n p) (f tt)
  verdict (Closing n p) f g = stands (Closing n p) (f tt)
  verdict (Refused x) f g = inr g

pub tags_one : TagsOne
tags_one s os at =
    record {
      answer = number_of (head_at s at);
      allowed = verdict s os at (head_at s at) (head_sound s os at) (rows_sound s os at);
      same = λ x y a b. verdict_is s os at x a ∙ sym (verdict_is s os at y b);
    }

-- ---- left to right
pub tags_left_to_right : TagsLeftToRight
tags_left_to_right s more at other = ⊎_elim (λ h. absurd (other h)) (λ h. h) (head_front s more at)

zeros : ℕ → List ℕ
zeros zero = []
zeros (suc n) = 0 ∷ zeros n

zeros_length : (n : ℕ) → length (zeros n) ≡ n
unfolding zeros
zeros_length zero = refl
zeros_length (suc n) = ap suc (zeros_length n)

zeros_octets : (n : ℕ) → Octets (zeros n)
unfolding zeros
zeros_octets zero = octets_none
zeros_octets (suc n) = octets_more 0 (zeros n) (omega arith) (zeros_octets n)

given_30 : (s : List ℕ) (at : ℕ) → Given 30 s at → Early s at
given_30 s at (thirty e w) = w
given_30 s at (thirty_one e w) = absurd (omega arith)
given_30 s at (thirty_two e w) = absurd (omega arith)
given_30 s at (thirty_three e w) = absurd (omega arith)
given_30 s at (thirty_four e w) = absurd (omega arith)

-- no item has so many octets: with these behind, 30 is not the answer
settled : (s : List ℕ) → Octets s → (at n : ℕ) → at + 16391 ≤ n → head_at s at ≡ Refused 30 → head_at (s ++ zeros n) at ≡ head_at s at → ⊥
settled s os at n long e same =
    let w = given_30 (s ++ zeros n) at ((rows_exact (s ++ zeros n) (octets_join s (zeros n) os (zeros_octets n)) at 30).0 (same ∙ e)) in
    omega (arith, early_short (s ++ zeros n) at w, length-append s (zeros n), zeros_length n)

undecided : (s : List ℕ) → Octets s → (at n : ℕ) → at + 16391 ≤ n → head_at s at ≡ Refused 30
    → (more : List ℕ) × Octets more × (head_at (s ++ more) at ≡ head_at s at → ⊥)
undecided s os at n long e = (zeros n, zeros_octets n, settled s os at n long e)

pub tags_undecided : TagsUndecided
tags_undecided s os at = (λ e. undecided s os at (at + 16391) (omega arith) e, λ w. ⊎_elim (λ h. h) (λ h. absurd (w.2 h)) (head_front s w.0 at))

-- an item that is read lies within the octets
tag_within : (s : List ℕ) (t : Thing) → TagIn s 0 (tag_of 0 t) → length (encode t) ≤ length s
unfolding tag_of
tag_within s (application n xs) h = omega (arith, encode_length (application n xs))
tag_within s (boolean v) h = omega (arith, encode_length (boolean v))
tag_within s (context n xs) h = omega (arith, encode_length (context n xs))
tag_within s (opening n) h = omega (arith, encode_length (opening n))
tag_within s (closing n) h = omega (arith, encode_length (closing n))

pub tags_cut : TagsCut
tags_cut t v front more e some = ⊎_elim (λ h. h) (λ h. absurd (whole (sym h ∙ read))) (head_front front more 0)
  where
    read : head_at (front ++ more) 0 ≡ tag_of 0 t
    read = rw (← e) (head_complete (encode t) 0 t v (all_has (encode t)))

    whole : head_at front 0 ≡ tag_of 0 t → ⊥
    whole d = omega (arith, tag_within front t (subst (TagIn front 0) d (head_in front 0)), ap length e, length-append front more)

-- ---- by computation
pub type_lengths : TypeLengths
unfolding least most
type_lengths =
    record {
      null = (refl, refl);
      unsigned = (refl, refl);
      enumerated = (refl, refl);
      signed = (refl, refl);
      real = (refl, refl);
      double = (refl, refl);
      octets = (refl, refl);
      characters = (refl, refl);
      bits = (refl, refl);
      date = (refl, refl);
      time = (refl, refl);
      object = (refl, refl);
      over = refl;
    }

pub tags_worked : TagsWorked
unfolding head_at number_at first_rule context_at application_at length_at two_at four_at least most contents_at first_content signed_at sign_bad whole_at
tags_worked =
    record {
      null = (refl, refl, refl);
      boolean = (refl, refl, refl, refl, refl);
      unsigned = (refl, refl, refl, refl, refl, refl, refl, refl);
      signed = (refl, refl, refl, refl, refl, refl, refl, refl, refl, refl);
      real = (refl, refl, refl);
      double = (refl, refl, refl, refl);
      octets = (refl, refl, refl, refl);
      characters = (refl, refl, refl, refl, refl);
      bits = (refl, refl, refl, refl, refl, refl);
      enumerated = (refl, refl, refl, refl, refl);
      date = (refl, refl, refl);
      time = (refl, refl, refl);
      object = (refl, refl, refl);
      above = (refl, refl, refl, refl, refl, refl, refl, refl, refl, refl, refl);
      extended = (refl, refl, refl, refl, refl, refl, refl, refl, refl, refl, refl);
      forms = (refl, refl, refl, refl, refl, refl, refl, refl, refl, refl, refl);
      context = (refl, refl, refl, refl, refl, refl, refl, refl, refl, refl);
      nothing = refl;
    }
