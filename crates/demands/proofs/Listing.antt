-- Listing: its page number and count, what it leaves, and the check that an area for no record is.
use Prim.Native.Nat.{ℕ, ◌*◌, ◌≤◌, ◌<◌}
use native.Mathlib.Omega.{arith}
use mathlib.Core.Path.{◌≡◌, refl, sym, ap, subst, ◌∙◌}
use mathlib.Core.Logic.{◌⊎◌, inl, inr}
use mathlib.Core.List.{List, [], ◌∷◌}
use lib.ListN.{length}
use Rattle.items.specs.Reading.{Out, items_of, most_items}
use Rattle.items.specs.Reading.Out.{good, bad}
use Rattle.items.specs.Listing.{tally_number, tally_count, ReadAs, listing, Listed}
use Rattle.items.specs.Answers.{Tally}
use Rattle.items.specs.Answers.Tally.{Items, Small}
use Rattle.items.proofs.Cases.{items_given, small_given, refused_given, items_say, small_says, refused_says, refused_left, small_left, none_left, items_left, area_kept}
use Rattle.items.proofs.Most.{read_most, read_none, none_read}
use Rattle.demands.specs.Words.{Between, ListNumbered}
use Rattle.demands.specs.Demands.{ListNumbers, ListingRefuses, CheckedByNoRecords}
use Rattle.demands.proofs.Numbers.{tags_numbers, bad_row}

module _ (s area later : List ℕ) (r : Tally) (w : Listed s area r later) where
  -- ---- from the page's number to the answer: no tag's number is 0 or 61
  tag_row : (x : ℕ) → r ≡ Tally.Refused x → Between 30 39 x
  tag_row x e = bad_row s x (refused_says s area later r w e)

  is_items : (t : Tally) → r ≡ t → tally_number t ≡ 0 → r ≡ Items (tally_count t)
  is_items (Items k) e z = e
  is_items (Small k) e z = absurd (omega arith)
  is_items (Tally.Refused x) e z = absurd (omega (arith, (tag_row x e).0))

  is_small : (t : Tally) → r ≡ t → tally_number t ≡ 61 → r ≡ Small (tally_count t)
  is_small (Items k) e z = absurd (omega arith)
  is_small (Small k) e z = e
  is_small (Tally.Refused x) e z = absurd (omega (arith, (tag_row x e).1))

  is_tag : (t : Tally) → r ≡ t → (x : ℕ) → tally_number t ≡ x → Between 30 39 x → r ≡ Tally.Refused x
  is_tag (Items k) e x z h = absurd (omega (arith, h.0))
  is_tag (Small k) e x z h = absurd (omega (arith, h.1))
  is_tag (Tally.Refused y) e x z h = e ∙ ap Tally.Refused z

  one_of : (t : Tally) → r ≡ t → (tally_number t ≡ 0) ⊎ ((tally_number t ≡ 61) ⊎ Between 30 39 (tally_number t))
  one_of (Items k) e = inl refl
  one_of (Small k) e = inr (inl refl)
  one_of (Tally.Refused x) e = inr (inr (tag_row x e))

  at_most : (t : Tally) → r ≡ t → tally_count t ≤ most_items
  at_most (Items k) e = read_most s k (items_say s area later r w e).0
  at_most (Small k) e = read_most s k (small_says s area later r w e).0
  at_most (Tally.Refused x) e = omega arith

  -- ---- each number exactly when
  to_tag : (x : ℕ) → items_of s ≡ bad x → (tally_number r ≡ x) × (tally_count r ≡ 0) × Between 30 39 x
  to_tag x e = let q = refused_given s area later r w x e in (ap tally_number q, ap tally_count q, bad_row s x e)

  from_tag : (x : ℕ) → tally_number r ≡ x → Between 30 39 x → items_of s ≡ bad x
  from_tag x z h = refused_says s area later r w (is_tag r refl x z h)

  numbered : ListNumbered s area (tally_number r) (tally_count r)
  numbered =
      record {
        fits = λ k. (
          λ z. subst (λ (k : ℕ). ReadAs s k × (12 * k ≤ length area)) z.1 (items_say s area later r w (is_items r refl z.0)),
          λ a. let q = items_given s area later r w k a.0 a.1 in (ap tally_number q, ap tally_count q),
        );
        small = λ k. (
          λ z. subst (λ (k : ℕ). ReadAs s k × (length area < 12 * k)) z.1 (small_says s area later r w (is_small r refl z.0)),
          λ a. let q = small_given s area later r w k a.0 a.1 in (ap tally_number q, ap tally_count q),
        );
        tags = λ x. (λ z. from_tag x z.0 z.2, to_tag x);
        over = (λ z. (tags_numbers s).1.0 (from_tag 39 z (omega arith, omega arith)), λ h. (to_tag 39 ((tags_numbers s).1.1 h)).0);
        only = one_of r refl;
        most = at_most r refl;
      }

pub list_numbers : ListNumbers
list_numbers = numbered

pub listing_refuses : ListingRefuses
listing_refuses s area later r w = (
  λ n e. (refused_given s area later r w n e, w.after ∙ refused_left area (items_of s) n e),
  λ rs end e.
      let z : ReadAs s (length rs) = (rs, end, e, refl) in (
        λ h. (small_given s area later r w (length rs) z h, w.after ∙ small_left area (items_of s) (length rs) z h),
        λ h. (items_given s area later r w (length rs) z h, w.after ∙ items_left area (items_of s) (length rs) z h, area_kept s area later r w),
      ),
)

-- an area for no record stays as it was
no_record_left : (area : List ℕ) → length area < 12 → (o : Out) → listing area o ≡ area
no_record_left area h (bad x) = refused_left area (bad x) x refl
no_record_left area h (good [] end) = none_left area (good [] end) ([], end, refl, refl)
no_record_left area h (good (r ∷ rs) end) = small_left area (good (r ∷ rs) end) (length (r ∷ rs)) (r ∷ rs, end, refl, refl) (omega arith)

pub checked_by_no_records : CheckedByNoRecords
checked_by_no_records s area later r none w =
    let q = numbered s area later r w in (
      (
        λ z. let a = (q.fits (tally_count r)).0 (z, refl) in let e : tally_count r ≡ 0 = omega (arith, a.1) in subst (ReadAs s) e a.0,
        λ z. ((q.fits 0).1 (z, omega arith)).0,
      ),
      (read_none s, λ e. subst (λ (l : List ℕ). ReadAs l 0) (sym e) none_read),
      λ k. (
        λ z. let a = (q.small k).0 z in (a.0, omega (arith, a.1)),
        λ a. (q.small k).1 (a.0, omega (arith, a.1)),
      ),
      λ x. (λ z. from_tag s area later r w x z.0 z.1, λ e. let a = to_tag s area later r w x e in (a.0, a.2)),
      w.after ∙ no_record_left area none (items_of s),
    )
