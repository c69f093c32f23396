-- Listing: its answer and area, from what the reading of all items answers when it is lent no octets.
use Prim.Native.Nat.{ℕ, ◌+◌, ◌*◌, ◌/◌, ◌≤◌, ◌<◌}
use native.Mathlib.Omega.{arith}
use mathlib.Core.Path.{◌≡◌, refl, sym, ap, subst, ◌∙◌}
use mathlib.Core.List.{List}
use lib.ListN.{length}
use Rattle.octets.specs.Choice.{impossible}
use Rattle.items.specs.Reading.{Out, items_of, counted}
use Rattle.items.specs.Reading.Out.{good, bad}
use Rattle.items.specs.Cycle.{Ran}
use Rattle.items.specs.Listing.{Many, ReadAs, Listed}
use Rattle.items.specs.Answers.{Tally}
use Rattle.items.specs.Answers.Tally.{Items, Small}
use Rattle.items.proofs.RecordOctets.{put_all}
use Rattle.items.proofs.Cases.{items_so, small_so, refused_so, refused_left, small_left, none_left, items_laid}

-- ---- what the reading of all items answers
counted_good : (o : Out) (n : ℕ) → counted o ≡ Items n → Many o n
unfolding counted
counted_good (good rs end) n e = (rs, end, refl, (let z : length rs ≡ n = cc in z))
counted_good (bad x) n e = impossible (cc)

counted_bad : (o : Out) (x : ℕ) → counted o ≡ Tally.Refused x → o ≡ bad x
unfolding counted
counted_bad (good rs end) x e = impossible (cc)
counted_bad (bad y) x e = let z : y ≡ x = cc in ap bad z

counted_never : (o : Out) (n : ℕ) → counted o ≡ Small n → ⊥
unfolding counted
counted_never (good rs end) n e = impossible (cc)
counted_never (bad x) n e = impossible (cc)

counted_many : (o : Out) (n : ℕ) → Many o n → counted o ≡ Items n
unfolding counted
counted_many o n z = rw (z.2, z.3)

-- records that all fit are listed by the reading that is lent the area
listed_fits : (s area : List ℕ) (n : ℕ) → ReadAs s n → 12 * n ≤ length area → (r : Tally) (later : List ℕ) → Ran s area r later → Listed s area r later
listed_fits s area n z h r later w =
    let l : 12 * (0 + length z.0) ≤ length area = omega (arith, z.3) in
    record {
      answer = w.answer ∙ counted_many (items_of s) n z ∙ sym (items_so (length area) (items_of s) n z h);
      after = w.laid z.0 z.1 z.2 ∙ put_all area 0 z.0 l ∙ sym (items_laid area (items_of s) n z h);
    }

-- ---- listing, from what the reading answers that was lent no octets
module _ (s area none left : List ℕ) where
  pub listed_bad : (x : ℕ) → Ran s none (Tally.Refused x) left → Listed s area (Tally.Refused x) area
  listed_bad x ran =
      let z : items_of s ≡ bad x = counted_bad (items_of s) x (sym ran.answer) in
      record { answer = sym (refused_so (length area) (items_of s) x z); after = sym (refused_left area (items_of s) x z) }

  module _ (n : ℕ) (ran : Ran s none (Items n) left) where
    pub listed_none : n ≡ 0 → Listed s area (Items 0) area
    listed_none k =
        let z : ReadAs s 0 = subst (ReadAs s) k (counted_good (items_of s) n (sym ran.answer)) in
        record { answer = sym (items_so (length area) (items_of s) 0 z (omega arith)); after = sym (none_left area (items_of s) z) }

    pub listed_small : length area / 12 < n → Listed s area (Small n) area
    listed_small h =
        let z = counted_good (items_of s) n (sym ran.answer) in
        record { answer = sym (small_so (length area) (items_of s) n z (omega arith)); after = sym (small_left area (items_of s) n z (omega arith)) }

    pub listed_good : n ≤ length area / 12 → (r : Tally) (later : List ℕ) → Ran s area r later → Listed s area r later
    listed_good h = listed_fits s area n (counted_good (items_of s) n (sym ran.answer)) (omega arith)
