-- What a reading can answer: a refusal by 10 to 14 with every other field 0, or a header that ends within the octets.
use Prim.Native.Nat.{ℕ, ◌+◌, ◌≤◌}
use native.Mathlib.Omega.{arith}
use mathlib.Core.Bool.{Bool}
use mathlib.Core.List.{List}
use mathlib.Core.Logic.{◌⊎◌, inl, inr, ⊎_elim}
use mathlib.Core.Path.{◌≡◌, refl}
use lib.Dec.{ltb, leb, eqb}
use lib.ListN.{length}
use borrow.Author.Tests.{leb-false}
use Rattle.octets.specs.Choice.{non, pick_cases, pick_case, given_cases}
use Rattle.octets.specs.Reading.{oct, be16, refuse}
use Rattle.npdu.specs.Layout.{version}
use Rattle.npdu.specs.Reading.{Reading, Part, Tail, message_bit, dest_bit, source_bit, sixth_bit, fourth_bit, no_part, part_len, part_net, part_of, part_if, ended, vendor_at, message_at, tail_at, refused_by, joined, after_tail, after_source, after_dest, after_version, read_npdu}

abbrev Number : ℕ → Type 0
Number n = (10 ≤ n) × (n ≤ 14)

-- of a part, and of the end: where it ends, and its number
pub record Fair (s : List ℕ) (next refused : ℕ) : Type 0 where
  pub within : next ≤ length s
  pub number : (refused ≡ 0) ⊎ Number refused

pub record Refusal (r : Reading) : Type 0 where
  pub number : Number r.refused
  pub blank : r ≡ refused_by r.refused

-- of the header
pub record Outcome (s : List ℕ) (r : Reading) : Type 0 where
  pub within : r.next ≤ length s
  pub either : (r.refused ≡ 0) ⊎ Refusal r

module _ (s : List ℕ) where
  abbrev PartFair : Part → Type 0
  PartFair p = Fair s p.next p.refused

  abbrev TailFair : Tail → Type 0
  TailFair t = Fair s t.next t.refused

  good : (next : ℕ) → next ≤ length s → Fair s next 0
  good next h = record { within = h; number = inl refl }

  no_part_lem : (n : ℕ) → Number n → PartFair (no_part n 0)
  unfolding no_part
  no_part_lem n h = record { within = omega arith; number = inr h }

  early : TailFair (ended 10 0 0 0 0)
  unfolding ended
  early = record { within = omega arith; number = inr (omega arith) }

  len_fair : (at net len low : ℕ) → PartFair (part_len s at net len low)
  unfolding part_len
  len_fair at net len low =
      pick_case PartFair (ltb len low) (no_part_lem 13 (omega arith)) (pick_case PartFair (ltb 7 len) (no_part_lem 13 (omega arith))
      (pick_cases PartFair (leb (length s) (at + 2 + len)) (λ _. no_part_lem 10 (omega arith)) (λ e. good (at + 3 + len) (omega (arith, leb-false (length s) (at + 2 + len) e)))))

  net_fair : (at net low top : ℕ) → PartFair (part_net s at net low top)
  unfolding part_net
  net_fair at net low top =
      pick_case PartFair (eqb net 0) (no_part_lem 14 (omega arith)) (pick_case PartFair (ltb top net) (no_part_lem 14 (omega arith))
      (pick_case PartFair (leb (length s) (at + 2)) (no_part_lem 10 (omega arith)) (len_fair at net (oct s (at + 2)) low)))

  part_fair : (at low top : ℕ) → PartFair (part_of s at low top)
  unfolding part_of
  part_fair at low top =
      pick_case PartFair (leb (length s) at) (no_part_lem 10 (omega arith)) (pick_case PartFair (leb (length s) (at + 1)) (no_part_lem 10 (omega arith)) (net_fair at (be16 s at) low top))

  part_if_fair : (at : ℕ) (here : Bool) (low top : ℕ) → at ≤ length s → PartFair (part_if s at here low top)
  unfolding part_if no_part
  part_if_fair at here low top h = given_cases PartFair here _ _ (λ _. part_fair at low top) (λ _. good at h)

  pub part_within : (at : ℕ) (here : Bool) (low top : ℕ) → at ≤ length s → (part_if s at here low top).next ≤ length s
  part_within at here low top h = (part_if_fair at here low top h).within

  vendor_fair : (at hops kind : ℕ) → at ≤ length s → TailFair (vendor_at s at hops kind)
  unfolding vendor_at ended
  vendor_fair at hops kind h =
      pick_case TailFair (ltb kind 128) (good at h) (pick_case TailFair (leb (length s) at) early
      (pick_cases TailFair (leb (length s) (at + 1)) (λ _. early) (λ e. good (at + 2) (omega (arith, leb-false (length s) (at + 1) e)))))

  message_fair : (at hops : ℕ) (here : Bool) → at ≤ length s → TailFair (message_at s at hops here)
  unfolding message_at ended
  message_fair at hops here h =
      given_cases TailFair here _ _
      (λ _. pick_cases TailFair (leb (length s) at) (λ _. early) (λ e. vendor_fair (at + 1) hops (oct s at) (omega (arith, leb-false (length s) at e))))
      (λ _. good at h)

  tail_fair : (at : ℕ) (dest here : Bool) → at ≤ length s → TailFair (tail_at s at dest here)
  unfolding tail_at
  tail_fair at dest here h =
      given_cases TailFair dest _ _
      (λ _. pick_cases TailFair (leb (length s) at) (λ _. early) (λ e. message_fair (at + 1) (oct s at) here (omega (arith, leb-false (length s) at e))))
      (λ _. message_fair at 0 here h)

  refused_fair : (n : ℕ) → Number n → Outcome s (refused_by n)
  unfolding refused_by
  refused_fair n h = record { within = omega arith; either = inr (record { number = h; blank = refl }) }

  -- a part that was refused refuses the header, by its number
  past : (f : ℕ) (r : Reading) → (f ≡ 0) ⊎ Number f → Outcome s r → Outcome s (refuse (non (eqb f 0)) (refused_by f) r)
  past f r n h = ⊎_elim (λ z. rw z h) (λ m. pick_case (Outcome s) (non (eqb f 0)) (refused_fair f m) h) n

  source_fair : (c : ℕ) (d q : Part) → PartFair q → Outcome s (after_source s c d q)
  unfolding after_source after_tail joined
  source_fair c d q h =
      let t = tail_fair q.next (dest_bit c) (message_bit c) h.within in
      past q.refused _ h.number (past (tail_at s q.next (dest_bit c) (message_bit c)).refused _ t.number (record { within = t.within; either = inl refl }))

  dest_fair : (c : ℕ) (d : Part) → PartFair d → Outcome s (after_dest s c d)
  unfolding after_dest
  dest_fair c d h = past d.refused _ h.number (source_fair c d _ (part_if_fair d.next (source_bit c) 1 65534 h.within))

  version_fair : (c : ℕ) → 2 ≤ length s → Outcome s (after_version s c)
  unfolding after_version
  version_fair c h =
      pick_case (Outcome s) (sixth_bit c) (refused_fair 12 (omega arith)) (pick_case (Outcome s) (fourth_bit c) (refused_fair 12 (omega arith))
      (dest_fair c _ (part_if_fair 2 (dest_bit c) 0 65535 h)))

  pub outcome : Outcome s (read_npdu s)
  unfolding read_npdu
  outcome =
      pick_case (Outcome s) (leb (length s) 0) (refused_fair 10 (omega arith)) (pick_case (Outcome s) (non (eqb (oct s 0) version)) (refused_fair 11 (omega arith))
      (pick_cases (Outcome s) (leb (length s) 1) (λ _. refused_fair 10 (omega arith)) (λ e. version_fair (oct s 1) (omega (arith, leb-false (length s) 1 e)))))

  -- what follows the header begins within the octets
  pub next_within : (read_npdu s).next ≤ length s
  next_within = outcome.within
