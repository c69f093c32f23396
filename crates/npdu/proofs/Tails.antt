-- The header's end is read exactly where its octets stand.
use Prim.Native.Nat.{ℕ, ◌+◌, ◌*◌, ◌/◌, ◌%◌, ◌≤◌, ◌<◌}
use native.Mathlib.Omega.{arith}
use mathlib.Core.Bool.{Bool, true, false}
use mathlib.Core.List.{List, [], ◌∷◌, ◌++◌}
use mathlib.Core.Path.{◌≡◌, refl, sym, ap}
use lib.Dec.{ltb, leb}
use lib.ListN.{length, get_or}
use borrow.Author.Tests.{lt-leb, leb-false}
use Rattle.octets.specs.Choice.{pick, given, pick_cases, by_test}
use Rattle.octets.specs.Has.{Has}
use Rattle.octets.specs.Reading.{oct, Octets}
use Rattle.npdu.specs.Layout.{hop_octets, message_laid, message_octets}
use Rattle.npdu.specs.Reading.{Tail, ended, vendor_at, message_at, tail_at}

-- the vendor of a message of this type
abbrev shown_vendor : ℕ → ℕ → ℕ
shown_vendor kind vendor = pick (ltb kind 128) 0 vendor

-- what the end is read as
unfoldable pub shown_tail : Bool → Bool → ℕ → ℕ → ℕ → ℕ → Tail
shown_tail dest here next hops kind vendor =
    ended 0 next (given dest hops 0) (given here kind 0) (given here (shown_vendor kind vendor) 0)

-- ---- octets that stand there are read

kind_reads : (s : List ℕ) (at hops kind vendor : ℕ) → Has s at (message_laid kind vendor) → vendor_at s (at + 1) hops kind ≡ ended 0 (at + length (message_laid kind vendor)) hops kind (shown_vendor kind vendor)
unfolding vendor_at message_laid
kind_reads s at hops kind vendor h =
    by_test (ltb kind 128)
    (λ e. rw e)
    (λ e.
    let w : Has s at (kind ∷ vendor / 256 ∷ vendor % 256 ∷ []) = rw e at h in
    let n : get_or s (at + 1) 0 * 256 + get_or s (at + 1 + 1) 0 ≡ vendor = omega (arith, w.2.1, w.2.2.1) in
    let p : at + 1 + 2 ≡ at + 3 = omega arith in
    rw (e, lt-leb (length s) (at + 1) w.2.0, lt-leb (length s) (at + 1 + 1) w.2.2.0, n, p))

first : (s : List ℕ) (at kind vendor : ℕ) → Has s at (message_laid kind vendor) → (at < length s) × (get_or s at 0 ≡ kind)
unfolding message_laid
first s at kind vendor h =
    by_test (ltb kind 128)
    (λ e. let w : Has s at (kind ∷ []) = rw e at h in (w.0, w.1))
    (λ e. let w : Has s at (kind ∷ vendor / 256 ∷ vendor % 256 ∷ []) = rw e at h in (w.0, w.1))

message_reads : (s : List ℕ) (at hops : ℕ) (here : Bool) (kind vendor : ℕ) → Has s at (message_octets here kind vendor)
    → message_at s at hops here ≡ ended 0 (at + length (message_octets here kind vendor)) hops (given here kind 0) (given here (shown_vendor kind vendor) 0)
unfolding message_at message_octets given
message_reads s at hops true kind vendor h =
    let f = first s at kind vendor h in
    rw (lt-leb (length s) at f.0, f.1) (kind_reads s at hops kind vendor h)
message_reads s at hops false kind vendor h = let e : at ≡ at + 0 = omega arith in ap (λ n. ended 0 n hops 0 0) e

pub tail_reads : (s : List ℕ) (at : ℕ) (dest here : Bool) (hops kind vendor : ℕ) → Has s at (hop_octets dest hops ++ message_octets here kind vendor)
    → tail_at s at dest here ≡ shown_tail dest here (at + length (hop_octets dest hops ++ message_octets here kind vendor)) hops kind vendor
unfolding tail_at hop_octets shown_tail given
tail_reads s at true here hops kind vendor h =
    let e : at + 1 + length (message_octets here kind vendor) ≡ at + length (hops ∷ message_octets here kind vendor) = omega arith in
    rw (lt-leb (length s) at h.0, h.1, ← e) (message_reads s (at + 1) hops here kind vendor h.2)
tail_reads s at false here hops kind vendor h = message_reads s at 0 here kind vendor h

-- ---- what is read stands there

module _ (s : List ℕ) (os : Octets s) where
  abbrev KindSound : ℕ → ℕ → Tail → Type 0
  KindSound at hops t = t.refused ≡ 0 → Has s at (message_laid t.kind t.vendor) × (t.hops ≡ hops)

  abbrev MessageSound : Bool → ℕ → ℕ → Tail → Type 0
  MessageSound here at hops t = t.refused ≡ 0 → Has s at (message_octets here t.kind t.vendor) × (t.hops ≡ hops)

  abbrev TailSound : Bool → Bool → ℕ → Tail → Type 0
  TailSound dest here at t = t.refused ≡ 0 → Has s at (hop_octets dest t.hops ++ message_octets here t.kind t.vendor)

  kind_sound : (at hops : ℕ) → at < length s → KindSound at hops (vendor_at s (at + 1) hops (oct s at))
  unfolding vendor_at message_laid ended
  kind_sound at hops h =
      pick_cases (KindSound at hops) (ltb (oct s at) 128) (λ k _. (rw k (h, refl, omega arith), refl)) (λ k.
      pick_cases (KindSound at hops) (leb (length s) (at + 1)) (λ _ z. absurd (omega arith)) (λ e0.
      pick_cases (KindSound at hops) (leb (length s) (at + 1 + 1)) (λ _ z. absurd (omega arith)) (λ e1 _.
      let b0 = leb-false (length s) (at + 1) e0 in
      let b1 = leb-false (length s) (at + 1 + 1) e1 in
      let o = os (at + 1 + 1) in
      (rw k (h, refl, (b0, omega arith, (b1, omega arith, omega arith))), refl))))

  message_sound : (here : Bool) (at hops : ℕ) → at ≤ length s → MessageSound here at hops (message_at s at hops here)
  unfolding message_at message_octets ended given
  message_sound true at hops h =
      pick_cases (KindSound at hops) (leb (length s) at) (λ _ z. absurd (omega arith)) (λ e. kind_sound at hops (leb-false (length s) at e))
  message_sound false at hops h = λ _. (h, refl)

  pub tail_sound : (dest here : Bool) (at : ℕ) → at ≤ length s → TailSound dest here at (tail_at s at dest here)
  unfolding tail_at hop_octets ended given
  tail_sound true here at h =
      pick_cases (TailSound true here at) (leb (length s) at) (λ _ z. absurd (omega arith)) (λ e z.
      let b = leb-false (length s) at e in
      let w = message_sound here (at + 1) (oct s at) (omega arith) z in
      (b, sym w.1, w.0))
  tail_sound false here at h = λ z. (message_sound here at 0 h z).0
