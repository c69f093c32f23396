-- "Header writers refuse the first field in octet order that breaks a rule, with its number": which field, exactly, and that reading the header's octets
-- gives the same number.
use Prim.Native.Nat.{ℕ, ◌+◌, ◌*◌, ◌/◌, ◌%◌, ◌≤◌, ◌<◌}
use native.Mathlib.Omega.{arith}
use mathlib.Core.Bool.{Bool, true, false}
use mathlib.Core.List.{List, [], ◌∷◌, ◌++◌, append_assoc}
use mathlib.Core.Logic.{◌↔◌}
use mathlib.Core.Path.{◌≡◌, refl, ap}
use lib.Dec.{ltb, eqb}
use lib.ListN.{take}
use borrow.Author.Tests.{ltb-true, ltb-false, eqb-true, eqb-false}
use Rattle.octets.specs.Choice.{given, given_true, pick_cases, by_test}
use Rattle.octets.specs.Has.{all_has}
use Rattle.npdu.specs.Exact.{accepted}
use Rattle.npdu.specs.Fault.{part_rules, part_fault, sooner, fault_of}
use Rattle.npdu.specs.Layout.{version, control_of, part_laid, part_octets, parts_octets, tail_octets, encode}
use Rattle.npdu.specs.Reading.{Reading, read_npdu}
use Rattle.npdu.specs.Rows.{Which, present_at, network_at, length_at, greatest, least, NetworkIn, LengthIn, before, Reached, NetworkBroken, LengthBroken}
use Rattle.npdu.specs.Rows.Which.{destination, source}
use Rattle.npdu.specs.Valid.{PartValid, Ruled, Kept}
use Rattle.npdu.specs.declared.Npdu.{Npdu}
use Rattle.npdu.proofs.Exact.{head_reads}
use Rattle.npdu.proofs.Rows.{gives_network, gives_length}
use Rattle.npdu.proofs.Sizes.{fault_here}
use Rattle.npdu.proofs.Views.{NetIn, LenIn}

-- ---- a part

data PartJudged (net len low top n : ℕ) : Type 0 where
  net_bad : (NetIn top net → ⊥) → n ≡ 14 → PartJudged net len low top n
  len_bad : NetIn top net → (LenIn low len → ⊥) → n ≡ 13 → PartJudged net len low top n
  both_good : n ≡ 0 → PartJudged net len low top n

rules_judged : (net len low top : ℕ) → PartJudged net len low top (part_rules net len low top)
unfolding part_rules
rules_judged net len low top =
    let J = PartJudged net len low top in
    pick_cases J (eqb net 0) (λ e. net_bad (λ h. omega (arith, eqb-true net 0 e)) refl) (λ e0.
    pick_cases J (ltb top net) (λ e. net_bad (λ h. omega (arith, ltb-true top net e)) refl) (λ e1.
    let i : NetIn top net = (omega (arith, eqb-false net 0 e0), ltb-false top net e1) in
    pick_cases J (ltb len low) (λ e. len_bad i (λ h. omega (arith, ltb-true len low e)) refl) (λ _.
    pick_cases J (ltb 7 len) (λ e. len_bad i (λ h. omega (arith, ltb-true 7 len e)) refl) (λ _. both_good refl))))

part_judged : (here : Bool) (net len low top : ℕ) → (part_fault here net len low top ≡ 0 → ⊥)
    → (here ≡ true) × PartJudged net len low top (part_fault here net len low top)
unfolding part_fault given
part_judged true net len low top n = (refl, rules_judged net len low top)
part_judged false net len low top n = absurd (n refl)

-- ---- the header

data Judgement (h : Npdu) (n : ℕ) : Type 0 where
  too_urgent : 3 < h.priority → n ≡ 12 → Judgement h n
  network_broken : NetworkBroken h → n ≡ 14 → Judgement h n
  length_broken : LengthBroken h → n ≡ 13 → Judgement h n
  unbroken : Ruled h → n ≡ 0 → Judgement h n

of_part : (h : Npdu) (w : Which) → Reached w h → (n : ℕ) → (n ≡ 0 → ⊥) → PartJudged (network_at w h) (length_at w h) (least w) (greatest w) n → Judgement h n
of_part h w r n z (net_bad o e) = network_broken (record { which = w; reached = r; out = o }) e
of_part h w r n z (len_bad i o e) = length_broken (record { which = w; reached = r; network = i; out = o }) e
of_part h w r n z (both_good e) = absurd (z e)

module _ (h : Npdu) (u : h.priority ≤ 3) where
  dest_judged : (part_fault h.dest h.dnet h.dlen 0 65535 ≡ 0 → ⊥) → Judgement h (part_fault h.dest h.dnet h.dlen 0 65535)
  dest_judged n =
      let v = part_judged h.dest h.dnet h.dlen 0 65535 n in
      of_part h destination (record { urgency = u; here = v.0; good = tt }) _ n v.1

  source_judged : (h.dest ≡ true → PartValid h.dnet h.dlen 0 65535)
      → (part_fault h.source h.snet h.slen 1 65534 ≡ 0 → ⊥) → Judgement h (part_fault h.source h.snet h.slen 1 65534)
  source_judged g n =
      let v = part_judged h.source h.snet h.slen 1 65534 n in
      of_part h source (record { urgency = u; here = v.0; good = g }) _ n v.1

judgement : (h : Npdu) → Judgement h (fault_of h)
unfolding fault_of sooner
judgement h =
    let f = part_fault h.dest h.dnet h.dlen 0 65535 in
    let g = part_fault h.source h.snet h.slen 1 65534 in
    pick_cases (Judgement h) (ltb 3 h.priority) (λ e. too_urgent (ltb-true 3 h.priority e) refl) (λ e.
    let u = ltb-false 3 h.priority e in
    pick_cases (Judgement h) (eqb f 0)
    (λ z.
    let d = fault_here h.dest h.dnet h.dlen 0 65535 (eqb-true f 0 z) in
    by_test (eqb g 0)
    (λ q. let o = eqb-true g 0 q in unbroken (record { urgency = u; destination = d; origin = fault_here h.source h.snet h.slen 1 65534 o }) o)
    (λ q. source_judged h u d (eqb-false g 0 q)))
    (λ z. dest_judged h u (eqb-false f 0 z)))

-- ---- what is broken is broken in one way

module _ {h : Npdu} where
  network_or_length : (w v : Which) → Reached w h → (NetworkIn w (network_at w h) → ⊥)
      → Reached v h → NetworkIn v (network_at v h) → (LengthIn v (length_at v h) → ⊥) → ⊥
  network_or_length destination destination r o q i l = o i
  network_or_length destination source r o q i l = let p = q.good r.here in o (p.some_net, p.net_range)
  network_or_length source destination r o q i l = let p = r.good q.here in l (p.len_least, p.len_range)
  network_or_length source source r o q i l = o i

  ruled_part : (w : Which) → Ruled h → Reached w h → NetworkIn w (network_at w h) × LengthIn w (length_at w h)
  ruled_part destination r q = let p = r.destination q.here in ((p.some_net, p.net_range), (p.len_least, p.len_range))
  ruled_part source r q = let p = r.origin q.here in ((p.some_net, p.net_range), (p.len_least, p.len_range))

  ruled_network : Ruled h → NetworkBroken h → ⊥
  ruled_network r b = b.out (ruled_part b.which r b.reached).0

  ruled_length : Ruled h → LengthBroken h → ⊥
  ruled_length r b = b.out (ruled_part b.which r b.reached).1

  network_length : NetworkBroken h → LengthBroken h → ⊥
  network_length b l = network_or_length b.which l.which b.reached b.out l.reached l.network l.out

-- ---- exactly when

module _ (h : Npdu) where
  says_12 : (n : ℕ) → Judgement h n → n ≡ 12 → 3 < h.priority
  says_12 n (too_urgent u e) z = u
  says_12 n (network_broken b e) z = absurd (omega arith)
  says_12 n (length_broken b e) z = absurd (omega arith)
  says_12 n (unbroken r e) z = absurd (omega arith)

  gives_12 : (n : ℕ) → Judgement h n → 3 < h.priority → n ≡ 12
  gives_12 n (too_urgent u e) z = e
  gives_12 n (network_broken b e) z = absurd (omega (arith, b.reached.urgency))
  gives_12 n (length_broken b e) z = absurd (omega (arith, b.reached.urgency))
  gives_12 n (unbroken r e) z = absurd (omega (arith, r.urgency))

  says_14 : (n : ℕ) → Judgement h n → n ≡ 14 → NetworkBroken h
  says_14 n (too_urgent u e) z = absurd (omega arith)
  says_14 n (network_broken b e) z = b
  says_14 n (length_broken b e) z = absurd (omega arith)
  says_14 n (unbroken r e) z = absurd (omega arith)

  gives_14 : (n : ℕ) → Judgement h n → NetworkBroken h → n ≡ 14
  gives_14 n (too_urgent u e) b = absurd (omega (arith, b.reached.urgency))
  gives_14 n (network_broken d e) b = e
  gives_14 n (length_broken d e) b = absurd (network_length b d)
  gives_14 n (unbroken r e) b = absurd (ruled_network r b)

  says_13 : (n : ℕ) → Judgement h n → n ≡ 13 → LengthBroken h
  says_13 n (too_urgent u e) z = absurd (omega arith)
  says_13 n (network_broken b e) z = absurd (omega arith)
  says_13 n (length_broken b e) z = b
  says_13 n (unbroken r e) z = absurd (omega arith)

  gives_13 : (n : ℕ) → Judgement h n → LengthBroken h → n ≡ 13
  gives_13 n (too_urgent u e) b = absurd (omega (arith, b.reached.urgency))
  gives_13 n (network_broken d e) b = absurd (network_length d b)
  gives_13 n (length_broken d e) b = e
  gives_13 n (unbroken r e) b = absurd (ruled_length r b)

  says_0 : (n : ℕ) → Judgement h n → n ≡ 0 → Ruled h
  says_0 n (too_urgent u e) z = absurd (omega arith)
  says_0 n (network_broken b e) z = absurd (omega arith)
  says_0 n (length_broken b e) z = absurd (omega arith)
  says_0 n (unbroken r e) z = r

  gives_0 : (n : ℕ) → Judgement h n → Ruled h → n ≡ 0
  gives_0 n (too_urgent u e) r = absurd (omega (arith, r.urgency))
  gives_0 n (network_broken b e) r = absurd (ruled_network r b)
  gives_0 n (length_broken b e) r = absurd (ruled_length r b)
  gives_0 n (unbroken d e) r = e

  pub fault_0 : (fault_of h ≡ 0) ↔ Ruled h
  fault_0 = (says_0 (fault_of h) (judgement h), gives_0 (fault_of h) (judgement h))

  pub fault_12 : (fault_of h ≡ 12) ↔ (3 < h.priority)
  fault_12 = (says_12 (fault_of h) (judgement h), gives_12 (fault_of h) (judgement h))

  pub fault_13 : (fault_of h ≡ 13) ↔ LengthBroken h
  fault_13 = (says_13 (fault_of h) (judgement h), gives_13 (fault_of h) (judgement h))

  pub fault_14 : (fault_of h ≡ 14) ↔ NetworkBroken h
  fault_14 = (says_14 (fault_of h) (judgement h), gives_14 (fault_of h) (judgement h))

-- ---- the same number is given by reading the header's octets

-- a part that is present stands behind what is in front of it
laid_part : (w : Which) (h : Npdu) → present_at w h ≡ true
    → (t : List ℕ) × (encode h ≡ before w h ++ (network_at w h / 256 ∷ network_at w h % 256 ∷ length_at w h ∷ t))
unfolding encode parts_octets part_octets part_laid
laid_part destination h e =
    let S = part_octets h.source h.snet h.slen h.sadr in
    ((take h.dlen h.dadr ++ S) ++ tail_octets h, rw (given_true h.dest _ _ e))
laid_part source h e =
    let D = part_octets h.dest h.dnet h.dlen h.dadr in
    let S = part_laid h.snet h.slen h.sadr in
    let a = ap (λ (x : List ℕ). version ∷ control_of h ∷ x) (append_assoc D S (tail_octets h)) in
    (take h.slen h.sadr ++ tail_octets h, rw (given_true h.source S [] e) a)

halves : (n : ℕ) → n / 256 * 256 + n % 256 ≡ n
halves n = omega arith

module _ (h : Npdu) (k : Kept h) (u : h.priority ≤ 3) where
  same_number : (n : ℕ) → Judgement h n → (read_npdu (encode h)).refused ≡ n
  unfolding accepted
  same_number n (too_urgent l e) = absurd (omega arith)
  same_number n (network_broken b e) =
      let w = b.which in
      let l = laid_part w h b.reached.here in
      rw e (gives_network (encode h) (record {
        which = w;
        head = h;
        high = network_at w h / 256;
        low = network_at w h % 256;
        rest = length_at w h ∷ l.0;
        kept = k;
        reached = b.reached;
        out = λ i. b.out (rw (halves (network_at w h)) at i);
        laid = l.1;
      }))
  same_number n (length_broken b e) =
      let w = b.which in
      let l = laid_part w h b.reached.here in
      rw e (gives_length (encode h) (record {
        which = w;
        head = h;
        high = network_at w h / 256;
        low = network_at w h % 256;
        len = length_at w h;
        rest = l.0;
        kept = k;
        reached = b.reached;
        network = rw (halves (network_at w h)) b.network;
        out = b.out;
        laid = l.1;
      }))
  same_number n (unbroken r e) = rw e (ap (λ (x : Reading). x.refused) (head_reads (encode h) h r k (all_has (encode h))))

  pub written_number_lem : (read_npdu (encode h)).refused ≡ fault_of h
  written_number_lem = same_number (fault_of h) (judgement h)
