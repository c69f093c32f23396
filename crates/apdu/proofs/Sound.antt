-- What the reading accepts has its header in front and keeps the rules; what it refuses has the reason of its row.
use Rattle.std.specs.Prelude.{Ok, Err}
use Prim.Native.Nat.{ℕ, zero, suc, ◌+◌, ◌/◌, ◌%◌, ◌≤◌, ◌<◌}
use native.Mathlib.Omega.{arith}
use mathlib.Core.Path.{◌≡◌, refl, sym, ◌∙◌}
use mathlib.Core.Logic.{◌⊎◌, inl, inr}
use mathlib.Core.Bool.{Bool, true, false, true≢false, false≢true}
use mathlib.Core.List.{List, [], ◌∷◌}
use lib.ListN.{length, drop, drop_of_length-le}
use lib.Dec.{eqb, ltb, leb}
use borrow.Author.Tests.{ltb-true, ltb-false, leb-true, leb-false, eqb-true, eqb-false}
use Rattle.octets.specs.Choice.{pick, given, pick_cases}
use Rattle.octets.specs.Reading.{oct, reach, refuse}
use Rattle.octets.specs.Has.{Has}
use Rattle.apdu.specs.declared.Edition.{Edition}
use Rattle.apdu.specs.declared.Segment.{Segment}
use Rattle.apdu.specs.declared.Pdu.{Pdu}
use Rattle.apdu.specs.declared.Pdu.TheVariants.{Request, Unconfirmed, SimpleAck, ComplexAck, SegmentAck, Error, Reject, Abort}
use Rattle.apdu.specs.Editions.{most}
use Rattle.apdu.specs.Reading.{read_apdu, read_tail, read_request, read_unconfirmed, read_simple_ack, read_complex_ack, read_segment_ack, read_error, read_reject, read_abort, with_tail, judge_window, bit3, bit2, mor_without_seg, Answer, Tail}
use Rattle.apdu.specs.Fields.{params_at}
use Rattle.apdu.specs.Layout.{tail, header}
use Rattle.apdu.specs.Valid.{Window, SegmentRules, Rules, Follows}
use Rattle.apdu.specs.Rows.{Off, BadFirst, ZeroBitSet, WindowAt, SizeOrWindow, Alone, LeftOver}
use Rattle.apdu.proofs.FirstOctet.{made_of, no_bits, clear3, clear2, clear1, clear0, needs_seg}
use Rattle.apdu.proofs.Bits.{seg_bit, good_first, bad_request, bad_unconfirmed, bad_simple_ack, bad_complex_ack, bad_segment_ack, bad_error, bad_reject, bad_abort, bad_more}
use Rattle.apdu.proofs.Headers.{front_more}

-- the reason of a refusal, by its number: of 20 here only that the octets are fewer than the longest header's
abbrev pub Reason : Edition → List ℕ → ℕ → Type 0
Reason e s n =
    pick (eqb n 20) (length s ≤ 5)
    (pick (eqb n 21) ((0 < length s) × (8 ≤ oct s 0 / 16))
    (pick (eqb n 22) (ZeroBitSet e s)
    (pick (eqb n 23) (SizeOrWindow e s)
    (pick (eqb n 24) (LeftOver e s) ⊥))))

-- what an answer says of the octets
pub data Judged (e : Edition) (s : List ℕ) : Answer → Type 0 where
  good : {p : Pdu} → Rules e p → Has s 0 (header p) → Follows p (drop (params_at p) s) → Judged e s (Ok p)
  bad : (n : ℕ) → Reason e s n → Judged e s (Err n)

-- what a tail says of the octets from a place on
data JudgedTail (s : List ℕ) (at : ℕ) : Tail → Type 0 where
  part : {g : Segment} {choice : ℕ} → SegmentRules g → bit3 (oct s 0) ≡ g.seg → bit2 (oct s 0) ≡ g.mor → Has s at (tail g choice) → JudgedTail s at (Ok (g, choice))
  ended : length s ≤ at + 2 → JudgedTail s at (Err 20)
  broken : bit3 (oct s 0) ≡ true → at + 1 < length s → Off (oct s (at + 1)) → JudgedTail s at (Err 23)

-- n octets as they stand
abbrev run : List ℕ → ℕ → ℕ → List ℕ
run s at zero = []
run s at (suc n) = oct s at ∷ run s (at + 1) n

stands : (s : List ℕ) (at n : ℕ) → at + n ≤ length s → Has s at (run s at n)
stands s at zero h = omega arith
stands s at (suc n) h = (omega arith, refl, stands s (at + 1) n (omega arith))

-- past the rule of windows
past_window : {A : Type 0} (P : A → Type 0) (w : ℕ) {x y : A} → (Off w → P x) → (Window w → P y) → P (judge_window w x y)
past_window P w h f =
    pick_cases P (eqb w 0) (λ z. h (inl (eqb-true w 0 z))) (λ z.
    pick_cases P (ltb 127 w) (λ v. h (inr (ltb-true 127 w v))) (λ v. f (omega (arith, eqb-false w 0 z), ltb-false 127 w v)))

-- nothing may follow any kind
pub none_follows : (p : Pdu) (t : List ℕ) → t ≡ [] → Follows p t
none_follows (Request p) t e = tt
none_follows (Unconfirmed p) t e = tt
none_follows (SimpleAck p) t e = e
none_follows (ComplexAck p) t e = tt
none_follows (SegmentAck p) t e = e
none_follows (Error p) t e = tt
none_follows (Reject p) t e = e
none_follows (Abort p) t e = e

module _ (s : List ℕ) where
  tail_judged : (at : ℕ) → mor_without_seg (oct s 0) ≡ false → JudgedTail s at (read_tail s at)
  unfolding read_tail tail given
  tail_judged at lone =
      pick_cases (JudgedTail s at) (bit3 (oct s 0))
      (λ e.
      pick_cases (JudgedTail s at) (leb (length s) (at + 1)) (λ l. ended (omega (arith, leb-true (length s) (at + 1) l))) (λ l.
      past_window (JudgedTail s at) (oct s (at + 1)) (λ w. broken e (leb-false (length s) (at + 1) l) w) (λ w.
      pick_cases (JudgedTail s at) (leb (length s) (at + 2)) (λ m. ended (leb-true (length s) (at + 2) m)) (λ m.
      let far = leb-false (length s) (at + 2) m in
      let step : at + 1 + 1 ≡ at + 2 = omega arith in
      part (record { more = λ _. refl; window = λ _. w; absent = λ f. absurd (true≢false f) }) e refl
      (omega arith, refl, (omega arith, refl, (omega arith, rw step refl, omega arith)))))))
      (λ e.
      pick_cases (JudgedTail s at) (leb (length s) at) (λ l. ended (omega (arith, leb-true (length s) at l))) (λ l.
      let far = leb-false (length s) at l in
      part (record { more = λ m. sym e ∙ needs_seg (oct s 0) lone m; window = λ f. absurd (false≢true f); absent = λ _. (refl, refl) }) e refl
      (omega arith, refl, omega arith)))

module _ (edition : Edition) (s : List ℕ) where
  with_tail_lem : (at : ℕ) (f : Segment → ℕ → Pdu) {t : Tail} → at ≤ 3 → JudgedTail s at t
      → (bit3 (oct s 0) ≡ true → at + 1 < length s → Off (oct s (at + 1)) → SizeOrWindow edition s)
      → ((g : Segment) (choice : ℕ) → SegmentRules g → bit3 (oct s 0) ≡ g.seg → bit2 (oct s 0) ≡ g.mor → Has s at (tail g choice) → Judged edition s (Ok (f g choice)))
      → Judged edition s (with_tail t f)
  with_tail_lem at f b (part {g} {choice} r e d h) w k = k g choice r e d h
  with_tail_lem at f b (ended h) w k = bad 20 (omega arith)
  with_tail_lem at f b (broken e l o) w k = bad 23 (w e l o)

  -- past the octets that are reached, and past octets left over
  reached : (at : ℕ) {rest : Answer} → at ≤ 5 → (at < length s → Judged edition s rest) → Judged edition s (reach s at (Err 20) rest)
  reached at b f = pick_cases (Judged edition s) (leb (length s) at) (λ l. bad 20 (omega (arith, leb-true (length s) at l))) (λ l. f (leb-false (length s) at l))

  ended_there : (p : Pdu) → Alone p → Rules edition p → Has s 0 (header p) → Judged edition s (refuse (ltb (params_at p) (length s)) (Err 24) (Ok p))
  ended_there p a r h =
      pick_cases (Judged edition s) (ltb (params_at p) (length s))
      (λ l. bad 24 (record { pdu = p; alone = a; rules = r; next = _; rest = _; octets = front_more s p h (ltb-true _ _ l) }))
      (λ l. good r h (none_follows p (drop (params_at p) s) (drop_of_length-le s (ltb-false (params_at p) (length s) l))))

  module _ (some : 0 < length s) where
    -- past the low bits, and past MOR without SEG
    first_bad : (test : Bool) {rest : Answer} → (test ≡ true → BadFirst (oct s 0)) → (test ≡ false → Judged edition s rest) → Judged edition s (refuse test (Err 22) rest)
    first_bad test b f = pick_cases (Judged edition s) test (λ e. bad 22 (ZeroBitSet.in_first some (b e))) f

    low_bits : (mask limit : ℕ) {rest : Answer} → (limit < oct s 0 % mask → BadFirst (oct s 0)) → (oct s 0 % mask ≤ limit → Judged edition s rest)
        → Judged edition s (refuse (ltb limit (oct s 0 % mask)) (Err 22) rest)
    low_bits mask limit b f =
        first_bad (ltb limit (oct s 0 % mask)) (λ e. b (ltb-true limit (oct s 0 % mask) e)) (λ z. f (ltb-false limit (oct s 0 % mask) z))

    request : oct s 0 / 16 ≡ 0 → Judged edition s (read_request edition s)
    unfolding read_request
    request k =
        low_bits 2 0 (bad_request (oct s 0) k) (λ z.
        first_bad (mor_without_seg (oct s 0)) (bad_more (oct s 0) (inl k)) (λ lone.
        let fine : BadFirst (oct s 0) → ⊥ = good_first 0 (oct s 0) k z (λ _. lone) in
        reached 1 (omega arith) (λ l.
        pick_cases (Judged edition s) (ltb (most edition) (oct s 1 / 16)) (λ u. bad 22 (ZeroBitSet.in_second l k fine (ltb-true (most edition) (oct s 1 / 16) u))) (λ u.
        let code = ltb-false (most edition) (oct s 1 / 16) u in
        pick_cases (Judged edition s) (ltb 5 (oct s 1 % 16))
        (λ v. bad 23 (SizeOrWindow.of_size l k fine code (ltb-true 5 (oct s 1 % 16) v))) (λ v.
        let six = ltb-false 5 (oct s 1 % 16) v in
        reached 2 (omega arith) (λ m.
        with_tail_lem 3 _ (omega arith) (tail_judged s 3 lone)
        (λ e w o. SizeOrWindow.of_window w (WindowAt.of_request k (seg_bit (oct s 0) e) code six) fine o) (λ g choice r e3 e2 h.
        good (code, six, r)
        (some, made_of 0 _ _ _ _ (oct s 0) (record { kind = k; third = e3; second = e2; first = refl; last = clear0 (oct s 0) (omega arith) }), (l, omega arith, (m, refl, h)))
        tt)))))))

    unconfirmed : oct s 0 / 16 ≡ 1 → Judged edition s (read_unconfirmed s)
    unfolding read_unconfirmed
    unconfirmed k = low_bits 16 0 (bad_unconfirmed (oct s 0) k) (λ z. reached 1 (omega arith) (λ l. good tt (some, no_bits 1 (oct s 0) k z, stands s 1 1 l) tt))

    simple_ack_lem : oct s 0 / 16 ≡ 2 → Judged edition s (read_simple_ack s)
    unfolding read_simple_ack
    simple_ack_lem k =
        low_bits 16 0 (bad_simple_ack (oct s 0) k) (λ z.
        reached 2 (omega arith) (λ l. ended_there (SimpleAck _) tt tt (some, no_bits 2 (oct s 0) k z, stands s 1 2 l)))

    complex_ack_lem : oct s 0 / 16 ≡ 3 → Judged edition s (read_complex_ack s)
    unfolding read_complex_ack
    complex_ack_lem k =
        low_bits 4 0 (bad_complex_ack (oct s 0) k) (λ z.
        first_bad (mor_without_seg (oct s 0)) (bad_more (oct s 0) (inr k)) (λ lone.
        reached 1 (omega arith) (λ l.
        with_tail_lem 2 _ (omega arith) (tail_judged s 2 lone)
        (λ e w o. SizeOrWindow.of_window w (WindowAt.of_complex_ack k (seg_bit (oct s 0) e)) (good_first 3 (oct s 0) k z (λ _. lone)) o) (λ g choice r e3 e2 h.
        good r
        (some, made_of 3 _ _ _ _ (oct s 0) (record { kind = k; third = e3; second = e2; first = clear1 (oct s 0) (omega arith); last = clear0 (oct s 0) (omega arith) }), (l, refl, h))
        tt))))

    segment_ack_lem : oct s 0 / 16 ≡ 4 → Judged edition s (read_segment_ack s)
    unfolding read_segment_ack
    segment_ack_lem k =
        low_bits 16 3 (bad_segment_ack (oct s 0) k) (λ z.
        reached 3 (omega arith) (λ l.
        past_window (Judged edition s) (oct s 3)
        (λ o. bad 23 (SizeOrWindow.of_window l (WindowAt.of_segment_ack k) (good_first 4 (oct s 0) k z (λ e. absurd (other e))) o)) (λ w.
        ended_there (SegmentAck _) tt w
        (some, made_of 4 _ _ _ _ (oct s 0) (record { kind = k; third = clear3 (oct s 0) (omega arith); second = clear2 (oct s 0) (omega arith); first = refl; last = refl }), stands s 1 3 l))))
      where
        other : (oct s 0 / 16 ≡ 0) ⊎ (oct s 0 / 16 ≡ 3) → ⊥
        other (inl e) = omega arith
        other (inr e) = omega arith

    error : oct s 0 / 16 ≡ 5 → Judged edition s (read_error s)
    unfolding read_error
    error k = low_bits 16 0 (bad_error (oct s 0) k) (λ z. reached 2 (omega arith) (λ l. good tt (some, no_bits 5 (oct s 0) k z, stands s 1 2 l) tt))

    reject : oct s 0 / 16 ≡ 6 → Judged edition s (read_reject s)
    unfolding read_reject
    reject k =
        low_bits 16 0 (bad_reject (oct s 0) k) (λ z. reached 2 (omega arith) (λ l. ended_there (Reject _) tt tt (some, no_bits 6 (oct s 0) k z, stands s 1 2 l)))

    abort : oct s 0 / 16 ≡ 7 → Judged edition s (read_abort s)
    unfolding read_abort
    abort k =
        low_bits 16 1 (bad_abort (oct s 0) k) (λ z.
        reached 2 (omega arith) (λ l.
        ended_there (Abort _) tt tt
        (some, made_of 7 _ _ _ _ (oct s 0) (record { kind = k; third = clear3 (oct s 0) (omega arith); second = clear2 (oct s 0) (omega arith); first = clear1 (oct s 0) (omega arith); last = refl }), stands s 1 2 l)))

  -- by its type, from the lowest up
  typed : (k : ℕ) {this rest : Answer} → k ≤ oct s 0 / 16 → (oct s 0 / 16 ≡ k → Judged edition s this) → (k < oct s 0 / 16 → Judged edition s rest) → Judged edition s (pick (eqb (oct s 0 / 16) k) this rest)
  typed k l f g = pick_cases (Judged edition s) (eqb (oct s 0 / 16) k) (λ e. f (eqb-true _ _ e)) (λ e. let n = eqb-false (oct s 0 / 16) k e in g (omega arith))

  pub judged : Judged edition s (read_apdu edition s)
  unfolding read_apdu
  judged =
      reached 0 (omega arith) (λ some.
      typed 0 (omega arith) (request some) (λ a.
      typed 1 a (unconfirmed some) (λ b.
      typed 2 b (simple_ack_lem some) (λ c.
      typed 3 c (complex_ack_lem some) (λ d.
      typed 4 d (segment_ack_lem some) (λ e.
      typed 5 e (error some) (λ f.
      typed 6 f (reject some) (λ g.
      typed 7 g (abort some) (λ h.
      bad 21 (some, h))))))))))
