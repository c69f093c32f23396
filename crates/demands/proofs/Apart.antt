-- No two refusals have one number, so no two answers of the code are seen alike.
use Rattle.std.specs.Prelude.{ℕ, ◌≡◌, refl, eqb, Result, Ok, Err, ⊤}
use Rattle.std.proofs.Common.{sym, ap, ◌∙◌, arith}
use Rattle.octets.specs.Choice.{pick, impossible}
use Rattle.octets.specs.declared.refusal.Refusal.{Refusal}
use Rattle.octets.specs.declared.refusal.Refusal.TheVariants.{NpduEndsEarly, NpduVersion, NpduReserved, AddressLength, NetworkNumber, ApduEndsEarly, ApduType, ApduReserved, SizeOrWindow, ApduLeftOver, ItemEndsEarly, TagNumber, NotShortest, ContentsLength, ContentsRule, StrayClosing, GroupLeftOpen, TooDeep, TooManyItems, TooManyOctets, ParameterMissing, ParameterRange, ItemAfterLast, UnknownChoice, NoSlotFree, NotBegun, OutOfOrder, OtherChoice, MessageTooLong, SlotNotOpen, UnfitState, AreaSize, TooSmall, NoReading, TooManySegments, OutOfRange, BadRecord, OddRecords}
use Rattle.octets.specs.Refusal.{number_of, numbered, fault_of, number_some}
use Rattle.frames.specs.Answers.{Fed, Fell, fed_by, fell_by}
use Rattle.frames.specs.declared.Receiver.{Receiver}
use Rattle.frames.specs.declared.Fed as Piece
use Rattle.frames.specs.declared.Fell as Silence
use Rattle.npdu.specs.Reading.{Reading, reading_of, refused_by}
use Rattle.npdu.specs.declared.Header.{Header}
use Rattle.apdu.specs.declared.Pdu.{Pdu}
use Rattle.cutter.specs.Calls.{Parted, parted_of}
use Rattle.cutter.specs.declared.Extent.{Extent}
use Rattle.items.specs.Answers.{tally_of, one_of}
use Rattle.items.specs.declared.Unlisted.{Unlisted}
use Rattle.items.specs.declared.Unlisted.TheVariants.{Small, Refused}
use Rattle.services.specs.declared.Service.{Service}
use Rattle.reader.specs.Answers.{answer_of}
use Rattle.reader.specs.declared.Step as Told
use Rattle.reader.specs.declared.Step.TheVariants.{Item, Group, End}
use Rattle.rebuild.specs.Calls as Rebuild
use Rattle.rebuild.specs.declared.Slots.{Slots}
use Rattle.rebuild.specs.declared.Step as Declared
use Rattle.rebuild.specs.declared.Step.TheVariants.{Held, Complete}
use Rattle.rebuild.specs.declared.Taken.{Taken}
use Rattle.collector.specs.Answers as Collected
use Rattle.collector.specs.declared.Collector.{Collector}
use Rattle.collector.specs.declared.Fed as Eaten
use Rattle.collector.specs.declared.Fell as Stilled
use Rattle.playback.specs.Answers as Replayed
use Rattle.playback.specs.declared.Played.{Played}
use Rattle.demands.specs.Apart.{AnswersApart, OneOfTheCode}

-- the refusal of a number
refusal_at : ℕ → Refusal
refusal_at n =
    pick (eqb n 10) NpduEndsEarly (
    pick (eqb n 11) NpduVersion (
    pick (eqb n 12) NpduReserved (
    pick (eqb n 13) AddressLength (
    pick (eqb n 14) NetworkNumber (
    pick (eqb n 20) ApduEndsEarly (
    pick (eqb n 21) ApduType (
    pick (eqb n 22) ApduReserved (
    pick (eqb n 23) SizeOrWindow (
    pick (eqb n 24) ApduLeftOver (
    pick (eqb n 30) ItemEndsEarly (
    pick (eqb n 31) TagNumber (
    pick (eqb n 32) NotShortest (
    pick (eqb n 33) ContentsLength (
    pick (eqb n 34) ContentsRule (
    pick (eqb n 35) StrayClosing (
    pick (eqb n 36) GroupLeftOpen (
    pick (eqb n 37) TooDeep (
    pick (eqb n 38) TooManyItems (
    pick (eqb n 39) TooManyOctets (
    pick (eqb n 40) ParameterMissing (
    pick (eqb n 41) ParameterRange (
    pick (eqb n 42) ItemAfterLast (
    pick (eqb n 43) UnknownChoice (
    pick (eqb n 50) NoSlotFree (
    pick (eqb n 51) NotBegun (
    pick (eqb n 52) OutOfOrder (
    pick (eqb n 53) OtherChoice (
    pick (eqb n 54) MessageTooLong (
    pick (eqb n 56) SlotNotOpen (
    pick (eqb n 59) UnfitState (
    pick (eqb n 60) AreaSize (
    pick (eqb n 61) TooSmall (
    pick (eqb n 62) NoReading (
    pick (eqb n 63) TooManySegments (
    pick (eqb n 64) OutOfRange (
    pick (eqb n 67) BadRecord (
    OddRecords)))))))))))))))))))))))))))))))))))))

refusal_back : (r : Refusal) → refusal_at (number_of r) ≡ r
unfolding refusal_at
refusal_back NpduEndsEarly = refl
refusal_back NpduVersion = refl
refusal_back NpduReserved = refl
refusal_back AddressLength = refl
refusal_back NetworkNumber = refl
refusal_back ApduEndsEarly = refl
refusal_back ApduType = refl
refusal_back ApduReserved = refl
refusal_back SizeOrWindow = refl
refusal_back ApduLeftOver = refl
refusal_back ItemEndsEarly = refl
refusal_back TagNumber = refl
refusal_back NotShortest = refl
refusal_back ContentsLength = refl
refusal_back ContentsRule = refl
refusal_back StrayClosing = refl
refusal_back GroupLeftOpen = refl
refusal_back TooDeep = refl
refusal_back TooManyItems = refl
refusal_back TooManyOctets = refl
refusal_back ParameterMissing = refl
refusal_back ParameterRange = refl
refusal_back ItemAfterLast = refl
refusal_back UnknownChoice = refl
refusal_back NoSlotFree = refl
refusal_back NotBegun = refl
refusal_back OutOfOrder = refl
refusal_back OtherChoice = refl
refusal_back MessageTooLong = refl
refusal_back SlotNotOpen = refl
refusal_back UnfitState = refl
refusal_back AreaSize = refl
refusal_back TooSmall = refl
refusal_back NoReading = refl
refusal_back TooManySegments = refl
refusal_back OutOfRange = refl
refusal_back BadRecord = refl
refusal_back OddRecords = refl

number_one : (r r' : Refusal) → number_of r ≡ number_of r' → r ≡ r'
number_one r r' e = sym (refusal_back r) ∙ ap refusal_at e ∙ refusal_back r'

-- a number that is 0 is no refusal's
no_number : {P : Type 0} (r : Refusal) → 0 ≡ number_of r → P
no_number r e = absurd (omega (arith, number_some r))

numbered_one : (A : Type 0) (x x' : Result A Refusal) → numbered x ≡ numbered x' → x ≡ x'
numbered_one A (Ok a) (Ok a') e = (let d : a ≡ a' = cc in ap Ok d)
numbered_one A (Ok a) (Err r') e = impossible (cc)
numbered_one A (Err r) (Ok a') e = impossible (cc)
numbered_one A (Err r) (Err r') e = (let d : number_of r ≡ number_of r' = cc in ap Err (number_one r r' d))

judged_one : (x x' : Result ⊤ Refusal) → fault_of x ≡ fault_of x' → x ≡ x'
judged_one (Ok u) (Ok u') e = refl
judged_one (Ok u) (Err r') e = no_number r' e
judged_one (Err r) (Ok u') e = no_number r (sym e)
judged_one (Err r) (Err r') e = ap Err (number_one r r' e)

-- ---- a value or a refusal
read_one : (x x' : Result Header Refusal) → reading_of x ≡ reading_of x' → x ≡ x'
unfolding refused_by
read_one (Ok h) (Ok h') e = ap Ok (λ i. record { npdu = (e i).head; next = (e i).next })
read_one (Ok h) (Err r') e = no_number r' (ap (λ (r : Reading). r.refused) e)
read_one (Err r) (Ok h') e = no_number r (sym (ap (λ (r : Reading). r.refused) e))
read_one (Err r) (Err r') e = ap Err (number_one r r' (ap (λ (r : Reading). r.refused) e))

cut_one : (x x' : Result Extent Refusal) → parted_of x ≡ parted_of x' → x ≡ x'
cut_one (Ok c) (Ok c') e =
    let a : ◌≡◌ {A = Result ℕ ℕ} (Ok c.octets) (Ok c'.octets) = ap (λ (r : Parted). r.answer) e in
    let o : c.octets ≡ c'.octets = cc in
    ap Ok (λ i. record { octets = o i; segments = (e i).segments })
cut_one (Ok c) (Err r') e = (let a : ◌≡◌ {A = Result ℕ ℕ} (Ok c.octets) (Err (number_of r')) = ap (λ (r : Parted). r.answer) e in impossible (cc))
cut_one (Err r) (Ok c') e = (let a : ◌≡◌ {A = Result ℕ ℕ} (Err (number_of r)) (Ok c'.octets) = ap (λ (r : Parted). r.answer) e in impossible (cc))
cut_one (Err r) (Err r') e =
    let a : ◌≡◌ {A = Result ℕ ℕ} (Err (number_of r)) (Err (number_of r')) = ap (λ (r : Parted). r.answer) e in
    let d : number_of r ≡ number_of r' = cc in
    ap Err (number_one r r' d)

listed_one : (x x' : Result ℕ Unlisted) → tally_of x ≡ tally_of x' → x ≡ x'
listed_one (Ok n) (Ok n') e = (let d : n ≡ n' = cc in ap Ok d)
listed_one (Ok n) (Err (Small n')) e = impossible (cc)
listed_one (Ok n) (Err (Refused r')) e = impossible (cc)
listed_one (Err (Small n)) (Ok n') e = impossible (cc)
listed_one (Err (Small n)) (Err (Small n')) e = (let d : n ≡ n' = cc in ap (λ (k : ℕ). Err (Small k)) d)
listed_one (Err (Small n)) (Err (Refused r')) e = impossible (cc)
listed_one (Err (Refused r)) (Ok n') e = impossible (cc)
listed_one (Err (Refused r)) (Err (Small n')) e = impossible (cc)
listed_one (Err (Refused r)) (Err (Refused r')) e = (let d : number_of r ≡ number_of r' = cc in ap (λ (u : Refusal). Err (Refused u)) (number_one r r' d))

one_one : (x x' : Result ℕ Refusal) → one_of x ≡ one_of x' → x ≡ x'
one_one (Ok n) (Ok n') e = (let d : n ≡ n' = cc in ap Ok d)
one_one (Ok n) (Err r') e = impossible (cc)
one_one (Err r) (Ok n') e = impossible (cc)
one_one (Err r) (Err r') e = (let d : number_of r ≡ number_of r' = cc in ap Err (number_one r r' d))

step_one : (x x' : Result Told.Step Refusal) → answer_of x ≡ answer_of x' → x ≡ x'
step_one (Ok (Item k n v p l q)) (Ok (Item k' n' v' p' l' q')) e =
    let a : k ≡ k' = cc in
    let b : n ≡ n' = cc in
    let c : v ≡ v' = cc in
    let d : p ≡ p' = cc in
    let f : l ≡ l' = cc in
    let g : q ≡ q' = cc in
    λ i. Ok (Item (a i) (b i) (c i) (d i) (f i) (g i))
step_one (Ok (Item k n v p l q)) (Ok (Group n' p' q')) e = impossible (cc)
step_one (Ok (Item k n v p l q)) (Ok End) e = impossible (cc)
step_one (Ok (Item k n v p l q)) (Err r') e = impossible (cc)
step_one (Ok (Group n p q)) (Ok (Item k' n' v' p' l' q')) e = impossible (cc)
step_one (Ok (Group n p q)) (Ok (Group n' p' q')) e =
    let b : n ≡ n' = cc in
    let d : p ≡ p' = cc in
    let g : q ≡ q' = cc in
    λ i. Ok (Group (b i) (d i) (g i))
step_one (Ok (Group n p q)) (Ok End) e = impossible (cc)
step_one (Ok (Group n p q)) (Err r') e = impossible (cc)
step_one (Ok End) (Ok (Item k' n' v' p' l' q')) e = impossible (cc)
step_one (Ok End) (Ok (Group n' p' q')) e = impossible (cc)
step_one (Ok End) (Ok End) e = refl
step_one (Ok End) (Err r') e = impossible (cc)
step_one (Err r) (Ok (Item k' n' v' p' l' q')) e = impossible (cc)
step_one (Err r) (Ok (Group n' p' q')) e = impossible (cc)
step_one (Err r) (Ok End) e = impossible (cc)
step_one (Err r) (Err r') e = (let d : number_of r ≡ number_of r' = cc in ap Err (number_one r r' d))

-- ---- the receiver, rebuilding, the collector, a replay
fed_one : (m : Receiver) (x x' : Result Piece.Fed Refusal) → fed_by m x ≡ fed_by m x' → x ≡ x'
fed_one m (Ok f) (Ok f') e = ap Ok (λ i. record { eaten = (e i).eaten; outcome = (e i).outcome; receiver = (e i).receiver })
fed_one m (Ok f) (Err r') e = no_number r' (ap (λ (r : Fed). r.refused) e)
fed_one m (Err r) (Ok f') e = no_number r (sym (ap (λ (r : Fed). r.refused) e))
fed_one m (Err r) (Err r') e = ap Err (number_one r r' (ap (λ (r : Fed). r.refused) e))

fell_one : (m : Receiver) (x x' : Result Silence.Fell Refusal) → fell_by m x ≡ fell_by m x' → x ≡ x'
fell_one m (Ok f) (Ok f') e = ap Ok (λ i. record { outcome = (e i).outcome; receiver = (e i).receiver })
fell_one m (Ok f) (Err r') e = no_number r' (ap (λ (r : Fell). r.refused) e)
fell_one m (Err r) (Ok f') e = no_number r (sym (ap (λ (r : Fell). r.refused) e))
fell_one m (Err r) (Err r') e = ap Err (number_one r r' (ap (λ (r : Fell). r.refused) e))

said_one : (x x' : Result Declared.Step Refusal) → Rebuild.said_of x ≡ Rebuild.said_of x' → x ≡ x'
said_one (Ok (Held s n)) (Ok (Held s' n')) e = (let a : s ≡ s' = cc in let b : n ≡ n' = cc in λ i. Ok (Held (a i) (b i)))
said_one (Ok (Held s n)) (Ok (Complete s' n')) e = impossible (cc)
said_one (Ok (Held s n)) (Err r') e = impossible (cc)
said_one (Ok (Complete s n)) (Ok (Held s' n')) e = impossible (cc)
said_one (Ok (Complete s n)) (Ok (Complete s' n')) e = (let a : s ≡ s' = cc in let b : n ≡ n' = cc in λ i. Ok (Complete (a i) (b i)))
said_one (Ok (Complete s n)) (Err r') e = impossible (cc)
said_one (Err r) (Ok (Held s' n')) e = impossible (cc)
said_one (Err r) (Ok (Complete s' n')) e = impossible (cc)
said_one (Err r) (Err r') e = (let d : number_of r ≡ number_of r' = cc in ap Err (number_one r r' d))

taken_one : (x x' : Taken) → Rebuild.taken_of x ≡ Rebuild.taken_of x' → x ≡ x'
taken_one x x' e = (let a = said_one x.answer x'.answer (ap (λ (r : Rebuild.Taken). r.answer) e) in λ i. record { answer = a i; slots = (e i).slots })

freed_one : (t : Slots) (x x' : Result Slots Refusal) → Rebuild.forgot_of t x ≡ Rebuild.forgot_of t x' → x ≡ x'
freed_one t (Ok u) (Ok u') e = ap Ok (ap (λ (r : Rebuild.Forgot). r.slots) e)
freed_one t (Ok u) (Err r') e = no_number r' (ap (λ (r : Rebuild.Forgot). r.number) e)
freed_one t (Err r) (Ok u') e = no_number r (sym (ap (λ (r : Rebuild.Forgot). r.number) e))
freed_one t (Err r) (Err r') e = ap Err (number_one r r' (ap (λ (r : Rebuild.Forgot). r.number) e))

eaten_one : (c : Collector) (x x' : Result Eaten.Fed Refusal) → Collected.fed_of c x ≡ Collected.fed_of c x' → x ≡ x'
eaten_one c (Ok f) (Ok f') e = ap Ok (λ i. record { eaten = (e i).eaten; reported = (e i).reported; state = (e i).state })
eaten_one c (Ok f) (Err r') e = no_number r' (ap (λ (r : Collected.Fed). r.refused) e)
eaten_one c (Err r) (Ok f') e = no_number r (sym (ap (λ (r : Collected.Fed). r.refused) e))
eaten_one c (Err r) (Err r') e = ap Err (number_one r r' (ap (λ (r : Collected.Fed). r.refused) e))

stilled_one : (c : Collector) (x x' : Result Stilled.Fell Refusal) → Collected.fell_of c x ≡ Collected.fell_of c x' → x ≡ x'
stilled_one c (Ok f) (Ok f') e = ap Ok (λ i. record { reported = (e i).reported; state = (e i).state })
stilled_one c (Ok f) (Err r') e = no_number r' (ap (λ (r : Collected.Fell). r.refused) e)
stilled_one c (Err r) (Ok f') e = no_number r (sym (ap (λ (r : Collected.Fell). r.refused) e))
stilled_one c (Err r) (Err r') e = ap Err (number_one r r' (ap (λ (r : Collected.Fell). r.refused) e))

forgot_one : (c : Collector) (x x' : Result Collector Refusal) → Collected.forgot_of c x ≡ Collected.forgot_of c x' → x ≡ x'
forgot_one c (Ok d) (Ok d') e = ap Ok (ap (λ (r : Collected.Forgot). r.state) e)
forgot_one c (Ok d) (Err r') e = no_number r' (ap (λ (r : Collected.Forgot). r.number) e)
forgot_one c (Err r) (Ok d') e = no_number r (sym (ap (λ (r : Collected.Forgot). r.number) e))
forgot_one c (Err r) (Err r') e = ap Err (number_one r r' (ap (λ (r : Collected.Forgot). r.number) e))

played_one : (x x' : Played) → Replayed.played_of x ≡ Replayed.played_of x' → x ≡ x'
played_one x x' e =
    let a = judged_one x.answer x'.answer (ap (λ (r : Replayed.Played). r.refused) e) in
    λ i. record { answer = a i; eaten = (e i).eaten; reported = (e i).reported; state = (e i).state }

pub answers_apart : AnswersApart
answers_apart =
    record {
      refusals = number_one;
      written = numbered_one ℕ;
      judges = judged_one;
      npdu_read = read_one;
      apdu_read = numbered_one Pdu;
      cut = cut_one;
      items_list = listed_one;
      items_one = one_one;
      services_read = numbered_one Service;
      reader_step = step_one;
      receiver_feed = fed_one;
      receiver_silence = fell_one;
      rebuild_take = taken_one;
      rebuild_forget = freed_one;
      collector_feed = eaten_one;
      collector_silence = stilled_one;
      collector_forget = forgot_one;
      replay = played_one;
    }

pub one_of_the_code : OneOfTheCode
one_of_the_code C A L view faithful P one x x' p p' =
    let e = one.same (view x.0, x.1) (view x'.0, x'.1) p p' in
    let answer = faithful x.0 x'.0 (λ i. (e i).0) in
    λ i. (answer i, (e i).1)
