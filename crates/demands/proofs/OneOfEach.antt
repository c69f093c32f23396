-- Each contract allows one of the code's own answers, and no other: whatever number the page's answer has is a refusal's.
use Rattle.std.specs.Prelude.{ℕ, ◌≡◌, ◌+◌, ◌≤◌, ◌<◌, ◌⊎◌, false, List, [], ◌∷◌, length, ltb, leb, eqb, ◌%◌, ◌==◌, Result, Ok, Err, ⊤}
use Rattle.std.proofs.Math.Option.{Option, none, some}
use Rattle.std.proofs.Common.{refl, sym, ap, subst, ◌∙◌, inl, inr, arith}
use borrow.Author.Tests.{eqb-true, eqb-false, ltb-true, ltb-false}
use Rattle.octets.specs.Choice.{pick_case, pick_cases, pick_true, by_test}
use Rattle.octets.specs.Laid.{Written, Laid, answer_of, area_of}
use Rattle.octets.specs.Refusal.{number_of, number_some, numbered, fault_of}
use Rattle.octets.specs.declared.refusal.Refusal.{Refusal}
use Rattle.octets.specs.declared.refusal.Refusal.TheVariants.{NpduEndsEarly, NpduVersion, NpduReserved, AddressLength, NetworkNumber, ApduEndsEarly, ApduType, ApduReserved, SizeOrWindow, ApduLeftOver, ItemEndsEarly, TagNumber, NotShortest, ContentsLength, ContentsRule, StrayClosing, GroupLeftOpen, TooDeep, TooManyItems, TooManyOctets, ParameterMissing, ParameterRange, ItemAfterLast, UnknownChoice, NoSlotFree, NotBegun, OutOfOrder, OtherChoice, MessageTooLong, SlotNotOpen, UnfitState, AreaSize, TooSmall, NoReading, TooManySegments, OutOfRange, BadRecord, OddRecords}
use Rattle.runs.specs.Run.{Order}
use Rattle.frames.specs.Answers.{fed_by, fell_by}
use Rattle.frames.specs.Step.{most, sound_of, feed_of, silence_of}
use Rattle.frames.specs.declared.Receiver.{Receiver}
use Rattle.frames.proofs.Calls.{feed_refused, silence_refused}
use Rattle.frame_writer.specs.Fault as FrameFault
use Rattle.npdu.specs.Fault as NetworkFault
use Rattle.npdu.specs.Reading.{Reading, read_npdu, reading_of, refused_by}
use Rattle.npdu.specs.declared.Npdu.{Npdu}
use Rattle.apdu.specs.Fault as HeaderFault
use Rattle.apdu.specs.Fault.{or_else}
use Rattle.apdu.specs.Reading.{read_apdu}
use Rattle.apdu.specs.declared.Edition.{Edition}
use Rattle.apdu.specs.declared.Pdu.{Pdu}
use Rattle.cutter.specs.Calls.{parted_of, count_in, Cuts}
use Rattle.cutter.specs.Fault as CutFault
use Rattle.cutter.specs.Fault.{front_fault, count_fault}
use Rattle.cutter.specs.Layout.{network_head, pdu_of, segments_of, octets_of}
use Rattle.cutter.specs.declared.Extent.{Extent}
use Rattle.cutter.specs.declared.Message.{Message}
use Rattle.cutter.specs.declared.Way.{Way}
use Rattle.tags.specs.Types.{longest}
use Rattle.tags.specs.Head.{Tag}
use Rattle.tags.specs.Head.Tag.{Item, Opening, Closing}
use Rattle.tags.specs.Reading.{head_at}
use Rattle.tags.proofs.Refusals.{TagHas}
use Rattle.items.specs.Answers.{Tally, One as OneItem, tally_of, one_of}
use Rattle.items.specs.Listing.{Listed, listed_of, listing}
use Rattle.items.specs.Reading.{Out, items_of, item_at, one_at, end_of}
use Rattle.items.specs.Reading.Out.{good, bad}
use Rattle.items.specs.Records.{records_octets}
use Rattle.items.specs.declared.Unlisted.{Unlisted}
use Rattle.items.specs.declared.Unlisted.TheVariants.{Small, Refused}
use Rattle.items.proofs.Refusals.{OutHas, head_has, item_has, items_have}
use Rattle.item_judge.specs.Judge.{write_fault, records_in, good_records}
use Rattle.services.specs.Reading.{read_service}
use Rattle.services.specs.declared.Service.{Service}
use Rattle.service_writer.specs.Fault as ServiceFault
use Rattle.reader.specs.Answers.{Step, answer_of as reader_answer}
use Rattle.reader.specs.Reading.{shown, judged, step_of}
use Rattle.reader.specs.declared.Step as Told
use Rattle.messages.specs.Rows as Rows
use Rattle.messages.specs.Slots.{Segment, Box, Slot, boxed, slot_at, slot_of}
use Rattle.rebuild.specs.Calls as Rebuild
use Rattle.rebuild.specs.Calls.{taken_of, said_of, forgot_of}
use Rattle.rebuild.specs.View.{keys, view, unview, segment_of}
use Rattle.rebuild.specs.declared.Key.{Key}
use Rattle.rebuild.specs.declared.Segment.{Segment as Head}
use Rattle.rebuild.specs.declared.Slots.{Slots}
use Rattle.rebuild.specs.declared.Taken.{Taken}
use Rattle.rebuild.specs.declared.Step.TheVariants.{Held, Complete}
use Rattle.rebuild.proofs.Giving.{forgets_not}
use Rattle.rebuild.proofs.Seen.{view_unview}
use Rattle.collector.specs.Answers as Collected
use Rattle.collector.specs.Calls.{sound, sized, slots_of, feed_refusal, silence_refusal, Feeds, Stills, Forgets}
use Rattle.collector.specs.declared.Collector.{Collector}
use Rattle.collector.specs.declared.Fed as Eaten
use Rattle.collector.specs.declared.Fell as Stilled
use Rattle.playback.specs.Answers as Replayed
use Rattle.playback.specs.Answers.{played_of}
use Rattle.playback.specs.Calls.{Course, reached, course_of, play_refusal, playing, Plays}
use Rattle.playback.specs.Reading.{Records, order_of, read_on, read_records}
use Rattle.playback.specs.declared.Played.{Played}
use Rattle.demands.specs.Apart.{Faithful, OneOfEach, SeenOfTheCode}
use Rattle.demands.specs.Words.{One, Between, unfed_by, quiet_by}
use Rattle.demands.proofs.Apart.{answers_apart}
use Rattle.demands.proofs.Calls.{one_answer}
use Rattle.demands.proofs.Changes as Changes
use Rattle.demands.proofs.Numbers.{network_numbers, header_numbers, network_writer_numbers, header_writer_numbers, bad_row}
use Rattle.demands.proofs.ServiceNumbers.{service_numbers, service_writer_numbers}

-- ---- the numbers of refusals
abbrev OfRefusal : ℕ → Type 0
OfRefusal n = (r : Refusal) × (number_of r ≡ n)

-- 0 or one of them
abbrev Fault : ℕ → Type 0
Fault n = (n ≡ 0) ⊎ OfRefusal n

is : (r : Refusal) → OfRefusal (number_of r)
is r = (r, refl)

by : (r : Refusal) → Fault (number_of r)
by r = inr (is r)

-- none of them is 0
some_number : {n : ℕ} → OfRefusal n → n ≡ 0 → ⊥
some_number x z = omega (arith, number_some x.0, x.1, z)

-- n is at least the number of r: it is that, or greater
up : (r : Refusal) (n : ℕ) → number_of r ≤ n → (number_of r < n → OfRefusal n) → OfRefusal n
up r n low more = by_test (eqb n (number_of r)) (λ t. (r, sym (eqb-true n (number_of r) t))) (λ t. more (omega (arith, eqb-false n (number_of r) t)))

of_network : (n : ℕ) → 10 ≤ n → n ≤ 14 → OfRefusal n
of_network n low high =
    up NpduEndsEarly n low (λ a. up NpduVersion n (omega arith) (λ b. up NpduReserved n (omega arith) (λ c. up AddressLength n (omega arith) (λ d.
    up NetworkNumber n (omega arith) (λ e. absurd (omega arith))))))

of_header : (n : ℕ) → 20 ≤ n → n ≤ 24 → OfRefusal n
of_header n low high =
    up ApduEndsEarly n low (λ a. up ApduType n (omega arith) (λ b. up ApduReserved n (omega arith) (λ c. up SizeOrWindow n (omega arith) (λ d.
    up ApduLeftOver n (omega arith) (λ e. absurd (omega arith))))))

of_items : (n : ℕ) → 30 ≤ n → n ≤ 39 → OfRefusal n
of_items n low high =
    up ItemEndsEarly n low (λ a. up TagNumber n (omega arith) (λ b. up NotShortest n (omega arith) (λ c. up ContentsLength n (omega arith) (λ d.
    up ContentsRule n (omega arith) (λ e. up StrayClosing n (omega arith) (λ f. up GroupLeftOpen n (omega arith) (λ g. up TooDeep n (omega arith) (λ h.
    up TooManyItems n (omega arith) (λ i. up TooManyOctets n (omega arith) (λ j. absurd (omega arith)))))))))))

of_services : (n : ℕ) → 40 ≤ n → n ≤ 43 → OfRefusal n
of_services n low high =
    up ParameterMissing n low (λ a. up ParameterRange n (omega arith) (λ b. up ItemAfterLast n (omega arith) (λ c. up UnknownChoice n (omega arith) (λ d.
    absurd (omega arith)))))

of_service_writer : (n : ℕ) → 30 ≤ n → n ≤ 42 → OfRefusal n
of_service_writer n low high =
    by_test (ltb n 40) (λ t. of_items n low (omega (arith, ltb-true n 40 t))) (λ t. of_services n (ltb-false n 40 t) (omega arith))

of_item : (n : ℕ) → 30 ≤ n → n ≤ 38 → OfRefusal n
of_item n low high = of_items n low (omega arith)

ranged : {n low high : ℕ} → (n ≡ 0) ⊎ Between low high n → (low ≤ n → n ≤ high → OfRefusal n) → Fault n
ranged (inl z) f = inl z
ranged (inr b) f = inr (f b.0 b.1)

-- ---- an answer of the code that is seen as a
abbrev Seen : {C A : Type 0} → (C → A) → A → Type 0
Seen {C} view a = (c : C) × (view c ≡ a)

-- a contract that is an equation allows it alone
equal : {C A : Type 0} (view : C → A) → Faithful view → (a : A) → Seen view a → One C (λ r. view r ≡ a)
equal view faithful a s = record { answer = s.0; allowed = s.1; same = λ r r' e d. faithful r r' (e ∙ sym d) }

-- the same of a contract P that speaks of the areas that were lent too: one, and two
module _ {C A L : Type 0} (view : C → A) (faithful : Faithful view) (P : A × L → Type 0) (one : One (A × L) P) where
  allows : (c : C) (l : L) → P (view c, l) → One (C × L) (λ x. P (view x.0, x.1))
  allows c l p =
      record {
        answer = (c, l);
        allowed = p;
        same = λ x y q r.
            let e = one.same (view x.0, x.1) (view y.0, y.1) q r in
            let d = faithful x.0 y.0 (λ i. (e i).0) in
            λ i. (d i, (e i).1);
      }

  shows : Seen view one.answer.0 → One (C × L) (λ x. P (view x.0, x.1))
  shows s = allows s.0 one.answer.1 (subst (λ (a : A). P (a, one.answer.1)) (sym s.1) one.allowed)

module _ {C A L M : Type 0} (view : C → A) (faithful : Faithful view) (P : A × L × M → Type 0) (one : One (A × L × M) P) where
  shows_both : Seen view one.answer.0 → One (C × L × M) (λ x. P (view x.0, x.1, x.2))
  shows_both s =
      record {
        answer = (s.0, one.answer.1, one.answer.2);
        allowed = subst (λ (a : A). P (a, one.answer.1, one.answer.2)) (sym s.1) one.allowed;
        same = λ x y q r.
            let e = one.same (view x.0, x.1, x.2) (view y.0, y.1, y.2) q r in
            let d = faithful x.0 y.0 (λ i. (e i).0) in
            λ i. (d i, (e i).1, (e i).2);
      }

-- ---- judges and writers
judge_seen : (n : ℕ) → Fault n → Seen (fault_of {A = ⊤}) n
judge_seen n (inl z) = (Ok tt, sym z)
judge_seen n (inr x) = (Err x.0, x.1)

abbrev WrittenAs : Written → Type 0
WrittenAs a = Seen (numbered {A = ℕ}) a

no_fault : (f : ℕ) → Fault f → eqb f 0 ≡ false → WrittenAs (Err f)
no_fault f (inl z) t = absurd (eqb-false f 0 t z)
no_fault f (inr x) t = (Err x.0, ap Err x.1)

writer_seen : (f : ℕ) (o out : List ℕ) → Fault f → WrittenAs (answer_of f o out)
unfolding answer_of
writer_seen f o out k =
    pick_cases WrittenAs (eqb f 0) (λ t. pick_case WrittenAs (ltb (length out) (length o)) (Err TooSmall, refl) (Ok (length o), refl)) (λ t. no_fault f k t)

laid : (f : ℕ) (o out : List ℕ) → Fault f → One (Written × List ℕ) (λ x. Laid f o out x.0 x.1) → One (Result ℕ Refusal × List ℕ) (λ x. Laid f o out (numbered x.0) x.1)
laid f o out k one =
    let s = writer_seen f o out k in
    allows numbered answers_apart.written (λ x. Laid f o out x.0 x.1) one s.0 (area_of f o out) (record { answer = s.1; after = refl })

frame_fault : (d : List ℕ) → Fault (FrameFault.fault_of d)
unfolding FrameFault.fault_of
frame_fault d = pick_case Fault (ltb most (length d)) (by OutOfRange) (inl refl)

network_fault : (h : Npdu) → Fault (NetworkFault.fault_of h)
network_fault h = ranged (network_writer_numbers h) (λ l m. of_network _ (omega arith) m)

header_fault : (e : Edition) (p : Pdu) → Fault (HeaderFault.fault_of e p)
header_fault e p = ranged (header_writer_numbers e p) (λ l m. of_header _ (omega arith) (omega arith))

items_fault : (records source : List ℕ) → Fault (write_fault records source)
unfolding write_fault
items_fault records source = pick_case Fault (eqb (length records % 12) 0) (pick_case Fault (good_records source (records_in records)) (inl refl) (by NoReading)) (by NoReading)

service_fault : (v : Service) (value : List ℕ) → Fault (ServiceFault.fault_of v value)
service_fault v value = ranged (service_writer_numbers v value) (λ l m. of_service_writer _ l m)

-- ---- the cutter
front_numbers : (w : Way) (n : ℕ) → Fault (front_fault w n)
unfolding front_fault
front_numbers w n =
    pick_case Fault (ltb 16384 n) (by TooManyOctets)
    (pick_case Fault (eqb w.each 0) (by OutOfRange)
    (pick_case Fault (ltb 474 w.each) (by OutOfRange)
    (pick_case Fault (eqb w.window 0) (by OutOfRange)
    (pick_case Fault (ltb 127 w.window) (by OutOfRange) (network_fault (network_head w))))))

cut_fault : (e : Edition) (m : Message) (w : Way) (n : ℕ) → Fault (CutFault.fault_of e m w n)
unfolding CutFault.fault_of count_fault
cut_fault e m w n =
    let p = pdu_of m w.window false 0 in
    pick_case Fault (eqb (front_fault w n) 0)
    (pick_case Fault (eqb (HeaderFault.fault_of e p) 0) (pick_case Fault (ltb 256 (segments_of w.each n)) (by TooManySegments) (inl refl)) (header_fault e p))
    (front_numbers w n)

-- the octets written, and then the number of segments beside them
extent_of : Result ℕ Refusal → ℕ → Result Extent Refusal
extent_of (Ok n) count = Ok (record { octets = n; segments = count })
extent_of (Err r) count = Err r

extent_answer : (x : Result ℕ Refusal) (count : ℕ) → (parted_of (extent_of x count)).answer ≡ numbered x
unfolding extent_of
extent_answer (Ok n) count = refl
extent_answer (Err r) count = refl

extent_segments : (x : Result ℕ Refusal) (count : ℕ) → (parted_of (extent_of x count)).segments ≡ count_in (parted_of (extent_of x count)).answer count
unfolding extent_of
extent_segments (Ok n) count = refl
extent_segments (Err r) count = refl

parted : (e : Edition) (m : Message) (w : Way) (params out : List ℕ) → One (Result Extent Refusal × List ℕ) (λ x. Cuts e m w params out (parted_of x.0) x.1)
parted e m w params out =
    let f = CutFault.fault_of e m w (length params) in
    let o = octets_of m w params in
    let s = writer_seen f o out (cut_fault e m w (length params)) in
    let count = segments_of w.each (length params) in
    allows parted_of answers_apart.cut (λ x. Cuts e m w params out x.0 x.1) (one_answer.cut e m w params out) (extent_of s.0 count) (area_of f o out)
    (record { laid = record { answer = extent_answer s.0 count ∙ s.1; after = refl }; segments = extent_segments s.0 count })

-- ---- what is read
npdu_seen : (r : Reading) → (r.refused ≡ 0) ⊎ (Between 10 14 r.refused × (r ≡ refused_by r.refused)) → Seen reading_of r
npdu_seen r (inl z) = (let q = sym z in (Ok (record { npdu = r.head; next = r.next }), λ i. record { refused = q i; next = r.next; head = r.head }))
npdu_seen r (inr b) = (let x = of_network r.refused b.0.0 b.0.1 in (Err x.0, ap refused_by x.1 ∙ sym b.1))

header_seen : (e : Edition) (s : List ℕ) (a : Result Pdu ℕ) → read_apdu e s ≡ a → Seen (numbered {A = Pdu}) a
header_seen e s (Ok p) q = (Ok p, refl)
header_seen e s (Err n) q = (let b = header_numbers e s n q in let x = of_header n b.0 b.1 in (Err x.0, ap Err x.1))

list_seen : (size : ℕ) (o : Out) → OutHas OfRefusal o → Seen tally_of (listed_of size o)
unfolding listed_of
list_seen size (good rs end) h = pick_case (Seen tally_of) (ltb size (length (records_octets rs))) (Err (Small (length rs)), refl) (Ok (length rs), refl)
list_seen size (bad x) h = (Err (Refused h.0), ap Tally.Refused h.1)

listed : (s out : List ℕ) → One (Result ℕ Unlisted × List ℕ) (λ x. Listed s out (tally_of x.0) x.1)
listed s out =
    let x = list_seen (length out) (items_of s) (items_have OfRefusal of_items s) in
    allows tally_of answers_apart.items_list (λ x. Listed s out x.0 x.1) (one_answer.items_list s out) x.0 (listing out (items_of s)) (record { answer = x.1; after = refl })

end_seen : (o : Out) → OutHas OfRefusal o → Seen one_of (end_of o)
unfolding end_of
end_seen (good rs end) h = (Ok end, refl)
end_seen (bad x) h = (Err h.0, ap OneItem.Refused h.1)

item_in : (s : List ℕ) (at : ℕ) → OutHas OfRefusal (item_at s at)
item_in s at = item_has OfRefusal of_item s at

one_in : (s : List ℕ) (at : ℕ) → OutHas OfRefusal (one_at s at)
unfolding one_at
one_in s at = pick_case (OutHas OfRefusal) (ltb longest (length s)) (is TooManyOctets) (item_in s at)

service_seen : (kind choice : ℕ) (s : List ℕ) (a : Result Service ℕ) → read_service kind choice s ≡ a → (o : Out) → items_of s ≡ o → Seen (numbered {A = Service}) a
service_seen kind choice s (Ok v) q o e = (Ok v, refl)
service_seen kind choice s (Err n) q (bad m) e =
    let b = bad_row s m e in
    let x = of_items m b.0 b.1 in
    (Err x.0, ap Err x.1 ∙ sym ((service_numbers kind choice s).0 m e) ∙ q)
service_seen kind choice s (Err n) q (good rs end) e =
    let b = ((service_numbers kind choice s).1 (length rs) (rs, end, e, refl)).0 n q in
    let x = of_services n b.0 b.1 in
    (Err x.0, ap Err x.1)

tag_seen : (t : Tag) → TagHas OfRefusal t → (o : Out) → OutHas OfRefusal o → Seen reader_answer (judged t (end_of o))
unfolding judged shown end_of
tag_seen (Item k n v p l) h (good rs end) w = (Ok (Told.TheVariants.Item k n v p l end), refl)
tag_seen (Opening n p) h (good rs end) w = (Ok (Told.TheVariants.Group n p end), refl)
tag_seen (Closing n p) h (good rs end) w = (Err StrayClosing, refl)
tag_seen (Tag.Refused x) h (good rs end) w = (Err h.0, ap Step.Refused h.1)
tag_seen t h (bad x) w = (Err w.0, ap Step.Refused w.1)

step_seen : (s : List ℕ) (at : ℕ) → Seen reader_answer (step_of s at)
unfolding step_of
step_seen s at =
    pick_case (Seen reader_answer) (ltb longest (length s)) (Err TooManyOctets, refl)
    (pick_case (Seen reader_answer) (leb (length s) at) (Ok Told.TheVariants.End, refl) (tag_seen (head_at s at) (head_has OfRefusal of_item s at) (item_at s at) (item_in s at)))

-- ---- the receiver
fed_seen : (m : Receiver) (piece : List ℕ) → Seen (fed_by m) (feed_of m piece)
unfolding feed_of
fed_seen m piece =
    let f = feed_of m piece in
    by_test (sound_of m)
    (λ t.
    let z : 0 ≡ f.refused = sym (feed_refused m piece ∙ rw t) in
    (Ok (record { eaten = f.eaten; outcome = f.outcome; receiver = f.receiver }), λ i. record { refused = z i; eaten = f.eaten; outcome = f.outcome; receiver = f.receiver }))
    (λ t. (Err UnfitState, rw t))

fell_seen : (m : Receiver) → Seen (fell_by m) (silence_of m)
unfolding silence_of
fell_seen m =
    let f = silence_of m in
    by_test (sound_of m)
    (λ t.
    let z : 0 ≡ f.refused = sym (silence_refused m ∙ rw t) in
    (Ok (record { outcome = f.outcome; receiver = f.receiver }), λ i. record { refused = z i; outcome = f.outcome; receiver = f.receiver }))
    (λ t. (Err UnfitState, rw t))

-- ---- rebuilding
record Says (d : Rows.Done Key) : Type 0 where
  said : Seen said_of (Rebuild.step_of d.answer)

refuses : (r : Refusal) (s : List (Slot Key)) (a : List ℕ) → Says (Rows.done (Rows.Answer.refused (number_of r)) s a)
refuses r s a = record { said = (Err r, refl) }

settle_says : (g : Segment Key) (i n : ℕ) (b : Box Key) → Says (Rows.settle keys g i n b)
settle_says g i n b = pick_case Says g.mor (record { said = (Ok (Held i (n + length g.octets)), refl) }) (record { said = (Ok (Complete i (n + length g.octets)), refl) })

settled_says : (g : Segment Key) (o : Option ℕ) (n : ℕ) (b : Box Key) → Says (Rows.settled keys g o n b)
settled_says g none n b = refuses NoSlotFree _ _
settled_says g (some i) n b = settle_says g i n b

rows_say : (g : Segment Key) (o : Option ℕ) (t : Slot Key) (b : Box Key) → Says (Rows.rows keys g o t b)
rows_say g o t b =
    pick_case Says _ (refuses NotBegun _ _)
    (pick_case Says _ (refuses OutOfOrder _ _)
    (pick_case Says _ (refuses OtherChoice _ _)
    (pick_case Says _ (refuses MessageTooLong _ _) (settled_says g _ _ b))))

rebuild_says : (g : Segment Key) (b : Box Key) → Says (Rows.rebuild keys g b)
unfolding Rows.rebuild
rebuild_says g b = (let o = slot_of keys g.key b.slots in rows_say g o (Rows.record_at keys b.slots o) b)

taking_says : (t : Slots) (g : Head) (o area : List ℕ) → Says (Rebuild.taking t g o area)
unfolding Rebuild.taking
taking_says t g o area = pick_case Says (length area == 65536) (rebuild_says (segment_of g o) (boxed (view t) area)) (refuses AreaSize _ _)

given : (t : Slots) (g : Head) (o area : List ℕ) → One (Taken × List ℕ) (λ x. Rebuild.Gives (Rebuild.taking t g o area) (taken_of x.0) x.1)
given t g o area =
    let d = Rebuild.taking t g o area in
    let s = (taking_says t g o area).said in
    allows taken_of answers_apart.rebuild_take (λ x. Rebuild.Gives d x.0 x.1) (one_answer.rebuild_take t g o area) (record { answer = s.0; slots = unview d.box.slots }) d.box.area
    (record { answer = s.1; slots = view_unview d.box.slots; area = refl })

freed : (t : Slots) (s : ℕ) → One (Result Slots Refusal) (λ r. Rebuild.Forgets t s (forgot_of t r))
freed t s =
    by_test (slot_at keys (view t) s).used
    (λ e. one (Ok (unview (Rows.forgotten keys s (view t)))) (record { number = sym (pick_true (slot_at keys (view t) s).used 0 56 e); slots = view_unview _ }))
    (λ e. one (Err SlotNotOpen) (forgets_not t s e))
  where
    one : (r : Result Slots Refusal) → Rebuild.Forgets t s (forgot_of t r) → One (Result Slots Refusal) (λ r. Rebuild.Forgets t s (forgot_of t r))
    one r p = record { answer = r; allowed = p; same = λ x y a b. answers_apart.rebuild_forget t x y ((one_answer.rebuild_forget t s).same _ _ a b) }

-- ---- the collector: a refused call changes nothing
feed_fault : (c : Collector) (report area : List ℕ) → Fault (feed_refusal c report area)
unfolding feed_refusal
feed_fault c report area =
    pick_case Fault _ (pick_case Fault (sized area) (pick_case Fault (sound c.receiver (slots_of c)) (inl refl) (by UnfitState)) (by AreaSize)) (by AreaSize)

fed_as : (c : Collector) (f : Collected.Fed) → Fault f.refused → ((f.refused ≡ 0 → ⊥) → f ≡ unfed_by f.refused c) → Seen (Collected.fed_of c) f
fed_as c f (inl z) h =
    let q = sym z in
    (Ok (record { eaten = f.eaten; reported = f.reported; state = f.state }), λ i. record { refused = q i; eaten = f.eaten; reported = f.reported; state = f.state })
fed_as c f (inr x) h = (Err x.0, ap (λ (n : ℕ). unfed_by n c) x.1 ∙ sym (h (some_number x)))

fed : (c : Collector) (piece report area : List ℕ)
    → One (Result Eaten.Fed Refusal × List ℕ × List ℕ) (λ x. Feeds c report area piece (Collected.fed_of c x.0) x.1 x.2)
fed c piece report area =
    let one = one_answer.collector_feed c piece report area in
    let a = one.answer in
    let p = one.allowed in
    shows_both (Collected.fed_of c) (answers_apart.collector_feed c) (λ x. Feeds c report area piece x.0 x.1 x.2) one
    (fed_as c a.0 (subst Fault (sym p.refused) (feed_fault c report area)) (λ n. (Changes.feed_refused c piece report area a.0 a.1 a.2 p n).0))

silence_fault : (c : Collector) (report : List ℕ) → Fault (silence_refusal c report)
unfolding silence_refusal
silence_fault c report = pick_case Fault _ (pick_case Fault (sound c.receiver (slots_of c)) (inl refl) (by UnfitState)) (by AreaSize)

fell_as : (c : Collector) (f : Collected.Fell) → Fault f.refused → ((f.refused ≡ 0 → ⊥) → f ≡ quiet_by f.refused c) → Seen (Collected.fell_of c) f
fell_as c f (inl z) h =
    let q = sym z in
    (Ok (record { reported = f.reported; state = f.state }), λ i. record { refused = q i; reported = f.reported; state = f.state })
fell_as c f (inr x) h = (Err x.0, ap (λ (n : ℕ). quiet_by n c) x.1 ∙ sym (h (some_number x)))

fell : (c : Collector) (report : List ℕ) → One (Result Stilled.Fell Refusal × List ℕ) (λ x. Stills c report (Collected.fell_of c x.0) x.1)
fell c report =
    let one = one_answer.collector_silence c report in
    let a = one.answer in
    let p = one.allowed in
    shows (Collected.fell_of c) (answers_apart.collector_silence c) (λ x. Stills c report x.0 x.1) one
    (fell_as c a.0 (subst Fault (sym p.refused) (silence_fault c report)) (λ n. (Changes.silence_refused c report a.0 a.1 p n).0))

forgot_as : (c : Collector) (f : Collected.Forgot) → Fault f.number → ((f.number ≡ 0 → ⊥) → f.state ≡ c) → Seen (Collected.forgot_of c) f
forgot_as c f (inl z) h = (let q = sym z in (Ok f.state, λ i. record { number = q i; state = f.state }))
forgot_as c f (inr x) h = (let q = sym (h (some_number x)) in (Err x.0, λ i. record { number = x.1 i; state = q i }))

forgot : (c : Collector) (s : ℕ) → One (Result Collector Refusal) (λ r. Forgets c s (Collected.forgot_of c r))
forgot c s =
    let one = one_answer.collector_forget c s in
    let a = one.answer in
    let k : Fault a.number = subst Fault (sym one.allowed.number) (pick_case Fault (sound c.receiver (slots_of c)) (pick_case Fault (slot_at keys (slots_of c) s).used (inl refl) (by SlotNotOpen)) (by UnfitState)) in
    let x = forgot_as c a k (λ n. Changes.forget_refused c s a one.allowed n) in
    record {
      answer = x.0;
      allowed = subst (λ (f : Collected.Forgot). Forgets c s f) (sym x.1) one.allowed;
      same = λ y z p q. answers_apart.collector_forget c y z (one.same _ _ p q);
    }

-- ---- a replay: 67 and 68 are the records'
stop_fault : (o : List ℕ) → Fault (read_records o).stop
stop_fault [] = inl refl
stop_fault (a ∷ []) = by OddRecords
stop_fault (a ∷ b ∷ []) = by OddRecords
stop_fault (a ∷ b ∷ c ∷ []) = by OddRecords
stop_fault (a ∷ b ∷ c ∷ d ∷ more) = on (order_of a b c d) (read_records more) (stop_fault more)
  where
    on : (x : Option Order) (rest : Records) → Fault rest.stop → Fault (read_on x rest).stop
    on none rest k = by BadRecord
    on (some y) rest k = k

reached_fault : (said : Option (List ℕ)) (n : ℕ) → Fault n → Fault (reached said n)
reached_fault none n k = k
reached_fault (some report) n k = inl refl

play_fault : (c : Collector) (report area o : List ℕ) → Fault (play_refusal c report area o)
unfolding play_refusal
play_fault c report area o = pick_case Fault (eqb (feed_refusal c report area) 0) (pick_case Fault _ (inl refl) (by OddRecords)) (feed_fault c report area)

course_fault : (c : Collector) (report area o : List ℕ) → Fault (playing c report area o).number
unfolding playing course_of
course_fault c report area o =
    pick_case (λ (w : Course). Fault w.number) (eqb (play_refusal c report area o) 0) (reached_fault _ _ (stop_fault o)) (play_fault c report area o)

played_as : (f : Replayed.Played) → Seen (fault_of {A = ⊤}) f.refused → Seen played_of f
played_as f x =
    (record { answer = x.0; eaten = f.eaten; reported = f.reported; state = f.state }, λ i. record { refused = x.1 i; eaten = f.eaten; reported = f.reported; state = f.state })

replayed : (c : Collector) (records report area : List ℕ) → One (Played × List ℕ × List ℕ) (λ x. Plays c report area records (played_of x.0) x.1 x.2)
replayed c o report area =
    let one = one_answer.replay c o report area in
    let a = one.answer in
    let p = one.allowed in
    shows_both played_of answers_apart.replay (λ x. Plays c report area o x.0 x.1 x.2) one
    (played_as a.0 (judge_seen a.0.refused (subst Fault (sym p.refused) (course_fault c report area o))))

pub one_of_each : OneOfEach
one_of_each =
    record {
      receiver_feed = λ m piece. equal (fed_by m) (answers_apart.receiver_feed m) (feed_of m piece) (fed_seen m piece);
      receiver_silence = λ m. equal (fell_by m) (answers_apart.receiver_silence m) (silence_of m) (fell_seen m);
      frames_write = λ kind to from d out. laid _ _ out (frame_fault d) (one_answer.frames_write kind to from d out);
      npdu_read = λ s. equal reading_of answers_apart.npdu_read (read_npdu s) (npdu_seen _ (network_numbers s));
      npdu_write = λ h out. laid _ _ out (network_fault h) (one_answer.npdu_write h out);
      apdu_read = λ e s. equal numbered answers_apart.apdu_read (read_apdu e s) (header_seen e s _ refl);
      apdu_write = λ e p out. laid _ _ out (header_fault e p) (one_answer.apdu_write e p out);
      apdu_fault_lem = λ e p. equal fault_of answers_apart.judges (HeaderFault.fault_of e p) (judge_seen _ (header_fault e p));
      cut = parted;
      cut_front = λ w n. equal fault_of answers_apart.judges (front_fault w n) (judge_seen _ (front_numbers w n));
      items_list = listed;
      items_item_at = λ s at. equal one_of answers_apart.items_one (end_of (one_at s at)) (end_seen _ (one_in s at));
      items_whole_at = λ s at. equal one_of answers_apart.items_one (end_of (item_at s at)) (end_seen _ (item_in s at));
      items_write = λ records source out. laid _ _ out (items_fault records source) (one_answer.items_write records source out);
      services_read = λ kind choice s. equal numbered answers_apart.services_read (read_service kind choice s) (service_seen kind choice s _ refl _ refl);
      services_write = λ v value out. laid _ _ out (service_fault v value) (one_answer.services_write v value out);
      reader_next = λ q. equal reader_answer answers_apart.reader_step (step_of q.params.now q.at) (step_seen q.params.now q.at);
      reader_first = λ s. equal reader_answer answers_apart.reader_step (step_of s 0) (step_seen s 0);
      rebuild_take = given;
      rebuild_forget = freed;
      collector_feed = fed;
      collector_silence = fell;
      collector_forget = forgot;
      replay = replayed;
    }

pub seen_of_the_code : SeenOfTheCode
seen_of_the_code X Y seen P one its y p = (its.answer, one.same (seen its.answer) y its.allowed p)
