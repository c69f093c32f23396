-- What a service writer wrote reads back: its output is accepted, and where the value is whole items by itself, as the message that was written.
use Rattle.std.specs.Prelude.{Err, Ok}
use Prim.Native.Nat.{ℕ, ◌+◌, ◌*◌, ◌≤◌, ◌<◌}
use native.Mathlib.Omega.{arith}
use mathlib.Core.Path.{◌≡◌, refl, sym, ap, subst, ◌∙◌}
use mathlib.Core.Logic.{inl}
use mathlib.Core.Bool.{Bool, true, false}
use mathlib.Core.List.{List, [], ◌∷◌, ◌++◌, append-nil}
use lib.ListN.{length, take, drop, length-append}
use lib.Seq.{take_at}
use lib.Dec.{eqb, leb}
use borrow.Author.Tests.{ltb-false}
use Rattle.octets.specs.Choice.{pick, pick_case, pick_not, pick_so, by_test, impossible}
use Rattle.octets.specs.Reading.{Octets, oct}
use Rattle.octets.specs.Every.{octets_part}
use Rattle.octets.specs.Has.{Has, has_left, has_right, has_bound, all_has}
use Rattle.octets.specs.Laid.{laid_wrote, laid_as}
use Rattle.octets.specs.Numbers.{value_at, digits, width_of, value_digits, length_digits, octets_digits, width_holds, width_range, long_form, value_below}
use Rattle.tags.specs.Types.{longest, least, most}
use Rattle.tags.specs.Reading.{head_at, number_at, length_at, two_at, four_at, first_rule, first_content, contents_at, whole_at, sign_bad, signed_at, context_at, application_at}
use Rattle.tags.specs.Layout as tag
use Rattle.tags.specs.Layout.{Thing, Valid, tag_of, short_unsigned, good_contents}
use Rattle.tags.specs.Layout.Thing.{application, boolean, context, opening, closing}
use Rattle.tags.specs.Head.{Tag}
use Rattle.tags.specs.Head.{Tag as Head}
use Rattle.tags.proofs.Exact.{encode_some, head_complete}
use Rattle.tags.proofs.Integers.{shortest_unsigned}
use Rattle.items.specs.Records.{Rec, rec, things_of}
use Rattle.items.specs.Grammar.{encode_all, AllValid, Grammar, record_of, records_from}
use Rattle.items.specs.Reading.{more, ending, closes, step, walk, items_of}
use Rattle.items.proofs.Exact.{things_named}
use Rattle.services.specs.Parts.{any_number, present, wanted, number_rule, object_rule, optional_number, after_group, group, last}
use Rattle.services.specs.Reading.{last_instance, target_parts, layout_for, read_service}
use Rattle.services.specs.Reading as reading
use Rattle.services.specs.Layout.{Message, shortest, optional, pointed, valued, things_of_message, Pointing, Ranges, WholeValue}
use Rattle.services.specs.Layout.Message.{read_property, read_property_ack, write_property, who_is, i_am, error_of}
use Rattle.services.specs.Shows.{For, pointed_of, message_of, Shows, ValidFor}
use Rattle.services.specs.Parts.{Answer}
use Rattle.services.specs.declared.Service.{Service}
use Rattle.services.specs.declared.Service.TheVariants.{ReadProperty, ReadPropertyAck, WriteProperty, WhoIs, IAm, Error}
use Rattle.services.specs.declared.Target.{Target}
use Rattle.services.proofs.Exact.{accepted}
use Rattle.services.proofs.Refusals.{AnswerHas, read_has}
use Rattle.service_writer.specs.Layout.{kind_of, choice_of, octets_of, grouped, ranked}
use Rattle.service_writer.specs.Fault.{wide_target, too_wide, refusal_of, read_fault, fault_of}
use Rattle.service_writer.proofs.Items.{not_wide}
use Rattle.service_writer.proofs.Trips.{octets_are, writes_back}
use Rattle.records.specs.Service.{service_size, service_of, service_at}
use Rattle.hitchbarley.specs.Services.{service_fault}
use Rattle.demands.specs.Words.{KeptTarget, KeptService, shown_target, shown_service}
use Rattle.demands.specs.Demands.{ServicesReadBack, ServicesSwallow}
use Rattle.demands.specs.Exported.{ExportedServiceBack}
use Rattle.demands.proofs.Two.{optional_shown, pointed_shown, shows_shown}
use Rattle.demands.proofs.Exported.{wrote_laid}

-- ---- octets that are written from good items are written from no others
abbrev record_as : Tag → Rec
record_as (Head.Item k n v p l) = rec k n 0 v p l
record_as (Head.Opening n p) = rec 2 n 0 0 p 0
record_as (Head.Closing n p) = rec 3 n 0 0 p 0
record_as (Head.Refused x) = rec 0 0 0 0 0 0

record_as_lem : (at : ℕ) (t : Thing) → record_of at 0 t ≡ record_as (tag_of at t)
unfolding record_of tag_of
record_as_lem at (application n xs) = refl
record_as_lem at (boolean v) = refl
record_as_lem at (context n xs) = refl
record_as_lem at (opening n) = refl
record_as_lem at (closing n) = refl

module _ (s : List ℕ) where
  alone : (at : ℕ) (t : Thing) → Valid t → Has s at (tag.encode t) → at ≤ length s → things_of s (record_of at 0 t ∷ []) ≡ t ∷ []
  unfolding records_from encode_all
  alone at t v h a = things_named s at 0 (t ∷ []) (v, tt) (rw append-nil h) a

  thing_one : (at : ℕ) (t u : Thing) → Valid t → Valid u → Has s at (tag.encode t) → Has s at (tag.encode u) → at ≤ length s → t ≡ u
  thing_one at t u v w h k a =
      let e : record_of at 0 t ≡ record_of at 0 u = record_as_lem at t ∙ ap record_as (sym (head_complete s at t v h) ∙ head_complete s at u w k) ∙ sym (record_as_lem at u) in
      let z : t ∷ [] ≡ u ∷ [] = sym (alone at t v h a) ∙ ap (λ (r : Rec). things_of s (r ∷ [])) e ∙ alone at u w k a in
      cc

  items_one : (at : ℕ) (ts us : List Thing) → AllValid ts → AllValid us → Has s at (encode_all ts) → Has s at (encode_all us) → at ≤ length s
      → at + length (encode_all ts) ≡ length s → at + length (encode_all us) ≡ length s → ts ≡ us
  unfolding encode_all
  items_one at [] [] v w h k a x y = refl
  items_one at [] (u ∷ us) v w h k a x y = absurd (omega (arith, encode_some u, length-append (tag.encode u) (encode_all us)))
  items_one at (t ∷ ts) [] v w h k a x y = absurd (omega (arith, encode_some t, length-append (tag.encode t) (encode_all ts)))
  items_one at (t ∷ ts) (u ∷ us) v w h k a x y =
      let h1 = has_left s at (tag.encode t) (encode_all ts) a h in
      let k1 = has_left s at (tag.encode u) (encode_all us) a k in
      let e : t ≡ u = thing_one at t u v.0 w.0 h1 k1 a in
      let n : length (tag.encode u) ≡ length (tag.encode t) = ap (λ (z : Thing). length (tag.encode z)) (sym e) in
      let k2 : Has s (at + length (tag.encode t)) (encode_all us) = rw (← n) (has_right s at (tag.encode u) (encode_all us) k) in
      let f = items_one (at + length (tag.encode t)) ts us v.1 w.1 (has_right s at (tag.encode t) (encode_all ts) h) k2 (has_bound s at (tag.encode t) h1)
      (omega (arith, length-append (tag.encode t) (encode_all ts))) (omega (arith, length-append (tag.encode u) (encode_all us))) in
      ap (λ (z : Thing). z ∷ ts) e ∙ ap (λ (zs : List Thing). u ∷ zs) f

written_one : (ts us : List Thing) → AllValid ts → AllValid us → encode_all ts ≡ encode_all us → ts ≡ us
written_one ts us v w e =
    let o = encode_all us in
    items_one o 0 ts us v w (subst (λ (x : List ℕ). Has x 0 (encode_all ts)) e (all_has (encode_all ts))) (all_has o) (omega arith) (omega (arith, ap length e)) (omega arith)

-- ---- the items of a service whose numbers its types hold are good
short : (x : ℕ) → length (shortest x) ≤ longest
short x = omega (arith, length_digits (width_of x) x, width_range x)

short_number : (x : ℕ) → x ≤ any_number → short_unsigned (shortest x) ≡ true
short_number x h =
    let n = length_digits (width_of x) x in
    let v : value_at (shortest x) 0 (width_of x) ≡ x = value_digits (width_of x) x (width_holds x (omega arith)) in
    shortest_unsigned (shortest x) (octets_digits (width_of x) x) (omega (arith, n, width_range x)) (rw n (ap width_of v))

two : (x : ℕ) → x ≤ any_number → Valid (application 2 (shortest x))
unfolding least most good_contents
two x h = let n = length_digits (width_of x) x in let w = width_range x in
    record { known = omega arith; other = λ e. omega arith; low = omega arith; high = omega arith; rule = short_number x h }

nine : (x : ℕ) → x ≤ any_number → Valid (application 9 (shortest x))
unfolding least most good_contents
nine x h = let n = length_digits (width_of x) x in let w = width_range x in
    record { known = omega arith; other = λ e. omega arith; low = omega arith; high = omega arith; rule = short_number x h }

twelve : (x : ℕ) → Valid (application 12 (digits 4 x))
unfolding least most good_contents
twelve x = let n = length_digits 4 x in
    record { known = omega arith; other = λ e. omega arith; low = omega arith; high = omega arith; rule = refl }

optional_valid : (here : Bool) (n x : ℕ) → n ≤ 254 → AllValid (optional here n x)
optional_valid here n x h = pick_case AllValid here ((h, short x), tt) tt

pointed_valid : (t : Target) → AllValid (pointed (pointed_of t))
unfolding pointed
pointed_valid t =
    ((omega arith, omega (arith, length_digits 4 (t.object * 4194304 + t.instance))), ((omega arith, short t.property), optional_valid t.indexed 2 t.index (omega arith)))

join_valid : (ts us : List Thing) → AllValid ts → AllValid us → AllValid (ts ++ us)
join_valid [] us v w = w
join_valid (t ∷ ts) us v w = (v.0, join_valid ts us v.1 w)

valued_valid : (ts : List Thing) → AllValid ts → AllValid (valued ts)
unfolding valued
valued_valid ts v = (omega arith, join_valid ts (closing 3 ∷ []) v (omega arith, tt))

message_valid : (v : Service) → KeptService v → (ts : List Thing) → AllValid ts → AllValid (things_of_message (message_of v ts))
unfolding things_of_message message_of
message_valid (ReadProperty t) k ts a = pointed_valid t
message_valid (ReadPropertyAck x) k ts a = join_valid (pointed (pointed_of x.target)) (valued ts) (pointed_valid x.target) (valued_valid ts a)
message_valid (WriteProperty w) k ts a =
    join_valid (pointed (pointed_of w.target)) (valued ts ++ optional w.ranked 4 w.priority) (pointed_valid w.target)
    (join_valid (valued ts) (optional w.ranked 4 w.priority) (valued_valid ts a) (optional_valid w.ranked 4 w.priority (omega arith)))
message_valid (WhoIs w) k ts a = pick_case AllValid w.limited ((omega arith, short w.low), ((omega arith, short w.high), tt)) tt
message_valid (IAm i) k ts a = (twelve _, (two i.longest k.0, (nine i.segmentation (omega (arith, k.1)), (two i.vendor (omega (arith, k.2)), tt))))
message_valid (Error f) k ts a = (nine f.class k.0, (nine f.code k.1, tt))

-- ---- what the reading says of the numbers that it judges: the items are those of a message m that keeps its ranges
shortest_one : (x y : ℕ) → x ≤ any_number → y ≤ any_number → shortest x ≡ shortest y → x ≡ y
shortest_one x y a b e =
    let n : width_of x ≡ width_of y = sym (length_digits (width_of x) x) ∙ ap length e ∙ length_digits (width_of y) y in
    let p : value_at (shortest x) 0 (width_of x) ≡ x = value_digits (width_of x) x (width_holds x (omega arith)) in
    let q : value_at (shortest y) 0 (width_of y) ≡ y = value_digits (width_of y) y (width_holds y (omega arith)) in
    sym p ∙ ap (λ (s : List ℕ). value_at s 0 (width_of x)) e ∙ ap (λ (k : ℕ). value_at (shortest y) 0 k) n ∙ q

-- the last item of a list
abbrev last_of : Thing → List Thing → Thing
last_of d [] = d
last_of d (t ∷ ts) = last_of t ts

last_append : (d : Thing) (ts us : List Thing) → last_of d (ts ++ us) ≡ last_of (last_of d ts) us
last_append d [] us = refl
last_append d (t ∷ ts) us = last_append t ts us

last_valued : (d : Thing) (ts : List Thing) → last_of d (valued ts) ≡ closing 3
unfolding valued
last_valued d ts = last_append (opening 3) ts (closing 3 ∷ [])

last_ranked : (ps ts us : List Thing) → last_of (opening 0) (ps ++ (valued ts ++ us)) ≡ last_of (closing 3) us
last_ranked ps ts us =
    let d = last_of (opening 0) ps in
    last_append (opening 0) ps (valued ts ++ us) ∙ last_append d (valued ts) us ∙ ap (λ (t : Thing). last_of t us) (last_valued d ts)

rank_one : (here : Bool) (p q : ℕ) → p ≤ any_number → q ≤ any_number → context 4 (shortest p) ≡ last_of (closing 3) (optional here 4 q) → (here ≡ true) × (p ≡ q)
rank_one true p q a b e = let z : shortest p ≡ shortest q = cc in (refl, shortest_one p q a b z)
rank_one false p q a b e = impossible (cc)

priority_in : (t : Target) (ts : List Thing) (p : ℕ) → p ≤ any_number → (m : Message) → For 0 15 m → Ranges m
    → pointed (pointed_of t) ++ (valued ts ++ optional true 4 p) ≡ things_of_message m → (1 ≤ p) × (p ≤ 16)
unfolding things_of_message
priority_in t ts p a (write_property t' ts' here q) f r e =
    let l : context 4 (shortest p) ≡ last_of (closing 3) (optional here 4 q) =
    sym (last_ranked (pointed (pointed_of t)) ts (optional true 4 p)) ∙ ap (last_of (opening 0)) e ∙ last_ranked (pointed t') ts' (optional here 4 q) in
    let small : q ≤ any_number = by_test here (λ h. omega (arith, (r.1 h).1)) (λ h. omega (arith, r.2 h)) in
    let z = rank_one here p q a small l in
    let w = r.1 z.0 in
    (omega (arith, w.0, z.1), omega (arith, w.1, z.1))
priority_in t ts p a (read_property t') f r e = absurd (omega (arith, f.1))
priority_in t ts p a (read_property_ack t' us) f r e = absurd (omega (arith, f.0))
priority_in t ts p a (who_is l x y) f r e = absurd (omega (arith, f.0))
priority_in t ts p a (i_am i l s w) f r e = absurd (omega (arith, f.0))
priority_in t ts p a (error_of c d) f r e = absurd (omega (arith, f.0))

limits_in : (low high : ℕ) → low ≤ any_number → high ≤ any_number → (m : Message) → For 1 8 m → Ranges m
    → context 0 (shortest low) ∷ context 1 (shortest high) ∷ [] ≡ things_of_message m → (low ≤ high) × (high ≤ last_instance)
unfolding things_of_message
limits_in low high a b (who_is true x y) f r e =
    let w = r.0 refl in
    let p : shortest low ≡ shortest x = cc in
    let q : shortest high ≡ shortest y = cc in
    let p1 = shortest_one low x a (omega (arith, w.0, w.1)) p in
    let q1 = shortest_one high y b (omega (arith, w.1)) q in
    (omega (arith, w.0, p1, q1), omega (arith, w.1, q1))
limits_in low high a b (who_is false x y) f r e = impossible (cc)
limits_in low high a b (read_property t) f r e = absurd (omega (arith, f.0))
limits_in low high a b (read_property_ack t us) f r e = absurd (omega (arith, f.0))
limits_in low high a b (write_property t us here q) f r e = absurd (omega (arith, f.0))
limits_in low high a b (i_am i l s w) f r e = absurd (omega (arith, f.1))
limits_in low high a b (error_of c d) f r e = absurd (omega (arith, f.0))

segmentation_in : (x : ℕ) (first second last : Thing) → x ≤ any_number → (m : Message) → For 1 0 m → Ranges m
    → first ∷ second ∷ application 9 (shortest x) ∷ last ∷ [] ≡ things_of_message m → x ≤ 3
unfolding things_of_message
segmentation_in x first second last a (i_am i l s w) f r e =
    let p : shortest x ≡ shortest s = cc in
    omega (arith, shortest_one x s a (omega (arith, r.2)) p, r.2)
segmentation_in x first second last a (read_property t) f r e = absurd (omega (arith, f.0))
segmentation_in x first second last a (read_property_ack t us) f r e = absurd (omega (arith, f.0))
segmentation_in x first second last a (write_property t us here q) f r e = absurd (omega (arith, f.0))
segmentation_in x first second last a (who_is k y z) f r e = absurd (omega (arith, f.1))
segmentation_in x first second last a (error_of c d) f r e = absurd (omega (arith, f.0))

-- ---- so the message keeps its ranges, absent parts shown as 0
shown_pointing : (t : Target) → wide_target t ≡ false → KeptTarget t → Pointing (pointed_of (shown_target t))
shown_pointing t e k =
    let w = not_wide t e in
    record {
      object = w.0;
      instance = w.1;
      property = k.0;
      index = pick_case (λ (n : ℕ). n ≤ any_number) t.indexed k.1 (omega arith);
      absent = λ d. rw d;
    }

shown_ranges : (v : Service) (ts : List Thing) → KeptService v → too_wide v ≡ false → (m : Message) → For (kind_of v) (choice_of v) m → Ranges m
    → things_of_message (message_of v ts) ≡ things_of_message m → Ranges (message_of (shown_service v) ts)
unfolding message_of too_wide things_of_message
shown_ranges (ReadProperty t) ts k e m f r d = shown_pointing t e k
shown_ranges (ReadPropertyAck a) ts k e m f r d = shown_pointing a.target e k
shown_ranges (WriteProperty w) ts k e m f r d = (
  shown_pointing w.target e k.0,
  λ h. rw h (priority_in w.target ts w.priority (omega (arith, k.1)) m f r (ranked_so h)),
  λ h. rw h,
)
  where
    ranked_so : w.ranked ≡ true → pointed (pointed_of w.target) ++ (valued ts ++ optional true 4 w.priority) ≡ things_of_message m
    ranked_so h = rw h at d
shown_ranges (WhoIs w) ts k e m f r d = (λ h. rw h (limits_in w.low w.high k.0 k.1 m f r (limited_so h)), λ h. rw h, λ h. rw h)
  where
    limited_so : w.limited ≡ true → context 0 (shortest w.low) ∷ context 1 (shortest w.high) ∷ [] ≡ things_of_message m
    limited_so h = rw h at d
shown_ranges (IAm i) ts k e m f r d = (ltb-false last_instance i.instance e, k.0, segmentation_in i.segmentation _ _ _ (omega (arith, k.1)) m f r am_so, k.2)
  where
    am_so : application 12 (digits 4 (8 * 4194304 + i.instance)) ∷ application 2 (shortest i.longest)
        ∷ application 9 (shortest i.segmentation) ∷ application 2 (shortest i.vendor) ∷ [] ≡ things_of_message m
    am_so = d
shown_ranges (Error x) ts k e m f r d = k

shown_whole : (v : Service) (ts : List Thing) → Grammar ts → WholeValue (message_of (shown_service v) ts)
unfolding message_of
shown_whole (ReadProperty t) ts g = tt
shown_whole (ReadPropertyAck a) ts g = g.balanced
shown_whole (WriteProperty w) ts g = g.balanced
shown_whole (WhoIs w) ts g = tt
shown_whole (IAm i) ts g = tt
shown_whole (Error f) ts g = tt

shown_for : (v : Service) (ts : List Thing) → For (kind_of v) (choice_of v) (message_of (shown_service v) ts)
unfolding message_of
shown_for (ReadProperty t) ts = (refl, refl)
shown_for (ReadPropertyAck a) ts = (refl, refl)
shown_for (WriteProperty w) ts = (refl, refl)
shown_for (WhoIs w) ts = (refl, refl)
shown_for (IAm i) ts = (refl, refl)
shown_for (Error f) ts = (refl, inl refl)

shown_things : (v : Service) (ts : List Thing) → things_of_message (message_of (shown_service v) ts) ≡ things_of_message (message_of v ts)
unfolding message_of things_of_message
shown_things (ReadProperty t) ts = pointed_shown t
shown_things (ReadPropertyAck a) ts = rw (pointed_shown a.target)
shown_things (WriteProperty w) ts = rw (pointed_shown w.target, optional_shown w.ranked 4 w.priority)
shown_things (WhoIs w) ts = by_test w.limited (λ e. rw e) (λ e. rw e)
shown_things (IAm i) ts = refl
shown_things (Error f) ts = refl

-- a service that is not too wide, whose octets are accepted, is a message that keeps its rules
shown_valid : (v : Service) (ts : List Thing) → KeptService v → Grammar ts → too_wide v ≡ false → Octets (octets_of v (encode_all ts)) → (w : Service)
    → read_service (kind_of v) (choice_of v) (octets_of v (encode_all ts)) ≡ Ok w → ValidFor (kind_of v) (choice_of v) (message_of (shown_service v) ts)
shown_valid v ts k g e os w d =
    let a = accepted (kind_of v) (choice_of v) (octets_of v (encode_all ts)) os w d in
    let ok = a.valid.valid in
    let same : things_of_message (message_of v ts) ≡ things_of_message (message_of w a.value) =
    written_one _ _ (message_valid v k ts g.valid) ok.items.valid (sym (octets_are v ts) ∙ a.octets) in
    record {
      layout = shown_for v ts;
      valid = record {
        ranges = shown_ranges v ts k e (message_of w a.value) a.valid.layout ok.ranges same;
        value = shown_whole v ts g;
        items = subst Grammar (sym (shown_things v ts ∙ same)) ok.items;
      };
    }

whole_shows : (v : Service) (value : List ℕ) (ts : List Thing) → KeptService v → Grammar ts → value ≡ encode_all ts
    → too_wide v ≡ false → Octets (octets_of v value) → (w : Service)
    → read_service (kind_of v) (choice_of v) (octets_of v value) ≡ Ok w → Shows (kind_of v) (choice_of v) (octets_of v value) (message_of (shown_service v) ts)
whole_shows v value ts k g e n os w d = rw e (shows_shown v ts (shown_valid v ts k g n (rw e at os) w (rw e at d)))

-- ---- no fault: not too wide, and the output is accepted
good_of_lem : (kind choice : ℕ) (o : List ℕ) (a : Answer) → read_service kind choice o ≡ a → refusal_of a ≡ 0 → (w : Service) × (read_service kind choice o ≡ Ok w)
unfolding refusal_of
good_of_lem kind choice o (Ok w) e z = (w, e)
good_of_lem kind choice o (Err x) e z =
    let s : 0 < x = subst (AnswerHas (λ n. 0 < n)) e (read_has (λ n. 0 < n) (λ n low high. omega arith) kind choice o) in
    absurd (omega arith)

no_fault : (v : Service) (value : List ℕ) → fault_of v value ≡ 0
    → (too_wide v ≡ false) × ((w : Service) × (read_service (kind_of v) (choice_of v) (octets_of v value) ≡ Ok w))
unfolding fault_of
no_fault v value e =
    let p = pick_not (too_wide v) 41 (read_fault (kind_of v) (choice_of v) (octets_of v value)) 0 (λ z. omega arith) e in
    (p.0, good_of_lem (kind_of v) (choice_of v) (octets_of v value) _ refl p.1)

pub services_read_back : ServicesReadBack
services_read_back v value area later n os l =
    let o = octets_of v value in
    let w = laid_wrote _ n o area later l in
    let t : take n later ≡ o = ap (take n) w.2 ∙ take_at o (drop (length o) area) n (sym w.1) in
    let good : Octets o = subst Octets t (octets_part later 0 n os) in
    let f = no_fault v value w.0 in
    let u = f.1.0 in
    let read = f.1.1 in (
      (u, rw t read, rw t (writes_back (kind_of v) (choice_of v) o good u read).octets),
      λ k ts g e. rw t (whole_shows v value ts k g e f.0 good u read),
    )

-- ---- the exception, by computation
pub services_swallow : ServicesSwallow
unfolding fault_of octets_of grouped ranked too_wide wide_target refusal_of message_of things_of_message pointed encode_all tag.encode tag.high_bits tag.number_octets tag.low_bits tag.length_octets digits width_of read_service layout_for reading.write_property target_parts present wanted number_rule object_rule optional_number after_group group last items_of walk step closes ending more head_at number_at length_at two_at four_at first_rule first_content contents_at whole_at sign_bad signed_at context_at application_at least most value_at long_form
services_swallow = (refl, refl, refl)

-- ---- over records: the numbers of a record's service are those of its octets
service_kept : (o : List ℕ) → Octets o → KeptService (service_at o)
unfolding service_at service_of
service_kept o os =
    let number : (p : ℕ) → value_at o p 4 ≤ any_number = λ p. (let h : value_at o p 4 < 4294967296 = value_below o os p 4 in omega arith) in
    let octet : (p : ℕ) → oct o p ≤ 255 = λ p. (let h = os p in omega arith) in
    pick_case KeptService (eqb (oct o 0) 0) (number 8, number 12)
    (pick_case KeptService (eqb (oct o 0) 1) (number 8, number 12)
    (pick_case KeptService (eqb (oct o 0) 2) ((number 8, number 12), octet 25)
    (pick_case KeptService (eqb (oct o 0) 3) (number 4, number 8)
    (pick_case KeptService (eqb (oct o 0) 4) (number 8, octet 1, omega (arith, octet 2, octet 3))
    (number 4, number 8)))))

pub exported_service_back : ExportedServiceBack
unfolding service_fault
exported_service_back fields value area wrote later of os y =
    let v = service_at fields in
    let w = wrote_laid (service_fault fields value) (octets_of v value) area wrote later y in
    let p = pick_so (eqb (length fields) service_size) (pick (leb (oct fields 0) 5) (fault_of v value) 43) 60 0 (λ z. omega arith) w.0 in
    let q = pick_so (leb (oct fields 0) 5) (fault_of v value) 43 0 (λ z. omega arith) p.1 in
    let b = services_read_back v value area later wrote os (laid_as (w.0 ∙ sym q.1) refl w.1) in
    (b.0, b.1 (service_kept fields of))
