-- The octets of items with numbers, and what is held once they are laid one after the other.
use Prim.Native.Nat.{ℕ, zero, suc, ◌+◌, ◌-◌, ◌*◌, ◌≤◌, ◌<◌}
use native.Mathlib.Omega.{arith}
use mathlib.Core.Path.{◌≡◌, refl, sym, ap, subst, ◌∙◌}
use mathlib.Core.List.{List, [], ◌∷◌, ◌++◌, append-nil, append_assoc}
use mathlib.Core.Bool.{Bool, true, false}
use lib.ListN.{length, take, drop, length-append}
use lib.Seq.{take-length, take-add}
use lib.Dec.{ltb}
use borrow.Author.Tests.{lt-ltb, ltb-false}
use Rattle.octets.specs.Choice.{pick_not, impossible}
use Rattle.octets.specs.Splice.{splice, splice_before, splice_inside}
use Rattle.octets.specs.Numbers.{digits, width_of, length_digits, width_range}
use Rattle.tags.specs.Layout.{encode, high_bits, number_octets, low_bits, length_octets}
use Rattle.tags.specs.Layout.Thing.{application, context}
use Rattle.items.specs.Grammar.{encode_all}
use Rattle.services.specs.Reading.{last_instance}
use Rattle.services.specs.Layout.{shortest, optional, pointed, things_of_message}
use Rattle.services.specs.Layout.{encode as message}
use Rattle.services.specs.Shows.{pointed_of, message_of}
use Rattle.services.specs.declared.Service.{Service}
use Rattle.services.specs.declared.WhoIs.{WhoIs}
use Rattle.services.specs.declared.IAm.{IAm}
use Rattle.services.specs.declared.Fault.{Fault}
use Rattle.services.specs.declared.Target.{Target}
use Rattle.service_writer.specs.Layout.{number_item, grouped, ranked, front_of, behind_of, laid, Holds, Adds}
use Rattle.service_writer.specs.declared.work.Work.{Work}
use Rattle.service_writer.specs.Fault.{wide_target}

-- the last octets of four
pub last_digits : (v w : ℕ) → 1 ≤ w → w ≤ 4 → drop (4 - w) (digits 4 v) ≡ digits w v
unfolding digits
last_digits v zero a b = absurd (omega arith)
last_digits v (suc zero) a b = refl
last_digits v (suc (suc zero)) a b = refl
last_digits v (suc (suc (suc zero))) a b = refl
last_digits v (suc (suc (suc (suc zero)))) a b = refl
last_digits v (suc (suc (suc (suc (suc w))))) a b = absurd (omega arith)

shortest_length : (v : ℕ) → length (shortest v) ≡ width_of v
shortest_length v = length_digits (width_of v) v

-- the shortest form out of the four octets of a number
shortest_end : (v w : ℕ) (four : List ℕ) → four ≡ digits 4 v → w ≡ width_of v → take (4 - (4 - w)) (drop (4 - w) four) ≡ shortest v
shortest_end v w four e k =
    let r = width_range v in
    let n : 4 - (4 - width_of v) ≡ length (shortest v) = omega (arith, shortest_length v) in
    rw (e, k, last_digits v (width_of v) r.0 r.1, n) (take-length (shortest v))

-- items whose contents are at most four octets
module _ (n : ℕ) (xs : List ℕ) (small : length xs ≤ 4) where
  short : ltb (length xs) 5 ≡ true
  short = lt-ltb (length xs) 5 (omega arith)

  pub context_octets : n < 15 → encode (context n xs) ≡ (n * 16 + 8 + length xs) ∷ xs
  unfolding encode high_bits number_octets low_bits length_octets
  context_octets h = rw (lt-ltb n 15 h, short)

  pub application_octets : encode (application n xs) ≡ (n * 16 + length xs) ∷ xs
  unfolding encode low_bits length_octets
  application_octets = rw short

pub context_number_lem : (n v : ℕ) → n < 15 → encode (context n (shortest v)) ≡ number_item (n * 16 + 8) v
unfolding number_item
context_number_lem n v h = let l = shortest_length v in context_octets n (shortest v) (omega (arith, width_range v)) h ∙ rw l

pub application_number_lem : (n v : ℕ) → encode (application n (shortest v)) ≡ number_item (n * 16) v
unfolding number_item
application_number_lem n v = let l = shortest_length v in application_octets n (shortest v) (omega (arith, width_range v)) ∙ rw l

pub item_length_lem : (head v : ℕ) → (length (number_item head v) ≡ 1 + width_of v) × (length (number_item head v) ≤ 5)
unfolding number_item
item_length_lem head v = let l = shortest_length v in (omega arith, omega (arith, width_range v))

-- one after the other
adds_then : {w v x : Work} {a b : List ℕ} → Adds w a v → Adds v b x → Adds w (a ++ b) x
adds_then {w} {v} {x} {a} {b} p q = record { len = rw (length-append a b) (omega (arith, p.len, q.len)); laid = q.laid ∙ rw p.laid (append_assoc (laid w) a b) }

holds_then : {w v : Work} {a b : List ℕ} → Holds w a → Adds w b v → Holds v (a ++ b)
holds_then {w} {v} {a} {b} p q = record { len = rw (length-append a b) (omega (arith, p.len, q.len)); laid = q.laid ∙ rw p.laid refl }

holds_as : {w : Work} {a b : List ℕ} → a ≡ b → Holds w a → Holds w b
holds_as e p = rw (← e) p

-- more octets
pub added : (w v : Work) (o : List ℕ) → length w.octets ≡ 24 → w.len + length o ≤ 24 → v.octets ≡ splice w.octets w.len o → v.len ≡ w.len + length o → Adds w o v
added w v o size room e d =
    record { len = d; laid = rw (d, e, take-add w.len (length o) (splice w.octets w.len o), splice_before w.octets w.len o w.len (omega arith) (omega arith), splice_inside w.octets w.len o (omega arith)) }

-- what a target that is not too wide keeps
pub not_wide : (t : Target) → wide_target t ≡ false → (t.object ≤ 1023) × (t.instance ≤ last_instance)
unfolding wide_target
not_wide t e =
    let w = pick_not (ltb 1023 t.object) true (ltb last_instance t.instance) false (λ d. impossible (cc)) e in
    (ltb-false 1023 t.object w.0, ltb-false last_instance t.instance w.1)

-- a number's item, and four octets behind their tag octet
pub item_added : (w v x : Work) (head n u : ℕ) (four : List ℕ) → u ≡ width_of n → four ≡ digits 4 n → Adds w ((head + u) ∷ []) v → Adds v (take (4 - (4 - u)) (drop (4 - u) four)) x → Adds w (number_item head n) x
unfolding number_item
item_added w v x head n u four k d p q = adds_then (rw k at p) (subst (λ (o : List ℕ). Adds v o x) (shortest_end n u four d k) q)

pub object_length : (tag n : ℕ) → length (tag ∷ digits 4 n) ≡ 5
object_length tag n = omega (arith, length_digits 4 n)

pub object_added : (w v x : Work) (tag n : ℕ) (four : List ℕ) → four ≡ digits 4 n → Adds w (tag ∷ []) v → Adds v four x → Adds w (tag ∷ digits 4 n) x
object_added w v x tag n four d p q = adds_then p (rw d at q)

-- an optional number
pub optional_one : (here : Bool) (n v : ℕ) → here ≡ true → n < 15 → encode_all (optional here n v) ≡ number_item (n * 16 + 8) v
unfolding encode_all
optional_one here n v e h = rw (e, append-nil) (context_number_lem n v h)

pub optional_none : (here : Bool) (n v : ℕ) → here ≡ false → encode_all (optional here n v) ≡ []
unfolding encode_all
optional_none here n v e = rw e

optional_length : (here : Bool) (n v : ℕ) → n < 15 → length (encode_all (optional here n v)) ≤ 5
optional_length true n v h = rw (optional_one true n v refl h) (item_length_lem (n * 16 + 8) v).1
optional_length false n v h = rw (optional_none false n v refl) (omega arith)

-- a target
abbrev pub word : Target → ℕ
word t = t.object * 4194304 + t.instance

target_octets_lem : (t : Target) → encode_all (pointed (pointed_of t)) ≡ (12 ∷ digits 4 (word t)) ++ (number_item 24 t.property ++ encode_all (optional t.indexed 2 t.index))
unfolding encode_all pointed
target_octets_lem t =
    let l = length_digits 4 (word t) in
    let e : encode (context 0 (digits 4 (word t))) ≡ 12 ∷ digits 4 (word t) = context_octets 0 (digits 4 (word t)) (omega arith) (omega arith) ∙ rw l in
    rw (e, context_number_lem 1 t.property (omega arith))

pub target_length : (t : Target) → length (encode_all (pointed (pointed_of t))) ≤ 15
target_length t =
    let l = length_digits 4 (word t) in
    rw (target_octets_lem t) (simp length-append (omega (arith, item_length_lem 24 t.property, optional_length t.indexed 2 t.index (omega arith))))

pub target_one : (t : Target) (w v x y : Work) → Holds w [] → Adds w (12 ∷ digits 4 (word t)) v → Adds v (number_item 24 t.property) x → t.indexed ≡ true → Adds x (number_item 40 t.index) y → Holds y (encode_all (pointed (pointed_of t)))
target_one t w v x y h p q e r =
    holds_as (ap (λ (o : List ℕ). (12 ∷ digits 4 (word t)) ++ (number_item 24 t.property ++ o)) (sym (optional_one t.indexed 2 t.index e (omega arith))) ∙ sym (target_octets_lem t))
    (holds_then h (adds_then p (adds_then q r)))

pub target_none : (t : Target) (w v x : Work) → Holds w [] → Adds w (12 ∷ digits 4 (word t)) v → Adds v (number_item 24 t.property) x → t.indexed ≡ false → Holds x (encode_all (pointed (pointed_of t)))
target_none t w v x h p q e =
    holds_as (ap (λ (o : List ℕ). (12 ∷ digits 4 (word t)) ++ o) (sym (append-nil (number_item 24 t.property)) ∙ ap (λ (o : List ℕ). number_item 24 t.property ++ o) (sym (optional_none t.indexed 2 t.index e))) ∙ sym (target_octets_lem t))
    (holds_then h (adds_then p q))

-- two items, and the other layouts
pub limits_octets : (w : WhoIs) → w.limited ≡ true → message (message_of (Service.WhoIs w) []) ≡ number_item 8 w.low ++ number_item 24 w.high
unfolding message_of things_of_message encode_all
limits_octets w e = rw (e, context_number_lem 0 w.low (omega arith), context_number_lem 1 w.high (omega arith), append-nil)

pub limits_none : (w : WhoIs) → w.limited ≡ false → message (message_of (Service.WhoIs w) []) ≡ []
unfolding message_of things_of_message encode_all
limits_none w e = rw e

pub error_octets : (f : Fault) → message (message_of (Service.Error f) []) ≡ number_item 144 f.class ++ number_item 144 f.code
unfolding message_of things_of_message encode_all
error_octets f = rw (application_number_lem 9 f.class, application_number_lem 9 f.code, append-nil)

device_octets : (i : IAm) → message (message_of (Service.IAm i) []) ≡ (196 ∷ digits 4 (33554432 + i.instance)) ++ (number_item 32 i.longest ++ (number_item 144 i.segmentation ++ number_item 32 i.vendor))
unfolding message_of things_of_message encode_all
device_octets i =
    let l = length_digits 4 (33554432 + i.instance) in
    let e : encode (application 12 (digits 4 (33554432 + i.instance))) ≡ 196 ∷ digits 4 (33554432 + i.instance) = application_octets 12 (digits 4 (33554432 + i.instance)) (omega arith) ∙ rw l in
    rw (e, application_number_lem 2 i.longest, application_number_lem 9 i.segmentation, application_number_lem 2 i.vendor, append-nil)

pub limits_held : (l : WhoIs) (w v x : Work) → Holds w [] → l.limited ≡ true → Adds w (number_item 8 l.low) v → Adds v (number_item 24 l.high) x → Holds x (message (message_of (Service.WhoIs l) []))
limits_held l w v x h e p q = holds_as (sym (limits_octets l e)) (holds_then h (adds_then p q))

pub limits_not : (l : WhoIs) (w : Work) → Holds w [] → l.limited ≡ false → Holds w (message (message_of (Service.WhoIs l) []))
limits_not l w h e = holds_as (sym (limits_none l e)) h

pub error_held : (f : Fault) (w v x : Work) → Holds w [] → Adds w (number_item 144 f.class) v → Adds v (number_item 144 f.code) x → Holds x (message (message_of (Service.Error f) []))
error_held f w v x h p q = holds_as (sym (error_octets f)) (holds_then h (adds_then p q))

pub device_held : (i : IAm) (w v x y z : Work) → Holds w [] → Adds w (196 ∷ digits 4 (33554432 + i.instance)) v → Adds v (number_item 32 i.longest) x → Adds x (number_item 144 i.segmentation) y → Adds y (number_item 32 i.vendor) z
    → Holds z (message (message_of (Service.IAm i) []))
device_held i w v x y z h p q r s = holds_as (sym (device_octets i)) (holds_then h (adds_then p (adds_then q (adds_then r s))))

-- before a value, and behind it
pub front_held : (t : Target) (w v : Work) → Holds w (encode_all (pointed (pointed_of t))) → Adds w (62 ∷ []) v → Holds v (front_of t)
unfolding front_of encode high_bits number_octets
front_held t w v h p = holds_then h p

pub behind_length : (here : Bool) (priority : ℕ) → length (behind_of here priority) ≤ 6
unfolding behind_of encode high_bits number_octets
behind_length here priority = omega (arith, optional_length here 4 priority (omega arith))

module _ (here : Bool) (priority : ℕ) (w v : Work) (h : Holds w []) (p : Adds w (63 ∷ []) v) where
  pub behind_one : (x : Work) → here ≡ true → Adds v (number_item 72 priority) x → Holds x (behind_of here priority)
  unfolding behind_of encode high_bits number_octets
  behind_one x e q = holds_as (ap (λ (o : List ℕ). 63 ∷ o) (sym (optional_one here 4 priority e (omega arith)))) (holds_then h (adds_then p q))

  pub behind_none : here ≡ false → Holds v (behind_of here priority)
  unfolding behind_of encode high_bits number_octets
  behind_none e = holds_as (ap (λ (o : List ℕ). 63 ∷ o) (sym (optional_none here 4 priority e))) (holds_then h p)

-- the three together
pub ranked_parts : (t : Target) (value : List ℕ) (here : Bool) (priority : ℕ) → ranked t value here priority ≡ front_of t ++ (value ++ behind_of here priority)
unfolding ranked grouped front_of behind_of encode high_bits number_octets
ranked_parts t value here priority = simp append_assoc

pub ranked_length : (t : Target) (value : List ℕ) (here : Bool) (priority : ℕ) → length (ranked t value here priority) ≡ length (front_of t) + length value + length (behind_of here priority)
ranked_length t value here priority = rw (ranked_parts t value here priority) (simp length-append (omega arith))
