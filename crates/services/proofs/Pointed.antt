-- Objects among items: a target (object, property, optional index) and a device.
use Rattle.std.specs.Prelude.{Ok}
use Prim.Native.Nat.{ℕ, ◌+◌, ◌*◌, ◌/◌, ◌%◌, ◌^◌, ◌≤◌, ◌<◌}
use native.Mathlib.Omega.{arith}
use mathlib.Core.Path.{◌≡◌, refl, sym, ap, subst, ◌∙◌}
use mathlib.Core.List.{List, ◌∷◌, ◌++◌}
use mathlib.Core.Bool.{Bool, true, false}
use lib.ListN.{length, length-append}
use lib.Dec.{eqb}
use borrow.Author.Tests.{eqb-true}
use Rattle.octets.specs.Choice.{pick_so}
use Rattle.octets.specs.Reading.{Octets}
use Rattle.octets.specs.Has.{Has}
use Rattle.octets.specs.Numbers.{value_at, digits, value_below}
use Rattle.tags.specs.Types.{least, most}
use Rattle.tags.specs.Layout.{Thing, encode, tag_length, Application}
use Rattle.tags.specs.Layout.Thing.{application, context}
use Rattle.items.specs.Records.{Rec, rec}
use Rattle.items.specs.Grammar.{encode_all, AllValid, records_from}
use Rattle.services.specs.Parts.{Answer, Then, present, wanted, number_of, any_number, object_rule, context_number, optional_number}
use Rattle.services.specs.Reading.{last_instance, target, target_parts, device_rule}
use Rattle.services.specs.Layout.{Pointed, Pointing, shortest, optional, pointed}
use Rattle.services.specs.declared.Service.{Service}
use Rattle.services.specs.declared.Target.{Target}
use Rattle.services.proofs.Spelling.{stands_digits, digits_stand, object_kept, object_keeps}
use Rattle.services.proofs.Things.{Here, Shape, contexts, applications, contents_here, here_next, part_reads, part_read, number_read, number_reads, option_read, option_reads}

abbrev pub target_of : Pointed → Target
target_of p = record { object = p.object; instance = p.instance; property = p.property; indexed = p.indexed; index = p.index }

-- type and instance as one number
abbrev pub object_of : Pointed → ℕ
object_of p = p.object * 4194304 + p.instance

pub pointed_length : (p : Pointed) → length (encode_all (pointed p)) ≡ length (encode (context 0 (digits 4 (object_of p)))) + (length (encode (context 1 (shortest p.property))) + length (encode_all (optional p.indexed 2 p.index)))
unfolding pointed encode_all
pointed_length p = simp length-append

-- a target that was read
pub record Targeted (o : List ℕ) (next : Target → List Rec → Answer) (at : ℕ) (ts : List Thing) (v : Service) : Type 0 where
  pub point : Pointed
  pub rest : List Thing
  pub things : ts ≡ pointed point ++ rest
  pub pointing : Pointing point
  pub goes : next (target_of point) (records_from (at + length (encode_all (pointed point))) 0 rest) ≡ Ok v
  pub left : Here o (at + length (encode_all (pointed point))) rest

-- from its contents, which are four octets, the property and the index
module _ (o : List ℕ) (os : Octets o) (next : Target → List Rec → Answer) (at : ℕ) (xs : List ℕ) (x : ℕ) (here : Bool) (y : ℕ) (rest : List Thing) (v : Service) where
  abbrev word : ℕ
  word = value_at o (at + tag_length (context 0 xs)) (length xs)

  abbrev point : Pointed
  point = record { object = word / 4194304; instance = word % 4194304; property = x; indexed = here; index = y }

  abbrev end : ℕ
  end = at + length (encode (context 0 xs)) + length (encode (context 1 (shortest x))) + length (encode_all (optional here 2 y))

  targeted : Has o (at + tag_length (context 0 xs)) xs → length xs ≡ 4 → x ≤ any_number → y ≤ any_number → (here ≡ false → y ≡ 0)
      → next (target word x here y) (records_from end 0 rest) ≡ Ok v → Here o end rest → Targeted o next at (context 0 xs ∷ context 1 (shortest x) ∷ (optional here 2 y ++ rest)) v
  unfolding pointed
  targeted stands four bx by absent goes left =
      let same : word ≡ object_of point = omega arith in
      let d : xs ≡ digits 4 (object_of point) = stands_digits o os _ xs stands ∙ ap (λ (n : ℕ). digits n word) four ∙ ap (digits 4) same in
      let less : word < 4294967296 = subst (λ (n : ℕ). word < 256 ^ n) four (value_below o os _ (length xs)) in
      let q : end ≡ at + length (encode_all (pointed point)) = omega (arith, ap (λ (xs : List ℕ). length (encode (context 0 xs))) d, pointed_length point) in
      record {
        point = point;
        rest = rest;
        things = ap (λ (xs : List ℕ). context 0 xs ∷ context 1 (shortest x) ∷ (optional here 2 y ++ rest)) d;
        pointing = record { object = omega arith; instance = omega arith; property = bx; index = by; absent = absent };
        goes = subst (λ (y : ℕ). next (target_of point) (records_from y 0 rest) ≡ Ok v) q goes;
        left = subst (λ (y : ℕ). Here o y rest) q left;
      }

pub small_option : (here : Bool) (x low high : ℕ) → (here ≡ true → (low ≤ x) × (x ≤ high)) → (here ≡ false → x ≡ 0) → x ≤ high
small_option true x low high f g = (f refl).1
small_option false x low high f g = omega (arith, g refl)

pub target_read : (o : List ℕ) → Octets o → (next : Target → List Rec → Answer) (at : ℕ) (ts : List Thing) (v : Service) → Here o at ts → target_parts o next (records_from at 0 ts) ≡ Ok v → Targeted o next at ts v
unfolding target_parts
target_read o os next at ts v h e =
    let a = part_read o 1 0 (context 0) (contexts 0) object_rule _ at ts v h e in
    let b = number_read o 1 1 (context 1) (contexts 1) os 0 any_number _ _ a.rest v a.left a.goes in
    let c = option_read o 2 0 any_number _ os _ b.rest v b.left b.goes in
    subst (λ (us : List Thing). Targeted o next at us v)
    (sym (a.things ∙ ap (λ (us : List Thing). context 0 a.contents ∷ us) (b.things ∙ ap (λ (us : List Thing). context 1 (shortest b.value) ∷ us) c.things)))
    (targeted o os next at a.contents b.value c.here c.value c.rest v a.stands (object_kept _ a.kept) b.most (small_option c.here c.value 0 any_number c.range c.absent) c.absent c.goes c.left)

-- a target is read where no index that is absent comes next
module _ (o : List ℕ) (next : Target → List Rec → Answer) (at : ℕ) (p : Pointed) (ts : List Thing) (ok : Pointing p) (h : Here o at (pointed p ++ ts)) (other : (y : ℕ) → present 2 (records_from y 0 ts) ≡ false) where
  pub target_reads : (target_parts o next (records_from at 0 (pointed p ++ ts)) ≡ next (target_of p) (records_from (at + length (encode_all (pointed p))) 0 ts)) × Here o (at + length (encode_all (pointed p))) ts
  unfolding target_parts pointed
  target_reads =
      let w : ℕ = object_of p in
      let us : List Thing = optional p.indexed 2 p.index ++ ts in
      let a : ℕ = at + length (encode (context 0 (digits 4 w))) in
      let b : ℕ = a + length (encode (context 1 (shortest p.property))) in
      let end : ℕ = b + length (encode_all (optional p.indexed 2 p.index)) in
      let h1 : Here o a (context 1 (shortest p.property) ∷ us) = here_next o 1 0 (context 0) (contexts 0) at (digits 4 w) _ h in
      let h2 : Here o b us = here_next o 1 1 (context 1) (contexts 1) a (shortest p.property) us h1 in
      let small : w < 256 ^ 4 = omega (arith, ok.object, ok.instance) in
      let v = digits_stand o (at + tag_length (context 0 (digits 4 w))) 4 w small (contents_here o 1 0 (context 0) (contexts 0) at (digits 4 w) _ h) in
      let c = option_reads o 2 0 any_number (λ indexed index. next (target w p.property indexed index)) p.indexed p.index b ts ok.index (λ _. (omega arith, ok.index)) ok.absent (other b) h2 in
      let q : end ≡ at + length (encode_all (pointed p)) = omega (arith, pointed_length p) in
      let t : w / 4194304 ≡ p.object = omega (arith, ok.instance) in
      let i : w % 4194304 ≡ p.instance = omega (arith, ok.instance) in
      let m = number_reads o 1 1 (context 1) (contexts 1) 0 any_number p.property (λ property. optional_number o 2 0 any_number (λ indexed index. next (target w property indexed index))) a us ok.property (omega arith) ok.property h1 in
      let f : ℕ → Answer = λ y. context_number o 1 0 any_number (λ property. optional_number o 2 0 any_number (λ indexed index. next (target y property indexed index))) (records_from a 0 (context 1 (shortest p.property) ∷ us)) in
      let all = part_reads o 1 0 (context 0) (contexts 0) at (digits 4 w) (context 1 (shortest p.property) ∷ us) h object_rule _ (object_keeps 1 0 0 0 _ w) ∙ ap f v ∙ m ∙ c.0 in
      (all ∙ rw (t, i, q), subst (λ (y : ℕ). Here o y ts) q c.1)

-- a device that was read
pub record Device (o : List ℕ) (next : Then) (at : ℕ) (ts : List Thing) (v : Service) : Type 0 where
  pub word : ℕ
  pub rest : List Thing
  pub things : ts ≡ application 12 (digits 4 (8 * 4194304 + word % 4194304)) ∷ rest
  pub goes : next word (records_from (at + length (encode (application 12 (digits 4 word)))) 0 rest) ≡ Ok v
  pub left : Here o (at + length (encode (application 12 (digits 4 word)))) rest

objects : Shape 0 12 (application 12)
objects = applications 12 (λ e. omega arith)

-- from its contents
module _ (o : List ℕ) (os : Octets o) (next : Then) (at : ℕ) (xs : List ℕ) (rest : List Thing) (v : Service) where
  abbrev number : ℕ
  number = value_at o (at + tag_length (application 12 xs)) (length xs)

  device : Has o (at + tag_length (application 12 xs)) xs → Application 12 xs → device_rule o (rec 0 12 0 0 (at + tag_length (application 12 xs)) (length xs)) ≡ 0
      → next number (records_from (at + length (encode (application 12 xs))) 0 rest) ≡ Ok v → Here o (at + length (encode (application 12 xs))) rest → Device o next at (application 12 xs ∷ rest) v
  unfolding device_rule least most
  device stands valid kept goes left =
      let low : 4 ≤ length xs = valid.low in
      let high : length xs ≤ 4 = valid.high in
      let four : length xs ≡ 4 = omega arith in
      let type : number / 4194304 ≡ 8 = eqb-true (number / 4194304) 8 (pick_so (eqb (number / 4194304) 8) 0 41 0 (λ d. omega arith) kept).0 in
      let same : number ≡ 8 * 4194304 + number % 4194304 = omega arith in
      let d : xs ≡ digits 4 number = stands_digits o os _ xs stands ∙ ap (λ (n : ℕ). digits n number) four in
      record {
        word = number;
        rest = rest;
        things = ap (λ (xs : List ℕ). application 12 xs ∷ rest) (d ∙ ap (digits 4) same);
        goes = subst (λ (xs : List ℕ). next number (records_from (at + length (encode (application 12 xs))) 0 rest) ≡ Ok v) d goes;
        left = subst (λ (xs : List ℕ). Here o (at + length (encode (application 12 xs))) rest) d left;
      }

pub device_read : (o : List ℕ) → Octets o → (next : Then) (at : ℕ) (ts : List Thing) (v : Service) → Here o at ts → wanted 0 12 (device_rule o) (number_of o) next (records_from at 0 ts) ≡ Ok v → Device o next at ts v
device_read o os next at ts v h e =
    let a = part_read o 0 12 (application 12) objects (device_rule o) next at ts v h e in
    subst (λ (us : List Thing). Device o next at us v) (sym a.things) (device o os next at a.contents a.rest v a.stands (subst AllValid a.things h.valid).0 a.kept a.goes a.left)

-- a device is read
pub device_reads : (o : List ℕ) (next : Then) (at instance : ℕ) (ts : List Thing) → instance ≤ last_instance → Here o at (application 12 (digits 4 (8 * 4194304 + instance)) ∷ ts)
    → (wanted 0 12 (device_rule o) (number_of o) next (records_from at 0 (application 12 (digits 4 (8 * 4194304 + instance)) ∷ ts)) ≡ next (8 * 4194304 + instance) (records_from (at + length (encode (application 12 (digits 4 (8 * 4194304 + instance))))) 0 ts))
    × Here o (at + length (encode (application 12 (digits 4 (8 * 4194304 + instance))))) ts
unfolding device_rule
device_reads o next at instance ts small h =
    let w : ℕ = 8 * 4194304 + instance in
    let p : ℕ = at + tag_length (application 12 (digits 4 w)) in
    let less : w < 256 ^ 4 = omega arith in
    let v : value_at o p (length (digits 4 w)) ≡ w = digits_stand o p 4 w less (contents_here o 0 12 (application 12) objects at (digits 4 w) ts h) in
    let type : w / 4194304 ≡ 8 = omega arith in
    let a = part_reads o 0 12 (application 12) objects at (digits 4 w) ts h (device_rule o) next (rw (v, type)) in
    (a ∙ rw v, here_next o 0 12 (application 12) objects at (digits 4 w) ts h)
