-- The numbers of a service: 40 to 42 of a layout, 43 where a kind and choice have none, and before them those of its tags.
use Rattle.std.specs.Prelude.{Ok, Err}
use Prim.Native.Nat.{ℕ, ◌≤◌, ◌<◌}
use native.Mathlib.Omega.{arith}
use mathlib.Core.Path.{◌≡◌, refl, sym, subst, ◌∙◌}
use mathlib.Core.Logic.{◌⊎◌, inl, inr, ⊎_elim}
use mathlib.Core.List.{List, [], ◌∷◌}
use mathlib.Core.Bool.{Bool, true, false}
use lib.Dec.{ltb, eqb}
use borrow.Author.Tests.{ltb-true, eq-eqb, eqb-true}
use Rattle.octets.specs.Choice.{pick_case, pick_cases, both, non, both_left, both_right, not_so}
use Rattle.octets.specs.Reading.{oct}
use Rattle.octets.specs.Numbers.{long_form}
use Rattle.items.specs.Records.{Rec}
use Rattle.items.specs.Reading.{Out, items_of}
use Rattle.items.specs.Reading.Out.{good, bad}
use Rattle.items.proofs.Refusals.{OutHas, items_have}
use Rattle.services.specs.Parts.{Answer, Then, is, present, wanted, number_rule, number_of, object_rule, type_of, optional_number, group, after_group, last}
use Rattle.services.specs.Reading.{target_parts, device_rule, layout_for, after_tags, read_service}
use Rattle.services.specs.Reading as reading
use Rattle.services.specs.Layout.{Pointed, Message}
use Rattle.services.specs.Layout.Message.{read_property, read_property_ack, write_property, who_is, i_am, error_of}
use Rattle.services.specs.Shows.{For}
use Rattle.services.specs.declared.Service.{Service}
use Rattle.services.specs.declared.Target.{Target}
use Rattle.services.specs.declared.Span.{Span}

-- a refusal's number has the property; what is good has no number
abbrev pub AnswerHas : (ℕ → Type 0) → Answer → Type 0
AnswerHas P (Ok v) = Unit {0}
AnswerHas P (Err x) = P x

-- ---- the parts of a layout: 40 to 42
abbrev pub Low : Answer → Type 0
Low = AnswerHas (λ x. (40 ≤ x) × (x ≤ 42))

r40 : Low (Err 40)
r40 = (omega arith, omega arith)

-- a rule's number, 41 or none
abbrev Rule : ℕ → Type 0
Rule n = (n ≡ 0) ⊎ (n ≡ 41)

number_rule_lem : (s : List ℕ) (low high : ℕ) (r : Rec) → Rule (number_rule s low high r)
unfolding number_rule
number_rule_lem s low high r =
    pick_case Rule (eqb r.len 0) (inr refl) (pick_case Rule (ltb 4 r.len) (inr refl) (pick_case Rule (long_form (oct s r.place) r.len) (inr refl)
    (pick_case Rule (ltb (number_of s r) low) (inr refl) (pick_case Rule (ltb high (number_of s r)) (inr refl) (inl refl)))))

object_rule_lem : (r : Rec) → Rule (object_rule r)
unfolding object_rule
object_rule_lem r = pick_case Rule (eqb r.len 4) (inl refl) (inr refl)

device_rule_lem : (s : List ℕ) (r : Rec) → Rule (device_rule s r)
unfolding device_rule
device_rule_lem s r = pick_case Rule (eqb (type_of (number_of s r)) 8) (inl refl) (inr refl)

ruled : (x : ℕ) → Rule x → 0 < x → Low (Err x)
ruled x (inl e) l = absurd (omega arith)
ruled x (inr e) l = (omega arith, omega arith)

wanted_low : (kind number : ℕ) (rule value : Rec → ℕ) (next : Then) → ((r : Rec) → Rule (rule r)) → ((v : ℕ) (rs : List Rec) → Low (next v rs)) → (rs : List Rec) → Low (wanted kind number rule value next rs)
unfolding wanted
wanted_low kind number rule value next h f [] = r40
wanted_low kind number rule value next h f (r ∷ rest) =
    pick_case Low (non (is kind number r)) r40 (pick_cases Low (ltb 0 (rule r)) (λ e. ruled (rule r) (h r) (ltb-true 0 (rule r) e)) (λ _. f (value r) rest))

option_low : (s : List ℕ) (n low high : ℕ) (next : Bool → ℕ → List Rec → Answer) → ((here : Bool) (v : ℕ) (rs : List Rec) → Low (next here v rs)) → (rs : List Rec) → Low (optional_number s n low high next rs)
unfolding optional_number
option_low s n low high next f rs = pick_case Low (present n rs) (wanted_low _ _ _ _ _ (number_rule_lem s low high) (f true) rs) (f false 0 rs)

after_low : (next : ℕ → List Rec → Answer) → ((v : ℕ) (rs : List Rec) → Low (next v rs)) → (rs : List Rec) → Low (after_group next rs)
unfolding after_group
after_low next f [] = r40
after_low next f (r ∷ rest) = pick_case Low (both (eqb r.kind 3) (eqb r.depth 0)) (f r.place rest) (after_low next f rest)

group_low : (n : ℕ) (next : Span → List Rec → Answer) → ((v : Span) (rs : List Rec) → Low (next v rs)) → (rs : List Rec) → Low (group n next rs)
unfolding group
group_low n next f [] = r40
group_low n next f (r ∷ rest) = pick_case Low (non (is 2 n r)) r40 (after_low _ (λ v rs. f _ rs) rest)

last_low : (v : Service) (rs : List Rec) → Low (last v rs)
unfolding last
last_low v [] = tt
last_low v (r ∷ rest) = (omega arith, omega arith)

target_low : (s : List ℕ) (next : Target → List Rec → Answer) → ((t : Target) (rs : List Rec) → Low (next t rs)) → (rs : List Rec) → Low (target_parts s next rs)
unfolding target_parts
target_low s next f rs = wanted_low _ _ _ _ _ object_rule_lem (λ v. wanted_low _ _ _ _ _ (number_rule_lem _ _ _) (λ p. option_low _ _ _ _ _ (λ i x. f _))) rs

error_low : (s : List ℕ) (rs : List Rec) → Low (reading.error_of s rs)
unfolding reading.error_of
error_low s rs = wanted_low _ _ _ _ _ (number_rule_lem _ _ _) (λ c. wanted_low _ _ _ _ _ (number_rule_lem _ _ _) (λ d. last_low _)) rs

-- ---- which layout
pub nowhere : Pointed
nowhere = record { object = 0; instance = 0; property = 0; indexed = false; index = 0 }

-- a layout's answer where there is a message of the kind and choice; 43 where there is none
abbrev pub Laid : ℕ → ℕ → Answer → Type 0
Laid kind choice a = (((m : Message) × For kind choice m) × Low a) ⊎ (((m : Message) → For kind choice m → ⊥) × (a ≡ Err 43))

module _ (kind choice : ℕ) (s : List ℕ) (rs : List Rec) where
  abbrev row : ℕ → ℕ → Bool
  row k x = both (eqb kind k) (eqb choice x)

  is_row : (k x : ℕ) → row k x ≡ true → (kind ≡ k) × (choice ≡ x)
  is_row k x e = (eqb-true kind k (both_left (eqb kind k) _ e), eqb-true choice x (both_right (eqb kind k) _ e))

  no_row : (k x : ℕ) → row k x ≡ false → (kind ≡ k) × (choice ≡ x) → ⊥
  no_row k x e q = not_so (sym e ∙ rw (eq-eqb kind k q.0) (eq-eqb choice x q.1))

  -- none of the seven rows: no message
  none_for : row 0 12 ≡ false → row 3 12 ≡ false → row 0 15 ≡ false → row 1 8 ≡ false → row 1 0 ≡ false → row 5 12 ≡ false → row 5 15 ≡ false → (m : Message) → For kind choice m → ⊥
  none_for a b c d e f g (read_property t) h = no_row 0 12 a h
  none_for a b c d e f g (read_property_ack t ts) h = no_row 3 12 b h
  none_for a b c d e f g (write_property t ts ranked priority) h = no_row 0 15 c h
  none_for a b c d e f g (who_is limited low high) h = no_row 1 8 d h
  none_for a b c d e f g (i_am instance longest segmentation vendor) h = no_row 1 0 e h
  none_for a b c d e f g (error_of class code) (h, inl q) = no_row 5 12 f (h, q)
  none_for a b c d e f g (error_of class code) (h, inr q) = no_row 5 15 g (h, q)

  pub layout_numbers : Laid kind choice (layout_for kind choice s rs)
  unfolding layout_for reading.read_property reading.read_property_ack reading.write_property reading.who_is reading.i_am
  layout_numbers =
      pick_cases (Laid kind choice) (row 0 12) (λ e. inl ((read_property nowhere, is_row 0 12 e), target_low s _ (λ t. last_low _) rs)) (λ a.
      pick_cases (Laid kind choice) (row 3 12) (λ e. inl ((read_property_ack nowhere [], is_row 3 12 e), target_low s _ (λ t. group_low 3 _ (λ v. last_low _)) rs)) (λ b.
      pick_cases (Laid kind choice) (row 0 15) (λ e. inl ((write_property nowhere [] false 0, is_row 0 15 e), target_low s _ (λ t. group_low 3 _ (λ v. option_low _ _ _ _ _ (λ i x. last_low _))) rs)) (λ c.
      pick_cases (Laid kind choice) (row 1 8) (λ e. inl ((who_is false 0 0, is_row 1 8 e), pick_case Low (present 0 rs) (wanted_low _ _ _ _ _ (number_rule_lem _ _ _) (λ l. wanted_low _ _ _ _ _ (number_rule_lem _ _ _) (λ h. last_low _)) rs) (last_low _ rs))) (λ d.
      pick_cases (Laid kind choice) (row 1 0) (λ e. inl ((i_am 0 0 0 0, is_row 1 0 e), wanted_low _ _ _ _ _ (device_rule_lem s) (λ v. wanted_low _ _ _ _ _ (number_rule_lem _ _ _) (λ l. wanted_low _ _ _ _ _ (number_rule_lem _ _ _) (λ g. wanted_low _ _ _ _ _ (number_rule_lem _ _ _) (λ p. last_low _)))) rs)) (λ e.
      pick_cases (Laid kind choice) (row 5 12) (λ q. inl ((error_of 0 0, ((is_row 5 12 q).0, inl (is_row 5 12 q).1)), error_low s rs)) (λ f.
      pick_cases (Laid kind choice) (row 5 15) (λ q. inl ((error_of 0 0, ((is_row 5 15 q).0, inr (is_row 5 15 q).1)), error_low s rs)) (λ g. inr (none_for a b c d e f g, refl))))))))

-- ---- tags first: what holds of 30 to 43 holds of every refusal
tags_have : (P : ℕ → Type 0) (f : List Rec → Answer) → ((rs : List Rec) → AnswerHas P (f rs)) → (o : Out) → OutHas P o → AnswerHas P (after_tags f o)
tags_have P f g (good rs end) h = g rs
tags_have P f g (bad x) h = h

pub read_has : (P : ℕ → Type 0) → ((n : ℕ) → 30 ≤ n → n ≤ 43 → P n) → (kind choice : ℕ) (s : List ℕ) → AnswerHas P (read_service kind choice s)
unfolding read_service
read_has P all kind choice s = tags_have P (layout_for kind choice s) layout (items_of s) (items_have P (λ n low high. all n low (omega arith)) s)
  where
    low : (a : Answer) → Low a → AnswerHas P a
    low (Ok v) h = tt
    low (Err x) h = all x (omega arith) (omega arith)

    layout : (rs : List Rec) → AnswerHas P (layout_for kind choice s rs)
    layout rs = ⊎_elim (λ l. low (layout_for kind choice s rs) l.1) (λ n. subst (AnswerHas P) (sym n.1) (all 43 (omega arith) (omega arith))) (layout_numbers kind choice s rs)
