-- The numbers 40 to 43 of a service, each given exactly when the page's words say so.
use Rattle.std.specs.Prelude.{Ok, Err}
use Prim.Native.Nat.{ℕ, ◌≤◌}
use native.Mathlib.Omega.{arith}
use mathlib.Core.Path.{◌≡◌, refl, sym, ap, subst, ◌∙◌}
use mathlib.Core.Logic.{◌↔◌, inl, inr}
use mathlib.Core.List.{List, [], ◌∷◌, ◌++◌}
use mathlib.Core.Bool.{Bool, true, false}
use lib.ListN.{length}
use Rattle.octets.specs.Reading.{Octets}
use Rattle.tags.specs.Types.{least, most}
use Rattle.tags.specs.Layout.{Thing, Application}
use Rattle.items.specs.Records.{Rec}
use Rattle.items.specs.Reading.{items_of}
use Rattle.items.specs.Grammar.{encode_all, records_from, Reads}
use Rattle.items.proofs.Exact.{reads, exact}
use Rattle.services.specs.Parts.{Answer, Then, wanted, number_of, number_rule, object_rule, context_number, application_number, context_object, optional_number, last}
use Rattle.services.specs.Reading.{last_instance, target_parts, device_rule, layout_for, after_tags, read_service}
use Rattle.services.specs.Reading as reading
use Rattle.services.specs.Layout.{Message, things_of_message, encode}
use Rattle.services.specs.Layout.Message.{read_property, read_property_ack, write_property, who_is, i_am, error_of}
use Rattle.services.specs.Shows.{For, message_of, ValidFor}
use Rattle.services.specs.Rows.{number_in, Wanted, any, target, LaidOut, Given}
use Rattle.services.specs.Rows.Rule.{number, object, object_of}
use Rattle.services.specs.Rows.Wanted.{in_context, of_type, group, optional, limits}
use Rattle.services.specs.Rows.LaidOut.{read_property as laid_read_property, read_property_ack as laid_read_property_ack, write_property as laid_write_property, who_is as laid_who_is, i_am as laid_i_am, error_of as laid_error_of}
use Rattle.services.specs.Rows.Given.{offended, no_layout}
use Rattle.services.specs.declared.Service.{Service}
use Rattle.services.specs.declared.Service.TheVariants.{WhoIs}
use Rattle.services.specs.declared.Target.{Target}
use Rattle.services.proofs.Things.{Here}
use Rattle.services.proofs.Exact.{all_here, reads_one, accepted, exactly}
use Rattle.services.proofs.Refusals.{Laid, nowhere, layout_numbers}
use Rattle.services.proofs.Offences.{Says}
use Rattle.services.proofs.Rules.{number_judges, object_judges, device_judges}
use Rattle.services.proofs.PartRows.{last_says, in_context_lem, of_type_lem, an_option, the_limits, part_says, option_says, group_says}

-- ---- the parts that the layouts have
module _ (o : List ℕ) (ws : List Wanted) where
  -- what is said of the items behind a part, whatever it gives
  abbrev Later : {A : Type 0} → (A → List Rec → Answer) → Type 0
  Later {A} next = (v : A) (at : ℕ) (us : List Thing) → Here o at us → Says ws us (next v (records_from at 0 us))

  context_says : (n low high : ℕ) (next : Then) → Later next → (at : ℕ) (ts : List Thing) → Here o at ts → Says (in_context n (number low high) ∷ ws) ts (context_number o n low high next (records_from at 0 ts))
  context_says n low high next later =
      part_says o (in_context n (number low high)) 1 n (in_context_lem n _) ws (number_rule o low high) next
      (λ at xs v h. number_judges o _ xs h low high 1 n 0 0) (λ at xs rest h. later (number_in xs) _ rest h) (λ e. e)

  type_says : (n low high : ℕ) → (n ≡ 1 → ⊥) → (next : Then) → Later next → (at : ℕ) (ts : List Thing) → Here o at ts → Says (of_type n (number low high) ∷ ws) ts (application_number o n low high next (records_from at 0 ts))
  type_says n low high other next later =
      part_says o (of_type n (number low high)) 0 n (of_type_lem n _ other) ws (number_rule o low high) next
      (λ at xs v h. number_judges o _ xs h low high 0 n 0 0) (λ at xs rest h. later (number_in xs) _ rest h) (λ e. e)

  object_says : (n : ℕ) (next : Then) → Later next → (at : ℕ) (ts : List Thing) → Here o at ts → Says (in_context n object ∷ ws) ts (context_object o n next (records_from at 0 ts))
  object_says n next later =
      part_says o (in_context n object) 1 n (in_context_lem n _) ws object_rule next (λ at xs v h. object_judges o _ xs h 1 n 0 0) (λ at xs rest h. later (number_in xs) _ rest h) (λ e. e)

  four : (xs : List ℕ) → Application 12 xs → length xs ≡ 4
  unfolding least most
  four xs v = let low : 4 ≤ length xs = v.low in let high : length xs ≤ 4 = v.high in omega arith

  device_says : (next : Then) → Later next → (at : ℕ) (ts : List Thing) → Here o at ts → Says (of_type 12 (object_of 8) ∷ ws) ts (wanted 0 12 (device_rule o) (number_of o) next (records_from at 0 ts))
  device_says next later =
      part_says o (of_type 12 (object_of 8)) 0 12 (of_type_lem 12 _ (λ e. omega arith)) ws (device_rule o) next
      (λ at xs v h. device_judges o _ xs h 0 12 0 0 (four xs v)) (λ at xs rest h. later (number_in xs) _ rest h) (λ e. e)

  optional_says : (n low high : ℕ) (next : Bool → ℕ → List Rec → Answer) → ((here : Bool) → Later (next here)) → (at : ℕ) (ts : List Thing) → Here o at ts
      → Says (optional n (number low high) ∷ ws) ts (optional_number o n low high next (records_from at 0 ts))
  unfolding optional_number
  optional_says n low high next later at ts h =
      option_says o (optional n (number low high)) n (an_option n _) ws (number_rule o low high) (next true)
      (λ at xs v h. number_judges o _ xs h low high 1 n 0 0) (λ at xs rest h. later true (number_in xs) _ rest h) tt (next false 0 (records_from at 0 ts)) at ts h (later false 0 at ts h)

target_says : (o : List ℕ) (ws : List Wanted) (next : Target → List Rec → Answer) → Later o ws next → (at : ℕ) (ts : List Thing) → Here o at ts → Says (target ++ ws) ts (target_parts o next (records_from at 0 ts))
unfolding target_parts
target_says o ws next later =
    object_says o _ 0 _ (λ v. context_says o _ 1 _ _ _ (λ property. optional_says o ws 2 _ _ _ (λ indexed index. later _)))

-- ---- the layouts
module _ (o : List ℕ) (ts : List Thing) (h : Here o 0 ts) where
  property_says : Says target ts (reading.read_property o (records_from 0 0 ts))
  unfolding reading.read_property
  property_says = target_says o [] _ (λ t at us g. last_says _ at us) 0 ts h

  ack_says : Says (target ++ (group 3 ∷ [])) ts (reading.read_property_ack o (records_from 0 0 ts))
  unfolding reading.read_property_ack
  ack_says = target_says o (group 3 ∷ []) _ (λ t. group_says o [] _ (λ v at us g. last_says _ at us)) 0 ts h

  write_says : Says (target ++ (group 3 ∷ optional 4 (number 1 16) ∷ [])) ts (reading.write_property o (records_from 0 0 ts))
  unfolding reading.write_property
  write_says = target_says o (group 3 ∷ optional 4 (number 1 16) ∷ []) _ (λ t. group_says o _ _ (λ v. optional_says o [] 4 1 16 _ (λ ranked priority at us g. last_says _ at us))) 0 ts h

  who_says : Says (limits ∷ []) ts (reading.who_is o (records_from 0 0 ts))
  unfolding reading.who_is
  who_says =
      option_says o limits 0 the_limits [] (number_rule o 0 last_instance) (λ low. context_number o 1 low last_instance (λ high. last (WhoIs (record { limited = true; low = low; high = high }))))
      (λ at xs v g. number_judges o _ xs g 0 last_instance 1 0 0 0)
      (λ at xs rest g. context_says o [] 1 (number_in xs) last_instance _ (λ high at us g. last_says _ at us) _ rest g)
      tt (last (WhoIs (record { limited = false; low = 0; high = 0 })) (records_from 0 0 ts)) 0 ts h (last_says _ 0 ts)

  am_says : Says (of_type 12 (object_of 8) ∷ of_type 2 any ∷ of_type 9 (number 0 3) ∷ of_type 2 (number 0 65535) ∷ []) ts (reading.i_am o (records_from 0 0 ts))
  unfolding reading.i_am
  am_says =
      device_says o _ _ (λ v. type_says o _ 2 _ _ (λ e. omega arith) _ (λ longest. type_says o _ 9 0 3 (λ e. omega arith) _ (λ segmentation. type_says o [] 2 0 65535 (λ e. omega arith) _ (λ vendor at us g. last_says _ at us)))) 0 ts h

  error_says : Says (of_type 9 any ∷ of_type 9 any ∷ []) ts (reading.error_of o (records_from 0 0 ts))
  unfolding reading.error_of
  error_says = type_says o _ 9 _ _ (λ e. omega arith) _ (λ class. type_says o [] 9 _ _ (λ e. omega arith) _ (λ code at us g. last_says _ at us)) 0 ts h

  laid_says : (kind choice : ℕ) (ws : List Wanted) → LaidOut kind choice ws → Says ws ts (layout_for kind choice o (records_from 0 0 ts))
  unfolding layout_for
  laid_says kind choice ws (laid_read_property k c w) = rw (k, c, w) property_says
  laid_says kind choice ws (laid_read_property_ack k c w) = rw (k, c, w) ack_says
  laid_says kind choice ws (laid_write_property k c w) = rw (k, c, w) write_says
  laid_says kind choice ws (laid_who_is k c w) = rw (k, c, w) who_says
  laid_says kind choice ws (laid_i_am k c w) = rw (k, c, w) am_says
  laid_says kind choice ws (laid_error_of k (inl c) w) = rw (k, c, w) error_says
  laid_says kind choice ws (laid_error_of k (inr c) w) = rw (k, c, w) error_says

-- ---- a kind and choice that has a message has a layout, and the other way round
for_laid : (kind choice : ℕ) (m : Message) → For kind choice m → (ws : List Wanted) × LaidOut kind choice ws
for_laid kind choice (read_property t) (k, c) = (_, laid_read_property k c refl)
for_laid kind choice (read_property_ack t ts) (k, c) = (_, laid_read_property_ack k c refl)
for_laid kind choice (write_property t ts ranked priority) (k, c) = (_, laid_write_property k c refl)
for_laid kind choice (who_is limited low high) (k, c) = (_, laid_who_is k c refl)
for_laid kind choice (i_am instance longest segmentation vendor) (k, c) = (_, laid_i_am k c refl)
for_laid kind choice (error_of class code) (k, c) = (_, laid_error_of k c refl)

laid_for : (kind choice : ℕ) (ws : List Wanted) → LaidOut kind choice ws → (m : Message) × For kind choice m
laid_for kind choice ws (laid_read_property k c w) = (read_property nowhere, (k, c))
laid_for kind choice ws (laid_read_property_ack k c w) = (read_property_ack nowhere [], (k, c))
laid_for kind choice ws (laid_write_property k c w) = (write_property nowhere [] false 0, (k, c))
laid_for kind choice ws (laid_who_is k c w) = (who_is false 0 0, (k, c))
laid_for kind choice ws (laid_i_am k c w) = (i_am 0 0 0 0, (k, c))
laid_for kind choice ws (laid_error_of k c w) = (error_of 0 0, (k, c))

-- ---- octets that are these items
module _ (kind choice : ℕ) (o : List ℕ) (os : Octets o) (ts : List Thing) (r : Reads o ts) where
  here : Here o 0 ts
  here = let g = exact.sound o ts os r in all_here o ts g.0 g.1

  abbrev laid : Answer
  laid = layout_for kind choice o (records_from 0 0 ts)

  by_layout : read_service kind choice o ≡ laid
  unfolding read_service
  by_layout = let g = exact.sound o ts os r in ap (after_tags (layout_for kind choice o)) (ap items_of g.1 ∙ reads ts g.0)

  sound : (x : ℕ) → laid ≡ Err x → Laid kind choice laid → Given x kind choice ts
  sound x e (inl (m, l)) =
      let f = for_laid kind choice m.0 m.1 in
      let s = (laid_says o ts here kind choice f.0 f.1).sound x e in
      offended f.0 s.0 s.1.0 f.1 s.1.1 s.1.2
  sound x e (inr (none, d)) =
      let z : Err x ≡ Err 43 = sym e ∙ d in
      no_layout (cc z) (λ ws l. let m = laid_for kind choice ws l in none m.0 m.1)

  unlaid : ((ws : List Wanted) → LaidOut kind choice ws → ⊥) → Laid kind choice laid → laid ≡ Err 43
  unlaid none (inl (m, l)) = let f = for_laid kind choice m.0 m.1 in absurd (none f.0 f.1)
  unlaid none (inr (n, d)) = d

  complete : (x : ℕ) → Given x kind choice ts → laid ≡ Err x
  complete x (offended ws ws' ts' l t f) = (laid_says o ts here kind choice ws l).complete x (ws', (ts', t, f))
  complete x (no_layout e none) = rw e (unlaid none (layout_numbers kind choice o (records_from 0 0 ts)))

  -- A service's items are refused with a number exactly when that number's row says so.
  pub rows_exact : (x : ℕ) → (read_service kind choice o ≡ Err x) ↔ Given x kind choice ts
  rows_exact x = (λ e. sound x (sym by_layout ∙ e) (layout_numbers kind choice o (records_from 0 0 ts)), λ g. by_layout ∙ complete x g)

  -- and they are read exactly when they are a message that keeps the rules
  pub good_message : (v : Service) → read_service kind choice o ≡ Ok v → (m : Message) × ValidFor kind choice m × (ts ≡ things_of_message m)
  good_message v e =
      let a = accepted kind choice o os v e in
      let m : Message = message_of v a.value in
      let w : Reads o (things_of_message m) = subst (λ (p : List ℕ). Reads p (things_of_message m)) (sym a.octets) (exact.complete (things_of_message m) a.valid.valid.items) in
      (m, a.valid, reads_one o ts (things_of_message m) r w)

  pub message_good : (m : Message) → ValidFor kind choice m → ts ≡ things_of_message m → (v : Service) × (read_service kind choice o ≡ Ok v)
  message_good m ok e =
      let s = (exactly kind choice).complete m ok in
      let z : o ≡ encode m = (exact.sound o ts os r).1 ∙ ap encode_all e in
      (s.service, ap (read_service kind choice) z ∙ s.read)
