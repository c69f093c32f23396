-- A layout that stands somewhere is read.
use Rattle.std.specs.Prelude.{Ok}
use Prim.Native.Nat.{ℕ, ◌+◌, ◌*◌, ◌%◌, ◌≤◌}
use native.Mathlib.Omega.{arith}
use mathlib.Core.Path.{◌≡◌, refl, sym, subst, ◌∙◌}
use mathlib.Core.Logic.{◌⊎◌, inl, inr}
use mathlib.Core.List.{List, [], ◌∷◌, ◌++◌, append-nil}
use mathlib.Core.Bool.{Bool, true, false}
use lib.ListN.{length}
use Rattle.tags.specs.Layout.{Thing}
use Rattle.tags.specs.Layout.Thing.{application, context}
use Rattle.items.specs.Grammar.{encode_all, Balanced, record_of, records_from}
use Rattle.items.specs.Reading.{most_items}
use Rattle.services.specs.Parts.{present, any_number, group, last}
use Rattle.services.specs.Reading.{last_instance, layout_for}
use Rattle.services.specs.Reading as reading
use Rattle.services.specs.Layout.{Message, Pointed, shortest, optional, pointed, valued, things_of_message, Pointing, Ranges, WholeValue}
use Rattle.services.specs.Layout.Message.{read_property, read_property_ack, write_property, who_is, i_am, error_of}
use Rattle.services.specs.Shows.{For, message_of}
use Rattle.services.specs.declared.Service.{Service}
use Rattle.services.specs.declared.Service.TheVariants.{ReadProperty, ReadPropertyAck, WriteProperty, WhoIs, IAm, Error}
use Rattle.services.proofs.Things.{Here, contexts, applications, here_next, number_reads, option_reads, value_cut, group_reads, group_left, last_reads}
use Rattle.services.proofs.Pointed.{target_of, small_option, target_reads, device_reads}
use Rattle.services.proofs.Layouts.{ValueStands}

-- the items of a message's value
abbrev pub value_of : Message → List Thing
value_of (read_property t) = []
value_of (read_property_ack t ts) = ts
value_of (write_property t ts ranked priority) = ts
value_of (who_is limited low high) = []
value_of (i_am instance longest segmentation vendor) = []
value_of (error_of class code) = []

-- the service that is read, and that it shows the message
pub record Reads (kind choice : ℕ) (o : List ℕ) (m : Message) : Type 0 where
  pub service : Service
  pub read : layout_for kind choice o (records_from 0 0 (things_of_message m)) ≡ Ok service
  pub stands : ValueStands o service (value_of m)
  pub shown : message_of service (value_of m) ≡ m

-- no optional number comes next
none_next : (n y : ℕ) → present n (records_from y 0 []) ≡ false
unfolding present records_from
none_next n y = refl

first_there : (xs : List ℕ) (ts : List Thing) → present 0 (records_from 0 0 (context 0 xs ∷ ts)) ≡ true
unfolding present records_from record_of
first_there xs ts = refl

group_next : (inner rest : List Thing) (y : ℕ) → present 2 (records_from y 0 (valued inner ++ rest)) ≡ false
unfolding present records_from record_of valued
group_next inner rest y = refl

optional_balanced : (here : Bool) (n x : ℕ) → Balanced 1 [] (optional here n x)
optional_balanced true n x = tt
optional_balanced false n x = tt

nothing_behind : (ts : List Thing) → ts ≡ ts ++ []
nothing_behind ts = sym (append-nil ts)

module _ (kind choice : ℕ) (o : List ℕ) where
  property_reads : (p : Pointed) → For kind choice (read_property p) → Pointing p → Here o 0 (things_of_message (read_property p)) → Reads kind choice o (read_property p)
  unfolding layout_for reading.read_property message_of things_of_message pointed
  property_reads p f ok h =
      let t = target_reads o (λ t. last (ReadProperty t)) 0 p [] ok (subst (Here o 0) (nothing_behind (pointed p)) h) (none_next 2) in
      record {
        service = ReadProperty (target_of p);
        read = rw (f.0, f.1, nothing_behind (pointed p)) (t.0 ∙ last_reads _ _);
        stands = refl;
        shown = refl;
      }

  ack_reads : (p : Pointed) (ts : List Thing) → For kind choice (read_property_ack p ts) → Pointing p → Balanced most_items [] ts → Here o 0 (things_of_message (read_property_ack p ts)) → Reads kind choice o (read_property_ack p ts)
  unfolding layout_for reading.read_property_ack message_of things_of_message
  ack_reads p ts f ok whole h =
      let e : valued ts ≡ valued ts ++ [] = nothing_behind (valued ts) in
      let t = target_reads o (λ t. group 3 (λ value. last (ReadPropertyAck (record { target = t; value = value })))) 0 p (valued ts ++ []) ok (subst (λ (us : List Thing). Here o 0 (pointed p ++ us)) e h) (group_next ts []) in
      let g = group_reads o _ ts [] t.1 whole (λ value. last (ReadPropertyAck (record { target = target_of p; value = value }))) in
      record {
        service = ReadPropertyAck (record { target = target_of p; value = record { at = 0 + length (encode_all (pointed p)) + 1; len = length (encode_all ts) } });
        read = rw (f.0, f.1, e) (t.0 ∙ g ∙ last_reads _ _);
        stands = value_cut o _ ts [] t.1 whole;
        shown = refl;
      }

  write_reads : (p : Pointed) (ts : List Thing) (ranked : Bool) (priority : ℕ) → For kind choice (write_property p ts ranked priority) → Ranges (write_property p ts ranked priority) → Balanced most_items [] ts
      → Here o 0 (things_of_message (write_property p ts ranked priority)) → Reads kind choice o (write_property p ts ranked priority)
  unfolding layout_for reading.write_property message_of things_of_message
  write_reads p ts ranked priority f ok whole h =
      let one : 1 ≤ most_items = omega arith in
      let any : priority ≤ any_number = omega (arith, small_option ranked priority 1 16 ok.1 ok.2) in
      let us : List Thing = optional ranked 4 priority in
      let e : us ≡ us ++ [] = nothing_behind us in
      let t = target_reads o _ 0 p (valued ts ++ us) ok.0 h (group_next ts us) in
      let at : ℕ = 0 + length (encode_all (pointed p)) in
      let g = group_reads o at ts us t.1 whole _ in
      let l = group_left o at ts us t.1 whole 1 one (optional_balanced ranked 4 priority) in
      let r = option_reads o 4 1 16 (λ ranked priority. last (WriteProperty (record { target = target_of p; value = record { at = at + 1; len = length (encode_all ts) }; ranked = ranked; priority = priority }))) ranked priority _ [] any ok.1 ok.2 (none_next 4 _) (subst (Here o _) e l) in
      record {
        service = WriteProperty (record { target = target_of p; value = record { at = at + 1; len = length (encode_all ts) }; ranked = ranked; priority = priority });
        read = rw (f.0, f.1) (t.0 ∙ g ∙ rw e (r.0 ∙ last_reads _ _));
        stands = value_cut o at ts us t.1 whole;
        shown = refl;
      }

  -- numbers one after the other
  who_reads : (limited : Bool) (low high : ℕ) → For kind choice (who_is limited low high) → Ranges (who_is limited low high) → Here o 0 (things_of_message (who_is limited low high)) → Reads kind choice o (who_is limited low high)
  unfolding layout_for reading.who_is message_of things_of_message
  who_reads true low high f ok h =
      let r = ok.0 refl in
      let any : high ≤ any_number = omega (arith, r.1) in
      let a = number_reads o 1 0 (context 0) (contexts 0) 0 last_instance low _ 0 (context 1 (shortest high) ∷ []) (omega (arith, r.0, r.1)) (omega arith) (omega (arith, r.0, r.1)) h in
      let h1 = here_next o 1 0 (context 0) (contexts 0) 0 (shortest low) (context 1 (shortest high) ∷ []) h in
      let b = number_reads o 1 1 (context 1) (contexts 1) low last_instance high (λ high. last (WhoIs (record { limited = true; low = low; high = high }))) _ [] any r.0 r.1 h1 in
      record { service = WhoIs (record { limited = true; low = low; high = high }); read = rw (f.0, f.1, first_there (shortest low) (context 1 (shortest high) ∷ [])) (a ∙ b ∙ last_reads _ _); stands = refl; shown = refl }
  who_reads false low high f ok h =
      let x = ok.1 refl in
      let y = ok.2 refl in
      record { service = WhoIs (record { limited = false; low = 0; high = 0 }); read = rw (f.0, f.1, none_next 0 0) (last_reads 0 _); stands = refl; shown = rw (x, y) }

  am_reads : (instance longest segmentation vendor : ℕ) → For kind choice (i_am instance longest segmentation vendor) → Ranges (i_am instance longest segmentation vendor)
      → Here o 0 (things_of_message (i_am instance longest segmentation vendor)) → Reads kind choice o (i_am instance longest segmentation vendor)
  unfolding layout_for reading.i_am message_of things_of_message
  am_reads instance longest segmentation vendor f ok h =
      let two = applications 2 (λ e. omega arith) in
      let nine = applications 9 (λ e. omega arith) in
      let w : ℕ = 8 * 4194304 + instance in
      let i : w % 4194304 ≡ instance = omega (arith, ok.0) in
      let zl : 0 ≤ longest = omega arith in
      let zs : 0 ≤ segmentation = omega arith in
      let zv : 0 ≤ vendor = omega arith in
      let bs : segmentation ≤ any_number = omega (arith, ok.2) in
      let bv : vendor ≤ any_number = omega (arith, ok.3) in
      let u3 : List Thing = application 2 (shortest vendor) ∷ [] in
      let u2 : List Thing = application 9 (shortest segmentation) ∷ u3 in
      let u1 : List Thing = application 2 (shortest longest) ∷ u2 in
      let d = device_reads o _ 0 instance u1 ok.0 h in
      let a = number_reads o 0 2 (application 2) two 0 any_number longest _ _ u2 ok.1 zl ok.1 d.1 in
      let h2 = here_next o 0 2 (application 2) two _ (shortest longest) u2 d.1 in
      let b = number_reads o 0 9 (application 9) nine 0 3 segmentation _ _ u3 bs zs ok.2 h2 in
      let h3 = here_next o 0 9 (application 9) nine _ (shortest segmentation) u3 h2 in
      let c = number_reads o 0 2 (application 2) two 0 65535 vendor _ _ [] bv zv ok.3 h3 in
      record {
        service = IAm (record { instance = w % 4194304; longest = longest; segmentation = segmentation; vendor = vendor });
        read = rw (f.0, f.1) (d.0 ∙ a ∙ b ∙ c ∙ last_reads _ _);
        stands = refl;
        shown = rw i;
      }

  error_layout : (class code : ℕ) → For kind choice (error_of class code) → layout_for kind choice o (records_from 0 0 (things_of_message (error_of class code))) ≡ reading.error_of o (records_from 0 0 (things_of_message (error_of class code)))
  unfolding layout_for
  error_layout class code f = go f.1
    where
      go : (choice ≡ 12) ⊎ (choice ≡ 15) → layout_for kind choice o (records_from 0 0 (things_of_message (error_of class code))) ≡ reading.error_of o (records_from 0 0 (things_of_message (error_of class code)))
      go (inl c) = rw (f.0, c)
      go (inr c) = rw (f.0, c)

  error_reads : (class code : ℕ) → For kind choice (error_of class code) → Ranges (error_of class code) → Here o 0 (things_of_message (error_of class code)) → Reads kind choice o (error_of class code)
  unfolding reading.error_of message_of things_of_message
  error_reads class code f ok h =
      let nine = applications 9 (λ e. omega arith) in
      let zero : 0 ≤ code = omega arith in
      let u : List Thing = application 9 (shortest code) ∷ [] in
      let a = number_reads o 0 9 (application 9) nine 0 any_number class _ 0 u ok.0 (omega arith) ok.0 h in
      let h1 = here_next o 0 9 (application 9) nine 0 (shortest class) u h in
      let b = number_reads o 0 9 (application 9) nine 0 any_number code _ _ [] ok.1 zero ok.1 h1 in
      record { service = Error (record { class = class; code = code }); read = error_layout class code f ∙ a ∙ b ∙ last_reads _ _; stands = refl; shown = refl }

  pub layout_reads : (m : Message) → For kind choice m → Ranges m → WholeValue m → Here o 0 (things_of_message m) → Reads kind choice o m
  layout_reads (read_property p) f ok whole h = property_reads p f ok h
  layout_reads (read_property_ack p ts) f ok whole h = ack_reads p ts f ok whole h
  layout_reads (write_property p ts ranked priority) f ok whole h = write_reads p ts ranked priority f ok whole h
  layout_reads (who_is limited low high) f ok whole h = who_reads limited low high f ok h
  layout_reads (i_am instance longest segmentation vendor) f ok whole h = am_reads instance longest segmentation vendor f ok h
  layout_reads (error_of class code) f ok whole h = error_reads class code f ok h
