-- What the writers promise, for each way in which they end.
use Prim.Native.Nat.{ℕ, ◌+◌, ◌≤◌, ◌<◌}
use native.Mathlib.Omega.{arith}
use native.Mathlib.Nat.{zero-add}
use mathlib.Core.Path.{◌≡◌, refl, sym, ap, subst, ◌∙◌}
use mathlib.Core.List.{List, [], ◌∷◌, ◌++◌, append-nil}
use mathlib.Core.Bool.{Bool, true, false}
use lib.ListN.{length, length-append}
use borrow.Author.Tests.{lt-ltb}
use Rattle.std.specs.Prelude.{Ok, Err, Option, Some, None, is_some}
use Rattle.std.specs.Option.{unwrap_or}
use Rattle.std.specs.Bool.{then_some}
use Rattle.octets.specs.Choice.{by_test}
use Rattle.octets.specs.declared.refusal.Refusal.{Refusal}
use Rattle.octets.specs.Refusal.{number_of, number_some}
use Rattle.octets.specs.Splice.{splice, splice_length, splice_then}
use Rattle.octets.specs.Laid.{Written, Laid, laid_fault, laid_short, laid_over, laid_as}
use Rattle.tags.specs.Types.{longest}
use Rattle.items.specs.Grammar.{encode_all}
use Rattle.items.specs.Reading.{items_of, walk}
use Rattle.services.specs.Parts.{any_number}
use Rattle.services.specs.Reading.{read_service}
use Rattle.services.specs.declared.Service.{Service}
use Rattle.services.specs.declared.Service.TheVariants.{ReadPropertyAck, WriteProperty}
use Rattle.services.specs.declared.ReadAck.{ReadAck}
use Rattle.services.specs.declared.WriteRequest.{WriteRequest}
use Rattle.services.specs.declared.Target.{Target}
use Rattle.service_writer.specs.Layout.{kind_of, choice_of, ranked, front_of, behind_of, room_of, octets_of}
use Rattle.service_writer.specs.Fault.{wide_target, too_wide, refusal_of, read_fault, fault_of, ranked_fault}
use Rattle.service_writer.specs.declared.judge.Phase.TheVariants.{Inside}
use Rattle.service_writer.specs.Judging.{out_fault}
use Rattle.service_writer.proofs.Items.{not_wide, ranked_length, ranked_parts}
use Rattle.service_writer.proofs.Fronts.{ranked_fault_lem}

-- the octets were read before
module _ (kind choice : ℕ) (o area : List ℕ) where
  module _ (v : Service) (e : Ok v ≡ read_service kind choice o) where
    accepted : read_fault kind choice o ≡ 0
    unfolding refusal_of
    accepted = rw (← e)

    pub settle_short : length area < length o → Laid (read_fault kind choice o) o area (Err 61) area
    settle_short h = laid_as {f = 0} (sym accepted) refl (laid_short o area h)

    pub settle_good : length o ≤ length area → (later : List ℕ) → later ≡ splice area 0 o → Laid (read_fault kind choice o) o area (Ok (length o)) later
    settle_good h later w = laid_over _ _ o area later accepted refl h w

  pub settle_refused : (x : Refusal) → Err (number_of x) ≡ read_service kind choice o → Laid (read_fault kind choice o) o area (Err (number_of x)) area
  unfolding refusal_of
  settle_refused x e = laid_as {f = number_of x} (ap refusal_of e) refl (laid_fault (number_of x) o area (λ z. omega (arith, number_some x)))

-- three runs of octets, one after the other
module _ (a b c area : List ℕ) where
  total : length (a ++ (b ++ c)) ≡ length a + length b + length c
  total = simp length-append (omega arith)

  pub lay_short : length area < length a + length b + length c → Laid 0 (a ++ (b ++ c)) area (Err 61) area
  lay_short h = let t = total in laid_short (a ++ (b ++ c)) area (omega arith)

  pub lay_good : length a + length b + length c ≤ length area → (l m later : List ℕ) → l ≡ splice area 0 a → m ≡ splice l (length a) b → later ≡ splice m (length a + length b) c → Laid 0 (a ++ (b ++ c)) area (Ok (length a + length b + length c)) later
  lay_good h l m later p q w =
      let t = total in
      let k : length l ≡ length area = rw p (splice_length area 0 a (omega arith)) in
      let z : later ≡ splice l (0 + length a) (b ++ c) = rw (zero-add (length a)) (splice_then l (length a) b c (omega arith) q w) in
      laid_over 0 _ (a ++ (b ++ c)) area later refl (sym t) (omega arith) (splice_then area 0 a (b ++ c) (rw length-append (omega arith)) p z)

-- too wide, and not
pub wide_41 : (v : Service) (value area : List ℕ) → too_wide v ≡ true → Laid (fault_of v value) (octets_of v value) area (Err 41) area
unfolding fault_of
wide_41 v value area e = rw e (laid_fault 41 _ area (λ z. omega arith))

pub settled : (v : Service) (value area later o : List ℕ) (r : Written) → too_wide v ≡ false → o ≡ octets_of v value → Laid (read_fault (kind_of v) (choice_of v) o) o area r later → Laid (fault_of v value) (octets_of v value) area r later
unfolding fault_of
settled v value area later o r e d h = rw e (subst (λ (x : List ℕ). Laid (read_fault (kind_of v) (choice_of v) x) x area r later) d h)

module _ (request : Bool) (t : Target) (value : List ℕ) (here : Bool) (priority : ℕ) (area : List ℕ) where
  pub ranked_41 : wide_target t ≡ true → Laid (ranked_fault request t value here priority) (ranked t value here priority) area (Err 41) area
  unfolding ranked_fault
  ranked_41 e = rw e (laid_fault 41 _ area (λ z. omega arith))

  pub ranked_39 : wide_target t ≡ false → longest < length (front_of t) + length value + length (behind_of here priority) → Laid (ranked_fault request t value here priority) (ranked t value here priority) area (Err 39) area
  unfolding ranked_fault read_service items_of refusal_of
  ranked_39 e h =
      let l : longest < length (ranked t value here priority) = omega (arith, ranked_length t value here priority) in
      rw (e, lt-ltb _ _ l) (laid_fault 39 _ area (λ z. omega arith))

  -- judged where the value stands
  module _ (behind : List ℕ) (eb : behind ≡ behind_of here priority) (narrow : wide_target t ≡ false) (bp : t.property ≤ any_number) (bi : t.index ≤ any_number)
      (small : length (front_of t) + length value + length (behind_of here priority) ≤ longest) (left : ℕ) (k : left ≡ room_of t) where
    ranked_as : (x : ℕ) → x ≡ out_fault (value ++ behind) request (Ok Inside) (walk left (value ++ behind) 0 (3 ∷ [])) → x ≡ ranked_fault request t value here priority
    unfolding ranked_fault
    ranked_as x d =
        let l : length (ranked t value here priority) ≤ longest = omega (arith, ranked_length t value here priority) in
        let y : x ≡ out_fault (value ++ behind_of here priority) request (Ok Inside) (walk (room_of t) (value ++ behind_of here priority) 0 (3 ∷ [])) = rw (eb, k) at d in
        rw narrow (y ∙ sym (ranked_fault_lem t (not_wide t narrow) bp bi request value here priority l))

    pub ranked_refused : (x : Refusal) → number_of x ≡ out_fault (value ++ behind) request (Ok Inside) (walk left (value ++ behind) 0 (3 ∷ []))
        → Laid (ranked_fault request t value here priority) (ranked t value here priority) area (Err (number_of x)) area
    ranked_refused x d = laid_as (ranked_as (number_of x) d) refl (laid_fault (number_of x) (ranked t value here priority) area (λ z. omega (arith, number_some x)))

    -- and laid in three parts
    pub ranked_laid : 0 ≡ out_fault (value ++ behind) request (Ok Inside) (walk left (value ++ behind) 0 (3 ∷ [])) → (front : List ℕ) → front ≡ front_of t → (later : List ℕ) (r : Written)
        → Laid 0 (front ++ (value ++ behind)) area r later → Laid (ranked_fault request t value here priority) (ranked t value here priority) area r later
    ranked_laid d front ef later r h = laid_as (ranked_as 0 d) (rw (ef, eb) (sym (ranked_parts t value here priority))) h

-- an ack is as a request without priority
ack_octets : (a : ReadAck) (value : List ℕ) → ranked a.target value false 0 ≡ octets_of (ReadPropertyAck a) value
unfolding ranked octets_of encode_all
ack_octets a value = rw append-nil

-- which service it is
module _ (v : Service) (value area later : List ℕ) (r : Written) where
  -- one that does not look at the value
  pub as_bare : (w : Service) → v ≡ w → octets_of w [] ≡ octets_of w value → Laid (fault_of w []) (octets_of w []) area r later → Laid (fault_of v value) (octets_of v value) area r later
  unfolding fault_of
  as_bare w e d h = rw (e, ← d) h

  pub as_ack : (a : ReadAck) → v ≡ ReadPropertyAck a → Laid (ranked_fault false a.target value false 0) (ranked a.target value false 0) area r later → Laid (fault_of v value) (octets_of v value) area r later
  unfolding fault_of ranked_fault too_wide
  as_ack a e h = rw (e, ← ack_octets a value) h

  pub as_request : (w : WriteRequest) → v ≡ WriteProperty w → (o : Option ℕ) → o ≡ then_some w.ranked w.priority
      → Laid (ranked_fault true w.target value (is_some o) (unwrap_or o 0)) (ranked w.target value (is_some o) (unwrap_or o 0)) area r later → Laid (fault_of v value) (octets_of v value) area r later
  unfolding fault_of ranked_fault too_wide octets_of ranked
  as_request w e o d h =
      by_test w.ranked
      (λ z. let q : o ≡ Some w.priority = d ∙ rw z refl in rw (e, z) (rw q at h))
      (λ z. let q : o ≡ None = d ∙ rw z refl in rw (e, z) (rw q at h))
