-- The laws of rebuilding for the page's key, four slots and an area of 65,536 octets.
use Rattle.std.proofs.Common.{◌≡◌, ℕ, ◌+◌, ◌*◌, ◌<◌, ◌≤◌, true, false, eqb, List, length, sym, refl, ◌∙◌, eq-eqb, eqb-true}
use Rattle.octets.specs.Choice.{non, pick_case, both_left, both_true, both_false, true_both}
use Rattle.octets.specs.Splice.{splice_length}
use Rattle.npdu.specs.Address.{absent, same_address}
use Rattle.npdu.proofs.AddressLaws.{same_exactly}
use Rattle.messages.specs.Slots.{room, part, KeyLaws, Segment, Box, boxed}
use Rattle.messages.specs.Rows.{Done, rebuild}
use Rattle.messages.specs.Rows.Answer.{taken, completed}
use Rattle.messages.specs.Sound.{Good, passes}
use Rattle.messages.specs.History.{Deed, begun, touches, Rebuilt, after, from_start}
use Rattle.messages.specs.History.Deed.{segment}
use Rattle.messages.specs.Alone.{view as seenBy, own, replies, NoFifty}
use Rattle.messages.proofs.Step.{Step, stepped, fits}
use Rattle.messages.proofs.Step.Step.{stays, frees, took}
use Rattle.messages.proofs.Sound.{good_of_lem, passes_rebuild, passes_forget}
use Rattle.messages.proofs.History.{completes}
use Rattle.messages.proofs.Laws.{others, within_taken, within_completed}
use Rattle.messages.proofs.Alone.{undisturbed}
use Rattle.rebuild.specs.View.{keys, same_key, given_key, nowhere, zero_key, fresh, view, segment_of}
use Rattle.rebuild.specs.Calls.{Taken, Forgot, Gives, taking, Forgets}
use Rattle.rebuild.specs.declared.Key.{Key}
use Rattle.rebuild.specs.declared.Slots.{Slots}
use Rattle.rebuild.specs.declared.Segment.{Segment as Asked}
use Rattle.rebuild.specs.Calls.Step.{Held, Complete}
use Rattle.rebuild.proofs.Giving.{gives_by, taking_on, step_one}

pub key_laws : KeyLaws keys
unfolding same_key
key_laws =
    record {
      only = λ a b e.
          let e₁ = both_true (eqb a.invoke b.invoke) _ e in
          let e₂ = both_true (eqb a.source b.source) _ e₁.1 in
          let e₃ = both_true (eqb a.destination b.destination) _ e₂.1 in
          let e₄ = both_true (eqb a.kind b.kind) _ e₃.1 in
          let e₅ = both_true (same_address a.from b.from) _ e₄.1 in
          let v = eqb-true a.invoke b.invoke e₁.0 in
          let s = eqb-true a.source b.source e₂.0 in
          let d = eqb-true a.destination b.destination e₃.0 in
          let k = eqb-true a.kind b.kind e₄.0 in
          let f = (same_exactly a.from b.from).0 e₅.0 in
          let t = (same_exactly a.to b.to).0 e₅.1 in
          λ i. record { source = s i; destination = d i; kind = k i; invoke = v i; from = f i; to = t i };
      self = λ a.
          rw (eq-eqb a.invoke a.invoke refl, eq-eqb a.source a.source refl, eq-eqb a.destination a.destination refl, eq-eqb a.kind a.kind refl)
          (true_both _ _ ((same_exactly a.from a.from).1 refl) ((same_exactly a.to a.to).1 refl));
    }

-- a free slot's addresses are none
pub nowhere_absent : nowhere ≡ absent
unfolding absent
nowhere_absent = refl

-- 59 passes the four free slots
pub fresh_passes : passes keys 4 (view fresh) ≡ true
fresh_passes = rw (both_false (non (given_key zero_key)))

-- from slots that 59 passes and an area that 60 passes
module _ (t : Slots) (a : List ℕ) (p : passes keys 4 (view t) ≡ true) (z : length a ≡ 65536) where
  abbrev begin : Box Key
  begin = boxed (view t) a

  pub fair : Good keys begin
  fair = good_of_lem keys key_laws 4 (view t) a p (eq-eqb (length a) 65536 z)

  pub four : length (view t) ≡ 4
  four = eqb-true (length (view t)) 4 (both_left (eqb (length (view t)) 4) _ p)

  -- "Each message begun and completed in the run is its key's accepted segments since its latest starting segment 0, joined in order of acceptance."
  pub page_completes : (ds : List (Deed Key)) (g : Segment Key) (i n : ℕ)
      → (let q = after keys (segment g) (from_start keys begin ds) in
      (rebuild keys g (from_start keys begin ds).box).answer ≡ completed i n → begun keys g.key q.log ≡ true → Rebuilt keys g.key q.log q.box.area i n)
  page_completes ds g i n = completes keys key_laws begin fair ds g i n

  -- a slot that the answer does not name keeps its 16,384 octets
  pub page_others : (g : Segment Key) (j : ℕ) → j < 4 → touches (rebuild keys g begin).answer j ≡ false → part (room * j) room (rebuild keys g begin).box.area ≡ part (room * j) room a
  page_others g j l = others keys key_laws g begin fair j (rw four l)

  -- what the call leaves passes 59 again, if the segment's key is given, and 60, and its answer names a slot and no more octets than a slot has
  module _ (g : Asked) (o : List ℕ) {r : Taken} {later : List ℕ} (h : Gives (taking t g o a) r later) where
    abbrev done : Done Key
    done = rebuild keys (segment_of g o) begin

    ruled : Gives done r later
    ruled = gives_by (sym (taking_on t g o a z)) h

    pub take_keeps : given_key g.key ≡ true → passes keys 4 (view r.slots) ≡ true
    take_keeps k = rw ruled.slots (passes_rebuild keys key_laws 4 (segment_of g o) (view t) a k p (eq-eqb (length a) 65536 z)).0

    sized_by : (d : Done Key) → Step keys (segment_of g o) begin d → length d.box.area ≡ length a
    sized_by d (stays m) = refl
    sized_by d (frees i l q) = refl
    sized_by d (took i n P) =
        let s = splice_length a (room * i + n) o (fits keys (segment_of g o) begin fair i n P) in
        pick_case (λ (d : Done Key). length d.box.area ≡ length a) g.mor s s

    pub take_sized : length later ≡ 65536
    take_sized = rw ruled.area (sized_by done (stepped keys key_laws (segment_of g o) begin fair) ∙ z)

    pub take_held : (s n : ℕ) → r.answer ≡ Held s n → (s < 4) × (n ≤ 16384)
    take_held s n e = rw four at (within_taken keys key_laws (segment_of g o) begin fair s n (step_one done.answer (taken s n) (sym ruled.answer ∙ e)))

    pub take_complete : (s n : ℕ) → r.answer ≡ Complete s n → (s < 4) × (n ≤ 16384)
    take_complete s n e = rw four at (within_completed keys key_laws (segment_of g o) begin fair s n (step_one done.answer (completed s n) (sym ruled.answer ∙ e)))

pub forget_keeps : (t : Slots) (s : ℕ) {r : Forgot} → passes keys 4 (view t) ≡ true → Forgets t s r → passes keys 4 (view r.slots) ≡ true
forget_keeps t s p h = rw h.slots (passes_forget keys key_laws 4 s (view t) p)

-- two runs that agree on a key, whatever else they do: its answers and messages agree
pub page_undisturbed : (k : Key) (b c : Box Key) → Good keys b → Good keys c → seenBy keys k b ≡ seenBy keys k c → (ds es : List (Deed Key)) → own keys k b ds ≡ own keys k c es
    → NoFifty (replies keys k b ds) → NoFifty (replies keys k c es) → replies keys k b ds ≡ replies keys k c es
page_undisturbed k = undisturbed keys key_laws k
