-- 59 of a state is 59 of its parts: the link, the edition, each slot by itself, no two open slots of one key, in the order in which they are asked.
use Prim.Native.Nat.{ℕ, zero, suc, ◌≤◌, ◌<◌}
use native.Mathlib.Omega.{arith}
use mathlib.Core.Path.{◌≡◌, refl, sym, ap, ◌∙◌}
use mathlib.Core.Bool.{Bool, true, false}
use mathlib.Core.List.{List, map}
use mathlib.Core.Option.{Option, none, some}
use lib.Dec.{leb, eqb}
use lib.ListN.{length}
use borrow.Author.Tests.{le-leb, lt-leb, eq-eqb, eqb-true, ne_eqb}
use Rattle.octets.specs.Choice.{pick, both, non, both_false, true_both, by_test}
use Rattle.octets.specs.Reading.{oct}
use Rattle.frames.specs.Step.{sound_of}
use Rattle.messages.specs.Slots.{room, above, is_some, lowest, open_to}
use Rattle.messages.specs.Sound.{strange, twice, sound, passes}
use Rattle.rebuild.specs.View.{keys, same_key, seen, view}
use Rattle.rebuild.specs.declared.Key.{Key}
use Rattle.rebuild.specs.declared.Slots.{Slots}
use Rattle.rebuild.proofs.Page.{key_laws}
use Rattle.collector.specs.Calls.{slot_count}
use Rattle.state.specs.Link.{link_good, link_of}
use Rattle.state.specs.Edition.{edition_good}
use Rattle.state.specs.Layout.{state_size, edition_place, link_part, edition_at}
use Rattle.state.specs.Calls.{Silence, good_at, slots_good, state_good, slot_at, slots_at, state_at, fair_of, judge_of, Stands}
use Rattle.state.specs.Judging.{link_fair, slot_fair, slots_fair, one_key, apart, apart_from, alone, pairs_fair, AllFair}

-- ---- whether keys are the same does not depend on which is asked first
same_turned : (a b : Key) → same_key a b ≡ true → same_key b a ≡ true
same_turned a b t = rw (key_laws.only a b t) (key_laws.self b)

same_either : (a b : Key) → same_key a b ≡ same_key b a
same_either a b =
    by_test (same_key a b)
    (λ t. t ∙ sym (same_turned a b t))
    (λ f. by_test (same_key b a) (λ t. same_turned b a t ∙ sym t) (λ g. f ∙ sym g))

-- ---- two open slots of one key: a search behind slot i, and slot after slot asked
no_more : (f : Bool) (r : Option ℕ) {a q : Bool} → non f ≡ a → non (is_some r) ≡ q → non (is_some (pick f (some 0) (above r))) ≡ both a q
no_more true r e d = rw (← e)
no_more false none e d = rw (← e, ← d)
no_more false (some i) e d = rw (← e, ← d)

if_open : (u x : Bool) {a : Bool} → non x ≡ a → non (both u x) ≡ pick u a true
if_open true x e = e
if_open false x e = refl

module _ (o : List ℕ) (i : ℕ) where
  unfound : (j n : ℕ) → non (is_some (lowest (open_to keys (slot_at o i).key) (map seen (slots_at o j n)))) ≡ apart_from o i j n
  unfolding apart one_key
  unfound j zero = refl
  unfound j (suc n) =
      no_more (open_to keys (slot_at o i).key (seen (slot_at o j))) (lowest (open_to keys (slot_at o i).key) (map seen (slots_at o (suc j) n)))
      (ap (λ (k : Bool). non (both (slot_at o j).used k)) (same_either (slot_at o j).key (slot_at o i).key)) (unfound (suc j) n)

  single : (n : ℕ) → non (twice keys (seen (slot_at o i)) (map seen (slots_at o (suc i) n))) ≡ alone o i n
  unfolding alone
  single n = if_open (slot_at o i).used (is_some (lowest (open_to keys (slot_at o i).key) (map seen (slots_at o (suc i) n)))) (unfound (suc i) n)

-- ---- slots from number i on: those that are good and sound are those that have their keys to themselves and are fair
regroup : (g h s a G S F P : Bool) → both G S ≡ both F P → both (both g G) (both h (both s (both a S))) ≡ both (both (both g (both s h)) F) (both a P)
regroup true true true true G S F P e = e
regroup true true true false G S F P e = both_false G ∙ sym (both_false F)
regroup true true false a G S F P e = both_false G
regroup true false true a G S F P e = both_false G
regroup true false false a G S F P e = both_false G
regroup false h s a G S F P e = refl

slots_parts : (o : List ℕ) (i n : ℕ) → both (slots_good o i n) (sound keys (map seen (slots_at o i n))) ≡ both (slots_fair o i n) (pairs_fair o i n)
unfolding slot_fair
slots_parts o i zero = refl
slots_parts o i (suc n) =
    rw (single o i n)
    (regroup (good_at o i) (leb (slot_at o i).held room) (non (strange keys (seen (slot_at o i)))) (alone o i n) _ _ _ _ (slots_parts o (suc i) n))

-- ---- all of it
gather : (l e r G S F P : Bool) → both G S ≡ both F P → both (both l (both e G)) (both r S) ≡ both (both l r) (both e (both F P))
gather true true true G S F P q = q
gather true true false G S F P q = both_false G
gather true false true G S F P q = refl
gather true false false G S F P q = refl
gather false e r G S F P q = refl

-- the slots, each by itself and beside the others
abbrev pub both_fair : List ℕ → Bool
both_fair o = both (slots_fair o 0 slot_count) (pairs_fair o 0 slot_count)

-- lifted: g, whether their octets are slots', and r, what is said of the slots t by value
module _ (o : List ℕ) (g : Bool) (e : g ≡ slots_good o 0 slot_count) where
  pub lifted_none : g ≡ false → false ≡ both_fair o
  lifted_none f = rw (← e, f) at (slots_parts o 0 slot_count)

  pub lifted_fair : g ≡ true → (t : Slots) → t ≡ (state_at o).slots → (r : Bool) → r ≡ passes keys slot_count (view t) → r ≡ both_fair o
  unfolding state_at
  lifted_fair f t d r q = q ∙ ap (λ (u : Slots). passes keys slot_count (view u)) d ∙ (rw (← e, f) at (slots_parts o 0 slot_count))

pub fair_parts : (o : List ℕ) → fair_of o ≡ both (link_fair o) (both (edition_good (edition_at o)) (both_fair o))
unfolding fair_of state_good state_at link_fair
fair_parts o = gather (link_good (link_part o)) (edition_good (edition_at o)) (sound_of (state_at o).receiver) _ _ (slots_fair o 0 slot_count) (pairs_fair o 0 slot_count) (slots_parts o 0 slot_count)

-- ---- the number: a law for each way through the tests; l, s: what link and slots said
module _ (o : List ℕ) where
  pub judge_sized : (length o ≡ state_size → ⊥) → 60 ≡ judge_of o
  unfolding judge_of
  judge_sized n = rw (ne_eqb (length o) state_size n)

  module _ (size : length o ≡ state_size) (l : Bool) (e : l ≡ link_fair o) where
    pub judge_link : l ≡ false → 59 ≡ judge_of o
    unfolding judge_of
    judge_link f = rw (eq-eqb (length o) state_size size, fair_parts o, ← e, f)

    module _ (t : l ≡ true) where
      pub judge_edition : 1 < oct o edition_place → 59 ≡ judge_of o
      unfolding judge_of edition_good
      judge_edition h = rw (eq-eqb (length o) state_size size, fair_parts o, ← e, t, lt-leb (oct o edition_place) 1 h)

      module _ (h : oct o edition_place ≤ 1) where
        judge_by : {b : Bool} → both_fair o ≡ b → judge_of o ≡ pick b 0 59
        unfolding judge_of edition_good
        judge_by d = rw (eq-eqb (length o) state_size size, fair_parts o, ← e, t, le-leb (oct o edition_place) 1 h, d)

        -- the quick test, and the one that is exact
        pub judge_free : AllFair o → 0 ≡ judge_of o
        judge_free f = sym (judge_by (true_both _ _ f.slots f.pairs))

        module _ (s : Bool) (d : s ≡ both_fair o) where
          pub judge_fair : s ≡ true → 0 ≡ judge_of o
          judge_fair u = sym (judge_by (sym d ∙ u))

          pub judge_unfair : s ≡ false → 59 ≡ judge_of o
          judge_unfair u = sym (judge_by (sym d ∙ u))

-- for `search (rules, judge_ways)`
pub ruleset judge_ways = (judge_sized, judge_link, judge_edition, judge_free, judge_fair, judge_unfair)

-- what is judged good has a state's size
pub judged_size : (o : List ℕ) → 0 ≡ judge_of o → length o ≡ state_size
unfolding judge_of
judged_size o e =
    by_test (eqb (length o) state_size) (eqb-true (length o) state_size) (λ d. let z : ◌≡◌ {A = ℕ} 0 60 = rw d at e in absurd (omega arith))

-- ---- for a silence: the number of a refusal, which is not 0, or 0 and the link
module _ (o : List ℕ) (r : Silence) where
  pub stands_refused : (n : ℕ) → (n ≡ 0 → ⊥) → n ≡ judge_of o → r.refused ≡ n → Stands o r
  stands_refused n z e d = record { number = d ∙ e; link = λ q. absurd (z (e ∙ q)) }

  pub stands_linked : 0 ≡ judge_of o → r.refused ≡ 0 → r.link ≡ link_of (link_part o) → Stands o r
  stands_linked e d l = record { number = d ∙ e; link = λ q. l }
