-- The ways through the functions of rebuilding: what each promises, from what the calls in it promise and the tests that it took.
use Rattle.std.proofs.Common.{◌≡◌, ℕ, ◌+◌, ◌*◌, ◌%◌, ◌^◌, ◌<◌, ◌≤◌, Bool, true, false, not, List, length, get_or, take, drop, set, ◌-◌, ◌++◌, append-nil, length-drop, sym, refl, ap, ◌∙◌, arith, le-ltb, lt-ltb, eq-eqb, ne_eqb, eqb, nat_eq}
use Rattle.std.specs.Prelude.{Option as Found, Some, None}
use mathlib.Core.Option.{Option, none, some}
use lib.ListN.{drop_of_length-le}
use lib.Seq.{take-length}
use Rattle.std.specs.Array.{IsFirstChunk}
use mathlib.Core.Bool.{◌&&◌, beq}
use borrow.Author.Tests.{not-true, not-false}
use Rattle.std.specs.Cmp.Lexicographic.{pointwise}
use Rattle.std.specs.List.{position, list_any, drop-map}
use Rattle.npdu.specs.declared.Address.{Address}
use Rattle.npdu.proofs.AddressLaws.{same_address_is}
use Rattle.rebuild.specs.declared.Slot.{Slot}
use Rattle.octets.specs.Choice.{both, non, not_so, both_false}
use Rattle.octets.specs.Splice.{splice}
use Rattle.npdu.specs.Address.{same_address, gives_source, gives_destination}
use Rattle.messages.specs.Slots as Messages
use Rattle.messages.specs.Rows as Rules
use Rattle.messages.specs.Sound as Sound
use Rattle.messages.proofs.Starts.{starts_other, starts_new, starts_open, starts_awaited, next_is}
use Rattle.messages.proofs.Rows.{rebuild_open, rebuild_new, new_51, new_start, open_restart, open_52, open_53, open_on, fitted_54, fitted_on}
use Rattle.messages.proofs.Sound.{sound_over, sound_strange, sound_twice, sound_on, sound_end}
use Rattle.rebuild.specs.View.{same_key, given_key, keys, free_slot, seen, view, segment_of, found}
use Rattle.rebuild.specs.Calls.{Taken, Kept, Lost, Gives, taking, Forgets}
use Rattle.rebuild.specs.declared.Key.{Key}
use Rattle.rebuild.specs.declared.Slots.{Slots}
use Rattle.rebuild.specs.declared.Segment.{Segment}
use Rattle.rebuild.specs.Calls.Step.{Held, Complete}
use Rattle.rebuild.proofs.Lookup.{turn, meets, ends, found_at, found_none, placed, some_place}
use Rattle.rebuild.proofs.Seen.{blank, seen_at, at_view, length_view, found_below, twice_free, twice_used}
use Rattle.rebuild.proofs.Giving.{gives_by, gives_kept, gives_lost, gives_more, gives_last, taking_60, taking_on, forgets, forgets_not}

-- ---- two keys are the same where the library finds them equal
abbrev same : Address → Address → Bool
same a b = beq a.present b.present && (eqb a.network b.network && (eqb a.length b.length && pointwise nat_eq a.octets b.octets))

-- the invoke IDs may be asked first
invoke_first : (i s d k f t : Bool) → (s && (d && (k && (i && (f && t))))) ≡ both i (both s (both d (both k (both f t))))
invoke_first true true true true true t = refl
invoke_first true true true true false t = refl
invoke_first true true true false f t = refl
invoke_first true true false k f t = refl
invoke_first true false d k f t = refl
invoke_first false true true true f t = refl
invoke_first false true true false f t = refl
invoke_first false true false k f t = refl
invoke_first false false d k f t = refl

pub same_key_is : (a b : Key)
    → (eqb a.source b.source && (eqb a.destination b.destination && (eqb a.kind b.kind && (eqb a.invoke b.invoke && (same a.from b.from && same a.to b.to))))) ≡ same_key a b
unfolding same_key
same_key_is a b = rw (same_address_is a.from b.from, same_address_is a.to b.to) (invoke_first (eqb a.invoke b.invoke) (eqb a.source b.source) (eqb a.destination b.destination) (eqb a.kind b.kind) (same_address a.from b.from) (same_address a.to b.to))

-- ---- whether a key is given, x whether its source is
module _ (k : Key) {x : Bool} (e : x ≡ gives_source k.from) where
  pub given_by : {y : Bool} → x ≡ true → y ≡ gives_destination k.to → y ≡ given_key k
  unfolding given_key
  given_by q f = f ∙ ap (λ (z : Bool). both z (gives_destination k.to)) (sym q ∙ e)

  pub not_given : x ≡ false → false ≡ given_key k
  unfolding given_key
  not_given q = ap (λ (z : Bool). both z (gives_destination k.to)) (sym q ∙ e)

-- ---- whether a slot is open, u, with a key that is not given; b: whether it is given
pub strange_free : (u v : Bool) → u ≡ false → false ≡ both (non v) u
strange_free u v n = sym (ap (both (non v)) n ∙ both_false (non v))

pub strange_here : (u v b : Bool) → u ≡ true → b ≡ v → not b ≡ both (non v) u
strange_here true true true n e = refl
strange_here true false false n e = refl
strange_here true true false n e = not_so e
strange_here true false true n e = not_so (sym e)
strange_here false v b n e = not_so n

-- ---- a slot that is free is open to no key; one that is used, where the keys are the same
pub closed_to : (u v : Bool) → u ≡ false → false ≡ both u v
closed_to u v n = sym (ap (λ (x : Bool). both x v) n)

pub opened_to : (u v b : Bool) → u ≡ true → b ≡ v → b ≡ both u v
opened_to u v b n e = e ∙ sym (ap (λ (x : Bool). both x v) n)

-- ---- a search of the slots from start on, at slot s: what it finds from here on it finds
pub record Looking (f : Messages.Slot Key → Bool) (t : Slots) (start s : ℕ) : Type 0 where
  pub four : length t.slots ≡ 4
  pub same : found start (Messages.lowest f (drop start (view t))) ≡ found s (Messages.lowest f (drop s (view t)))

module _ (f : Messages.Slot Key → Bool) (t : Slots) (start : ℕ) where
  module _ (s : ℕ) (w : Looking f t start s) where
    pub looks_past : 4 ≤ s → None ≡ found start (Messages.lowest f (drop start (view t)))
    looks_past h = let k = length_view t 4 w.four in sym (w.same ∙ ends f (Messages.empty keys) (view t) s (omega arith))

    -- a test of the slot as the rules see it
    finds : s < 4 → f (Messages.slot_at keys (view t) s) ≡ true → Some s ≡ found start (Messages.lowest f (drop start (view t)))
    finds h e = let k = length_view t 4 w.four in sym (w.same ∙ meets f (Messages.empty keys) (view t) s (omega arith) e)

    passes_by : s < 4 → f (Messages.slot_at keys (view t) s) ≡ false → Looking f t start (s + 1)
    passes_by h e = let k = length_view t 4 w.four in record { four = w.four; same = w.same ∙ turn f (Messages.empty keys) (view t) s (omega arith) e }

    module _ (h : s < 4) (b : Bool) (e : b ≡ f (seen (get_or t.slots s blank))) where
      pub looks_here : b ≡ true → Some s ≡ found start (Messages.lowest f (drop start (view t)))
      looks_here q = let k = w.four in finds h (at_view f t s (omega arith) ∙ sym e ∙ q)

      pub looks_on : b ≡ false → Looking f t start (s + 1)
      looks_on q = let k = w.four in passes_by h (at_view f t s (omega arith) ∙ sym e ∙ q)

-- the lowest free slot
not_non : (b : Bool) → not b ≡ non b
not_non true = refl
not_non false = refl

pub first_free : (t : Slots) {f : Found ℕ} → f ≡ position (λ (x : Slot). not x.used) t.slots → f ≡ found 0 (Messages.lowest (Messages.is_free keys) (view t))
first_free t e = e ∙ placed seen (λ (x : Slot). not x.used) (Messages.is_free keys) (λ x. not_non x.used) t.slots

-- what a search of the four slots finds is one of them
pub found_here : (p : Messages.Slot Key → Bool) (t : Slots) (f : Found ℕ) → f ≡ found 0 (Messages.lowest p (view t))
    → (s : ℕ) → f ≡ Some s → length t.slots ≡ 4 → s < 4
found_here p t f e s q k = found_below p t s 4 k (found_at _ s (sym e ∙ q))

-- ---- whether slot s is open and a later open slot has its key
module _ (t : Slots) (s : ℕ) (k : length t.slots ≡ 4) (h : s < 4) where
  pub once_free : (get_or t.slots s blank).used ≡ false → (rest : List (Messages.Slot Key)) → false ≡ Sound.twice keys (Messages.slot_at keys (view t) s) rest
  once_free u rest = sym (twice_free t s rest (omega arith) u)

  pub twice_later : (get_or t.slots s blank).used ≡ true
      → {b : Bool} → b ≡ list_any (λ (y : Slot). Messages.open_to keys (get_or t.slots s blank).key (seen y)) (take (length t.slots - (s + 1)) (drop (s + 1) t.slots))
      → b ≡ Sound.twice keys (Messages.slot_at keys (view t) s) (drop (s + 1) (view t))
  twice_later u e =
      let x = get_or t.slots s blank in
      let l = drop (s + 1) t.slots in
      let rest : take (length t.slots - (s + 1)) l ≡ l = ap (λ (n : ℕ). take n l) (sym (length-drop (s + 1) t.slots)) ∙ take-length l in
      e ∙ ap (list_any (λ (y : Slot). Messages.open_to keys x.key (seen y))) rest
      ∙ some_place seen (λ (y : Slot). Messages.open_to keys x.key (seen y)) (Messages.open_to keys x.key) (λ y. refl) l
      ∙ ap (λ (r : List (Messages.Slot Key)). Messages.is_some (Messages.lowest (Messages.open_to keys x.key) r)) (sym (drop-map seen (s + 1) t.slots))
      ∙ sym (twice_used t s (drop (s + 1) (view t)) (omega arith) u)

-- ---- 59's test, at slot s: the slots below are sound
pub record Passing (t : Slots) (s : ℕ) : Type 0 where
  pub four : length t.slots ≡ 4
  pub same : Sound.sound keys (view t) ≡ Sound.sound keys (drop s (view t))

module _ (t : Slots) (s : ℕ) (w : Passing t s) where
  -- there are four, so the rest is the test
  tested : Sound.passes keys 4 (view t) ≡ Sound.sound keys (drop s (view t))
  tested = ap (λ (x : Bool). both x (Sound.sound keys (view t))) (eq-eqb (length (view t)) 4 (length_view t 4 w.four)) ∙ w.same

  pub sound_all : 4 ≤ s → true ≡ Sound.passes keys 4 (view t)
  sound_all h = let k = length_view t 4 w.four in sym (tested ∙ sound_end keys (view t) s (omega arith))

  module _ (h : s < 4) where
    within : s < length (view t)
    within = let k = length_view t 4 w.four in omega arith

    inside : s < length t.slots
    inside = let k = w.four in omega arith

    held_here : (Messages.slot_at keys (view t) s).held ≡ (get_or t.slots s blank).held
    held_here = at_view (λ (x : Messages.Slot Key). x.held) t s inside

    pub unsound_held : 16384 < (get_or t.slots s blank).held → false ≡ Sound.passes keys 4 (view t)
    unsound_held o = sym (tested ∙ sound_over keys (view t) s within (rw held_here o))

    -- a slot that is free is neither
    pub passing_free : (get_or t.slots s blank).held ≤ 16384 → (get_or t.slots s blank).used ≡ false → Passing t (s + 1)
    passing_free o u =
        let x = get_or t.slots s blank in
        let n : Sound.strange keys (seen x) ≡ false = rw u (both_false (non (given_key x.key))) in
        record {
          four = w.four;
          same = w.same ∙ sound_on keys (view t) s within (rw held_here o) (at_view (Sound.strange keys) t s inside ∙ n) (twice_free t s (drop (s + 1) (view t)) inside u);
        }

    module _ (o : (get_or t.slots s blank).held ≤ 16384) (b : Bool) (e : b ≡ Sound.strange keys (seen (get_or t.slots s blank))) where
      is_strange : (v : Bool) → b ≡ v → Sound.strange keys (Messages.slot_at keys (view t) s) ≡ v
      is_strange v q = at_view (Sound.strange keys) t s inside ∙ sym e ∙ q

      pub unsound_key : b ≡ true → false ≡ Sound.passes keys 4 (view t)
      unsound_key q = sym (tested ∙ sound_strange keys (view t) s within (rw held_here o) (is_strange true q))

      module _ (q : b ≡ false) (d : Bool) (f : d ≡ Sound.twice keys (Messages.slot_at keys (view t) s) (drop (s + 1) (view t))) where
        pub unsound_twice : d ≡ true → false ≡ Sound.passes keys 4 (view t)
        unsound_twice p = sym (tested ∙ sound_twice keys (view t) s within (rw held_here o) (is_strange false q) (sym f ∙ p))

        pub passing_on : d ≡ false → Passing t (s + 1)
        passing_on p = record { four = w.four; same = w.same ∙ sound_on keys (view t) s within (rw held_here o) (is_strange false q) (sym f ∙ p) }

-- ---- forgetting slot s, which is read and set at its place
module _ (t : Slots) (s at : ℕ) (k : length t.slots ≡ 4) (h : s ≤ 3) (e : at ≡ s) where
  pub forget_free : (get_or t.slots at blank).used ≡ false → Forgets t s (record { number = 56; slots = t })
  forget_free q = forgets_not t s (at_view (λ (x : Messages.Slot Key). x.used) t s (omega arith) ∙ rw e at q)

  pub forget_open : (u : Slots) → (get_or t.slots at blank).used ≡ true → u.slots ≡ set t.slots at free_slot
      → Forgets t s (record { number = 0; slots = u })
  forget_open u q d = forgets t s u (at_view (λ (x : Messages.Slot Key). x.used) t s (omega arith) ∙ rw e at q) (rw e at d)

-- ---- whether a number starts its key's message, u whether the key is open
module _ (number : ℕ) (u : Bool) (next : ℕ) where
  pub starts_not : (number ≡ 0 → ⊥) → false ≡ Rules.starts_at number u next
  starts_not h = sym (starts_other number u next (ne_eqb number 0 h))

pub starts_anew : (number : ℕ) (u : Bool) (next : ℕ) → number ≡ 0 → (next ≡ 0 → ⊥) → true ≡ Rules.starts_at number u next
starts_anew number true next z h = sym (starts_open number next (ne_eqb next 0 h) ∙ eq-eqb number 0 z)
starts_anew number false next z h = sym (starts_new number next ∙ eq-eqb number 0 z)

pub starts_shut : (number : ℕ) (u : Bool) (next : ℕ) → number ≡ 0 → next ≡ 0 → not u ≡ Rules.starts_at number u next
starts_shut number true next z h = sym (starts_awaited number next (eq-eqb next 0 h))
starts_shut number false next z h = sym (starts_new number next ∙ eq-eqb number 0 z)

-- ---- a segment g with the octets o, at the slots t and the area
module _ (t : Slots) (g : Segment) (o area : List ℕ) where
  abbrev seg : Messages.Segment Key
  seg = segment_of g o

  abbrev box : Messages.Box Key
  box = Messages.boxed (view t) area

  -- what is answered and left is what the rules give: laid in slot s behind n octets; behind 54; its key open in slot s; its key not open
  abbrev Settled : ℕ → ℕ → Taken → List ℕ → Type 0
  Settled s n = Gives (Rules.settle keys seg s n box)

  abbrev Fitted : ℕ → ℕ → Taken → List ℕ → Type 0
  Fitted s n = Gives (Rules.fitted keys seg (some s) n box)

  abbrev Open : ℕ → Taken → List ℕ → Type 0
  Open s = Gives (Rules.rows keys seg (some s) (Messages.slot_at keys (view t) s) box)

  abbrev New : Taken → List ℕ → Type 0
  New = Gives (Rules.rows keys seg none (Messages.empty keys) box)

  -- laid in slot s behind n octets; k is the number after its own
  module _ (s n : ℕ) (u : Slots) (later : List ℕ) (a : later ≡ splice area (16384 * s + n) o) where
    pub settles_more : (k : ℕ) → g.mor ≡ true → k ≡ (g.number + 1) % 2 ^ 8
        → u.slots ≡ set t.slots s (record { used = true; key = g.key; next = k; choice = g.choice; held = n + length o })
        → Settled s n (record { answer = Held s (n + length o); slots = u }) later
    settles_more k m e d = gives_more t area g o s n u later m (rw (e ∙ sym (next_is g.number)) at d) a

    pub settles_last : g.mor ≡ false → u.slots ≡ set t.slots s free_slot
        → Settled s n (record { answer = Complete s (n + length o); slots = u }) later
    settles_last m d = gives_last t area g o s n u later m d a

  -- 54
  module _ (s n : ℕ) where
    pub fits_54 : {r : Taken} → 16384 < n + length o → Lost 54 t s r → Fitted s n r area
    fits_54 h w = gives_by (fitted_54 keys seg box (some s) n (lt-ltb 16384 (n + length o) h)) (gives_lost t area 54 s w)

    pub fits_on : {r : Taken} {later : List ℕ} → n + length o ≤ 16384 → Settled s n r later → Fitted s n r later
    fits_on h w = gives_by (fitted_on keys seg box (some s) n (le-ltb 16384 (n + length o) h)) w

  -- its key is open in slot s; b: whether it starts the message anew
  module _ (s : ℕ) (four : length t.slots ≡ 4) (inside : s < 4) (b : Bool) (e : b ≡ Rules.starts_at g.number true (get_or t.slots s blank).next) where
    abbrev here : Messages.Slot Key
    here = seen (get_or t.slots s blank)

    by_record : {d : Rules.Done Key} {r : Taken} {later : List ℕ} → Rules.rows keys seg (some s) here box ≡ d → Gives d r later → Open s r later
    by_record q w = gives_by (ap (λ (x : Messages.Slot Key). Rules.rows keys seg (some s) x box) (seen_at t s (omega arith)) ∙ q) w

    pub opens_anew : {r : Taken} {later : List ℕ} → b ≡ true → Fitted s 0 r later → Open s r later
    opens_anew q w = by_record (open_restart keys seg box s here (sym e ∙ q)) w

    module _ (q : b ≡ false) where
      pub opens_52 : {r : Taken} → (g.number ≡ here.next → ⊥) → Kept 52 t r → Open s r area
      opens_52 h w = by_record (open_52 keys seg box s here (sym e ∙ q) (ne_eqb g.number here.next h)) (gives_kept t area 52 w)

      module _ (h : g.number ≡ here.next) where
        pub opens_53 : {r : Taken} → (g.choice ≡ here.choice → ⊥) → Kept 53 t r → Open s r area
        opens_53 k w =
            by_record (open_53 keys seg box s here (sym e ∙ q) (eq-eqb g.number here.next h) (ne_eqb g.choice here.choice k))
            (gives_kept t area 53 w)

        pub opens_on : {r : Taken} {later : List ℕ} → g.choice ≡ here.choice → Fitted s here.held r later → Open s r later
        opens_on k w = by_record (open_on keys seg box s here (sym e ∙ q) (eq-eqb g.number here.next h) (eq-eqb g.choice here.choice k)) w

  -- its key is not open; b: whether it starts a message, f: the lowest free slot
  module _ (b : Bool) (e : b ≡ Rules.starts_at g.number false 0) where
    pub news_51 : {r : Taken} → not b ≡ true → Kept 51 t r → New r area
    news_51 n w = gives_by (new_51 keys seg box (sym e ∙ not-true b n)) (gives_kept t area 51 w)

    module _ (n : not b ≡ false) where
      pub news_54 : {r : Taken} → 16384 < length o → Kept 54 t r → New r area
      news_54 h w =
          gives_by (new_start keys seg box (sym e ∙ not-false b n) ∙ fitted_54 keys seg box none 0 (lt-ltb 16384 (0 + length o) (omega arith)))
          (gives_kept t area 54 w)

      module _ (h : length o ≤ 16384) (f : Found ℕ) (k : f ≡ found 0 (Messages.lowest (Messages.is_free keys) (view t))) where
        -- with octets that fit it goes to the lowest free slot
        to_free : {x : Option ℕ} → Messages.lowest (Messages.is_free keys) (view t) ≡ x
            → Rules.rows keys seg none (Messages.empty keys) box ≡ Rules.settled keys seg x 0 box
        to_free q =
            new_start keys seg box (sym e ∙ not-false b n)
            ∙ fitted_on keys seg box none 0 (le-ltb 16384 (0 + length o) (omega arith))
            ∙ ap (λ (x : Option ℕ). Rules.settled keys seg x 0 box) q

        pub news_settles : {r : Taken} {later : List ℕ} (s : ℕ) → f ≡ Some s → Settled s 0 r later → New r later
        news_settles s q w = gives_by (to_free (found_at _ s (sym k ∙ q))) w

        pub news_50 : {r : Taken} → f ≡ None → Kept 50 t r → New r area
        news_50 q w = gives_by (to_free (found_none 0 _ (sym k ∙ q))) (gives_kept t area 50 w)

  -- the whole call; f: the slot of its key. The area is lent on as an array, x; what stands behind it is nothing
  pub whole_left : length area ≡ 65536 → (later : List ℕ) → later ++ drop 65536 area ≡ later
  whole_left h later = rw (drop_of_length-le area {i = 65536} (omega arith)) (append-nil later)

  pub whole_lent : length area ≡ 65536 → {x : List ℕ} → IsFirstChunk area x 65536 → x ≡ area
  whole_lent h c = c.same ∙ ap (λ (n : ℕ). take n area) (sym h) ∙ take-length area

  pub takes_60 : {r : Taken} → (length area ≡ 65536 → ⊥) → Kept 60 t r → Gives (taking t g o area) r area
  takes_60 h w = gives_by (taking_60 t g o area h) (gives_kept t area 60 w)

  module _ (h : length area ≡ 65536) (f : Found ℕ) (k : f ≡ found 0 (Messages.slot_of keys g.key (view t))) where
    pub takes_open : {r : Taken} {later : List ℕ} (s : ℕ) → f ≡ Some s → Open s r later → Gives (taking t g o area) r later
    takes_open s q w = gives_by (taking_on t g o area h ∙ rebuild_open keys seg box s (found_at _ s (sym k ∙ q))) w

    pub takes_new : {r : Taken} {later : List ℕ} → f ≡ None → New r later → Gives (taking t g o area) r later
    takes_new q w = gives_by (taking_on t g o area h ∙ rebuild_new keys seg box (found_none 0 _ (sym k ∙ q))) w
