-- The ways through the functions of the reading: what each promises, from what the calls in it promise and the tests that it took.
use Prim.Native.Nat.{ℕ, ◌+◌, ◌-◌, ◌/◌, ◌^◌, ◌≤◌, ◌<◌}
use native.Mathlib.Omega.{arith}
use mathlib.Core.Path.{◌≡◌, refl, sym, ap, subst, ◌∙◌}
use mathlib.Core.Logic.{◌⊎◌, inl, inr}
use mathlib.Core.List.{List}
use mathlib.Core.Bool.{Bool, true, false}
use lib.ListN.{length}
use lib.Dec.{ltb}
use mir.Syntax.{Width, w8, w64}
use mir.Val.{Fits, bits}
use borrow.Author.Tests.{lt-ltb, le-ltb, ltb-true, eq-eqb, ne_eqb}
use Rattle.octets.specs.Reading.{oct}
use Rattle.octets.specs.declared.refusal.Refusal.{Refusal}
use Rattle.octets.specs.Refusal as reason
use Rattle.octets.specs.Refusal.{number_some}
use Rattle.octets.specs.Numbers.{value_at, long_form}
use Rattle.tags.specs.Reading.{head_at}
use Rattle.tags.specs.Head.{Tag, kind_of, seen_as, tag_of}
use Rattle.tags.specs.declared.Class.{Class}
use Rattle.tags.specs.declared.Tag as tag
use Rattle.tags.specs.Head.Tag.{Item, Opening, Closing}
use Rattle.items.specs.Records.{Rec, rec}
use Rattle.items.specs.Reading.{item_at, end_of}
use Rattle.items.specs.Listing.{Listed}
use Rattle.items.specs.Left.{Left}
use Rattle.items.specs.Answers.{One}
use Rattle.items.specs.Answers.{tally_of}
use Rattle.items.specs.declared.Unlisted as unlisted
use Rattle.items.proofs.Cases.{items_say, small_says, refused_says}
use Rattle.services.specs.Parts.{Answer, Then, wanted, number_of, number_rule, object_rule, context_number, optional_number, group, last}
use Rattle.services.specs.Reading.{target_parts, read_property, read_property_ack, write_property, who_is, device_rule, i_am, error_of, layout_for, read_service}
use Rattle.std.specs.Prelude.{Result, Ok, Err, is_some}
use Rattle.std.specs.Option.{unwrap_or}
use Rattle.std.specs.declared.option.Option.{Option}
use Rattle.std.specs.declared.option.Option.TheVariants.{None, Some}
use Rattle.services.specs.Places.{found_in, Answers, Goes, Stops, Presence, optional_part, limits_part, Topped, OptionalTopped}
use Rattle.services.specs.declared.Service.TheVariants.{WhoIs}
use Rattle.services.specs.declared.Target.{Target}
use Rattle.services.specs.declared.Span.{Span}
use Rattle.services.proofs.Places

-- ---- one part after another: where these records are left, a part is read and the reading goes on, or it refuses
module _ (s : List ℕ) (at : ℕ) (rs : List Rec) (w : Left s at rs) where
  module _ (kind number : ℕ) (rule value : Rec → ℕ) (next : Then) where
    pub reads_item : (v to : ℕ) → Goes s at (wanted kind number rule value) v to → (r : Answer) → Answers s to (next v) r → r ≡ wanted kind number rule value next rs
    reads_item v to goes r h = goes next r h rs w

    pub stops_item : (x : ℕ) → Stops s at (wanted kind number rule value) x → Err x ≡ wanted kind number rule value next rs
    stops_item x stops = stops next rs w

  module _ (number low high : ℕ) (next : Bool → ℕ → List Rec → Answer) where
    pub reads_number : (i : Option ℕ) (to : ℕ) → Goes s at (optional_part s number low high) i to → (b : Bool) → b ≡ is_some i → (v : ℕ) → v ≡ unwrap_or i 0
        → (r : Answer) → Answers s to (next b v) r → r ≡ optional_number s number low high next rs
    unfolding optional_number
    reads_number i to goes b e v f r h = goes (λ i. next (is_some i) (unwrap_or i 0)) r (rw (← e, ← f) h) rs w

    pub stops_number : (x : ℕ) → Stops s at (optional_part s number low high) x → Err x ≡ optional_number s number low high next rs
    unfolding optional_number
    stops_number x stops = stops (λ i. next (is_some i) (unwrap_or i 0)) rs w

  module _ (next : Target → List Rec → Answer) where
    pub reads_target : (t : Target) (to : ℕ) → Goes s at (target_parts s) t to → (r : Answer) → Answers s to (next t) r → r ≡ target_parts s next rs
    reads_target t to goes r h = goes next r h rs w

    pub stops_target : (x : ℕ) → Stops s at (target_parts s) x → Err x ≡ target_parts s next rs
    stops_target x stops = stops next rs w

  module _ (number : ℕ) (next : Span → List Rec → Answer) where
    pub reads_group : (v : Span) (to : ℕ) → Goes s at (group number) v to → (r : Answer) → Answers s to (next v) r → r ≡ group number next rs
    reads_group v to goes r h = goes next r h rs w

    pub stops_group : (x : ℕ) → Stops s at (group number) x → Err x ≡ group number next rs
    stops_group x stops = stops next rs w

pub ruleset in_turn = (reads_item, stops_item, reads_number, stops_number, reads_target, stops_target, reads_group, stops_group)

-- a number that was read fits where the top of its range does
pub small_part : (b : Width) (v to : ℕ) (q : Result (ℕ × ℕ) ℕ) → q ≡ Ok (v, to) → (high : ℕ) → Topped high q → ltb high (2 ^ bits b) ≡ true → Fits b v
small_part b v to q e high h l = let k : v ≤ high = subst (Topped high) e h in record { fits = omega (arith, k, ltb-true high (2 ^ bits b) l) }

pub small_number : (b : Width) (i : Option ℕ) (to : ℕ) (q : Result (Option ℕ × ℕ) ℕ) → q ≡ Ok (i, to) → (high : ℕ) → OptionalTopped high q
    → ltb high (2 ^ bits b) ≡ true → Fits b (unwrap_or i 0)
small_number b (Some v) to q e high h l = let k : v ≤ high = subst (OptionalTopped high) e h in record { fits = omega (arith, k, ltb-true high (2 ^ bits b) l) }
small_number b None to q e high h l = record { fits = omega (arith, ltb-true high (2 ^ bits b) l) }

-- ---- the wanted item, t being the head at the place
module _ (s : List ℕ) (at kind number : ℕ) (t : tag.Tag) (e : seen_as t ≡ head_at s at) (k : Class) (n v p l : ℕ) (q : t ≡ tag.TheVariants.Item k n v p l) (c : ℕ) (d : c ≡ kind_of k) where
  pub found_kind : (c ≡ kind → ⊥) → None ≡ found_in kind number (head_at s at)
  unfolding found_in
  found_kind h = rw (← e, q, ← d, ne_eqb c kind h)

  pub found_number : c ≡ kind → (n ≡ number → ⊥) → None ≡ found_in kind number (head_at s at)
  unfolding found_in
  found_number f h = rw (← e, q, ← d, eq-eqb c kind f, ne_eqb n number h)

  pub found_item : c ≡ kind → n ≡ number → Some (record { at = p; len = l }) ≡ found_in kind number (head_at s at)
  unfolding found_in
  found_item f h = rw (← e, q, ← d, eq-eqb c kind f, eq-eqb n number h)

-- another tag than an item's, and none
pub found_none : (kind number : ℕ) (t : tag.Tag) → ((k : Class) (n v p l : ℕ) → t ≡ tag.TheVariants.Item k n v p l → ⊥) → None ≡ found_in kind number (seen_as t)
unfolding found_in
found_none kind number (tag.TheVariants.Item k n v p l) h = absurd (h k n v p l refl)
found_none kind number (tag.TheVariants.Opening n p) h = refl
found_none kind number (tag.TheVariants.Closing n p) h = refl

pub found_refused : (kind number : ℕ) (t : Result tag.Tag Refusal) → ((u : tag.Tag) → t ≡ Ok u → ⊥) → None ≡ found_in kind number (tag_of t)
unfolding found_in
found_refused kind number (Ok u) h = absurd (h u refl)
found_refused kind number (Err x) h = refl

-- ---- what a number breaks, test by test
module _ (s : List ℕ) (low high p l : ℕ) (some : l ≡ 0 → ⊥) (four : l ≤ 4) (b : Bool) (e : b ≡ long_form (oct s p) l) where
  pub rule_long : b ≡ true → 41 ≡ number_rule s low high (rec 0 0 0 0 p l)
  unfolding number_rule
  rule_long h = rw (ne_eqb l 0 some, le-ltb 4 l four, ← e, h)

  module _ (h : b ≡ false) (v : ℕ) (f : v ≡ value_at s p l) where
    pub rule_low : v < low → 41 ≡ number_rule s low high (rec 0 0 0 0 p l)
    unfolding number_rule
    rule_low a = rw (ne_eqb l 0 some, le-ltb 4 l four, ← e, h, ← f, lt-ltb v low a)

    pub rule_high : low ≤ v → high < v → 41 ≡ number_rule s low high (rec 0 0 0 0 p l)
    unfolding number_rule
    rule_high a c = rw (ne_eqb l 0 some, le-ltb 4 l four, ← e, h, ← f, le-ltb v low a, lt-ltb high v c)

    pub rule_none : low ≤ v → v ≤ high → 0 ≡ number_rule s low high (rec 0 0 0 0 p l)
    unfolding number_rule
    rule_none a c = rw (ne_eqb l 0 some, le-ltb 4 l four, ← e, h, ← f, le-ltb v low a, le-ltb high v c)

pub ruleset number_rules = (rule_long, rule_low, rule_high, rule_none)

-- a number that breaks no rule
module _ (s : List ℕ) (low high p l : ℕ) (k : 0 ≡ number_rule s low high (rec 0 0 0 0 p l)) where
  pub number_four : l ≤ 4
  number_four = (Places.number_kept s low high (rec 0 0 0 0 p l) (sym k)).four

  pub number_most : (v : ℕ) → v ≡ value_at s p l → v ≤ high
  number_most v e = rw e (Places.number_kept s low high (rec 0 0 0 0 p l) (sym k)).most

-- ---- the wanted item as a number, an object and a device, w being what was found
module _ (s : List ℕ) (at kind number : ℕ) (w : Option Span) (e : w ≡ found_in kind number (head_at s at)) where
  pub item_missing : w ≡ None → kind ≤ 1 → (rule value : Rec → ℕ) → Stops s at (wanted kind number rule value) 40
  item_missing q small rule value = Places.missing s at kind number rule value small (sym e ∙ q)

  module _ (c : Span) (q : w ≡ Some c) where
    pub item_within : c.at + c.len ≤ length s
    item_within = (Places.found_in_lem s at kind number c.at c.len (sym e ∙ q)).1

    pub item_fits : length s < 2 ^ 64 → Fits w64 (c.at + c.len)
    item_fits h = record { fits = omega (arith, item_within) }

    module _ (low high : ℕ) where
      pub number_breaks : (x : Refusal) → reason.number_of x ≡ number_rule s low high (rec 0 0 0 0 c.at c.len) → Stops s at (wanted kind number (number_rule s low high) (number_of s)) (reason.number_of x)
      number_breaks x k =
          Places.broken s at kind number c.at c.len (sym e ∙ q) (number_rule s low high) (reason.number_of x) (number_some x) (λ v. Places.number_bare s low high kind number 0 v c.at c.len ∙ sym k)

      pub number_keeps : 0 ≡ number_rule s low high (rec 0 0 0 0 c.at c.len) → (v : ℕ) → v ≡ value_at s c.at c.len
          → Goes s at (wanted kind number (number_rule s low high) (number_of s)) v (c.at + c.len)
      number_keeps k v f =
          Places.taken s at kind number c.at c.len (sym e ∙ q) (number_rule s low high) (λ v. Places.number_bare s low high kind number 0 v c.at c.len ∙ sym k) v f

    pub object_breaks : (c.len ≡ 4 → ⊥) → Stops s at (wanted kind number object_rule (number_of s)) 41
    unfolding object_rule
    object_breaks h = Places.broken s at kind number c.at c.len (sym e ∙ q) object_rule 41 (omega arith) (λ v. rw (ne_eqb c.len 4 h))

    pub object_keeps : c.len ≡ 4 → (v : ℕ) → v ≡ value_at s c.at c.len → Goes s at (wanted kind number object_rule (number_of s)) v (c.at + c.len)
    unfolding object_rule
    object_keeps h v f = Places.taken s at kind number c.at c.len (sym e ∙ q) object_rule (λ v. rw (eq-eqb c.len 4 h)) v f

    module _ (v : ℕ) (f : v ≡ value_at s c.at c.len) where
      pub device_breaks : (v / 4194304 ≡ 8 → ⊥) → Stops s at (wanted kind number (device_rule s) (number_of s)) 41
      unfolding device_rule
      device_breaks h = Places.broken s at kind number c.at c.len (sym e ∙ q) (device_rule s) 41 (omega arith) (λ u. rw (← f, ne_eqb (v / 4194304) 8 h))

      pub device_keeps : v / 4194304 ≡ 8 → Goes s at (wanted kind number (device_rule s) (number_of s)) v (c.at + c.len)
      unfolding device_rule
      device_keeps h = Places.taken s at kind number c.at c.len (sym e ∙ q) (device_rule s) (λ u. rw (← f, eq-eqb (v / 4194304) 8 h)) v f

-- the octets are below 256, as a lent slice says it
pub device_four : (s : List ℕ) (at : ℕ) (c : Span) (w : Option Span) → w ≡ Some c → w ≡ found_in 0 12 (head_at s at) → ((i : ℕ) → Fits w8 (oct s i)) → c.len ≤ 4
device_four s at c w q e os = omega (arith, Places.object_four s (λ i. (os i).fits) at c.at c.len (sym e ∙ q))

-- whether an optional number is there
pub presents : (s : List ℕ) (at number : ℕ) (w : Option Span) → w ≡ found_in 1 number (head_at s at) → Presence s at number (is_some w)
presents s at number None e = Places.absent s at number (sym e)
presents s at number (Some c) e = Places.here s at number c.at c.len (sym e)

-- an optional number, b being whether it is there
module _ (s : List ℕ) (at number low high : ℕ) (next : Bool → ℕ → List Rec → Answer) (b : Bool) where
  pub option_none : b ≡ false → Presence s at number b → (r : Answer) → Answers s at (next false 0) r → Answers s at (optional_number s number low high next) r
  unfolding optional_number
  option_none e here r h rs w = rw (← here rs w, e) (h rs w)

  module _ (e : b ≡ true) (here : Presence s at number b) where
    pub option_is : (v to : ℕ) → Goes s at (context_number s number low high) v to → (r : Answer) → Answers s to (next true v) r → Answers s at (optional_number s number low high next) r
    unfolding optional_number
    option_is v to goes r h rs w = rw (← here rs w, e) (goes (next true) r h rs w)

    pub option_not : (x : ℕ) → Stops s at (context_number s number low high) x → Answers s at (optional_number s number low high next) (Err x)
    unfolding optional_number
    option_not x stops rs w = rw (← here rs w, e) (stops (next true) rs w)

pub ruleset options = (option_is, option_not, option_none)

-- ---- a group, t being the head at the place
pub group_refused : (s : List ℕ) (at number : ℕ) (t : Result tag.Tag Refusal) → tag_of t ≡ head_at s at → ((u : tag.Tag) → t ≡ Ok u → ⊥) → Stops s at (group number) 40
group_refused s at number (Ok u) e h = absurd (h u refl)
group_refused s at number (Err x) e h = Places.no_group s at number (Tag.Refused (reason.number_of x)) (sym e) tt

pub group_none : (s : List ℕ) (at number : ℕ) (t : tag.Tag) → seen_as t ≡ head_at s at → ((n p : ℕ) → t ≡ tag.TheVariants.Opening n p → ⊥) → Stops s at (group number) 40
group_none s at number (tag.TheVariants.Item k n v p l) e h = Places.no_group s at number (Item (kind_of k) n v p l) (sym e) tt
group_none s at number (tag.TheVariants.Opening n p) e h = absurd (h n p refl)
group_none s at number (tag.TheVariants.Closing n p) e h = Places.no_group s at number (Closing n p) (sym e) tt

module _ (s : List ℕ) (at : ℕ) (t : tag.Tag) (e : seen_as t ≡ head_at s at) (n p : ℕ) (q : t ≡ tag.TheVariants.Opening n p) where
  here_opens : head_at s at ≡ Opening n p
  here_opens = sym e ∙ ap seen_as q

  pub group_another : (number : ℕ) → (n ≡ number → ⊥) → Stops s at (group number) 40
  group_another number h = Places.no_group s at number (Opening n p) here_opens h

  module _ (to : ℕ) (f : One.Next to ≡ end_of (item_at s at)) where
    pub group_some : 1 ≤ to
    group_some = omega (arith, Places.group_on s at n p to here_opens f)

    pub group_room : p ≤ to - 1
    group_room = omega (arith, Places.group_on s at n p to here_opens f)

    pub group_read : (number : ℕ) → n ≡ number → Goes s at (group number) (record { at = p; len = to - 1 - p }) to
    group_read number own = Places.group_goes s at n p number here_opens own to f

  pub group_cut : (x : ℕ) → One.Refused x ≡ end_of (item_at s at) → (number : ℕ) → n ≡ number → Stops s at (group number) x
  group_cut x f number own = Places.group_stops s at n p number here_opens own x f

pub ruleset groups = (group_another, group_read, group_cut)

-- ---- the layouts by kind and choice
module _ (s : List ℕ) where
  pub who_limited : (b : Bool) → b ≡ true → Presence s 0 0 b → (r : Answer) → Answers s 0 (limits_part s) r → Answers s 0 (who_is s) r
  unfolding who_is
  who_limited b e here r h rs w = rw (← here rs w, e) (h rs w)

  pub who_any : (b : Bool) → b ≡ false → Presence s 0 0 b → (r : Answer) → Answers s 0 (last (WhoIs (record { limited = false; low = 0; high = 0 }))) r
      → Answers s 0 (who_is s) r
  unfolding who_is
  who_any b e here r h rs w = rw (← here rs w, e) (h rs w)

  module _ (kind choice : ℕ) where
    pub layout_read : kind ≡ 0 → choice ≡ 12 → (r : Answer) → Answers s 0 (read_property s) r → Answers s 0 (layout_for kind choice s) r
    unfolding layout_for
    layout_read e f r h rs w = rw (e, f) (h rs w)

    pub layout_ack : kind ≡ 3 → choice ≡ 12 → (r : Answer) → Answers s 0 (read_property_ack s) r → Answers s 0 (layout_for kind choice s) r
    unfolding layout_for
    layout_ack e f r h rs w = rw (e, f) (h rs w)

    pub layout_write : kind ≡ 0 → choice ≡ 15 → (r : Answer) → Answers s 0 (write_property s) r → Answers s 0 (layout_for kind choice s) r
    unfolding layout_for
    layout_write e f r h rs w = rw (e, f) (h rs w)

    pub layout_who : kind ≡ 1 → choice ≡ 8 → (r : Answer) → Answers s 0 (who_is s) r → Answers s 0 (layout_for kind choice s) r
    unfolding layout_for
    layout_who e f r h rs w = rw (e, f) (h rs w)

    pub layout_am : kind ≡ 1 → choice ≡ 0 → (r : Answer) → Answers s 0 (i_am s) r → Answers s 0 (layout_for kind choice s) r
    unfolding layout_for
    layout_am e f r h rs w = rw (e, f) (h rs w)

    pub layout_error : kind ≡ 5 → (choice ≡ 12) ⊎ (choice ≡ 15) → (r : Answer) → Answers s 0 (error_of s) r → Answers s 0 (layout_for kind choice s) r
    unfolding layout_for
    layout_error e (inl f) r h rs w = rw (e, f) (h rs w)
    layout_error e (inr f) r h rs w = rw (e, f) (h rs w)

    pub none_confirmed : kind ≡ 0 → (choice ≡ 12 → ⊥) → (choice ≡ 15 → ⊥) → Answers s 0 (layout_for kind choice s) (Err 43)
    unfolding layout_for
    none_confirmed e a b rs w = rw (e, ne_eqb choice 12 a, ne_eqb choice 15 b)

    pub none_unconfirmed : kind ≡ 1 → (choice ≡ 8 → ⊥) → (choice ≡ 0 → ⊥) → Answers s 0 (layout_for kind choice s) (Err 43)
    unfolding layout_for
    none_unconfirmed e a b rs w = rw (e, ne_eqb choice 8 a, ne_eqb choice 0 b)

    pub none_ack : kind ≡ 3 → (choice ≡ 12 → ⊥) → Answers s 0 (layout_for kind choice s) (Err 43)
    unfolding layout_for
    none_ack e a rs w = rw (e, ne_eqb choice 12 a)

    pub none_error : kind ≡ 5 → (choice ≡ 12 → ⊥) → (choice ≡ 15 → ⊥) → Answers s 0 (layout_for kind choice s) (Err 43)
    unfolding layout_for
    none_error e a b rs w = rw (e, ne_eqb choice 12 a, ne_eqb choice 15 b)

    pub none_kind : (kind ≡ 0 → ⊥) → (kind ≡ 1 → ⊥) → (kind ≡ 3 → ⊥) → (kind ≡ 5 → ⊥) → Answers s 0 (layout_for kind choice s) (Err 43)
    unfolding layout_for
    none_kind a b c d rs w = rw (ne_eqb kind 0 a, ne_eqb kind 1 b, ne_eqb kind 3 c, ne_eqb kind 5 d)

    -- the whole reading, x being the answer of listing the items, whatever it was lent: 61 is taken as good
    module _ (area later : List ℕ) (x : Result ℕ unlisted.Unlisted) (w : Listed s area (tally_of x) later) where
      pub read_listed : (n : ℕ) → x ≡ Ok n → (r : Answer) → Answers s 0 (layout_for kind choice s) r → r ≡ read_service kind choice s
      read_listed n q r h = Places.read_good kind choice s n (items_say s area later (tally_of x) w (ap tally_of q)).0 r h

      module _ (u : unlisted.Unlisted) (e : x ≡ Err u) where
        pub read_small : (n : ℕ) → u ≡ unlisted.TheVariants.Small n → (r : Answer) → Answers s 0 (layout_for kind choice s) r → r ≡ read_service kind choice s
        read_small n q r h = Places.read_good kind choice s n (small_says s area later (tally_of x) w (rw (e, q))).0 r h

        pub read_not : (y : Refusal) → u ≡ unlisted.TheVariants.Refused y → Err (reason.number_of y) ≡ read_service kind choice s
        read_not y q = Places.read_bad kind choice s (reason.number_of y) (refused_says s area later (tally_of x) w (rw (e, q)))

pub ruleset layout_rows = (layout_read, layout_ack, layout_write, layout_who, layout_am, layout_error, none_confirmed, none_unconfirmed, none_ack, none_error, none_kind)
