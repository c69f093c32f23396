-- What a tag at a place says of the records that are left from there on.
use Rattle.std.specs.Prelude.{Ok, Err}
use Prim.Native.Nat.{ℕ, ◌+◌, ◌-◌, ◌≤◌, ◌<◌}
use native.Mathlib.Omega.{arith}
use mathlib.Core.Path.{◌≡◌, refl, sym, ap, subst, ◌∙◌}
use mathlib.Core.List.{List, [], ◌∷◌, ◌++◌}
use mathlib.Core.Bool.{true, false}
use lib.ListN.{length}
use lib.Dec.{ltb, leb, eqb}
use borrow.Author.Tests.{lt-ltb, ltb-false, eqb-true, eqb-false, eq-eqb, ne_eqb, leb-true, leb-false}
use Rattle.octets.specs.Choice.{pick, both, pick_not, pick_so, by_test, both_true, impossible}
use Rattle.octets.specs.Reading.{oct, Octets}
use Rattle.octets.specs.Numbers.{value_at, long_form}
use Rattle.tags.specs.Types.{least, most}
use Rattle.tags.specs.Reading.{head_at}
use Rattle.tags.specs.Layout.{Thing, Valid, Good, tag_of}
use Rattle.tags.specs.Layout.Thing.{application, boolean, context, opening, closing}
use Rattle.tags.specs.Head.{Tag}
use Rattle.tags.specs.Head.Tag.{Item, Opening, Closing}
use Rattle.tags.proofs.Bounds.{TagIn, head_in}
use Rattle.tags.proofs.Exact.{head_sound}
use Rattle.items.specs.Records.{Rec, rec}
use Rattle.items.specs.Reading.{Out, items_of, more, step, item_at, end_of, within, most_items}
use Rattle.items.specs.Reading.Out.{good, bad}
use Rattle.items.specs.Left.{Left, Opens, AllDeep}
use Rattle.items.specs.Answers.{One}
use Rattle.items.specs.Listing.{ReadAs}
use Rattle.items.proofs.Left.{left_all, left_end, left_refused, left_closing, left_item, left_group}
use Rattle.items.proofs.Machine.{more_good}
use Rattle.items.proofs.Onward.{within_past}
use Rattle.items.proofs.Steps.{tag_in}
use Rattle.services.specs.Parts.{Answer, is, present, wanted, number_of, number_rule, after_group, group, last}
use Rattle.services.specs.Reading.{layout_for, read_service}
use Rattle.std.specs.declared.option.Option.{Option}
use Rattle.std.specs.declared.option.Option.TheVariants.{None, Some}
use Rattle.services.specs.Places.{found_in, Answers, Goes, Stops, Presence}
use Rattle.services.specs.declared.Service.{Service}
use Rattle.services.specs.declared.Span.{Span}

-- the first of the records that are left, or that there is none, is of another kind or number
abbrev Lacks : ℕ → ℕ → List Rec → Type 0
Lacks kind number [] = Unit {0}
Lacks kind number (r ∷ rest) = is kind number r ≡ false

-- contents stand at p
abbrev At : ℕ → ℕ → Option Span
At p l = Some (record { at = p; len = l })

-- which item was found
found_tag : (kind number p l : ℕ) (t : Tag) → found_in kind number t ≡ At p l → (v : ℕ) × (t ≡ Item kind number v p l)
unfolding found_in
found_tag kind number p l (Item k n v q m) e =
    let w = pick_so (both (eqb k kind) (eqb n number)) (At q m) None (At p l) (λ d. impossible (cc)) e in
    let b = both_true (eqb k kind) (eqb n number) w.0 in
    let x : k ≡ kind = eqb-true k kind b.0 in
    let y : n ≡ number = eqb-true n number b.1 in
    let g : ◌≡◌ {A = Span} (record { at = q; len = m }) (record { at = p; len = l }) = cc w.1 in
    let z : q ≡ p = ap (λ (c : Span). c.at) g in
    let u : m ≡ l = ap (λ (c : Span). c.len) g in
    (v, rw (x, y, z, u))
found_tag kind number p l (Opening n q) e = impossible (cc)
found_tag kind number p l (Closing n q) e = impossible (cc)
found_tag kind number p l (Tag.Refused x) e = impossible (cc)

both_false : (k n kind number d v p l : ℕ) → pick (both (eqb k kind) (eqb n number)) (At p l) None ≡ None → is kind number (rec k n d v p l) ≡ false
both_false k n kind number d v p l e = (pick_not (both (eqb k kind) (eqb n number)) (At p l) None None (λ d. impossible (cc)) e).0

-- no tag is refused where records are left, so a refused one stands at the end
nothing_left : (s : List ℕ) (at : ℕ) (rs : List Rec) → Left s at rs → (x : ℕ) → head_at s at ≡ Tag.Refused x → rs ≡ []
nothing_left s at rs w x e =
    by_test (leb (length s) at) (λ h. left_end s at rs w (leb-true (length s) at h)) (λ h. absurd (left_refused s at rs w (leb-false (length s) at h) x e))

lacks : (s : List ℕ) (at kind number : ℕ) → kind ≤ 1 → (t : Tag) → head_at s at ≡ t → found_in kind number t ≡ None → (rs : List Rec) → Left s at rs → Lacks kind number rs
unfolding found_in
lacks s at kind number small (Item k n v p l) e f rs w = let g = left_item s at rs w k n v p l e in rw g.1 (both_false k n kind number 0 v p l f)
lacks s at kind number small (Opening n p) e f rs w = let g = left_group s at rs w n p e in rw (g.own, ne_eqb 2 kind (omega arith))
lacks s at kind number small (Closing n p) e f rs w = absurd (left_closing s at rs w n p e)
lacks s at kind number small (Tag.Refused x) e f rs w = rw (nothing_left s at rs w x e) tt

-- the wanted item is missing
missing_is : (kind number : ℕ) (rule value : Rec → ℕ) (next : ℕ → List Rec → Answer) (rs : List Rec) → Lacks kind number rs → wanted kind number rule value next rs ≡ Err 40
unfolding wanted
missing_is kind number rule value next [] h = refl
missing_is kind number rule value next (r ∷ rest) h = rw h

pub missing : (s : List ℕ) (at kind number : ℕ) (rule value : Rec → ℕ) → kind ≤ 1 → found_in kind number (head_at s at) ≡ None → Stops s at (wanted kind number rule value) 40
missing s at kind number rule value small e next rs w = sym (missing_is kind number rule value next rs (lacks s at kind number small (head_at s at) refl e rs w))

pub absent : (s : List ℕ) (at number : ℕ) → found_in 1 number (head_at s at) ≡ None → Presence s at number false
unfolding present
absent s at number e rs w = go rs (lacks s at 1 number (omega arith) (head_at s at) refl e rs w)
  where
    go : (rs : List Rec) → Lacks 1 number rs → false ≡ present number rs
    go [] h = refl
    go (r ∷ rest) h = sym h

-- the wanted item stands at a place, its contents at p
module _ (s : List ℕ) (at kind number p l : ℕ) (e : found_in kind number (head_at s at) ≡ At p l) where
  pub found_in_lem : (at < p) × (p + l ≤ length s)
  found_in_lem = let f = found_tag kind number p l (head_at s at) e in let b : TagIn s at (Item kind number f.0 p l) = tag_in s at f.1 in (b.on, b.within)

  first_is : (rs : List Rec) → Left s at rs → (v : ℕ) × ((rest : List Rec) × (rs ≡ rec kind number 0 v p l ∷ rest) × Left s (p + l) rest)
  first_is rs w = let f = found_tag kind number p l (head_at s at) e in (f.0, left_item s at rs w kind number f.0 p l f.1)

  its_own : (v : ℕ) → is kind number (rec kind number 0 v p l) ≡ true
  its_own v = rw (eq-eqb kind kind refl, eq-eqb number number refl)

  module _ (rule : Rec → ℕ) where
    -- it keeps its rule
    pub taken : ((v : ℕ) → rule (rec kind number 0 v p l) ≡ 0) → (x : ℕ) → x ≡ value_at s p l → Goes s at (wanted kind number rule (number_of s)) x (p + l)
    unfolding wanted
    taken kept x e next r h rs w = let f = first_is rs w in rw (f.1.1, its_own f.0, kept f.0, ← e) (h f.1.0 f.1.2)

    -- it breaks its rule
    pub broken : (x : ℕ) → 0 < x → ((v : ℕ) → rule (rec kind number 0 v p l) ≡ x) → Stops s at (wanted kind number rule (number_of s)) x
    unfolding wanted
    broken x some breaks next rs w = let f = first_is rs w in rw (f.1.1, its_own f.0, breaks f.0, lt-ltb 0 x some)

pub here : (s : List ℕ) (at number p l : ℕ) → found_in 1 number (head_at s at) ≡ At p l → Presence s at number true
unfolding present
here s at number p l e rs w = let f = first_is s at 1 number p l e rs w in rw (f.1.1, its_own s at 1 number p l e f.0)

-- what a number keeps that breaks no rule
pub record Kept (s : List ℕ) (low high p l : ℕ) : Type 0 where
  pub some : 1 ≤ l
  pub four : l ≤ 4
  pub short : long_form (oct s p) l ≡ false
  pub least : low ≤ value_at s p l
  pub most : value_at s p l ≤ high

pub number_kept : (s : List ℕ) (low high : ℕ) (r : Rec) → number_rule s low high r ≡ 0 → Kept s low high r.place r.len
unfolding number_rule
number_kept s low high r e =
    let no : ◌≡◌ {A = ℕ} 41 0 → ⊥ = λ d. omega arith in
    let a = pick_not (eqb r.len 0) 41 _ 0 no e in
    let b = pick_not (ltb 4 r.len) 41 _ 0 no a.1 in
    let c = pick_not (long_form (oct s r.place) r.len) 41 _ 0 no b.1 in
    let d = pick_not (ltb (number_of s r) low) 41 _ 0 no c.1 in
    let f = pick_not (ltb high (number_of s r)) 41 0 0 no d.1 in
    record {
      some = omega (arith, eqb-false r.len 0 a.0);
      four = ltb-false 4 r.len b.0;
      short = c.0;
      least = ltb-false (number_of s r) low d.0;
      most = ltb-false high (number_of s r) f.0;
    }

-- the rule looks at the contents alone
pub number_bare : (s : List ℕ) (low high k n d v p l : ℕ) → number_rule s low high (rec k n d v p l) ≡ number_rule s low high (rec 0 0 0 0 p l)
unfolding number_rule
number_bare s low high k n d v p l = refl

-- an application object has four octets
four_of : (at v p l : ℕ) (t : Thing) → Valid t → tag_of at t ≡ Item 0 12 v p l → l ≡ 4
unfolding tag_of least most
four_of at v p l (application n xs) a e =
    let x : n ≡ 12 = cc in
    let y : length xs ≡ l = cc in
    let low : 4 ≤ length xs = rw x at a.low in
    let high : length xs ≤ 4 = rw x at a.high in
    omega arith
four_of at v p l (boolean b) a e = let z : ◌≡◌ {A = ℕ} 1 12 = cc in absurd (omega arith)
four_of at v p l (context n xs) a e = let z : ◌≡◌ {A = ℕ} 1 0 = cc in absurd (omega arith)
four_of at v p l (opening n) a e = impossible (cc)
four_of at v p l (closing n) a e = impossible (cc)

pub object_four : (s : List ℕ) → Octets s → (at p l : ℕ) → found_in 0 12 (head_at s at) ≡ At p l → l ≡ 4
object_four s os at p l e =
    let f = found_tag 0 12 p l (head_at s at) e in
    let h = head_sound s os at (subst Good (sym f.1) tt) in
    four_of at f.0 p l h.0 h.1 (sym h.3 ∙ f.1)

-- what is left where an item begins is not nothing
some_left : (s : List ℕ) (at : ℕ) (rs : List Rec) → Left s at rs → at < length s → (t : Tag) → head_at s at ≡ t → (r : Rec) × ((rest : List Rec) × (rs ≡ r ∷ rest))
some_left s at rs w h (Item k n v p l) e = let g = left_item s at rs w k n v p l e in (rec k n 0 v p l, (g.0, g.1))
some_left s at rs w h (Opening n p) e = let g = left_group s at rs w n p e in (rec 2 n 0 0 p 0, (g.others, g.own))
some_left s at rs w h (Closing n p) e = absurd (left_closing s at rs w n p e)
some_left s at rs w h (Tag.Refused x) e = absurd (left_refused s at rs w h x e)

pub last_more : (s : List ℕ) (at : ℕ) (v : Service) → at < length s → Answers s at (last v) (Err 42)
unfolding last
last_more s at v h rs w = let g = some_left s at rs w h (head_at s at) refl in rw g.1.1

pub last_end : (s : List ℕ) (at : ℕ) (v : Service) → length s ≤ at → Answers s at (last v) (Ok v)
unfolding last
last_end s at v h rs w = rw (left_end s at rs w h)

-- another item than the opening of the group
abbrev pub Other : ℕ → Tag → Type 0
Other number (Item k n v p l) = Unit {0}
Other number (Opening n p) = n ≡ number → ⊥
Other number (Closing n p) = Unit {0}
Other number (Tag.Refused x) = Unit {0}

pub no_group : (s : List ℕ) (at number : ℕ) (t : Tag) → head_at s at ≡ t → Other number t → Stops s at (group number) 40
unfolding group
no_group s at number (Item k n v p l) e o next rs w =
    let b : TagIn s at (Item k n v p l) = tag_in s at e in
    let g = left_item s at rs w k n v p l e in
    rw (g.1, ne_eqb k 2 (omega (arith, b.class)))
no_group s at number (Opening n p) e o next rs w = let g = left_group s at rs w n p e in rw (g.own, ne_eqb n number o)
no_group s at number (Closing n p) e o next rs w = absurd (left_closing s at rs w n p e)
no_group s at number (Tag.Refused x) e o next rs w = rw (nothing_left s at rs w x e)

-- past the records of a group to its closing
past_deep : (next : ℕ → List Rec → Answer) (inner : List Rec) → AllDeep inner → (n to : ℕ) (rest : List Rec) → after_group next (inner ++ (rec 3 n 0 0 to 0 ∷ rest)) ≡ next to rest
unfolding after_group
past_deep next [] h n to rest = refl
past_deep next (r ∷ inner) h n to rest =
    by_test (eqb r.kind 3)
    (λ k. rw (k, ne_eqb r.depth 0 (omega (arith, h.0))) (past_deep next inner h.1 n to rest))
    (λ k. rw k (past_deep next inner h.1 n to rest))

-- the place after a group
ended : (o : Out) (to : ℕ) → One.Next to ≡ end_of o → (rs : List Rec) × (o ≡ good rs to)
unfolding end_of
ended (good rs end) to e = (rs, (let z : to ≡ end = cc in rw z))
ended (bad x) to e = impossible (cc)

pub group_on : (s : List ℕ) (at n p to : ℕ) → head_at s at ≡ Opening n p → One.Next to ≡ end_of (item_at s at) → p < to
unfolding item_at step
group_on s at n p to e f =
    let g = ended (item_at s at) to f in
    let h : item_at s at ≡ more (rec 2 n 0 0 p 0 ∷ []) (within (most_items - 1) s p (n ∷ [])) = rw e in
    let m = more_good (rec 2 n 0 0 p 0) (within (most_items - 1) s p (n ∷ [])) g.0 to (sym h ∙ g.1) in
    let b : TagIn s at (Opening n p) = subst (TagIn s at) e (head_in s at) in
    (within_past s (most_items - 1) p (n ∷ []) m.0 to b.within m.1).0

end_is : (s : List ℕ) (at n p : ℕ) (rs : List Rec) → (o : Opens s at n p rs) → end_of (item_at s at) ≡ One.Next o.closes.to
unfolding end_of
end_is s at n p rs o = rw o.item

module _ (s : List ℕ) (at n p number : ℕ) (e : head_at s at ≡ Opening n p) (own : n ≡ number) where
  pub group_goes : (to : ℕ) → One.Next to ≡ end_of (item_at s at) → Goes s at (group number) (record { at = p; len = to - 1 - p }) to
  unfolding group
  group_goes to f next r h rs w =
      let o = left_group s at rs w n p e in
      let c = o.closes in
      let z : to ≡ c.to = (let q : One.Next to ≡ One.Next c.to = f ∙ end_is s at n p rs o in cc q) in
      rw (o.own, eq-eqb n number own, c.all, past_deep (λ end rs. next (record { at = p; len = end - 1 - p }) rs) c.inner c.deep n c.to c.rest)
      (subst (λ (x : ℕ). Answers s x (next (record { at = p; len = x - 1 - p })) r) z h c.rest c.left)

  -- the group was read whole before
  pub group_stops : (x : ℕ) → One.Refused x ≡ end_of (item_at s at) → Stops s at (group number) x
  group_stops x f next rs w =
      let o = left_group s at rs w n p e in
      let q : One.Refused x ≡ One.Next o.closes.to = f ∙ end_is s at n p rs o in
      let z : ◌≡◌ {A = ℕ} 0 1 = cc q in
      absurd (omega arith)

-- the whole reading
module _ (kind choice : ℕ) (s : List ℕ) where
  pub read_good : (n : ℕ) → ReadAs s n → (r : Answer) → Answers s 0 (layout_for kind choice s) r → r ≡ read_service kind choice s
  unfolding read_service
  read_good n (rs, end, e, k) r h = rw e (h rs (left_all s rs end e))

  pub read_bad : (x : ℕ) → items_of s ≡ bad x → Err x ≡ read_service kind choice s
  unfolding read_service
  read_bad x e = rw e
