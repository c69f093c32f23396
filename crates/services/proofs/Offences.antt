-- The numbers of items that parts are wanted of, part by part: what the first part, there, absent, missing or broken, makes of the offence behind it.
use Rattle.std.specs.Prelude.{Ok, Err}
use Prim.Native.Nat.{ℕ}
use mathlib.Core.Path.{◌≡◌, refl, sym, ap, subst, ◌∙◌}
use mathlib.Core.Logic.{◌⊎◌, inl, inr, ⊎_elim}
use mathlib.Core.List.{List, [], ◌∷◌, ◌++◌}
use Rattle.octets.specs.Choice.{impossible}
use Rattle.tags.specs.Layout.{Thing}
use Rattle.services.specs.Parts.{Answer}
use Rattle.services.specs.Rows.{Breaks, Keeps, Wanted, item_of, rule_of, Comes, Optional, Behind, brings, Taken, Takes, Offence}
use Rattle.services.specs.Rows.Breaks.{wrong_length, longer_form, out_of_range}
use Rattle.services.specs.Rows.Wanted.{in_context, of_type, group, optional, limits}
use Rattle.services.specs.Rows.Taken.{there, absent}
use Rattle.services.specs.Rows.Takes.{so_far, one_more}
use Rattle.services.specs.Rows.Offence.{missing, broken, after_last}
use Rattle.services.specs.declared.Service.{Service}

-- behind a front that is good so far there is an offence of this number
abbrev pub Refuses : ℕ → List Wanted → List Thing → Type 0
Refuses x ws ts = (ws' : List Wanted) × ((ts' : List Thing) × Takes ws ts ws' ts' × Offence x ws' ts')

-- an answer refuses with exactly the numbers that there are offences of
pub record Says (ws : List Wanted) (ts : List Thing) (a : Answer) : Type 0 where
  pub sound : (x : ℕ) → a ≡ Err x → Refuses x ws ts
  pub complete : (x : ℕ) → Refuses x ws ts → a ≡ Err x

-- the offence is the first part's, or that part was taken and it stands further on
record Further (x : ℕ) (w : Wanted) (ws : List Wanted) (ts : List Thing) : Type 0 where
  more : List Wanted
  left : List Thing
  taken : Taken w ts more left
  later : Refuses x (more ++ ws) left

first : {w : Wanted} {ws ws' : List Wanted} {ts ts' : List Thing} (x : ℕ) → Takes (w ∷ ws) ts ws' ts' → Offence x ws' ts' → Offence x (w ∷ ws) ts ⊎ Further x w ws ts
first x so_far f = inl f
first x (one_more {more = more} {ws' = ws'} {left = left} {ts' = ts'} t u) f = inr (record { more = more; left = left; taken = t; later = (ws', (ts', u, f)) })

-- a refusal's number
same_number : {x y : ℕ} → ◌≡◌ {A = Answer} (Err x) (Err y) → x ≡ y
same_number e = cc

-- one item of a part has one list of contents: they keep the rule or break it, and bring one list of parts
not_both : (w : Wanted) (xs ys : List ℕ) → item_of w xs ≡ item_of w ys → Breaks (rule_of w) xs → Keeps (rule_of w) ys → ⊥
not_both (in_context n r) xs ys e b k = let z : xs ≡ ys = cc in k (subst (Breaks r) z b)
not_both (of_type n r) xs ys e b k = let z : xs ≡ ys = cc in k (subst (Breaks r) z b)
not_both (group n) xs ys e (wrong_length b) k = b
not_both (group n) xs ys e (longer_form b) k = b
not_both (group n) xs ys e (out_of_range b) k = b
not_both (optional n r) xs ys e b k = let z : xs ≡ ys = cc in k (subst (Breaks r) z b)
not_both limits xs ys e b k = let z : xs ≡ ys = cc in k (subst (Breaks (rule_of limits)) z b)

brings_same : (w : Wanted) (xs ys : List ℕ) → item_of w xs ≡ item_of w ys → brings w xs ≡ brings w ys
brings_same (in_context n r) xs ys e = refl
brings_same (of_type n r) xs ys e = refl
brings_same (group n) xs ys e = refl
brings_same (optional n r) xs ys e = refl
brings_same limits xs ys e = let z : xs ≡ ys = cc in ap (brings limits) z

-- ---- 42, and no part and no item left
last_offence : (x : ℕ) {ws' : List Wanted} {t : Thing} {ts ts' : List Thing} → Takes [] (t ∷ ts) ws' ts' → Offence x ws' ts' → ◌≡◌ {A = Answer} (Err 42) (Err x)
last_offence x so_far after_last = refl

pub says_after : (t : Thing) (ts : List Thing) → Says [] (t ∷ ts) (Err 42)
says_after t ts = record { sound = λ x e. ([], (t ∷ ts, so_far, subst (λ (n : ℕ). Offence n [] (t ∷ ts)) (same_number e) after_last)); complete = λ x r. last_offence x r.1.1 r.1.2 }

-- a part or an item is left where there is an offence
abbrev Some : List Wanted → List Thing → Type 0
Some [] [] = ⊥
Some [] (t ∷ ts) = Unit {0}
Some (w ∷ ws) ts = Unit {0}

some_left : (x : ℕ) {ws : List Wanted} {ts : List Thing} → Offence x ws ts → Some ws ts
some_left x (missing r o) = tt
some_left x (broken xs rest e b) = tt
some_left x after_last = tt

none_left : (x : ℕ) {ws' : List Wanted} {ts' : List Thing} → Takes [] [] ws' ts' → Offence x ws' ts' → ⊥
none_left x so_far f = some_left x f

pub says_good : (v : Service) → Says [] [] (Ok v)
says_good v = record { sound = λ x e. impossible (cc); complete = λ x r. absurd (none_left x r.1.1 r.1.2) }

module _ (w : Wanted) (ws : List Wanted) (ts : List Thing) where
  -- an offence of the first part and of a later one, each under what is known of that part
  cases : {X : Type 0} (x : ℕ) → Refuses x (w ∷ ws) ts → (Offence x (w ∷ ws) ts → X) → (Further x w ws ts → X) → X
  cases x r f g = ⊎_elim f g (first x r.1.1 r.1.2)

  -- ---- 40
  module _ (required : Optional w → ⊥) (other : Comes w ts → ⊥) where
    its_own : (x : ℕ) → Offence x (w ∷ ws) ts → ◌≡◌ {A = Answer} (Err 40) (Err x)
    its_own x (missing r o) = refl
    its_own x (broken xs rest e b) = absurd (other (xs, (rest, e)))

    no_further : (more : List Wanted) (left : List Thing) → Taken w ts more left → ⊥
    no_further more left (there xs rest e k b m) = other (xs, (rest, e))
    no_further more left (absent o c l m) = required o

    pub says_missing : Says (w ∷ ws) ts (Err 40)
    says_missing =
        record {
          sound = λ x e. (w ∷ ws, (ts, so_far, subst (λ (n : ℕ). Offence n (w ∷ ws) ts) (same_number e) (missing required other)));
          complete = λ x r. cases x r (its_own x) (λ f. absurd (no_further f.more f.left f.taken));
        }

  -- the wanted item comes next
  module _ (xs : List ℕ) (rest : List Thing) (e : ts ≡ item_of w xs ∷ rest) where
    same_item : (ys : List ℕ) (us : List Thing) → ts ≡ item_of w ys ∷ us → item_of w xs ≡ item_of w ys
    same_item ys us d = let z : item_of w xs ∷ rest ≡ item_of w ys ∷ us = sym e ∙ d in cc z

    same_rest : (ys : List ℕ) (us : List Thing) → ts ≡ item_of w ys ∷ us → us ≡ rest
    same_rest ys us d = let z : item_of w xs ∷ rest ≡ item_of w ys ∷ us = sym e ∙ d in cc z

    -- ---- 41
    module _ (breaks : Breaks (rule_of w) xs) where
      broken_own : (x : ℕ) → Offence x (w ∷ ws) ts → ◌≡◌ {A = Answer} (Err 41) (Err x)
      broken_own x (missing r o) = absurd (o (xs, (rest, e)))
      broken_own x (broken ys us d b) = refl

      broken_further : (more : List Wanted) (left : List Thing) → Taken w ts more left → ⊥
      broken_further more left (there ys us d k b m) = not_both w xs ys (same_item ys us d) breaks k
      broken_further more left (absent o c l m) = c (xs, (rest, e))

      pub says_broken : Says (w ∷ ws) ts (Err 41)
      says_broken =
          record {
            sound = λ x d. (w ∷ ws, (ts, so_far, subst (λ (n : ℕ). Offence n (w ∷ ws) ts) (same_number d) (broken xs rest e breaks)));
            complete = λ x r. cases x r (broken_own x) (λ f. absurd (broken_further f.more f.left f.taken));
          }

    -- ---- good so far: what is said of what it brings and of the items behind it
    module _ (a : Answer) (keeps : Keeps (rule_of w) xs) (behind : (us : List Thing) → Behind w rest us → Says (brings w xs ++ ws) us a) where
      kept_own : {X : Type 0} (x : ℕ) → Offence x (w ∷ ws) ts → X
      kept_own x (missing r o) = absurd (o (xs, (rest, e)))
      kept_own x (broken ys us d b) = absurd (not_both w ys xs (sym (same_item ys us d)) b keeps)

      kept_further : (x : ℕ) (more : List Wanted) (left : List Thing) → Taken w ts more left → Refuses x (more ++ ws) left → a ≡ Err x
      kept_further x more left (there ys us d k b m) r =
          let z : more ≡ brings w xs = m ∙ sym (brings_same w xs ys (same_item ys us d)) in
          (behind left (subst (λ (vs : List Thing). Behind w vs left) (same_rest ys us d) b)).complete x (subst (λ (vs : List Wanted). Refuses x (vs ++ ws) left) z r)
      kept_further x more left (absent o c l m) r = absurd (c (xs, (rest, e)))

      pub says_there : (us : List Thing) → Behind w rest us → Says (w ∷ ws) ts a
      says_there us b =
          record {
            sound = λ x d. (let r = (behind us b).sound x d in (r.0, (r.1.0, one_more (there xs rest e keeps b refl) r.1.1, r.1.2)));
            complete = λ x r. cases x r (kept_own x) (λ f. kept_further x f.more f.left f.taken f.later);
          }

  -- ---- an optional part, where another item, or none, comes next
  module _ (a : Answer) (option : Optional w) (other : Comes w ts → ⊥) (later : Says ws ts a) where
    absent_own : {X : Type 0} (x : ℕ) → Offence x (w ∷ ws) ts → X
    absent_own x (missing r o) = absurd (r option)
    absent_own x (broken xs rest e b) = absurd (other (xs, (rest, e)))

    absent_further : (x : ℕ) (more : List Wanted) (left : List Thing) → Taken w ts more left → Refuses x (more ++ ws) left → a ≡ Err x
    absent_further x more left (there xs rest e k b m) r = absurd (other (xs, (rest, e)))
    absent_further x more left (absent o c l m) r = later.complete x (subst (λ (us : List Thing). Refuses x ws us) l (subst (λ (vs : List Wanted). Refuses x (vs ++ ws) left) m r))

    pub says_absent : Says (w ∷ ws) ts a
    says_absent =
        record {
          sound = λ x d. (let r = later.sound x d in (r.0, (r.1.0, one_more (absent option other refl refl) r.1.1, r.1.2)));
          complete = λ x r. cases x r (absent_own x) (λ f. absent_further x f.more f.left f.taken f.later);
        }
