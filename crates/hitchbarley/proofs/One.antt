-- Any two answers that the promise of an exported call allows are equal, with every number given back and every lent area; and there is one.
use Prim.Native.Nat.{ℕ}
use mathlib.Core.Path.{◌≡◌, refl, sym, ◌∙◌}
use mathlib.Core.Bool.{Bool}
use mathlib.Core.List.{List}
use lib.Dec.{eqb}
use lib.ListN.{length}
use Rattle.octets.specs.Choice.{pick}
use Rattle.octets.specs.Laid.{written_count, answer_of, area_of}
use Rattle.items.specs.Reading.{items_of, one_at, end_of}
use Rattle.items.specs.Listing.{tally_number, tally_count, listed_of, listing}
use Rattle.collector.specs.declared.Collector.{Collector}
use Rattle.state.specs.Calls.{Saves}
use Rattle.hitchbarley.specs.Answers.{written_number, Writes, Fills, FillsTo}
use Rattle.hitchbarley.specs.Items.{one_number, one_place, Lists, Steps}
use Rattle.hitchbarley.specs.Trunk.{Feeds, Stills, Forgets}

-- two that are one
both_are : {A : Type 0} {x y z : A} → x ≡ z → y ≡ z → x ≡ y
both_are a b = a ∙ sym b

module _ {r r' : ℕ} where
  pub writes_one : {f : ℕ} {o area later later' : List ℕ} {n n' : ℕ} → Writes f o area r n later → Writes f o area r' n' later' → (r ≡ r') × (n ≡ n') × (later ≡ later')
  writes_one a b = (both_are a.number b.number, both_are a.count b.count, both_are a.after b.after)

  pub fills_one : {size f : ℕ} {good : Bool} {o area later later' : List ℕ} → Fills size good f o area r later → Fills size good f o area r' later' → (r ≡ r') × (later ≡ later')
  fills_one a b = (both_are a.number b.number, both_are a.after b.after)

  pub fills_to_one : {size f place : ℕ} {good : Bool} {o area later later' : List ℕ} {n n' : ℕ} → FillsTo size good f o place area r n later → FillsTo size good f o place area r' n' later'
      → (r ≡ r') × (n ≡ n') × (later ≡ later')
  fills_to_one a b = let e = fills_one a.filled b.filled in (e.0, both_are a.reached b.reached, e.1)

  pub lists_one : {s area later later' : List ℕ} {n n' : ℕ} → Lists s area r n later → Lists s area r' n' later' → (r ≡ r') × (n ≡ n') × (later ≡ later')
  lists_one a b = (both_are a.number b.number, both_are a.items b.items, both_are a.after b.after)

  pub steps_one : {s : List ℕ} {at n n' : ℕ} → Steps s at r n → Steps s at r' n' → (r ≡ r') × (n ≡ n')
  steps_one a b = (both_are a.number b.number, both_are a.place b.place)

  pub saves_one : {c : Collector} {area later later' : List ℕ} → Saves c area r later → Saves c area r' later' → (r ≡ r') × (later ≡ later')
  saves_one a b = (both_are a.answer b.answer, both_are a.after b.after)

  pub feeds_one : {state report area piece s s' p p' a a' : List ℕ} {e e' t t' : ℕ} → Feeds state report area piece r e t s p a → Feeds state report area piece r' e' t' s' p' a'
      → (r ≡ r') × (e ≡ e') × (t ≡ t') × (s ≡ s') × (p ≡ p') × (a ≡ a')
  feeds_one x y =
      (both_are x.number y.number, both_are x.ate y.ate, both_are x.spoke y.spoke, both_are x.state_after y.state_after, both_are x.report_after y.report_after, both_are x.area_after y.area_after)

  pub stills_one : {state report s s' p p' : List ℕ} {t t' : ℕ} → Stills state report r t s p → Stills state report r' t' s' p' → (r ≡ r') × (t ≡ t') × (s ≡ s') × (p ≡ p')
  stills_one x y = (both_are x.number y.number, both_are x.spoke y.spoke, both_are x.state_after y.state_after, both_are x.report_after y.report_after)

  pub forgets_one : {state s s' : List ℕ} {n : ℕ} → Forgets state n r s → Forgets state n r' s' → (r ≡ r') × (s ≡ s')
  forgets_one x y = (both_are x.number y.number, both_are x.state_after y.state_after)

-- there is one; for the calls of a trunk Kept shows it
pub writes_some : (f : ℕ) (o area : List ℕ) → Writes f o area (written_number (answer_of f o area)) (written_count (answer_of f o area)) (area_of f o area)
writes_some f o area = record { number = refl; count = refl; after = refl }

pub fills_some : (size : ℕ) (good : Bool) (f : ℕ) (o area : List ℕ) → Fills size good f o area (pick (eqb (length area) size) f 60) (pick (eqb (length area) size) (pick good o area) area)
fills_some size good f o area = record { number = refl; after = refl }

pub fills_to_some : (size : ℕ) (good : Bool) (f : ℕ) (o : List ℕ) (place : ℕ) (area : List ℕ)
    → FillsTo size good f o place area (pick (eqb (length area) size) f 60) (pick (eqb (length area) size) (pick good place 0) 0) (pick (eqb (length area) size) (pick good o area) area)
fills_to_some size good f o place area = record { filled = fills_some size good f o area; reached = refl }

pub lists_some : (s area : List ℕ) → Lists s area (tally_number (listed_of (length area) (items_of s))) (tally_count (listed_of (length area) (items_of s))) (listing area (items_of s))
lists_some s area = record { number = refl; items = refl; after = refl }

pub steps_some : (s : List ℕ) (at : ℕ) → Steps s at (one_number (end_of (one_at s at))) (one_place (end_of (one_at s at)))
steps_some s at = record { number = refl; place = refl }
