-- The slots as the rules see them: one read, one set, their number.
use Rattle.std.proofs.Common.{◌≡◌, ℕ, zero, suc, ◌<◌, ◌≤◌, Bool, true, false, List, [], ◌∷◌, map, length, get_or, set, sym, refl, ap, ◌∙◌, arith}
use mathlib.Core.Option.{Option, some}
use lib.ListN.{length-map, get_or-eq_default, get_or-map}
use Rattle.octets.specs.Choice.{both}
use Rattle.npdu.specs.declared.Address.{Address}
use Rattle.messages.specs.Slots as Messages
use Rattle.messages.specs.Sound.{twice}
use Rattle.messages.proofs.Lowest.{lowest_some}
use Rattle.rebuild.specs.View.{keys, free_slot, seen, back, view, unview}
use Rattle.rebuild.specs.declared.Key.{Key}
use Rattle.rebuild.specs.declared.Slot.{Slot}
use Rattle.rebuild.specs.declared.Slots.{Slots}

-- what a read past the last slot would be, which there is none of: in it an array is the empty list
abbrev nobody : Address
nobody = record { present = false; network = 0; length = 0; octets = [] }

abbrev pub blank : Slot
blank = record { used = false; key = record { source = 0; destination = 0; kind = 0; invoke = 0; from = nobody; to = nobody }; next = 0; choice = 0; held = 0 }

-- a slot that is there is read as it is, whatever stands for one that is not
there : (l : List Slot) (i : ℕ) (x y : Slot) → i < length l → get_or l i x ≡ get_or l i y
there [] i x y h = absurd (omega arith)
there (z ∷ l) zero x y h = refl
there (z ∷ l) (suc i) x y h = there l i x y (omega arith)

pub seen_at : (t : Slots) (i : ℕ) → i < length t.slots → Messages.slot_at keys (view t) i ≡ seen (get_or t.slots i blank)
seen_at t i h = get_or-map seen t.slots i free_slot ∙ ap seen (there t.slots i free_slot blank h)

-- what is asked of a slot
pub at_view : {A : Type 0} (f : Messages.Slot Key → A) (t : Slots) (i : ℕ) → i < length t.slots → f (Messages.slot_at keys (view t) i) ≡ f (seen (get_or t.slots i blank))
at_view f t i h = ap f (seen_at t i h)

pub set_view : (l : List Slot) (i : ℕ) (x : Slot) → map seen (set l i x) ≡ set (map seen l) i (seen x)
set_view [] i x = refl
set_view (y ∷ l) zero x = refl
set_view (y ∷ l) (suc i) x = ap (λ (r : List (Messages.Slot Key)). seen y ∷ r) (set_view l i x)

-- an array of structs has its length by way of a map
pub length_of_map : (X Y : Type 0) (f : X → Y) (l : List X) (n : ℕ) → length (map f l) ≡ n → length l ≡ n
length_of_map X Y f l n e = sym (length-map l f) ∙ e

pub length_view : (t : Slots) (n : ℕ) → length t.slots ≡ n → length (view t) ≡ n
length_view t n e = length-map t.slots seen ∙ e

-- past the last there is none, and what is found is one of them
pub past_last : (t : Slots) (i : ℕ) → length t.slots ≤ i → (Messages.slot_at keys (view t) i).used ≡ false
past_last t i h = ap (λ (x : Messages.Slot Key). x.used) (get_or-map seen t.slots i free_slot) ∙ ap (λ (x : Slot). x.used) (get_or-eq_default t.slots free_slot {n = i} h)

pub found_below : (f : Messages.Slot Key → Bool) (t : Slots) (i n : ℕ) → length t.slots ≡ n → Messages.lowest f (view t) ≡ some i → i < n
found_below f t i n h e = rw (length_view t n h) at (lowest_some f (Messages.empty keys) (view t) i e).0

-- whether a slot's key is open twice
pub twice_free : (t : Slots) (i : ℕ) (rest : List (Messages.Slot Key)) → i < length t.slots → (get_or t.slots i blank).used ≡ false
    → twice keys (Messages.slot_at keys (view t) i) rest ≡ false
twice_free t i rest h e =
    at_view (λ (x : Messages.Slot Key). twice keys x rest) t i h ∙ ap (λ (u : Bool). both u (Messages.is_some (Messages.lowest (Messages.open_to keys (get_or t.slots i blank).key) rest))) e

module _ (t : Slots) (i : ℕ) (rest : List (Messages.Slot Key)) (h : i < length t.slots) (used : (get_or t.slots i blank).used ≡ true) where
  abbrev later : Option ℕ
  later = Messages.lowest (Messages.open_to keys (get_or t.slots i blank).key) rest

  pub twice_used : twice keys (Messages.slot_at keys (view t) i) rest ≡ Messages.is_some later
  twice_used = at_view (λ (x : Messages.Slot Key). twice keys x rest) t i h ∙ ap (λ (u : Bool). both u (Messages.is_some later)) used

-- the slots are known by how they are seen
back_seen : (l : List Slot) → map back (map seen l) ≡ l
back_seen [] = refl
back_seen (x ∷ l) = ap (λ (r : List Slot). x ∷ r) (back_seen l)

seen_back : (l : List (Messages.Slot Key)) → map seen (map back l) ≡ l
seen_back [] = refl
seen_back (x ∷ l) = ap (λ (r : List (Messages.Slot Key)). x ∷ r) (seen_back l)

pub unview_view : (t : Slots) → unview (view t) ≡ t
unview_view t = ap (λ (l : List Slot). record { slots = l }) (back_seen t.slots)

pub view_unview : (s : List (Messages.Slot Key)) → view (unview s) ≡ s
view_unview s = seen_back s

pub view_one : (t u : Slots) → view t ≡ view u → t ≡ u
view_one t u e = sym (unview_view t) ∙ ap unview e ∙ unview_view u
