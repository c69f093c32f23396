-- A walk through a run does to slots and area what its segments and forget orders do; so each completed message is its key's accepted segments.
use mathlib.Core.Path.{◌≡◌, refl, sym, ap, subst, ◌∙◌}
use mathlib.Core.Bool.{true}
use mathlib.Core.List.{List, [], ◌∷◌, ◌++◌, append_assoc}
use mathlib.Core.Option.{Option, none, some}
use Prim.Native.Nat.{ℕ, suc, ◌+◌}
use native.Mathlib.Omega.{arith}
use lib.ListN.{length}
use Rattle.runs.specs.Run.{Event, Run, wire, Trace, ended, Ends, acted, walk}
use Rattle.runs.specs.Run.Order.{trunk, forget}
use Rattle.messages.specs.Slots.{Keys, KeyLaws, Segment, Slot, Box, boxed}
use Rattle.messages.specs.Rows as Rows
use Rattle.messages.specs.Rows.{rebuild}
use Rattle.messages.specs.Rows.Answer.{completed}
use Rattle.messages.specs.History.{Deed, Log, begun, Rebuilt, Past, past, after, runs, standing, from_start}
use Rattle.messages.specs.History.Deed.{segment, forgetting}
use Rattle.messages.specs.History.Entry.{said}
use Rattle.messages.specs.Sound.{Good}
use Rattle.messages.proofs.History.{runs_append, completes}
use Rattle.recordings.specs.Frames.{Frames, act_on, rules, deed_of, deeds_at, deeds, history, box_at, Completes}

module _ {O Key M R : Type 0} (K : Keys Key) (f : Frames O Key R) where
  -- k goes on as the deeds do
  abbrev GoesOn : (List (Slot Key) → List ℕ → Ends M (List (Slot Key)) (List ℕ) R) → List (Deed Key) → Type 0
  GoesOn k ds = (log : Log Key) (s : List (Slot Key)) (a : List ℕ) → box_at (k s a) ≡ (runs K (past log (boxed s a)) ds).box

  seg_box : (y : Option (Segment Key)) (o : O) (k : List (Slot Key) → List ℕ → Ends M (List (Slot Key)) (List ℕ) R) (ds : List (Deed Key)) → GoesOn k ds
      → (log : Log Key) (s : List (Slot Key)) (a : List ℕ)
      → box_at (k (act_on K f y o s a).1 (act_on K f y o s a).2) ≡ (runs K (past log (boxed s a)) (deed_of K f y ++ ds)).box
  seg_box none o k ds h log s a = h log s a
  seg_box (some g) o k ds h log s a =
      let d = rebuild K g (boxed s a) in
      h (said g d.answer ∷ log) d.box.slots d.box.area

  out_box : (p : ℕ) (x : Option O) (k : List (Slot Key) → List ℕ → Ends M (List (Slot Key)) (List ℕ) R) (ds : List (Deed Key)) → GoesOn k ds
      → (log : Log Key) (s : List (Slot Key)) (a : List ℕ)
      → box_at (acted (rules K f) p x s a k) ≡ (runs K (past log (boxed s a)) (deeds_at K f x ++ ds)).box
  out_box p none k ds h log s a = h log s a
  out_box p (some o) k ds h log s a = seg_box (f.segment_of o) o k ds h log s a

  -- slots and area after a walk are those after its deeds, whatever was logged before
  pub boxes : (t : Trace O M) (run : Run) (p : ℕ) (log : Log Key) (s : List (Slot Key)) (a : List ℕ)
      → box_at (walk (rules K f) t p s a run) ≡ (runs K (past log (boxed s a)) (deeds K f t p run)).box
  unfolding Rows.forget
  boxes t [] p log s a = refl
  boxes t (trunk e ∷ run) p log s a =
      out_box p (ended p t) (λ s a. walk (rules K f) t (p + 1) s a run) (deeds K f t (p + 1) run) (λ log s a. boxes t run (p + 1) log s a) log s a
  boxes t (forget n ∷ run) p log s a = boxes t run p (after K (forgetting n) (past log (boxed s a))).log (Rows.forgotten K n s) a

module _ {O Key M R : Type 0} (K : Keys Key) (L : KeyLaws K) (f : Frames O Key R) (t : Trace O M) where
  deeds_append : (front back : Run) (p : ℕ) → deeds K f t p (front ++ back) ≡ deeds K f t p front ++ deeds K f t (p + length (wire front)) back
  deeds_append [] back p = ap (λ (q : ℕ). deeds K f t q back) (omega arith)
  deeds_append (trunk e ∷ front) back p =
      let next : p + 1 + length (wire front) ≡ p + suc (length (wire front)) = omega arith in
      ap (λ (l : List (Deed Key)). deeds_at K f (ended p t) ++ l) (deeds_append front back (p + 1) ∙ ap (λ (q : ℕ). deeds K f t (p + 1) front ++ deeds K f t q back) next)
      ∙ sym (append_assoc (deeds_at K f (ended p t)) (deeds K f t (p + 1) front) (deeds K f t (p + suc (length (wire front))) back))
  deeds_append (forget n ∷ front) back p = ap (λ (l : List (Deed Key)). forgetting n ∷ l) (deeds_append front back p)

  -- a front part of the run that ends in a place where a segment ends
  module _ (p : ℕ) (s : List (Slot Key)) (a : List ℕ) (G : Good K (boxed s a)) (front : Run) (e : Event) (o : O) (g : Segment Key)
      (here : ended (p + length (wire front)) t ≡ some o) (is : f.segment_of o ≡ some g) where
    one_more : deeds K f t p (front ++ (trunk e ∷ [])) ≡ deeds K f t p front ++ (segment g ∷ [])
    one_more = deeds_append front (trunk e ∷ []) p ∙ rw (here, is)

    all : from_start K (boxed s a) (deeds K f t p (front ++ (trunk e ∷ []))) ≡ after K (segment g) (from_start K (boxed s a) (deeds K f t p front))
    all = ap (from_start K (boxed s a)) one_more ∙ runs_append K (deeds K f t p front) (segment g ∷ []) (past (standing s) (boxed s a))

    -- "Each message begun and completed in the run is its key's accepted segments since its latest starting segment 0, joined in order of acceptance": at the
    -- place where its last segment ends, the n octets of its slot are so, and n is their number.
    pub message : (k : Key) (i n : ℕ)
        → (let run = front ++ (trunk e ∷ []) in
        let log = history K f t p s a run in
        Completes log k i n → begun K k log ≡ true → Rebuilt K k log (walk (rules K f) t p s a run).area i n)
    message k i n =
        let run = front ++ (trunk e ∷ []) in
        let p0 = from_start K (boxed s a) (deeds K f t p front) in
        let q = after K (segment g) p0 in
        let Holds : Past Key → Type 0 = λ q. Completes q.log k i n → begun K k q.log ≡ true → Rebuilt K k q.log q.box.area i n in
        rw (ap (λ (b : Box Key). b.area) (boxes K f t run p (standing s) s a))
        (subst Holds (sym all) (λ c bg.
        subst (λ (k : Key). Rebuilt K k q.log q.box.area i n) c.0
        (completes K L (boxed s a) G (deeds K f t p front) g i n c.1 (subst (λ (k : Key). begun K k q.log ≡ true) (sym c.0) bg))))
