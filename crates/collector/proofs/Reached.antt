-- 59 passes a fresh collector of either edition, and every state that a run reaches.
use Prim.Native.Nat.{ℕ, ◌+◌}
use mathlib.Core.Path.{◌≡◌, refl, sym, subst}
use mathlib.Core.Bool.{true}
use mathlib.Core.List.{List, [], ◌∷◌}
use mathlib.Core.Option.{Option, none, some}
use lib.ListN.{length-replicate}
use Rattle.octets.specs.Choice.{pick_case}
use Rattle.runs.specs.Run.{Run}
use Rattle.runs.specs.Run.Event.{octet, silence}
use Rattle.runs.specs.Offered.{answer, caught, box_calls, Made}
use Rattle.runs.specs.Offered.Made.{feed, still, free}
use Rattle.runs.proofs.Carrying.{stays}
use Rattle.apdu.specs.declared.Edition.{Edition}
use Rattle.frames.specs.declared.Receiver.{Receiver}
use Rattle.frames.specs.Answers.{Fed}
use Rattle.frames.specs.Step.{sound_of, step_of, reports_of, feed_from, feed_of, silence_of, still_of}
use Rattle.trunk.specs.Reading.{Out}
use Rattle.trunk.specs.Demand.{Sound, Keeps, out_of}
use Rattle.trunk.proofs.Demand.{sound_on}
use Rattle.messages.specs.Slots as Messages
use Rattle.rebuild.specs.View.{keys}
use Rattle.rebuild.specs.declared.Key.{Key}
use Rattle.rebuild.proofs.Page.{key_laws, fresh_passes}
use Rattle.recordings.specs.Frames.{rules}
use Rattle.recordings.proofs.Demand as Recordings
use Rattle.collector.specs.Frame.{bacnet, damage_octets}
use Rattle.collector.specs.Calls.{slot_count, passing, sized, box, fresh_collector, Answered}
use Rattle.collector.specs.Offering.{Passes, End, Called}
use Rattle.collector.specs.declared.Collector.{Collector}
use Rattle.collector.proofs.Alike.{Boxed, offered_to}
use Rattle.collector.proofs.Given.{known}

pub fresh : (edition : Edition) → Passes (fresh_collector edition)
fresh edition = record { receiver = record { left = refl; head = length-replicate {A = ℕ} 5 0; store = length-replicate {A = ℕ} 501 0 }; slots = fresh_passes }

pub keeps : (edition : Edition) → Keeps (rules keys (bacnet edition)) damage_octets passing sized
keeps edition = Recordings.keeps keys key_laws (bacnet edition) slot_count (λ n. refl) (known edition)

-- the receiver
from_sound : (xs : List ℕ) (n : ℕ) (r : Receiver) → Sound r → Sound (feed_from n r xs).receiver
unfolding step_of
from_sound [] n r h = h
from_sound (x ∷ xs) n r h =
    let k = sound_on r (octet x) h in
    pick_case (λ (f : Fed). Sound f.receiver) (reports_of (step_of r x).outcome) k (from_sound xs (n + 1) (step_of r x).receiver k)

feed_sound : (r : Receiver) (xs : List ℕ) → Sound r → Sound (feed_of r xs).receiver
unfolding feed_of
feed_sound r xs h = pick_case (λ (f : Fed). Sound f.receiver) (sound_of r) (from_sound xs 0 r h) h

silence_sound : (r : Receiver) → Sound r → Sound (silence_of r).receiver
unfolding silence_of still_of
silence_sound r h = rw h.left (sound_on r silence h)

-- what 59 and 60 ask, of an answer
pub record Fair (m : Receiver) (s : List (Messages.Slot Key)) (a : List ℕ) : Type 0 where
  pub receiver : Sound m
  pub slots : passing s ≡ true
  pub area : sized a ≡ true

abbrev pub FairAnswer : Answered → Type 0
FairAnswer d = Fair d.state d.slots d.area

module _ (edition : Edition) {m : Receiver} {s : List (Messages.Slot Key)} {a : List ℕ} (F : Fair m s a) where
  caught_fair : (x : Option Out) (n : ℕ) → FairAnswer (caught (rules keys (bacnet edition)) x n m s a (answer n none m s a))
  caught_fair none n = F
  caught_fair (some o) n =
      record { receiver = F.receiver; slots = (keeps edition).slots o s a F.slots F.area; area = (keeps edition).area o s a F.slots F.area }

  pub free_fair : (n : ℕ) → Fair m ((box edition).free n m s) a
  free_fair n = rw (F.slots, F.receiver.left) (record { receiver = F.receiver; slots = (keeps edition).free n s F.slots; area = F.area })

  pub still_fair : FairAnswer ((box edition).still m s a)
  still_fair = rw F.slots (record { receiver = silence_sound m F.receiver; slots = F.slots; area = F.area })

pub feed_fair : (edition : Edition) {m : Receiver} {s : List (Messages.Slot Key)} {a : List ℕ} → Fair m s a → (xs : List ℕ) → FairAnswer ((box edition).feed m s a xs)
feed_fair edition {m} {s} {a} F xs =
    let f = feed_of m xs in
    let G : Fair f.receiver s a = record { receiver = feed_sound m xs F.receiver; slots = F.slots; area = F.area } in
    rw (F.area, F.slots) (caught_fair edition G (out_of f.outcome f.receiver) f.eaten)

abbrev pub FairAt : Boxed → Type 0
FairAt x = Fair x.0 x.1 x.2

made_fair : (edition : Edition) {x y : Boxed} {lent : Run} {n : ℕ} {said : Option (List ℕ)} → FairAt x → Made (box_calls (box edition)) x lent n said y → FairAt y
made_fair edition F (feed piece q) = subst FairAnswer (sym q) (feed_fair edition F piece)
made_fair edition F (still q) = subst FairAnswer (sym q) (still_fair edition F)
made_fair edition F (free i q) = subst FairAt (sym q) (free_fair edition F i)

-- after any run, however its calls are made
pub reached : {p : ℕ} {c : Collector} {area : List ℕ} {run : Run} {e : End} → Passes c → sized area ≡ true → Called p c area run e → Fair e.state.1 e.slots e.area
reached {c = c} P z o =
    let w = offered_to o in
    let F : FairAt (w.0.state, w.0.slots, w.0.area) =
    stays (Made (box_calls (box c.edition))) FairAt (λ x y lent n said F h. made_fair c.edition F h) (record { receiver = P.receiver; slots = P.slots; area = z }) w.1 in
    subst (λ (e : End). Fair e.state.1 e.slots e.area) (sym w.2) F
