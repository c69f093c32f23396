-- A piece is its octets one after the other: feeding octets together is what their records do.
use Prim.Native.Nat.{ℕ, ◌+◌}
use native.Mathlib.Omega.{arith}
use mathlib.Core.Path.{◌≡◌, refl, sym, ap, ◌∙◌}
use mathlib.Core.Bool.{true}
use mathlib.Core.List.{List, [], ◌∷◌}
use mathlib.Core.Option.{Option, none, some}
use Rattle.octets.specs.Choice.{by_test, impossible}
use Rattle.runs.specs.Run.{octs}
use Rattle.runs.specs.Offered.{answer, caught}
use Rattle.frames.specs.declared.Outcome.{Outcome}
use Rattle.frames.specs.declared.Outcome.TheVariants.{Quiet, Frame, Damage}
use Rattle.apdu.specs.declared.Edition.{Edition}
use Rattle.frames.specs.declared.Receiver.{Receiver}
use Rattle.frames.specs.Answers.{Fed}
use Rattle.frames.specs.Step.{step_of, reports_of, fed_at, feed_from}
use Rattle.frames.proofs.Laws.{sound_step, opened}
use Rattle.trunk.specs.Reading.{Out}
use Rattle.trunk.specs.Demand.{out_of, ruled}
use Rattle.messages.specs.Slots as Messages
use Rattle.rebuild.specs.View.{keys}
use Rattle.rebuild.specs.declared.Key.{Key}
use Rattle.recordings.specs.Frames.{rules}
use Rattle.collector.specs.Frame.{bacnet}
use Rattle.collector.specs.Calls.{box, Answered}
use Rattle.playback.specs.Calls.{one, more, then_go, play, Ready}

-- m octets eaten before
abbrev later : ℕ → Fed → Fed
later m f = record { refused = f.refused; eaten = m + f.eaten; outcome = f.outcome; receiver = f.receiver }

fed_later : (xs : List ℕ) (m n : ℕ) (r : Receiver) → feed_from (m + n) r xs ≡ later m (feed_from n r xs)
fed_later [] m n r = refl
fed_later (x ∷ xs) m n r =
    let t = step_of r x in
    let z : m + n + 1 ≡ m + (n + 1) = omega arith in
    by_test (reports_of t.outcome)
    (λ e. rw e (ap (λ (k : ℕ). fed_at k t.outcome t.receiver) z))
    (λ e. rw e (ap (λ (k : ℕ). feed_from k t.receiver xs) z ∙ fed_later xs m (n + 1) t.receiver))

abbrev pub ruled_by : Edition → List (Messages.Slot Key) → List ℕ → Fed → Answered
ruled_by edition s a f = ruled (rules keys (bacnet edition)) s a f

caught_more : (edition : Edition) (x : Option Out) (m n : ℕ) (r : Receiver) (s : List (Messages.Slot Key)) (a : List ℕ)
    → caught (rules keys (bacnet edition)) x (m + n) r s a (answer (m + n) none r s a) ≡ more m (caught (rules keys (bacnet edition)) x n r s a (answer n none r s a))
caught_more edition none m n r s a = refl
caught_more edition (some o) m n r s a = refl

ruled_later : (edition : Edition) (m : ℕ) (f : Fed) (s : List (Messages.Slot Key)) (a : List ℕ) → ruled_by edition s a (later m f) ≡ more m (ruled_by edition s a f)
ruled_later edition m f s a = caught_more edition (out_of f.outcome f.receiver) m f.eaten f.receiver s a

-- an outcome that reports ends it
ends_there : (edition : Edition) (o : Outcome) (r : Receiver) (s : List (Messages.Slot Key)) (a : List ℕ) (rest : Answered) → reports_of o ≡ true
    → (let d = ruled_by edition s a (fed_at 1 o r) in d ≡ then_go d.said d rest)
ends_there edition Quiet r s a rest e = impossible (cc)
ends_there edition Frame r s a rest e = refl
ends_there edition (Damage n) r s a rest e = refl

-- with what 59 and 60 pass, feeding is the receiver's and then the rules
pub box_feed : (edition : Edition) {r : Receiver} {s : List (Messages.Slot Key)} {a : List ℕ} → Ready r s a → (xs : List ℕ) → (box edition).feed r s a xs ≡ ruled_by edition s a (feed_from 0 r xs)
box_feed edition {r} {s} {a} R xs = rw (R.fits, R.slots) (ap (ruled_by edition s a) (sym (opened r xs R.receiver)))

abbrev go_on : Edition → Answered → List ℕ → Answered
go_on edition d xs = then_go d.said d (play edition d.state d.slots d.area (octs xs))

pub feed_as_play : (edition : Edition) (xs : List ℕ) {r : Receiver} {s : List (Messages.Slot Key)} {a : List ℕ} → Ready r s a → (box edition).feed r s a xs ≡ play edition r s a (octs xs)
unfolding one
feed_as_play edition [] R = box_feed edition R []
feed_as_play edition (x ∷ xs) {r} {s} {a} R =
    let t = step_of r x in
    let r' = t.receiver in
    let R' : Ready r' s a = record { receiver = sound_step r x R.receiver; slots = R.slots; fits = R.fits } in
    let all = box_feed edition R (x ∷ xs) in
    let first = box_feed edition R (x ∷ []) in
    by_test (reports_of t.outcome)
    (λ e.
    let d = ruled_by edition s a (fed_at 1 t.outcome r') in
    let p : (box edition).feed r s a (x ∷ xs) ≡ d = rw e at all in
    let q : (box edition).feed r s a (x ∷ []) ≡ d = rw e at first in
    p ∙ ends_there edition t.outcome r' s a (play edition d.state d.slots d.area (octs xs)) e ∙ ap (λ (d : Answered). go_on edition d xs) (sym q))
    (λ e.
    let p : (box edition).feed r s a (x ∷ xs) ≡ ruled_by edition s a (feed_from 1 r' xs) = rw e at all in
    let q : (box edition).feed r s a (x ∷ []) ≡ answer 1 none r' s a = rw e at first in
    p ∙ ap (ruled_by edition s a) (fed_later xs 1 0 r') ∙ ruled_later edition 1 (feed_from 0 r' xs) s a ∙ ap (more 1) (sym (box_feed edition R' xs) ∙ feed_as_play edition xs R')
    ∙ ap (λ (d : Answered). go_on edition d xs) (sym q))
