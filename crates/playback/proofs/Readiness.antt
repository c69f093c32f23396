-- What 59 and 60 pass goes on to pass, whatever order comes.
use Prim.Native.Nat.{ℕ}
use mathlib.Core.List.{List, [], ◌∷◌}
use mathlib.Core.Option.{Option, none, some}
use Rattle.runs.specs.Run.{Order}
use Rattle.runs.specs.Run.Event.{octet, silence}
use Rattle.runs.specs.Run.Order.{trunk, forget}
use Rattle.runs.specs.Offered.{answer, caught}
use Rattle.apdu.specs.declared.Edition.{Edition}
use Rattle.frames.specs.declared.Receiver.{Receiver}
use Rattle.frames.specs.Step.{feed_of}
use Rattle.frames.proofs.Calls.{feed_sound, silence_sound}
use Rattle.trunk.specs.Reading.{Out}
use Rattle.trunk.specs.Demand.{out_of}
use Rattle.messages.specs.Slots as Messages
use Rattle.rebuild.specs.View.{keys}
use Rattle.rebuild.specs.declared.Key.{Key}
use Rattle.recordings.specs.Frames.{rules}
use Rattle.collector.specs.Frame.{bacnet}
use Rattle.collector.specs.Calls.{box, Answered}
use Rattle.collector.proofs.Reached.{keeps}
use Rattle.playback.specs.Calls.{one, Ready}

abbrev pub ReadyAt : Answered → Type 0
ReadyAt d = Ready d.state d.slots d.area

module _ (edition : Edition) {r : Receiver} {s : List (Messages.Slot Key)} {a : List ℕ} (R : Ready r s a) where
  caught_ready : (x : Option Out) (n : ℕ) → ReadyAt (caught (rules keys (bacnet edition)) x n r s a (answer n none r s a))
  caught_ready none n = R
  caught_ready (some o) n =
      record { receiver = R.receiver; slots = (keeps edition).slots o s a R.slots R.fits; fits = (keeps edition).area o s a R.slots R.fits }

pub feed_ready : (edition : Edition) {r : Receiver} {s : List (Messages.Slot Key)} {a : List ℕ} → Ready r s a → (xs : List ℕ) → ReadyAt ((box edition).feed r s a xs)
feed_ready edition {r} {s} {a} R xs =
    let f = feed_of r xs in
    let G : Ready f.receiver s a = record { receiver = feed_sound r xs R.receiver; slots = R.slots; fits = R.fits } in
    rw (R.fits, R.slots) (caught_ready edition G (out_of f.outcome f.receiver) f.eaten)

pub one_ready : (edition : Edition) {r : Receiver} {s : List (Messages.Slot Key)} {a : List ℕ} → Ready r s a → (o : Order) → ReadyAt (one edition o r s a)
unfolding one
one_ready edition R (trunk (octet x)) = feed_ready edition R (x ∷ [])
one_ready edition {r} R (trunk silence) = rw R.slots (record { receiver = silence_sound r R.receiver; slots = R.slots; fits = R.fits })
one_ready edition {r} {s} R (forget i) = rw (R.slots, R.receiver) (record { receiver = R.receiver; slots = (keeps edition).free i s R.slots; fits = R.fits })
