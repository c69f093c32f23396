use Rattle.std.proofs.Common.{length, ap, sym, ◌∙◌, arith}
use Rattle.frames.specs.declared.Receiver.{Receiver}
use Rattle.frames.specs.Step.{Stepped, over, whole, sound_of, feed_of}
use Rattle.frames.proofs.Laws.{Sound, sound_step, step_store, turn, opened}
use Rattle.frames.proofs.Link.feed.Goals as goal

pub returns-then-not-sound : goal.returns-then-not-sound
unfolding feed_of
returns-then-not-sound c = rw (← c.sound.ensures, c.if-not-sound.true)

pub loop-i-init : goal.loop-i-init
loop-i-init c =
    let h : Sound (over c.args.self c.args.store.now) = sym c.sound.ensures ∙ c.if-not-sound.false in
    record { sound = h; size = c.requires; fed = opened _ _ h }

-- the receiver at the turn's start, and what the step makes of it
pub loop-i-preserved : goal.loop-i-preserved
loop-i-preserved c =
    let e = c.step-m.ensures in
    let r : Receiver = over c.loop-i.link c.loop-i.store in
    let s : Stepped = whole c.step-m.result c.step-m.new.store in
    record {
      sound = ap (λ (t : Stepped). sound_of t.receiver) e ∙ sound_step r _ c.loop-i.invariant.sound;
      size = ap (λ (t : Stepped). length t.receiver.store) e ∙ step_store r _ ∙ c.loop-i.invariant.size;
      fed = turn r s _ c.args.piece.now (omega arith) e (sym c.reports.ensures ∙ c.if-reports.false) ∙ c.loop-i.invariant.fed;
    }
