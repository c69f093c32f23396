use Rattle.std.proofs.Common.{ap, ◌∙◌}
use Rattle.std.proofs.lemmas.Result.{err_from_is_err_and}
use Rattle.frames.specs.Answers.{Stilled, fell_over}
use Rattle.frames.proofs.Calls.{silence_over}
use Rattle.frames.proofs.Receiver.silence.Goals as goal

pub returns-in_err-outcome : goal.returns-in_err-outcome
returns-in_err-outcome c =
    let r = c.args.self in
    let p = err_from_is_err_and c.from_residual.result c.from_residual.ensures.1 in
    rw (p.1, p.2) (rw c.in_err-outcome.was at (ap (λ (f : Stilled). fell_over f r.store) c.silence.ensures ∙ silence_over r.link r.store))

pub returns : goal.returns
returns c = let r = c.args.self in rw c.in_ok-outcome.was at (ap (λ (f : Stilled). fell_over f r.store) c.silence.ensures ∙ silence_over r.link r.store)
