use Rattle.std.proofs.Common.{rules}
use Rattle.std.proofs.lemmas.Result.{err_from_is_err_and}
use Rattle.octets.specs.Rules.{tests}
use Rattle.rebuild.proofs.Seen.{length_of_map}
use Rattle.state.proofs.Arrays.{slots_held}
use Rattle.state.proofs.Whole.{Shaped}
use Rattle.state.proofs.Exact.{saved_loads}
use Rattle.state.proofs.save.Goals as goal

pub returns-in_err-sized : goal.returns-in_err-sized
returns-in_err-sized c =
    let p = err_from_is_err_and c.from_residual.result c.from_residual.ensures.1 in
    let e = c.in_err-sized.ensures in
    let n = e.0 in
    rw (p.1, p.2, e.1) (record { answer = search (rules, tests); after = search (rules, tests); again = λ s. absurd (n s) })

pub returns : goal.returns
returns c =
    let size = c.in_ok-sized.ensures.1 in
    let shaped : Shaped c.args.c =
    record { head = search rules; store = search rules; four = search (length_of_map, c.well_formed); slots = search (slots_held, c.well_formed) } in
    record { answer = search (rules, tests); after = search (rules, tests); again = λ e. search (rules, saved_loads) }
