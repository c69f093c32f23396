use Rattle.std.proofs.Common.{◌≡◌, length, rules}
use Rattle.std.proofs.lemmas.Result.{err_from_is_err_and}
use Rattle.octets.specs.Rules.{tests}
use Rattle.state.specs.Link.{link_size, link_octets}
use Rattle.state.proofs.Link.{link_size_lem}
use Rattle.state.proofs.lay_link.Goals as goal

pub returns-in_err-sized : goal.returns-in_err-sized
returns-in_err-sized c =
    let p = err_from_is_err_and c.from_residual.result c.from_residual.ensures.1 in
    let e = c.in_err-sized.ensures in
    let n = e.0 in
    let long : length (link_octets c.args.link) ≡ link_size = link_size_lem c.args.link (search rules) in
    rw (p.1, p.2, e.1) (record { answer = search (rules, tests); after = search (rules, tests); long = long })

pub returns : goal.returns
returns c =
    let size = c.in_ok-sized.ensures.1 in
    let long : length (link_octets c.args.link) ≡ link_size = link_size_lem c.args.link (search rules) in
    record { answer = search (rules, tests); after = search (rules, tests); long = long }
