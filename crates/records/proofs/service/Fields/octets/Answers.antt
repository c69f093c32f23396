use Rattle.std.proofs.Common.{rules}
use Rattle.records.proofs.Networks.{high_two, high_four}
use Rattle.records.proofs.service.Fields.octets.Goals as goal

pub returns : goal.returns
returns c =
    let f = c.args.self in
    let b = c.to_be_bytes in
    rw (c.to_be_bytes.ensures, c.to_be_bytes-2.ensures, c.to_be_bytes-3.ensures, c.to_be_bytes-4.ensures, c.to_be_bytes-5.ensures, c.to_be_bytes-6.ensures)
    (rw (high_two f.short (search rules), high_four f.first (search rules), high_four f.second (search rules), high_four f.third (search rules), high_four f.place (search rules), high_four f.len (search rules)))
