use Rattle.std.proofs.Common.{rules, arith, ◌+◌, ◌≤◌, length, sym}
use Rattle.octets.specs.Splice.{splice_nil}
use Rattle.item_writer.proofs.Laws.{inside_bound}
use Rattle.item_writer.proofs.item.put_contents.Goals as goal

pub returns-then-len-eq0 : goal.returns-then-len-eq0
returns-then-len-eq0 c = rw c.if-len-eq0.true (sym (splice_nil _ _))

pub overflow_add-place : goal.overflow_add-place
overflow_add-place c = omega (arith, inside_bound _ _ _ c.requires.0 c.if-len-eq0.false)

pub slice_bounds-copy-end : goal.slice_bounds-copy-end
slice_bounds-copy-end c = let a = c.args in let h : a.place + a.len ≤ length a.source.now = inside_bound _ _ _ c.requires.0 c.if-len-eq0.false in search rules
