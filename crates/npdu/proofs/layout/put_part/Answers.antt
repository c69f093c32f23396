use Rattle.std.proofs.Common.{arith, ℕ, Bool, true, ◌≡◌, ◌+◌, ◌≤◌, ◌/◌, ◌%◌, [], ◌∷◌, length, set, take, ap, ◌∙◌, length-set, length-take-le}
use Rattle.octets.specs.Choice.{given_true}
use Rattle.octets.specs.Splice.{splice, splice_set, splice_then}
use Rattle.npdu.specs.Layout.{part_laid, part_octets}
use Rattle.npdu.specs.Size.{part_size}
use Rattle.npdu.proofs.Sizes.{two_octets}
use Rattle.npdu.proofs.layout.put_part.Goals as goal

-- what a part that is present takes
room : (here : Bool) (len at n : ℕ) → at + part_size here len ≤ n → here ≡ true → at + 3 + len ≤ n
unfolding part_size
room here len at n r h = let e : part_size here len ≡ 3 + len = given_true _ _ _ h in omega (arith, e, r)

pub copy-requires : goal.copy-requires
copy-requires c = let r = room c.args.a.present c.args.a.length _ _ c.requires.1 c.if-a.true in omega (arith, ap length c.to_be_bytes.ensures)

pub bounds-out-at : goal.bounds-out-at
bounds-out-at c = let r = room c.args.a.present c.args.a.length _ _ c.requires.1 c.if-a.true in omega arith

pub copy-requires-then-a : goal.copy-requires-then-a
copy-requires-then-a c =
    let a = c.args.a in
    let r = room a.present a.length _ _ c.requires.1 c.if-a.true in
    let k : a.length ≤ 7 = c.requires.0 c.if-a.true in
    let e : length (take c.from.result a.octets) ≡ c.from.result = length-take-le _ _ (omega arith) in
    rw e (simp length-set (omega arith))

pub returns-then-a : goal.returns-then-a
unfolding part_laid part_octets
returns-then-a c =
    let a = c.args.a in
    let at = c.args.at in
    let o = c.args.out.now in
    let r = room a.present a.length _ _ c.requires.1 c.if-a.true in
    let k : a.length ≤ 7 = c.requires.0 c.if-a.true in
    let e : length (take a.length a.octets) ≡ a.length = length-take-le _ _ (omega arith) in
    let n = c.to_be_bytes.ensures ∙ two_octets a.network (omega arith) in
    let f : set c.copy.new.dst (at + 2) a.length ≡ splice o at (a.network / 256 ∷ a.network % 256 ∷ a.length ∷ []) =
    splice_then o at (a.network / 256 ∷ a.network % 256 ∷ []) (a.length ∷ []) (omega arith) (rw n at c.copy.ensures) (splice_set c.copy.new.dst (at + 2) a.length (omega arith)) in
    rw (given_true _ _ _ c.if-a.true)
    (splice_then o at (a.network / 256 ∷ a.network % 256 ∷ a.length ∷ []) (take a.length a.octets) (rw e (omega arith)) f (rw c.from.ensures at c.copy-then-a.ensures))
