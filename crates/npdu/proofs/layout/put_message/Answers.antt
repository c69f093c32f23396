use Rattle.std.proofs.Common.{rules, arith, ℕ, Bool, true, ◌≡◌, ◌+◌, ◌≤◌, ◌/◌, ◌%◌, [], ◌∷◌, length, ap, ◌∙◌, length-set}
use Rattle.octets.specs.Choice.{given_true}
use Rattle.octets.specs.Rules.{tests}
use Rattle.octets.specs.Splice.{splice_set, splice_then}
use Rattle.npdu.specs.Layout.{message_laid, message_octets}
use Rattle.npdu.specs.Size.{kind_size, message_size}
use Rattle.npdu.proofs.Sizes.{two_octets}
use Rattle.npdu.proofs.layout.put_message.Goals as goal

-- what a message takes, in its short form and in its long one
room : (here : Bool) (kind at n : ℕ) → at + message_size here kind ≤ n → here ≡ true → at + kind_size kind ≤ n
unfolding message_size
room here kind at n r h = let e : message_size here kind ≡ kind_size kind = given_true _ _ _ h in omega (arith, e, r)

long : (kind at n : ℕ) → at + kind_size kind ≤ n → 128 ≤ kind → at + 3 ≤ n
unfolding kind_size
long kind at n r h = let e : kind_size kind ≡ 3 = search (rules, tests) in omega (arith, e, r)

some : (kind : ℕ) → 1 ≤ kind_size kind
unfolding kind_size
some kind = grind (arith, tests)

pub bounds-out-at : goal.bounds-out-at
bounds-out-at c = omega (arith, some c.args.kind, room c.args.here c.args.kind _ _ c.requires c.if-here.true)

pub copy-requires : goal.copy-requires
copy-requires c =
    let r = long c.args.kind _ _ (room c.args.here c.args.kind _ _ c.requires c.if-here.true) c.if-kind-ge128.true in
    simp length-set (omega (arith, ap length c.to_be_bytes.ensures))

pub returns-then-kind-ge128 : goal.returns-then-kind-ge128
unfolding message_laid message_octets
returns-then-kind-ge128 c =
    let a = c.args in
    let r = long a.kind _ _ (room a.here a.kind _ _ c.requires c.if-here.true) c.if-kind-ge128.true in
    let v = c.to_be_bytes.ensures ∙ two_octets a.vendor (omega arith) in
    let e : message_laid a.kind a.vendor ≡ a.kind ∷ a.vendor / 256 ∷ a.vendor % 256 ∷ [] = search (rules, tests) in
    rw (given_true _ _ _ c.if-here.true, e)
    (splice_then a.out.now a.at (a.kind ∷ []) (a.vendor / 256 ∷ a.vendor % 256 ∷ []) (omega arith) (splice_set a.out.now a.at a.kind (omega arith)) (rw v at c.copy.ensures))

pub returns-else-kind-ge128 : goal.returns-else-kind-ge128
unfolding message_laid message_octets
returns-else-kind-ge128 c =
    let a = c.args in
    let e : message_laid a.kind a.vendor ≡ a.kind ∷ [] = search (rules, tests) in
    rw (given_true _ _ _ c.if-here.true, e) (splice_set a.out.now a.at a.kind (omega (arith, some a.kind, room a.here a.kind _ _ c.requires c.if-here.true)))
