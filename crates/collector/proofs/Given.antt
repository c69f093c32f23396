-- The key of every segment that a frame carries is one that a header gives: its addresses are those of the network header that was read.
use Rattle.std.specs.Prelude.{Ok, Err}
use Prim.Native.Nat.{ℕ}
use native.Mathlib.Omega.{arith}
use mathlib.Core.Path.{◌≡◌, subst}
use mathlib.Core.Bool.{true}
use mathlib.Core.List.{List}
use mathlib.Core.Option.{Option, none, some}
use lib.Dec.{ltb, eqb}
use lib.ListN.{length, drop}
use borrow.Author.Tests.{ltb-false}
use Rattle.octets.specs.Choice.{pick_case, pick_cases, given_cases, true_both, impossible}
use Rattle.octets.specs.Reading.{oct}
use Rattle.npdu.specs.Reading.{read_npdu}
use Rattle.apdu.specs.Reading.{Answer, read_apdu}
use Rattle.apdu.specs.declared.Edition.{Edition}
use Rattle.trunk.specs.Reading.{Out}
use Rattle.trunk.specs.Reading.Out.{good as whole, damage}
use Rattle.messages.specs.Slots as Messages
use Rattle.rebuild.specs.View.{given_key}
use Rattle.rebuild.specs.declared.Key.{Key}
use Rattle.collector.specs.Heard.{heard_of, Route, route_of, parts_of}
use Rattle.collector.specs.Frame.{Content, npdu_content, apdu_content, content_of, key_of, segment_from, segment_in, segment_at}
use Rattle.collector.specs.declared.heard.Heard.{Heard}
use Rattle.collector.specs.declared.heard.Parts.{Parts}
use Rattle.collector.proofs.Routes.{GivenRoute, read_given}

-- what holds of every key that has the addresses of a header that was read, holds of every segment's
module _ (Q : Key → Type 0) (read : (w : Heard) (v : Route) (m : Parts) → GivenRoute v → Q (key_of w v m)) where
  abbrev Known : Option (Messages.Segment Key) → Type 0
  Known y = (g : Messages.Segment Key) → y ≡ some g → Q g.key

  none_known : Known none
  none_known g e = impossible (cc)

  module _ (w : Heard) where
    abbrev Fine : Content → Type 0
    Fine x = Known (segment_in w x)

    segment_known : (v : Route) (m : Parts) (a : List ℕ) → GivenRoute v → Known (some (segment_from w v m a))
    segment_known v m a k g e =
        let q : segment_from w v m a ≡ g = cc in
        subst (λ (x : Messages.Segment Key). Q x.key) q (read w v m k)

    apdu_fine : (v : Route) (a : List ℕ) (y : Answer) → GivenRoute v → Fine (apdu_content v a y)
    apdu_fine v a (Ok p) k = given_cases Known _ _ _ (λ _. segment_known v (parts_of p (oct a 0)) a k) (λ _. none_known)
    apdu_fine v a (Err n) k = none_known

    npdu_fine : (payload : List ℕ) → Fine (npdu_content w.edition payload (read_npdu payload))
    unfolding npdu_content
    npdu_fine payload =
        let n = read_npdu payload in
        pick_cases Fine (ltb 0 n.refused) (λ _. none_known) (λ z.
        given_cases Fine n.head.message _ _ (λ _. none_known) (λ _.
        apdu_fine (route_of n.head) (drop n.next payload) (read_apdu w.edition (drop n.next payload)) (read_given payload (omega (arith, ltb-false 0 n.refused z)))))

    content_fine : (payload : List ℕ) → Fine (content_of w payload)
    unfolding content_of
    content_fine payload =
        pick_case Fine (eqb w.frame.kind 5) (npdu_fine payload)
        (pick_case Fine (eqb w.frame.kind 6) (npdu_fine payload) none_known)

  carried_key : (edition : Edition) (o : Out) (g : Messages.Segment Key) → segment_at edition o ≡ some g → Q g.key
  carried_key edition (whole head payload) = content_fine (heard_of edition head) payload
  carried_key edition (damage n) = none_known

-- a header gives it
read_known : (w : Heard) (v : Route) (m : Parts) → GivenRoute v → given_key (key_of w v m) ≡ true
unfolding given_key
read_known w v m k = true_both _ _ k.source k.destination

pub known : (edition : Edition) (o : Out) (g : Messages.Segment Key) → segment_at edition o ≡ some g → given_key g.key ≡ true
known = carried_key (λ k. given_key k ≡ true) read_known

-- its addresses have seven octets each, as their type says
abbrev pub Sevens : Key → Type 0
Sevens k = (length k.from.octets ≡ 7) × (length k.to.octets ≡ 7)

pub sevens : (edition : Edition) (o : Out) (g : Messages.Segment Key) → segment_at edition o ≡ some g → Sevens g.key
sevens = carried_key Sevens (λ w v m k. (k.source_seven, k.destination_seven))
