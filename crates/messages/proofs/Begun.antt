-- A message was begun in a history exactly where an accepted segment of its key started one somewhere in it.
use mathlib.Core.Path.{◌≡◌, refl, sym, ap, subst}
use mathlib.Core.Logic.{◌↔◌}
use mathlib.Core.Bool.{true}
use mathlib.Core.List.{[], ◌∷◌, ◌++◌}
use Rattle.octets.specs.Choice.{by_test, both_left, both_right}
use Rattle.messages.specs.Slots.{Keys, KeyLaws, Segment}
use Rattle.messages.specs.Rows.{Answer}
use Rattle.messages.specs.History.{Entry, Log, accepted, of, starting, begun, BeganIn}
use Rattle.messages.specs.History.Entry.{said, dropped, stood}
use Rattle.messages.proofs.Tests.{never}

module _ {Key : Type 0} (K : Keys Key) (L : KeyLaws K) (k : Key) where
  -- one entry more in front
  more : (x : Entry Key) (log : Log Key) → BeganIn K k log → BeganIn K k (x ∷ log)
  more x log B =
      record {
        later = x ∷ B.later;
        first = B.first;
        answer = B.answer;
        older = B.older;
        parts = ap (λ (l : Log Key). x ∷ l) B.parts;
        was_accepted = B.was_accepted;
        mine = B.mine;
        starts = B.starts;
      }

  begun_in : (log : Log Key) → begun K k log ≡ true → BeganIn K k log
  begun_in [] e = never e
  begun_in (said g w ∷ old) e =
      by_test (of K k g w)
      (λ o. by_test (starting K g old)
      (λ s.
      record {
        later = [];
        first = g;
        answer = w;
        older = old;
        parts = refl;
        was_accepted = both_left (accepted w) _ o;
        mine = L.only g.key k (both_right (accepted w) _ o);
        starts = s;
      })
      (λ s. more (said g w) old (begun_in old (rw (o, s) at e))))
      (λ o. more (said g w) old (begun_in old (rw o at e)))
  begun_in (dropped j ∷ old) e = more (dropped j) old (begun_in old e)
  begun_in (stood j n ∷ old) e = more (stood j n) old (begun_in old e)

  -- what stands in front keeps it so
  begun_said : (g : Segment Key) (w : Answer) (old : Log Key) → begun K k old ≡ true → begun K k (said g w ∷ old) ≡ true
  begun_said g w old e = by_test (of K k g w) (λ o. by_test (starting K g old) (λ s. rw (o, s)) (λ s. rw (o, s) e)) (λ o. rw o e)

  begun_front : (later old : Log Key) → begun K k old ≡ true → begun K k (later ++ old) ≡ true
  begun_front [] old e = e
  begun_front (said g w ∷ later) old e = begun_said g w (later ++ old) (begun_front later old e)
  begun_front (dropped j ∷ later) old e = begun_front later old e
  begun_front (stood j n ∷ later) old e = begun_front later old e

  begun_there : (g : Segment Key) (w : Answer) (old : Log Key) → accepted w ≡ true → g.key ≡ k → starting K g old ≡ true → begun K k (said g w ∷ old) ≡ true
  begun_there g w old a e s = let same : K.same g.key k ≡ true = rw e (L.self k) in rw (a, same, s)

  pub begun_exactly : (log : Log Key) → (begun K k log ≡ true) ↔ BeganIn K k log
  begun_exactly log = (
    begun_in log,
    λ B. subst (λ (l : Log Key). begun K k l ≡ true) (sym B.parts)
        (begun_front B.later (said B.first B.answer ∷ B.older) (begun_there B.first B.answer B.older B.was_accepted B.mine B.starts)),
  )
