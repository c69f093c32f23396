-- Demand 3 for the collector; every run can be offered by calls that keep their promises.
use Prim.Native.Nat.{ℕ}
use mathlib.Core.List.{List}
use mathlib.Core.Option.{Option}
use lib.ListN.{length}
use borrow.Author.Tests.{eq-eqb, eqb-true}
use Rattle.runs.specs.Run.{Run}
use Rattle.runs.specs.Offered.Made.{feed, still, free}
use Rattle.runs.proofs.Carrying.{stays}
use Rattle.collector.proofs.Demand as Box
use Rattle.collector.proofs.Reached as Reached
use Rattle.state.proofs.Exact.{state_exactly}
use Rattle.hitchbarley.specs.Offering.{Areas, Calling}
use Rattle.hitchbarley.specs.Offering.Calling.{made, replayed}
use Rattle.hitchbarley.proofs.Demand.{octets_demand3}
use Rattle.demands.specs.Demands.{ReadByPosition, CanBeOffered, FreshPasses, ReachedPasses, MessagesWhole, StatesExact, ReadOverOctets}
use Rattle.demands.proofs.Exported.{Own, octets_own, feed_own, silence_own, forget_own}
use Rattle.demands.proofs.ReplayExported.{replay_own}

pub read_by_position : ReadByPosition
read_by_position c area p z run e o = Box.demand3 c area p z o

pub fresh_passes : FreshPasses
fresh_passes = Reached.fresh

pub reached_passes : ReachedPasses
reached_passes c area p z n run e o = let f = Reached.reached p (eq-eqb (length area) 65536 z) o in (f.receiver, f.slots, eqb-true _ _ f.area)

pub messages_whole : MessagesWhole
messages_whole = Box.messages

-- ---- the same over octets
pub states_exact : StatesExact
states_exact = state_exactly

-- each call leaves octets that are those of the state that they hold
call_own : (s t : Areas) (lent : Run) (n : ℕ) (said : Option (List ℕ)) → Own s.0 → Calling s lent n said t → Own t.0
call_own s t lent n said own (made (feed piece c)) = feed_own s.0 own c.promise
call_own s t lent n said own (made (still c)) = silence_own s.0 own c.promise
call_own s t lent n said own (made (free i c)) = forget_own s.0 own c.promise
call_own s t lent n said own (replayed c) = replay_own s.0 own c.promise

pub read_over_octets : ReadOverOctets
read_over_octets state c area os l p z run h o =
    let q = octets_demand3 state c area l p z run h o in
    let own = stays Calling (λ s. Own s.0) call_own (octets_own state os) o in
    (q.0, q.1, own _ q.2, q.2)

pub can_be_offered : CanBeOffered
can_be_offered = Box.some_way
