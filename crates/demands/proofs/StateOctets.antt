-- States, octet by octet: by computation.
use mathlib.Core.Path.{refl}
use Rattle.apdu.specs.declared.Edition.TheVariants.{First, Later}
use Rattle.frames.specs.declared.Phase.{Phase}
use Rattle.frames.specs.declared.Phase.TheVariants.{Hunting, Preamble, Header, Data}
use Rattle.collector.specs.Calls.{fresh_collector}
use Rattle.state.specs.Calls.{Loads}
use Rattle.state.specs.Link.{link_octets}
use Rattle.state.specs.Slot.{address_octets, slot_octets}
use Rattle.state.specs.Layout.{state_octets}
use Rattle.state.proofs.Exact.{shaped_loads}
use Rattle.demands.specs.StateOctets.{worked_in, StateOctets}

loads : (p : Phase) → Loads (state_octets (worked_in p)) (worked_in p)
loads p = shaped_loads (worked_in p) (record { head = refl; store = refl; four = refl; slots = (record { from = refl; to = refl }, (record { from = refl; to = refl }, (record { from = refl; to = refl }, (record { from = refl; to = refl }, tt)))) })

pub state_octets_lem : StateOctets
unfolding state_octets link_octets slot_octets address_octets
state_octets_lem =
    record {
      laid = refl;
      size = refl;
      store = refl;
      edition = refl;
      slots = refl;
      back = loads (Data 1029);
      hunting = (refl, loads Hunting);
      preamble = (refl, loads Preamble);
      header = (refl, loads (Header 9));
      fresh = refl;
      fresh_back = shaped_loads (fresh_collector First) (record { head = refl; store = refl; four = refl; slots = (record { from = refl; to = refl }, (record { from = refl; to = refl }, (record { from = refl; to = refl }, (record { from = refl; to = refl }, tt)))) });
      fresh_later = refl;
      freed = refl;
      fresh_later_back = shaped_loads (fresh_collector Later) (record { head = refl; store = refl; four = refl; slots = (record { from = refl; to = refl }, (record { from = refl; to = refl }, (record { from = refl; to = refl }, (record { from = refl; to = refl }, tt)))) });
    }
