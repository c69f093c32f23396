-- The test of a key's addresses holds exactly when a network header that keeps the rules has them.
use Rattle.std.proofs.Common.{◌≡◌, ℕ, Bool, true, false, ◌↔◌, refl, ap, arith}
use Rattle.octets.specs.Choice.{given, not_so, both_true, true_both}
use Rattle.npdu.specs.Address.{absent, part_address, source_of, destination_of, gives, gives_source, gives_destination, Giver}
use Rattle.npdu.specs.Layout.{zeros, shown}
use Rattle.npdu.specs.Valid.{Valid}
use Rattle.npdu.specs.declared.Npdu.{Npdu}
use Rattle.npdu.proofs.AddressLaws.{part_gives, source_exactly, destination_exactly}
use Rattle.rebuild.specs.View.{given_key}
use Rattle.rebuild.specs.Given.{Addressed, Header, KeyFits}
use Rattle.rebuild.specs.declared.Key.{Key}

-- ---- a header that keeps the rules gives its addresses, whatever octets its fields fit in
pub addressed_given : (h : Npdu) (k : Key) → Valid h → Addressed h k → given_key k ≡ true
unfolding given_key gives_source gives_destination source_of destination_of shown
addressed_given h k v a =
    true_both (gives_source k.from) (gives_destination k.to)
    (rw (← a.source) (part_gives 1 65534 h.source h.snet h.slen h.sadr v.ruled.origin (ap (λ (x : Npdu). x.sadr) v.settled)))
    (rw (← a.destination) (part_gives 0 65535 h.dest h.dnet h.dlen h.dadr v.ruled.destination (ap (λ (x : Npdu). x.dadr) v.settled)))

-- ---- the source of one header and the destination of another are those of a third
same_choice : (b : Bool) → ◌≡◌ {A = ℕ} (given b 0 0) 0
unfolding given
same_choice true = refl
same_choice false = refl

abbrev joint : Npdu → Npdu → Npdu
joint s d =
    record {
      message = false;
      dest = d.dest;
      source = s.source;
      reply = false;
      priority = 0;
      dnet = d.dnet;
      dlen = d.dlen;
      dadr = d.dadr;
      snet = s.snet;
      slen = s.slen;
      sadr = s.sadr;
      hops = 0;
      kind = 0;
      vendor = 0;
    }

module _ (s d : Npdu) (v : Valid s) (w : Valid d) where
  joint_shown : shown (joint s d) ≡ joint s d
  unfolding shown given
  joint_shown =
      rw (
        ap (λ (x : Npdu). x.dnet) w.settled,
        ap (λ (x : Npdu). x.dlen) w.settled,
        ap (λ (x : Npdu). x.dadr) w.settled,
        ap (λ (x : Npdu). x.snet) v.settled,
        ap (λ (x : Npdu). x.slen) v.settled,
        ap (λ (x : Npdu). x.sadr) v.settled,
        same_choice d.dest,
      )

  joint_valid : Valid (joint s d)
  joint_valid =
      record {
        ruled = record { urgency = omega arith; destination = w.ruled.destination; origin = v.ruled.origin };
        kept = record { dest_kept = w.kept.dest_kept; source_kept = v.kept.source_kept };
        settled = joint_shown;
      }

by_givers : (k : Key) → Giver source_of k.from → Giver destination_of k.to → Header k
unfolding source_of destination_of
by_givers k s d =
    record {
      head = joint s.head d.head;
      valid = joint_valid s.head d.head s.valid d.valid;
      fits = record {
        dnet_fits = d.fits.dnet_fits;
        dlen_fits = d.fits.dlen_fits;
        dadr_fits = d.fits.dadr_fits;
        snet_fits = s.fits.snet_fits;
        slen_fits = s.fits.slen_fits;
        sadr_fits = s.fits.sadr_fits;
        hops_fit = omega arith;
        kind_fits = omega arith;
        vendor_fits = omega arith;
      };
      addressed = record { source = s.address; destination = d.address };
    }

pub given_header : (k : Key) → KeyFits k → given_key k ≡ true → Header k
unfolding given_key
given_header k f e =
    let g = both_true (gives_source k.from) (gives_destination k.to) e in
    by_givers k ((source_exactly k.from f.from).0 g.0) ((destination_exactly k.to f.to).0 g.1)

pub given_exactly : (k : Key) → KeyFits k → (given_key k ≡ true) ↔ Header k
given_exactly k f = (given_header k f, λ h. addressed_given h.head k h.valid h.addressed)

-- ---- a key that has neither address is given: by a header that has none
absent_gives : (low top : ℕ) → gives low top absent ≡ true
unfolding part_address given
absent_gives low top = part_gives low top false 0 0 (zeros 7) (λ z. not_so z) refl

pub unaddressed_given : (k : Key) → k.from ≡ absent → k.to ≡ absent → given_key k ≡ true
unfolding given_key gives_source gives_destination
unaddressed_given k f t = rw (f, t) (true_both (gives_source absent) (gives_destination absent) (absent_gives 1 65534) (absent_gives 0 65535))
