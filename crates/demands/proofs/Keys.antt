-- The key of a segment in its eight parts: what two keys that headers give agree in, what a frame's octets say of its segment's key, and that segments of one key alone are
-- joined and laid in one slot.
use Prim.Native.Nat.{ℕ, zero, suc, ◌+◌, ◌-◌, ◌≤◌, ◌<◌}
use native.Mathlib.Omega.{arith}
use mathlib.Core.Path.{◌≡◌, refl, sym, ap, subst, ◌∙◌}
use mathlib.Core.Logic.{◌↔◌, ◌⊎◌, inl, inr}
use mathlib.Core.Bool.{Bool, true, false}
use mathlib.Core.List.{List, [], ◌∷◌, ◌++◌}
use mathlib.Core.Option.{Option, none, some}
use lib.Dec.{eqb, ltb, lit<}
use lib.ListN.{length, take, drop}
use lib.Seq.{length-take-le}
use borrow.Author.Tests.{ltb-false}
use Rattle.std.specs.Prelude.{Ok, Err}
use Rattle.octets.specs.Choice.{both, non, given, pick_case, pick_cases, given_cases, both_right, non_true, impossible, not_so}
use Rattle.octets.specs.Every.{octets_none, octets_more, octets_join}
use Rattle.octets.specs.Reading.{oct, Octets}
use Rattle.runs.specs.Run.{Run, wire, Trace, ended}
use Rattle.runs.specs.Run.Order.{trunk, forget}
use Rattle.trunk.specs.Reading.{Out, held_of, read_from}
use Rattle.trunk.specs.Reading.Out.{good, damage}
use Rattle.trunk.proofs.Recording.{octets_left, octets_right}
use Rattle.npdu.specs.Address.{absent, part_address, source_of, destination_of, AddressFits}
use Rattle.npdu.specs.Layout.{zeros, cut, part_laid, part_octets, parts_octets, tail_octets, encode, shown}
use Rattle.npdu.specs.Reading.{read_npdu}
use Rattle.npdu.specs.Valid.{PartValid, Valid}
use Rattle.npdu.specs.declared.Npdu.{Npdu}
use Rattle.npdu.proofs.Exact.{npdu_exactly}
use Rattle.apdu.specs.Reading.{read_apdu}
use Rattle.apdu.specs.declared.Edition.{Edition}
use Rattle.apdu.specs.declared.Pdu.{Pdu}
use Rattle.apdu.specs.Reading as Apdu
use Rattle.messages.specs.Slots.{room, Segment, Slot, Box, boxed, lowest, or_else, is_some, empty, slot_at, is_free, slot_of}
use Rattle.messages.specs.Rows as Rows
use Rattle.messages.specs.Rows.{Answer, rebuild}
use Rattle.messages.specs.Rows.Answer.{refused, taken, completed}
use Rattle.messages.specs.History.{Deed, Log, Past, accepted, of, starting, since, standing, past, after, runs}
use Rattle.messages.specs.History.Deed.{segment, forgetting}
use Rattle.messages.specs.History.Entry.{said}
use Rattle.messages.proofs.Lowest.{lowest_some}
use Rattle.messages.proofs.Keyed.{slot_some}
use Rattle.rebuild.specs.View.{keys}
use Rattle.rebuild.specs.Given.{Header, KeyFits}
use Rattle.rebuild.specs.declared.Key.{Key}
use Rattle.rebuild.proofs.Given.{given_header}
use Rattle.rebuild.proofs.Page.{key_laws}
use Rattle.recordings.specs.Frames.{deed_of, deeds_at, deeds, history}
use Rattle.collector.specs.Heard.{heard_of, route_of, parts_of}
use Rattle.collector.specs.Frame.{Content, content_of, npdu_content, apdu_content, key_of, segment_in, segment_from, segment_at, bacnet}
use Rattle.collector.specs.Calls.{slots_of}
use Rattle.collector.proofs.Given.{known}
use Rattle.demands.specs.Completed.{answer_in, report_at, segment_ending, heard_entry, heard_key, heard_forget, heard_log}
use Rattle.demands.proofs.FiftyNine.{to_header_lem, of_header}
use Rattle.demands.specs.Keys.{net_if, address_if, net_of, address_of, Agree, KeyHeard, KeyParts, Carried, AllCarried, OneSlotOneKey}

-- ---- a part of a header as an address: its network number and its address are the header's
part_net_lem : (here : Bool) (net len : ℕ) (adr : List ℕ) → net_of (part_address here net len adr) ≡ net_if here net
unfolding part_address absent given
part_net_lem true net len adr = refl
part_net_lem false net len adr = refl

part_address_lem : (here : Bool) (net len : ℕ) (adr : List ℕ) → address_of (part_address here net len adr) ≡ address_if here len adr
unfolding part_address absent given
part_address_lem true net len adr = refl
part_address_lem false net len adr = refl

-- ---- two parts that keep the rules are one address where both agree: an address is its octets with its length, and 0 past it
abbrev Laid : Bool → ℕ → List ℕ → Type 0
Laid here len adr = here ≡ true → (len ≤ 7) × (length adr ≡ 7) × (cut len adr ≡ adr)

-- as many octets as the length says
laid_length : (len : ℕ) (adr : List ℕ) → Laid true len adr → length (take len adr) ≡ len
laid_length len adr f = length-take-le len adr (omega (arith, (f refl).0, (f refl).1))

-- the same octets have one length, and 0 stands past it in both
same_octets_lem : (len lon : ℕ) (adr odr : List ℕ) → Laid true len adr → Laid true lon odr → take len adr ≡ take lon odr → (len ≡ lon) × (adr ≡ odr)
unfolding cut
same_octets_lem len lon adr odr f h e =
    let l : len ≡ lon = sym (laid_length len adr f) ∙ ap length e ∙ laid_length lon odr h in
    let c : cut len adr ≡ cut lon odr = rw (e, l) in
    (l, sym (f refl).2 ∙ c ∙ (h refl).2)

-- a part that is there and one that is not differ: some number, and none
one_part : (p q : Bool) (n m len lon : ℕ) (adr odr : List ℕ) → Laid p len adr → Laid q lon odr → net_if p n ≡ net_if q m → address_if p len adr ≡ address_if q lon odr
    → part_address p n len adr ≡ part_address q m lon odr
unfolding part_address given
one_part true true n m len lon adr odr f h s a =
    let net : n ≡ m = cc in
    let t : take len adr ≡ take lon odr = cc in
    let o = same_octets_lem len lon adr odr f h t in
    rw (net, o.0, o.1)
one_part true false n m len lon adr odr f h s a = impossible (cc)
one_part false true n m len lon adr odr f h s a = impossible (cc)
one_part false false n m len lon adr odr f h s a = refl

-- the parts of a header that keeps the rules are laid so
valid_source : (h : Npdu) → Valid h → Laid h.source h.slen h.sadr
unfolding shown given
valid_source h v t = ((v.ruled.origin t).len_range, v.kept.source_kept, rw t at (ap (λ (x : Npdu). x.sadr) v.settled))

valid_destination : (h : Npdu) → Valid h → Laid h.dest h.dlen h.dadr
unfolding shown given
valid_destination h v t = ((v.ruled.destination t).len_range, v.kept.dest_kept, rw t at (ap (λ (x : Npdu). x.dadr) v.settled))

-- two headers' sources are one where both parts agree, and so are their destinations
one_source : (h i : Npdu) → Valid h → Valid i → net_of (source_of h) ≡ net_of (source_of i) → address_of (source_of h) ≡ address_of (source_of i) → source_of h ≡ source_of i
unfolding source_of
one_source h i v w s a =
    one_part h.source i.source h.snet i.snet h.slen i.slen h.sadr i.sadr (valid_source h v) (valid_source i w)
    (sym (part_net_lem h.source h.snet h.slen h.sadr) ∙ s ∙ part_net_lem i.source i.snet i.slen i.sadr)
    (sym (part_address_lem h.source h.snet h.slen h.sadr) ∙ a ∙ part_address_lem i.source i.snet i.slen i.sadr)

one_destination : (h i : Npdu) → Valid h → Valid i → net_of (destination_of h) ≡ net_of (destination_of i) → address_of (destination_of h) ≡ address_of (destination_of i)
    → destination_of h ≡ destination_of i
unfolding destination_of
one_destination h i v w s a =
    one_part h.dest i.dest h.dnet i.dnet h.dlen i.dlen h.dadr i.dadr (valid_destination h v) (valid_destination i w)
    (sym (part_net_lem h.dest h.dnet h.dlen h.dadr) ∙ s ∙ part_net_lem i.dest i.dnet i.dlen i.dadr)
    (sym (part_address_lem h.dest h.dnet h.dlen h.dadr) ∙ a ∙ part_address_lem i.dest i.dnet i.dlen i.dadr)

-- ---- keys
agree_self : (a : Key) → Agree a a
agree_self a = record { source = refl; destination = refl; kind = refl; invoke = refl; snet = refl; sadr = refl; dnet = refl; dadr = refl }

same_agree : (a b : Key) → a ≡ b → Agree a b
same_agree a b e = subst (λ (b : Key). Agree a b) e (agree_self a)

same_key_lem : (a b : Key) → (keys.same a b ≡ true) ↔ (a ≡ b)
same_key_lem a b = (key_laws.only a b, λ e. rw e (key_laws.self b))

-- from the eight parts to the whole key, by the two headers
agree_same : (a b : Key) → Header a → Header b → Agree a b → a ≡ b
agree_same a b x y g =
    let f : a.from ≡ b.from =
    sym x.addressed.source
    ∙ one_source x.head y.head x.valid y.valid
    (ap net_of x.addressed.source ∙ g.snet ∙ sym (ap net_of y.addressed.source))
    (ap address_of x.addressed.source ∙ g.sadr ∙ sym (ap address_of y.addressed.source))
    ∙ y.addressed.source in
    let t : a.to ≡ b.to =
    sym x.addressed.destination
    ∙ one_destination x.head y.head x.valid y.valid
    (ap net_of x.addressed.destination ∙ g.dnet ∙ sym (ap net_of y.addressed.destination))
    (ap address_of x.addressed.destination ∙ g.dadr ∙ sym (ap address_of y.addressed.destination))
    ∙ y.addressed.destination in
    λ i. record { source = g.source i; destination = g.destination i; kind = g.kind i; invoke = g.invoke i; from = f i; to = t i }

-- ---- the segment of a good frame: its network header and its APDU are read, and its key is theirs
module _ (e : Edition) (head payload : List ℕ) where
  abbrev behind : List ℕ
  behind = drop (read_npdu payload).next payload

  -- what is known of the segment then
  record From (g : Segment Key) : Type 0 where
    pub network : (read_npdu payload).refused ≡ 0
    pub pdu : Pdu
    pub application : read_apdu e behind ≡ Ok pdu
    pub key : g.key ≡ key_of (heard_of e head) (route_of (read_npdu payload).head) (parts_of pdu (oct behind 0))

  abbrev Told : Option (Segment Key) → Type 0
  Told y = (g : Segment Key) → y ≡ some g → From g

  none_told : Told none
  none_told g q = impossible (cc)

  abbrev Fine : Content → Type 0
  Fine x = Told (segment_in (heard_of e head) x)

  apdu_told : (read_npdu payload).refused ≡ 0 → (y : Apdu.Answer) → read_apdu e behind ≡ y → Fine (apdu_content (route_of (read_npdu payload).head) behind y)
  apdu_told z (Ok p) r =
      given_cases Told _ _ _
      (λ _ g q.
      let is : segment_from (heard_of e head) (route_of (read_npdu payload).head) (parts_of p (oct behind 0)) behind ≡ g = cc in
      record { network = z; pdu = p; application = r; key = ap (λ (x : Segment Key). x.key) (sym is) })
      (λ _. none_told)
  apdu_told z (Err n) r = none_told

  npdu_told : Fine (npdu_content e payload (read_npdu payload))
  unfolding npdu_content
  npdu_told =
      let n = read_npdu payload in
      pick_cases Fine (ltb 0 n.refused) (λ _. none_told) (λ z.
      given_cases Fine n.head.message _ _ (λ _. none_told) (λ _.
      apdu_told (omega (arith, ltb-false 0 n.refused z)) (read_apdu e behind) refl))

  content_told : Fine (content_of (heard_of e head) payload)
  unfolding content_of
  content_told =
      pick_case Fine (eqb (oct head 0) 5) npdu_told
      (pick_case Fine (eqb (oct head 0) 6) npdu_told none_told)

  -- the eight parts, in the page's words
  from_heard : (g : Segment Key) → From g → KeyHeard e head payload g.key
  unfolding parts_of source_of destination_of
  from_heard g w =
      let h = (read_npdu payload).head in
      subst (KeyHeard e head payload) (sym w.key)
      (record {
        source = refl;
        destination = refl;
        network = w.network;
        pdu = w.pdu;
        application = w.application;
        kind = refl;
        invoke = refl;
        snet = part_net_lem h.source h.snet h.slen h.sadr;
        sadr = part_address_lem h.source h.snet h.slen h.sadr;
        dnet = part_net_lem h.dest h.dnet h.dlen h.dadr;
        dadr = part_address_lem h.dest h.dnet h.dlen h.dadr;
      })

  frame_heard : (g : Segment Key) → segment_at e (good head payload) ≡ some g → KeyHeard e head payload g.key
  frame_heard g q = from_heard g (content_told g q)

-- ---- where the frame's data are octets, the fields of both addresses fit theirs
-- zeros are octets
octets_zeros : (n : ℕ) → Octets (zeros n)
octets_zeros zero = octets_none
octets_zeros (suc n) = octets_more 0 (zeros n) (lit< tt) (octets_zeros n)

-- a part that keeps the rules and whose octets are octets
part_fits : (here : Bool) (net len low top : ℕ) (adr : List ℕ) → (here ≡ true → PartValid net len low top) → top < 65536 → Laid here len adr
    → Octets (part_octets here net len adr) → AddressFits (part_address here net len adr)
unfolding part_address absent part_octets part_laid given cut
part_fits true net len low top adr v b f os =
    let l = f refl in
    record {
      network_fits = omega (arith, (v refl).net_range);
      length_fits = omega (arith, l.0);
      octets_fit = subst Octets l.2 (octets_join (take len adr) (zeros (7 - len)) (λ i. os (suc (suc (suc i)))) (octets_zeros (7 - len)));
      seven = l.1;
    }
part_fits false net len low top adr v b f os = record { network_fits = omega arith; length_fits = omega arith; octets_fit = octets_zeros 7; seven = refl }

-- a header that was read from octets keeps the rules, and its two parts are among them
record Parted (h : Npdu) : Type 0 where
  pub valid : Valid h
  pub destination : Octets (part_octets h.dest h.dnet h.dlen h.dadr)
  pub source : Octets (part_octets h.source h.snet h.slen h.sadr)

read_parted : (payload : List ℕ) → Octets payload → (read_npdu payload).refused ≡ 0 → Parted (read_npdu payload).head
unfolding encode parts_octets
read_parted payload os z =
    let h = (read_npdu payload).head in
    let rest = drop (read_npdu payload).next payload in
    let d = part_octets h.dest h.dnet h.dlen h.dadr in
    let s = part_octets h.source h.snet h.slen h.sadr in
    let w = npdu_exactly.sound payload (record { head = h; rest = rest }) os (record { accepted = z; header = refl; left = refl }) in
    let all : Octets (encode h) = octets_left (encode h) rest (subst Octets w.1 os) in
    let two : Octets (d ++ s) = octets_left (d ++ s) (tail_octets h) (λ i. all (suc (suc i))) in
    record { valid = w.0; destination = octets_left d s two; source = octets_right d s two }

-- both addresses of such a header
from_fits : (h : Npdu) → Parted h → (k : Key) → k.from ≡ source_of h → k.to ≡ destination_of h → KeyFits k
unfolding source_of destination_of
from_fits h p k f t =
    record {
      from = subst AddressFits (sym f)
          (part_fits h.source h.snet h.slen 1 65534 h.sadr p.valid.ruled.origin (omega arith) (valid_source h p.valid) p.source);
      to = subst AddressFits (sym t)
          (part_fits h.dest h.dnet h.dlen 0 65535 h.dadr p.valid.ruled.destination (omega arith) (valid_destination h p.valid) p.destination);
    }

-- the test of the key's addresses holds, so that a header gives them
frame_given : (e : Edition) (head payload : List ℕ) (g : Segment Key) → Octets payload → segment_at e (good head payload) ≡ some g → Header g.key
frame_given e head payload g os q =
    let w = content_told e head payload g q in
    given_header g.key
    (from_fits (read_npdu payload).head (read_parted payload os w.network) g.key (ap (λ (k : Key). k.from) w.key) (ap (λ (k : Key). k.to) w.key))
    (known e (good head payload) g q)

pub key_parts : KeyParts
key_parts =
    record {
      same = same_key_lem;
      agree = λ a b x y. (λ s. same_agree a b (key_laws.only a b s), λ g. (same_key_lem a b).1 (agree_same a b (to_header_lem x) (to_header_lem y) g));
      heard = frame_heard;
      given = λ e head payload g os q. of_header (frame_given e head payload g os q);
    }

-- ---- what the history joins to one message: each step of a run adds a segment that ends at its place, and only where its key is the message's
module _ {M : Type 0} (e : Edition) (t : Trace Out M) (first n : ℕ) (k : Key) where
  -- a place of the run
  abbrev Here : ℕ → Type 0
  Here p = (first ≤ p) × (p < first + n)

  abbrev Joins : Log Key → Type 0
  Joins log = AllCarried e t first n k (since keys k log)

  -- one more at the end
  behind_all : (gs : List (Segment Key)) (g : Segment Key) → AllCarried e t first n k gs → Carried e t first n k g → AllCarried e t first n k (gs ++ (g ∷ []))
  behind_all [] g a c = (c, tt)
  behind_all (x ∷ gs) g a c = (a.0, behind_all gs g a.1 c)

  -- a segment is joined only if the keys are the same, which means one
  said_joins : (p : ℕ) → Here p → (head payload : List ℕ) → ended p t ≡ some (good head payload) → (g : Segment Key) → segment_at e (good head payload) ≡ some g
      → (w : Answer) (log : Log Key) → Joins log → Joins (said g w ∷ log)
  said_joins p there head payload here g is w log a =
      pick_cases (AllCarried e t first n k) (of keys k g w)
      (λ o.
      let one : g.key ≡ k = key_laws.only g.key k (both_right (accepted w) _ o) in
      let c : Carried e t first n k g =
      record { place = p; behind = there.0; within = there.1; head = head; payload = payload; ends = here; carries = is; heard = subst (KeyHeard e head payload) one (frame_heard e head payload g is) } in
      pick_case (AllCarried e t first n k) (starting keys g log) (c, tt) (behind_all (since keys k log) g a c))
      (λ _. a)

  -- a place where a good frame ends, and any place
  entry_joins : (p : ℕ) → Here p → (head payload : List ℕ) → ended p t ≡ some (good head payload) → (y : Option (Segment Key)) → segment_at e (good head payload) ≡ y
      → (r : Option (List ℕ)) (log : Log Key) → Joins log → Joins (heard_entry y r log)
  entry_joins p there head payload here none is r log a = a
  entry_joins p there head payload here (some g) is none log a = a
  entry_joins p there head payload here (some g) is (some r) log a = said_joins p there head payload here g is (answer_in r) log a

  place_joins : (p : ℕ) → Here p → (y : Option Out) → ended p t ≡ y → (r : Option (List ℕ)) (log : Log Key) → Joins log → Joins (heard_entry (segment_ending e y) r log)
  place_joins p there none here r log a = a
  place_joins p there (some (good head payload)) here r log a = entry_joins p there head payload here (segment_at e (good head payload)) refl r log a
  place_joins p there (some (damage x)) here r log a = a

  -- a forget order is no segment
  forget_joins : (x : Option Key) (log : Log Key) → Joins log → Joins (heard_forget x log)
  forget_joins none log a = a
  forget_joins (some j) log a = a

  run_joins : (s : List (Slot Key)) (reports : List (ℕ × List ℕ)) (p : ℕ) (run : Run) → first ≤ p → p + length (wire run) ≤ first + n → (log : Log Key) → Joins log
      → Joins (heard_log e s t reports p run log)
  run_joins s reports p [] l h log a = a
  run_joins s reports p (trunk x ∷ run) l h log a =
      run_joins s reports (p + 1) run (omega arith) (omega arith) (heard_entry (segment_ending e (ended p t)) (report_at p reports) log)
      (place_joins p (l, omega arith) (ended p t) refl (report_at p reports) log a)
  run_joins s reports p (forget i ∷ run) l h log a = run_joins s reports p run l h (heard_forget (heard_key s i log) log) (forget_joins (heard_key s i log) log a)

  -- nor is a slot that stood open
  standing_joins : (ts : List (Slot Key)) → Joins (standing ts)
  standing_joins [] = tt
  standing_joins (s ∷ ts) = pick_case Joins s.used (standing_joins ts) (standing_joins ts)

  -- the same in the recording's own history. Deeds that keep it so: where all that is joined before them is carried, all that is joined behind them is too
  abbrev Keep : List (Deed Key) → Type 0
  Keep ds = (w : Past Key) → Joins w.log → Joins (runs keys w ds).log

  -- with the segment of a good frame that ends at a place in front of them, if it carries one; and with what ends at any place
  segment_keeps : (p : ℕ) → Here p → (head payload : List ℕ) → ended p t ≡ some (good head payload) → (y : Option (Segment Key)) → segment_at e (good head payload) ≡ y
      → (ds : List (Deed Key)) → Keep ds → Keep (deed_of keys (bacnet e) y ++ ds)
  segment_keeps p there head payload here none is ds f w a = f w a
  segment_keeps p there head payload here (some g) is ds f w a =
      f (after keys (segment g) w) (said_joins p there head payload here g is (rebuild keys g w.box).answer w.log a)

  place_keeps : (p : ℕ) → Here p → (y : Option Out) → ended p t ≡ y → (ds : List (Deed Key)) → Keep ds → Keep (deeds_at keys (bacnet e) y ++ ds)
  place_keeps p there none here ds f w a = f w a
  place_keeps p there (some (good head payload)) here ds f w a = segment_keeps p there head payload here (segment_at e (good head payload)) refl ds f w a
  place_keeps p there (some (damage x)) here ds f w a = f w a

  -- a forget order is no segment either
  deeds_keep : (p : ℕ) (run : Run) → first ≤ p → p + length (wire run) ≤ first + n → Keep (deeds keys (bacnet e) t p run)
  deeds_keep p [] l h w a = a
  deeds_keep p (trunk x ∷ run) l h w a =
      place_keeps p (l, omega arith) (ended p t) refl (deeds keys (bacnet e) t (p + 1) run) (deeds_keep (p + 1) run (omega arith) (omega arith)) w a
  deeds_keep p (forget i ∷ run) l h w a = deeds_keep p run l h (after keys (forgetting i) w) (pick_case Joins (slot_at keys w.box.slots i).used a a)

  history_joins : (s : List (Slot Key)) (area : List ℕ) (run : Run) → length (wire run) ≡ n → Joins (history keys (bacnet e) t first s area run)
  history_joins s area run q = deeds_keep first run (omega arith) (omega arith) (past (standing s) (boxed s area)) (standing_joins s)

-- ---- the slot that an accepted segment is laid in, where it is open: its key's own, since the other one that the search stops at is free
module _ (g : Segment Key) (b : Box Key) where
  -- slot i, if it is open, has the segment's key
  abbrev Own : ℕ → Type 0
  Own i = (slot_at keys b.slots i).used ≡ true → (slot_at keys b.slots i).key ≡ g.key

  -- the slot that an answer names, if it names one, is so
  abbrev Names : Answer → Type 0
  Names w = (i n : ℕ) → (w ≡ taken i n) ⊎ (w ≡ completed i n) → Own i

  abbrev Lays : Rows.Done Key → Type 0
  Lays d = Names d.answer

  refused_names : (m : ℕ) → Names (refused m)
  refused_names m i n (inl e) = impossible (cc)
  refused_names m i n (inr e) = impossible (cc)

  taken_names : (i n : ℕ) → Own i → Names (taken i n)
  taken_names i n o j m (inl e) = let z : i ≡ j = cc in subst Own z o
  taken_names i n o j m (inr e) = impossible (cc)

  completed_names : (i n : ℕ) → Own i → Names (completed i n)
  completed_names i n o j m (inl e) = impossible (cc)
  completed_names i n o j m (inr e) = let z : i ≡ j = cc in subst Own z o

  -- and so is the slot that a search stopped at
  abbrev Lands : Option ℕ → Type 0
  Lands none = Unit {0}
  Lands (some i) = Own i

  settled_lays : (x : Option ℕ) (n : ℕ) → Lands x → Lays (Rows.settled keys g x n b)
  settled_lays none n l = refused_names 50
  settled_lays (some i) n l = let total = n + length g.octets in pick_case Lays g.mor (taken_names i total l) (completed_names i total l)

  -- the rows in front of it refuse
  rows_lays : (x : Option ℕ) (t : Slot Key) → Lands (or_else x (lowest (is_free keys) b.slots)) → Lays (Rows.rows keys g x t b)
  rows_lays x t l =
      let anew = Rows.starts keys g x t in
      let later = both (is_some x) (non anew) in
      let n = Rows.before keys g x t in
      pick_case Lays (both (non anew) (non (is_some x))) (refused_names 51)
      (pick_case Lays (both later (non (eqb g.number t.next))) (refused_names 52)
      (pick_case Lays (both later (non (eqb g.choice t.choice))) (refused_names 53)
      (pick_case Lays (ltb room (n + length g.octets)) (refused_names 54)
      (settled_lays (or_else x (lowest (is_free keys) b.slots)) n l))))

  -- the lowest free slot is not open; the key's own has the key
  free_lands : (x : Option ℕ) → lowest (is_free keys) b.slots ≡ x → Lands x
  free_lands none e = tt
  free_lands (some i) e =
      let shut = non_true (slot_at keys b.slots i).used (lowest_some (is_free keys) (empty keys) b.slots i e).1 in
      λ u. not_so (sym shut ∙ u)

  lands : (x : Option ℕ) → slot_of keys g.key b.slots ≡ x → Lands (or_else x (lowest (is_free keys) b.slots))
  lands none e = free_lands (lowest (is_free keys) b.slots) refl
  lands (some i) e =
      λ u. (slot_some keys key_laws g.key b.slots i e).2

  rebuild_lays : Lays (rebuild keys g b)
  unfolding rebuild
  rebuild_lays = let o = slot_of keys g.key b.slots in rows_lays o (Rows.record_at keys b.slots o) (lands o refl)

pub one_slot_one_key : OneSlotOneKey
one_slot_one_key =
    record {
      joined = λ c run reports k.
          run_joins c.edition (read_from c.receiver (wire run)) (length (held_of c.receiver)) (length (wire run)) k (slots_of c) reports
          (length (held_of c.receiver)) run (omega arith) (omega arith) (standing (slots_of c))
          (standing_joins c.edition (read_from c.receiver (wire run)) (length (held_of c.receiver)) (length (wire run)) k (slots_of c));
      recorded = λ c area all run k.
          history_joins c.edition (read_from c.receiver (wire all)) (length (held_of c.receiver)) (length (wire run)) k (slots_of c) area run refl;
      laid = λ g b i n e u. same_agree _ _ (rebuild_lays g b i n e u);
    }
