-- The value of a service that was read stands inside the parameters, so that its place and length fit the record.
use Rattle.std.specs.Prelude.{Ok}
use Prim.Native.Nat.{ℕ, ◌≤◌}
use native.Mathlib.Omega.{arith}
use mathlib.Core.Path.{◌≡◌, refl, sym, subst}
use mathlib.Core.List.{List}
use lib.ListN.{length}
use Rattle.octets.specs.Reading.{Octets}
use Rattle.octets.specs.Has.{all_has, Has}
use Rattle.tags.specs.Layout.{Thing}
use Rattle.items.specs.Grammar.{encode_all, records_from}
use Rattle.items.specs.Records.{Rec}
use Rattle.items.specs.Reading.{Out, items_of, most_items}
use Rattle.items.specs.Reading.Out.{good, bad}
use Rattle.items.proofs.Exact.{written}
use Rattle.services.specs.Reading.{layout_for, after_tags, read_service}
use Rattle.services.specs.Reading as reading
use Rattle.services.specs.Shows.{message_of}
use Rattle.services.specs.Parts.{Answer}
use Rattle.services.specs.declared.Service.{Service}
use Rattle.services.specs.declared.Service.TheVariants.{ReadProperty, ReadPropertyAck, WriteProperty, WhoIs, IAm, Error}
use Rattle.services.proofs.Things.{never, Here, valued_length, group_read, option_read, last_read}
use Rattle.services.proofs.Pointed.{target_read}
use Rattle.services.proofs.Exact.{accepted}
use Rattle.records.specs.Service.{service_record, service_at, Spanned}
use Rattle.records.proofs.Services.{service_back}

-- the items of the parameters, standing at their front
tags_here : (o : List ℕ) → Octets o → (f : List Rec → Answer) (v : Service) → after_tags f (items_of o) ≡ Ok v → (ts : List Thing) × Here o 0 ts × (f (records_from 0 0 ts) ≡ Ok v) × (length o ≤ 16384)
tags_here o os f v e = from (items_of o) refl e
  where
    from : (out : Out) → items_of o ≡ out → after_tags f out ≡ Ok v → (ts : List Thing) × Here o 0 ts × (f (records_from 0 0 ts) ≡ Ok v) × (length o ≤ 16384)
    from (good rs end) z d =
        let w = written o os rs end z in
        let ts = w.things in
        let h : Here o 0 ts = record { valid = w.grammar.valid; stands = subst (λ (x : List ℕ). Has x 0 (encode_all ts)) (sym w.octets) (all_has (encode_all ts)); inside = omega arith; room = most_items; most = omega arith; balanced = w.grammar.balanced } in
        let n : length o ≤ 16384 = rw w.octets w.grammar.short in
        (ts, h, subst (λ (x : List Rec). f x ≡ Ok v) w.records d, n)
    from (bad x) z d = never x v d

module _ (o : List ℕ) (os : Octets o) where
  ack_spans : (v : Service) → read_service 3 12 o ≡ Ok v → Spanned v
  unfolding read_service layout_for reading.read_property_ack
  ack_spans v e =
      let h = tags_here o os (layout_for 3 12 o) v e in
      let t = target_read o os _ 0 h.0 v h.1 h.2 in
      let g = group_read o _ _ t.rest v t.left t.goes in
      let l = last_read _ g.rest _ v g.goes in
      let n = valued_length g.inner in
      let i = g.left.inside in
      let m = h.3 in
      subst Spanned l.1 (omega arith, omega arith)

  write_spans : (v : Service) → read_service 0 15 o ≡ Ok v → Spanned v
  unfolding read_service layout_for reading.write_property
  write_spans v e =
      let h = tags_here o os (layout_for 0 15 o) v e in
      let t = target_read o os _ 0 h.0 v h.1 h.2 in
      let g = group_read o _ _ t.rest v t.left t.goes in
      let p = option_read o 4 1 16 _ os _ g.rest v g.left g.goes in
      let l = last_read _ p.rest _ v p.goes in
      let n = valued_length g.inner in
      let i = g.left.inside in
      let m = h.3 in
      subst Spanned l.1 (omega arith, omega arith)

  pub read_spans : (kind choice : ℕ) (v : Service) → read_service kind choice o ≡ Ok v → Spanned v
  unfolding message_of
  read_spans kind choice (ReadProperty t) e = tt
  read_spans kind choice (ReadPropertyAck a) e =
      let f = (accepted kind choice o os (ReadPropertyAck a) e).valid.layout in
      ack_spans (ReadPropertyAck a) (rw (f.0, f.1) at e)
  read_spans kind choice (WriteProperty w) e =
      let f = (accepted kind choice o os (WriteProperty w) e).valid.layout in
      write_spans (WriteProperty w) (rw (f.0, f.1) at e)
  read_spans kind choice (WhoIs w) e = tt
  read_spans kind choice (IAm i) e = tt
  read_spans kind choice (Error f) e = tt

  -- a service that was read goes into a record and comes back as it was
  pub service_read_back : (kind choice : ℕ) (v : Service) → read_service kind choice o ≡ Ok v → service_at (service_record v) ≡ v
  service_read_back kind choice v e = service_back v (read_spans kind choice v e)
