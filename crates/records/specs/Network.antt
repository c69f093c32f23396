-- A network header as a record of 29 octets:
--     0  network message (1 or 0)     1  destination present     2  source present     3  reply expected     4  priority
--     5 -  6  DNET     7  DLEN      8 - 14  DADR
--    15 - 16  SNET    17  SLEN     18 - 24  SADR
--    25  hop count    26  message type    27 - 28  vendor
-- Numbers of two octets have the high one first.
use Rattle.std.specs.Prelude.{ℕ, ◌*◌, ◌+◌, ◌/◌, ◌%◌, List, [], ◌∷◌, ◌++◌, take, drop}
use Rattle.octets.specs.Reading.{oct}
use Rattle.npdu.specs.declared.Npdu.{Npdu}
use Rattle.records.specs.Flag.{flag, flag_at}

abbrev pub npdu_size : ℕ
npdu_size = 29

-- before DADR, between it and SADR, after that
abbrev pub front : Npdu → List ℕ
front h =
    flag h.message ∷ flag h.dest ∷ flag h.source ∷ flag h.reply ∷ h.priority ∷ h.dnet / 256 ∷ h.dnet % 256 ∷ h.dlen ∷ []

abbrev pub middle : Npdu → List ℕ
middle h = h.snet / 256 ∷ h.snet % 256 ∷ h.slen ∷ []

abbrev pub rest : Npdu → List ℕ
rest h = h.hops ∷ h.kind ∷ h.vendor / 256 ∷ h.vendor % 256 ∷ []

unfoldable pub npdu_record : Npdu → List ℕ
npdu_record h = front h ++ (h.dadr ++ (middle h ++ (h.sadr ++ rest h)))

unfoldable pub npdu_at : List ℕ → Npdu
npdu_at o =
    record {
      message = flag_at o 0;
      dest = flag_at o 1;
      source = flag_at o 2;
      reply = flag_at o 3;
      priority = oct o 4;
      dnet = oct o 5 * 256 + oct o 6;
      dlen = oct o 7;
      dadr = take 7 (drop 8 o);
      snet = oct o 15 * 256 + oct o 16;
      slen = oct o 17;
      sadr = take 7 (drop 18 o);
      hops = oct o 25;
      kind = oct o 26;
      vendor = oct o 27 * 256 + oct o 28;
    }
