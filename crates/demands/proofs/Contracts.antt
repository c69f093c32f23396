-- Each contract says what the page says, word for word, so that each law is its own proof.
use Rattle.demands.specs.CallContracts.{Contract, Contracts, ExportedContracts}

itself : {P : Type 0} → Contract Unit P P
itself = record { asks_nothing = tt; says = λ h. h; no_more = λ h. h }

pub contracts : Contracts
contracts =
    record {
      header_step_lem = λ reg octet r. itself;
      header_run_lem = λ κ1 reg s r. itself;
      header_check_lem = λ κ1 s r. itself;
      data_step_lem = λ reg octet r. itself;
      data_run_lem = λ κ1 reg s r. itself;
      data_check_lem = λ κ1 s r. itself;
      receiver_fresh = λ r. itself;
      receiver_feed = λ κ1 m piece r. itself;
      receiver_silence = λ m r. itself;
      frames_write = λ κ1 κ2 kind to from d out out' r. itself;
      npdu_read = λ κ1 s r. itself;
      npdu_write = λ κ1 h out out' r. itself;
      apdu_read = λ κ1 e s r. itself;
      apdu_write = λ κ1 e p out out' r. itself;
      apdu_fault_lem = λ e p r. itself;
      cut = λ κ1 κ2 e m w params out out' r. itself;
      cut_front = λ w n r. itself;
      items_list = λ κ1 κ2 s out out' r. itself;
      items_item_at = λ κ1 s at r. itself;
      items_whole_at = λ κ1 s at r. itself;
      items_write = λ κ1 κ2 κ3 records source out out' r. itself;
      services_read = λ κ1 kind choice s r. itself;
      services_write = λ κ1 κ2 v value out out' r. itself;
      reader_first = λ κ1 s r. itself;
      reader_step_at = λ κ1 s at r. itself;
      reader_step_from = λ κ1 s at r. itself;
      rebuild_take = λ κ1 κ2 t g o area area' r. itself;
      rebuild_forget = λ t s r. itself;
      collector_fresh = λ e r. itself;
      collector_feed = λ κ1 κ2 κ3 c piece report report' area area' r. itself;
      collector_silence = λ κ1 c report report' r. itself;
      collector_forget = λ c s r. itself;
      replay = λ κ1 κ2 κ3 c records report report' area area' r. itself;
    }

pub exported_contracts : ExportedContracts
exported_contracts =
    record {
      hb_header_check = λ κ1 head r. itself;
      hb_data_check = λ κ1 payload r. itself;
      hb_header_run = λ κ1 register piece r. itself;
      hb_data_run = λ κ1 register piece r. itself;
      hb_fresh = λ κ1 state state' later r. itself;
      hb_feed = λ κ1 κ2 κ3 κ4 κ5 κ6 state state' piece report report' area area' eaten eaten' reported reported' r. itself;
      hb_silence = λ κ1 κ2 κ3 state state' report report' reported reported' r. itself;
      hb_forget = λ κ1 state state' slot r. itself;
      hb_replay = λ κ1 κ2 κ3 κ4 κ5 κ6 state state' records report report' area area' eaten eaten' reported reported' r. itself;
      hb_npdu_read = λ κ1 κ2 κ3 octets fields fields' next next' r. itself;
      hb_npdu_write = λ κ1 κ2 κ3 fields out out' wrote wrote' r. itself;
      hb_apdu_read = λ κ1 κ2 κ3 octets later fields fields' next next' r. itself;
      hb_apdu_write = λ κ1 κ2 κ3 fields later out out' wrote wrote' r. itself;
      hb_items_list = λ κ1 κ2 κ3 octets listed listed' count count' r. itself;
      hb_item_next = λ κ1 κ2 octets at next next' r. itself;
      hb_item_step = λ κ1 κ2 κ3 octets at item item' next next' r. itself;
      hb_items_write = λ κ1 κ2 κ3 κ4 listed source out out' wrote wrote' r. itself;
      hb_service_read = λ κ1 κ2 kind choice params fields fields' r. itself;
      hb_service_write = λ κ1 κ2 κ3 κ4 fields value out out' wrote wrote' r. itself;
      hb_frame_write = λ κ1 κ2 κ3 kind destination source payload out out' wrote wrote' r. itself;
      hb_cut = λ κ1 κ2 κ3 κ4 κ5 fields later reply priority each params out out' wrote wrote' segments segments' r. itself;
    }
