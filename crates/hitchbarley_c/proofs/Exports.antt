-- What C and Rust link promises what the library's call of its name promises, and asks what that asks: so what the page of demands says of a call
-- (`ExportedContracts`, which cannot cite a static library) is said of its export.
use Rattle.std.specs.Prelude.{◌≡◌}
use Rattle.std.proofs.Common.{refl}
use Rattle.hitchbarley.proofs.sum_calls.hb_header_check.Reads as header_check_call
use Rattle.hitchbarley_c.proofs.sum_calls.hb_header_check.Reads as header_check_export
use Rattle.hitchbarley.proofs.sum_calls.hb_data_check.Reads as data_check_call
use Rattle.hitchbarley_c.proofs.sum_calls.hb_data_check.Reads as data_check_export
use Rattle.hitchbarley.proofs.sum_calls.hb_header_run.Reads as header_run_call
use Rattle.hitchbarley_c.proofs.sum_calls.hb_header_run.Reads as header_run_export
use Rattle.hitchbarley.proofs.sum_calls.hb_data_run.Reads as data_run_call
use Rattle.hitchbarley_c.proofs.sum_calls.hb_data_run.Reads as data_run_export
use Rattle.hitchbarley.proofs.trunk_calls.hb_fresh.Reads as fresh_call
use Rattle.hitchbarley_c.proofs.trunk_calls.hb_fresh.Reads as fresh_export
use Rattle.hitchbarley.proofs.trunk_calls.hb_feed.Reads as feed_call
use Rattle.hitchbarley_c.proofs.trunk_calls.hb_feed.Reads as feed_export
use Rattle.hitchbarley.proofs.trunk_calls.hb_silence.Reads as silence_call
use Rattle.hitchbarley_c.proofs.trunk_calls.hb_silence.Reads as silence_export
use Rattle.hitchbarley.proofs.trunk_calls.hb_forget.Reads as forget_call
use Rattle.hitchbarley_c.proofs.trunk_calls.hb_forget.Reads as forget_export
use Rattle.hitchbarley.proofs.replay_calls.hb_replay.Reads as replay_call
use Rattle.hitchbarley_c.proofs.replay_calls.hb_replay.Reads as replay_export
use Rattle.hitchbarley.proofs.header_calls.hb_npdu_read.Reads as npdu_read_call
use Rattle.hitchbarley_c.proofs.header_calls.hb_npdu_read.Reads as npdu_read_export
use Rattle.hitchbarley.proofs.header_calls.hb_npdu_write.Reads as npdu_write_call
use Rattle.hitchbarley_c.proofs.header_calls.hb_npdu_write.Reads as npdu_write_export
use Rattle.hitchbarley.proofs.header_calls.hb_apdu_read.Reads as apdu_read_call
use Rattle.hitchbarley_c.proofs.header_calls.hb_apdu_read.Reads as apdu_read_export
use Rattle.hitchbarley.proofs.header_calls.hb_apdu_write.Reads as apdu_write_call
use Rattle.hitchbarley_c.proofs.header_calls.hb_apdu_write.Reads as apdu_write_export
use Rattle.hitchbarley.proofs.item_calls.hb_items_list.Reads as items_list_call
use Rattle.hitchbarley_c.proofs.item_calls.hb_items_list.Reads as items_list_export
use Rattle.hitchbarley.proofs.item_calls.hb_item_next.Reads as item_next_call
use Rattle.hitchbarley_c.proofs.item_calls.hb_item_next.Reads as item_next_export
use Rattle.hitchbarley.proofs.item_calls.hb_item_step.Reads as item_step_call
use Rattle.hitchbarley_c.proofs.item_calls.hb_item_step.Reads as item_step_export
use Rattle.hitchbarley.proofs.item_calls.hb_items_write.Reads as items_write_call
use Rattle.hitchbarley_c.proofs.item_calls.hb_items_write.Reads as items_write_export
use Rattle.hitchbarley.proofs.service_calls.hb_service_read.Reads as service_read_call
use Rattle.hitchbarley_c.proofs.service_calls.hb_service_read.Reads as service_read_export
use Rattle.hitchbarley.proofs.service_calls.hb_service_write.Reads as service_write_call
use Rattle.hitchbarley_c.proofs.service_calls.hb_service_write.Reads as service_write_export
use Rattle.hitchbarley.proofs.writer_calls.hb_frame_write.Reads as frame_write_call
use Rattle.hitchbarley_c.proofs.writer_calls.hb_frame_write.Reads as frame_write_export
use Rattle.hitchbarley.proofs.writer_calls.hb_cut.Reads as cut_call
use Rattle.hitchbarley_c.proofs.writer_calls.hb_cut.Reads as cut_export

-- two contracts are one: what is asked, and what is promised of the answer and of everything lent
pub record Same {A B : Type 1} (asks asks' : A) (promises promises' : B) : Type 1 where
  pub asked : asks ≡ asks'
  pub promised : promises ≡ promises'

itself : {A B : Type 1} {a : A} {b : B} → Same a a b b
itself = record { asked = refl; promised = refl }

pub record Exports : Type 1 where
  pub hb_header_check : Same header_check_export.Pre header_check_call.Pre header_check_export.Post header_check_call.Post
  pub hb_data_check : Same data_check_export.Pre data_check_call.Pre data_check_export.Post data_check_call.Post
  pub hb_header_run : Same header_run_export.Pre header_run_call.Pre header_run_export.Post header_run_call.Post
  pub hb_data_run : Same data_run_export.Pre data_run_call.Pre data_run_export.Post data_run_call.Post
  pub hb_fresh : Same fresh_export.Pre fresh_call.Pre fresh_export.Post fresh_call.Post
  pub hb_feed : Same feed_export.Pre feed_call.Pre feed_export.Post feed_call.Post
  pub hb_silence : Same silence_export.Pre silence_call.Pre silence_export.Post silence_call.Post
  pub hb_forget : Same forget_export.Pre forget_call.Pre forget_export.Post forget_call.Post
  pub hb_replay : Same replay_export.Pre replay_call.Pre replay_export.Post replay_call.Post
  pub hb_npdu_read : Same npdu_read_export.Pre npdu_read_call.Pre npdu_read_export.Post npdu_read_call.Post
  pub hb_npdu_write : Same npdu_write_export.Pre npdu_write_call.Pre npdu_write_export.Post npdu_write_call.Post
  pub hb_apdu_read : Same apdu_read_export.Pre apdu_read_call.Pre apdu_read_export.Post apdu_read_call.Post
  pub hb_apdu_write : Same apdu_write_export.Pre apdu_write_call.Pre apdu_write_export.Post apdu_write_call.Post
  pub hb_items_list : Same items_list_export.Pre items_list_call.Pre items_list_export.Post items_list_call.Post
  pub hb_item_next : Same item_next_export.Pre item_next_call.Pre item_next_export.Post item_next_call.Post
  pub hb_item_step : Same item_step_export.Pre item_step_call.Pre item_step_export.Post item_step_call.Post
  pub hb_items_write : Same items_write_export.Pre items_write_call.Pre items_write_export.Post items_write_call.Post
  pub hb_service_read : Same service_read_export.Pre service_read_call.Pre service_read_export.Post service_read_call.Post
  pub hb_service_write : Same service_write_export.Pre service_write_call.Pre service_write_export.Post service_write_call.Post
  pub hb_frame_write : Same frame_write_export.Pre frame_write_call.Pre frame_write_export.Post frame_write_call.Post
  pub hb_cut : Same cut_export.Pre cut_call.Pre cut_export.Post cut_call.Post

pub exports : Exports
exports =
    record {
      hb_header_check = itself;
      hb_data_check = itself;
      hb_header_run = itself;
      hb_data_run = itself;
      hb_fresh = itself;
      hb_feed = itself;
      hb_silence = itself;
      hb_forget = itself;
      hb_replay = itself;
      hb_npdu_read = itself;
      hb_npdu_write = itself;
      hb_apdu_read = itself;
      hb_apdu_write = itself;
      hb_items_list = itself;
      hb_item_next = itself;
      hb_item_step = itself;
      hb_items_write = itself;
      hb_service_read = itself;
      hb_service_write = itself;
      hb_frame_write = itself;
      hb_cut = itself;
    }
