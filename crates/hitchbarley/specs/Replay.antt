-- Replaying over lent octets: the state area is loaded, the replay is made, and what it leaves is saved.
use Rattle.std.specs.Prelude.{ℕ, ◌≡◌, List, eqb}
use Rattle.octets.specs.Choice.{pick}
use Rattle.state.specs.Calls.{Loads}
use Rattle.playback.specs.Calls.{Course, playing}
use Rattle.hitchbarley.specs.Trunk.{Left, barred, state_of, passed, inside, feed_bar}

-- what the records come to in the state that the area holds
abbrev pub came_to : List ℕ → List ℕ → List ℕ → List ℕ → Course
came_to state report area o = playing (inside state) report area o

-- 60 and 59 of the lent areas as feeding has them
unfoldable pub replay_left : List ℕ → List ℕ → List ℕ → List ℕ → Left
replay_left state report area o =
    pick (eqb (feed_bar state report area) 0) (passed (inside state).edition (came_to state report area o).number (came_to state report area o).left report)
    (barred (feed_bar state report area) state report area)

pub record Replays (state report area o : List ℕ) (r eaten reported : ℕ) (state' report' area' : List ℕ) : Type 0 where
  pub number : r ≡ (replay_left state report area o).number
  pub ate : eaten ≡ (replay_left state report area o).eaten
  pub spoke : reported ≡ (replay_left state report area o).reported
  pub state_after : state' ≡ (replay_left state report area o).state
  pub report_after : report' ≡ (replay_left state report area o).report
  pub area_after : area' ≡ (replay_left state report area o).area
  pub again : feed_bar state report area ≡ 0 → Loads state' (state_of (inside state).edition (came_to state report area o).left)
