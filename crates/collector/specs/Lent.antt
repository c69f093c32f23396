-- The three calls over a lent frame store: they are the collector's own, its edition, link, slots and store being apart.
use Rattle.std.specs.Prelude.{ℕ, ◌≡◌, true, List}
use Rattle.apdu.specs.declared.Edition.{Edition}
use Rattle.frames.specs.declared.Link.{Link}
use Rattle.frames.specs.Step as Frames
use Rattle.messages.specs.Sound.{passes}
use Rattle.rebuild.specs.View.{keys, view}
use Rattle.rebuild.specs.declared.Slots.{Slots}
use Rattle.collector.specs.Acting.{Kept}
use Rattle.collector.specs.Calls.{Feeds, Stills, Forgets}
use Rattle.collector.specs.declared.Collector.{Collector}
use Rattle.collector.specs.Answers.{Fed, Fell, Forgot, Ate, Hushed, Freed}

-- edition, link, slots and store put together
abbrev pub over : Edition → Link → Slots → List ℕ → Collector
over e l t s = record { edition = e; receiver = Frames.over l s; slots = t }

-- ---- feeding: the collector's promise, and slots that have not moved are those that were there
abbrev pub fed_over : Edition → Ate → List ℕ → Fed
fed_over e r s = record { refused = r.refused; eaten = r.eaten; reported = r.reported; state = over e r.link r.slots s }

pub record Eats (e : Edition) (l : Link) (t : Slots) (store report area piece : List ℕ) (r : Ate) (store' report' area' : List ℕ) : Type 0 where
  pub feeds : Feeds (over e l t store) report area piece (fed_over e r store') report' area'
  pub kept : Kept r.moved t r.slots

-- ---- a silence, whatever edition and store are: neither changes, nor do the slots
abbrev pub fell_over : Edition → Hushed → Slots → List ℕ → Fell
fell_over e r t s = record { refused = r.refused; reported = r.reported; state = over e r.link t s }

abbrev pub Hushes : Link → Slots → List ℕ → Hushed → List ℕ → Type 0
Hushes l t report r report' = (e : Edition) (s : List ℕ) → Stills (over e l t s) report (fell_over e r t s) report'

-- the same beside slots that 59 passes, whatever they are
abbrev pub HushesBeside : Link → List ℕ → Hushed → List ℕ → Type 0
HushesBeside l report r report' = (t : Slots) → passes keys 4 (view t) ≡ true → Hushes l t report r report'

-- ---- forgetting, whatever edition and store are: neither changes, nor does the link
abbrev pub forgot_over : Edition → Freed → Link → List ℕ → Forgot
forgot_over e r l s = record { number = r.number; state = over e l r.slots s }

abbrev pub Frees : Link → Slots → ℕ → Freed → Type 0
Frees l t i r = (e : Edition) (s : List ℕ) → Forgets (over e l t s) i (forgot_over e r l s)
