-- The reading of a run of octets as items: tag after tag, left to right, with the numbers of the open groups, innermost first.
use Rattle.std.specs.Prelude.{ℕ, zero, suc, ◌+◌, ◌-◌, List, [], ◌∷◌, ◌++◌, length, ltb, leb, eqb}
use Rattle.octets.specs.Choice.{pick}
use Rattle.octets.specs.Reading.{refuse}
use Rattle.tags.specs.Types.{longest}
use Rattle.tags.specs.Reading.{head_at}
use Rattle.tags.specs.Head.{Tag}
use Rattle.tags.specs.Head.Tag.{Item, Opening, Closing, Refused}
use Rattle.items.specs.Records.{Rec, rec}
use Rattle.items.specs.Answers.{Tally}
use Rattle.items.specs.Answers.Tally.{Items}
use Rattle.items.specs.Answers.{One}

-- 38: "a 2,049th item begins"; 37: "opening with 16 open"
abbrev pub most_items : ℕ
most_items = 2048

abbrev pub deepest : ℕ
deepest = 16

-- the records of what was read and the place where it ends, or the number of the refusal
pub data Out : Type 0 where
  good : List Rec → ℕ → Out
  bad : ℕ → Out

-- these records, and then those
unfoldable pub more : List Rec → Out → Out
more rs (good ys end) = good (rs ++ ys) end
more rs (bad x) = bad x

-- 36: "end with a group open"
unfoldable pub ending : ℕ → List ℕ → Out
ending at [] = good [] at
ending at (n ∷ outer) = bad 36

-- 35: "closing tag without the same number innermost". "An opening and its closing have the depth outside them."
unfoldable pub closes : ℕ → ℕ → (List ℕ → Out) → List ℕ → Out
closes n p rest [] = bad 35
closes n p rest (m ∷ outer) = pick (eqb n m) (more (rec 3 n (length outer) 0 p 0 ∷ []) (rest outer)) (bad 35)

-- after one tag, with the numbers of the open groups, innermost first; rest says what follows at a place with those groups open.
-- 37: "opening with 16 open"
unfoldable pub step : (ℕ → List ℕ → Out) → Tag → List ℕ → Out
step rest (Item k n v p l) groups = more (rec k n (length groups) v p l ∷ []) (rest (p + l) groups)
step rest (Opening n p) groups = refuse (leb deepest (length groups)) (bad 37) (more (rec 2 n (length groups) 0 p 0 ∷ []) (rest p (n ∷ groups)))
step rest (Closing n p) groups = closes n p (rest p) groups
step rest (Refused x) groups = bad x

-- the items from a place to the end, where k more may begin. 38: "a 2,049th item begins"
unfoldable pub walk : ℕ → List ℕ → ℕ → List ℕ → Out
walk zero s at groups = pick (leb (length s) at) (ending at groups) (bad 38)
walk (suc k) s at groups = pick (leb (length s) at) (ending at groups) (step (walk k s) (head_at s at) groups)

-- 39: "over 16,384 parameter octets (judged first)"
unfoldable pub items_of : List ℕ → Out
items_of s = refuse (ltb longest (length s)) (bad 39) (walk most_items s 0 [])

-- what the reading of all items answers, whatever it is lent
unfoldable pub counted : Out → Tally
counted (good rs end) = Items (length rs)
counted (bad x) = Tally.Refused x

-- reading on only while a group is open
abbrev pub while_open : ℕ → List ℕ → Out → Out
while_open at [] rest = good [] at
while_open at (n ∷ outer) rest = rest

-- from a place inside a group to the end of the outermost one
unfoldable pub within : ℕ → List ℕ → ℕ → List ℕ → Out
within zero s at groups = while_open at groups (pick (leb (length s) at) (bad 36) (bad 38))
within (suc k) s at groups = while_open at groups (pick (leb (length s) at) (bad 36) (step (within k s) (head_at s at) groups))

-- one item with its whole group: its records and the place after it
unfoldable pub item_at : List ℕ → ℕ → Out
item_at s at = step (within (most_items - 1) s) (head_at s at) []

-- the same of parameter octets. 39: "over 16,384 parameter octets (judged first)"
unfoldable pub one_at : List ℕ → ℕ → Out
one_at s at = refuse (ltb longest (length s)) (bad 39) (item_at s at)

-- what reading one item answers
unfoldable pub end_of : Out → One
end_of (good rs end) = One.Next end
end_of (bad x) = One.Refused x
