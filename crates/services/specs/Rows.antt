-- The rows 40 to 43 in the page's words: the parts that a service's layout wants, one after another, and which number the items get, apart from any reading.
use Rattle.std.specs.Prelude.{ℕ, ◌/◌, ◌<◌, ◌≡◌, ◌⊎◌, List, [], ◌∷◌, ◌++◌, length}
use Rattle.octets.specs.Reading.{oct}
use Rattle.octets.specs.Numbers.{value_at}
use Rattle.tags.specs.Layout.{Thing}
use Rattle.tags.specs.Layout.Thing.{application, context, opening, closing}
use Rattle.items.specs.Reading.{most_items}
use Rattle.items.specs.Grammar.{Balanced}

-- ---- what a part asks of its item's contents: a number from one to another, an object, an object of one type; nothing of an opening, which has none
pub data Rule : Type 0 where
  number : ℕ → ℕ → Rule
  object : Rule
  object_of : ℕ → Rule
  nothing : Rule

-- the number that contents are, high octet first
abbrev pub number_in : List ℕ → ℕ
number_in xs = value_at xs 0 (length xs)

-- "Context numbers follow types 2 and 9": "1 to 4 octets". "12 object, 4"
abbrev pub WrongLength : Rule → List ℕ → Type 0
WrongLength (number low high) xs = (length xs ≡ 0) ⊎ (4 < length xs)
WrongLength object xs = length xs ≡ 4 → ⊥
WrongLength (object_of type) xs = length xs ≡ 4 → ⊥
WrongLength nothing xs = ⊥

-- "first not 00 if more than one"
abbrev pub LongerForm : Rule → List ℕ → Type 0
LongerForm (number low high) xs = (1 < length xs) × (oct xs 0 ≡ 0)
LongerForm object xs = ⊥
LongerForm (object_of type) xs = ⊥
LongerForm nothing xs = ⊥

-- "10-bit type, 22-bit instance"
abbrev pub OutOfRange : Rule → List ℕ → Type 0
OutOfRange (number low high) xs = (number_in xs < low) ⊎ (high < number_in xs)
OutOfRange object xs = ⊥
OutOfRange (object_of type) xs = number_in xs / 4194304 ≡ type → ⊥
OutOfRange nothing xs = ⊥

-- "wrong length, a longer form than needed, or out of range"
pub data Breaks (r : Rule) (xs : List ℕ) : Type 0 where
  wrong_length : WrongLength r xs → Breaks r xs
  longer_form : LongerForm r xs → Breaks r xs
  out_of_range : OutOfRange r xs → Breaks r xs

abbrev pub Keeps : Rule → List ℕ → Type 0
Keeps r xs = Breaks r xs → ⊥

-- ---- the parts: a context item of a number, an application item of a type, a group of a number, an optional context item; and Who-Is's two limits,
-- "none, or context 0 and 1, both 0 to 4194303, low not above high"
pub data Wanted : Type 0 where
  in_context : ℕ → Rule → Wanted
  of_type : ℕ → Rule → Wanted
  group : ℕ → Wanted
  optional : ℕ → Rule → Wanted
  limits : Wanted

-- any number that four octets hold
abbrev pub any : Rule
any = number 0 4294967295

-- "context 0 object (10-bit type, 22-bit instance), 1 property, optional 2 index"
abbrev pub target : List Wanted
target = in_context 0 object ∷ in_context 1 any ∷ optional 2 any ∷ []

-- the layout of a kind of PDU (0 confirmed request, 1 unconfirmed, 3 complex ack, 5 error) and a choice
pub data LaidOut (kind choice : ℕ) (ws : List Wanted) : Type 0 where
  -- "ReadProperty 12, request"
  read_property : kind ≡ 0 → choice ≡ 12 → ws ≡ target → LaidOut kind choice ws
  -- "Its ack adds a group 3, the value, possibly empty."
  read_property_ack : kind ≡ 3 → choice ≡ 12 → ws ≡ target ++ (group 3 ∷ []) → LaidOut kind choice ws
  -- "WriteProperty 15: as the ack, with optional context 4 priority 1 to 16."
  write_property : kind ≡ 0 → choice ≡ 15 → ws ≡ target ++ (group 3 ∷ optional 4 (number 1 16) ∷ []) → LaidOut kind choice ws
  -- "Who-Is 8"
  who_is : kind ≡ 1 → choice ≡ 8 → ws ≡ limits ∷ [] → LaidOut kind choice ws
  -- "I-Am 0: application object of type 8, unsigned, enumerated 0 to 3, unsigned to 65535."
  i_am : kind ≡ 1 → choice ≡ 0 → ws ≡ of_type 12 (object_of 8) ∷ of_type 2 any ∷ of_type 9 (number 0 3) ∷ of_type 2 (number 0 65535) ∷ [] → LaidOut kind choice ws
  -- "Error for 12 or 15: two application enumerated."
  error_of : kind ≡ 5 → (choice ≡ 12) ⊎ (choice ≡ 15) → ws ≡ of_type 9 any ∷ of_type 9 any ∷ [] → LaidOut kind choice ws

-- ---- the next part and the next item
-- the item that a part begins with: of its kind and number, with these contents
abbrev pub item_of : Wanted → List ℕ → Thing
item_of (in_context n r) = context n
item_of (of_type n r) = application n
item_of (group n) = λ xs. opening n
item_of (optional n r) = context n
item_of limits = context 0

-- and what is asked of those contents
abbrev pub rule_of : Wanted → Rule
rule_of (in_context n r) = r
rule_of (of_type n r) = r
rule_of (group n) = nothing
rule_of (optional n r) = r
rule_of limits = number 0 4194303

-- the next item is of the wanted kind and number
abbrev pub Comes : Wanted → List Thing → Type 0
Comes w ts = (xs : List ℕ) × ((rest : List Thing) × (ts ≡ item_of w xs ∷ rest))

-- "An optional parameter is present exactly when the next item is a context item of its number."
abbrev pub Optional : Wanted → Type 0
Optional (in_context n r) = ⊥
Optional (of_type n r) = ⊥
Optional (group n) = ⊥
Optional (optional n r) = Unit {0}
Optional limits = Unit {0}

-- the items ts behind a part, of the rest behind its first item: a group has items, whole by themselves, "up to its own closing number"
abbrev pub Behind : Wanted → List Thing → List Thing → Type 0
Behind (in_context n r) rest ts = rest ≡ ts
Behind (of_type n r) rest ts = rest ≡ ts
Behind (group n) rest ts = (inner : List Thing) × (rest ≡ inner ++ (closing n ∷ ts)) × Balanced most_items [] inner
Behind (optional n r) rest ts = rest ≡ ts
Behind limits rest ts = rest ≡ ts

-- what a part that is there brings with it: a low limit the high one, "low not above high"
abbrev pub brings : Wanted → List ℕ → List Wanted
brings (in_context n r) xs = []
brings (of_type n r) xs = []
brings (group n) xs = []
brings (optional n r) xs = []
brings limits xs = in_context 1 (number (number_in xs) 4194303) ∷ []

-- a part is taken from the items ts: it is there and keeps its rule, or it is optional and another item, or none, comes next. Parts that it brings and items behind it are left.
pub data Taken (w : Wanted) (ts : List Thing) (more : List Wanted) (left : List Thing) : Type 0 where
  there : (xs : List ℕ) (rest : List Thing) → ts ≡ item_of w xs ∷ rest → Keeps (rule_of w) xs → Behind w rest left → more ≡ brings w xs → Taken w ts more left
  absent : Optional w → (Comes w ts → ⊥) → left ≡ ts → more ≡ [] → Taken w ts more left

-- parts taken left to right, all good so far: of the parts ws and the items ts, these are left
pub data Takes : List Wanted → List Thing → List Wanted → List Thing → Type 0 where
  so_far : {ws : List Wanted} {ts : List Thing} → Takes ws ts ws ts
  one_more : {w : Wanted} {ws more ws' : List Wanted} {ts left ts' : List Thing} → Taken w ts more left → Takes (more ++ ws) left ws' ts' → Takes (w ∷ ws) ts ws' ts'

-- ---- the offence of the next item, with its number
pub data Offence : ℕ → List Wanted → List Thing → Type 0 where
  -- "40: the next item is missing or not of the wanted kind and number."
  missing : {w : Wanted} {ws : List Wanted} {ts : List Thing} → (Optional w → ⊥) → (Comes w ts → ⊥) → Offence 40 (w ∷ ws) ts
  -- "41: wrong length, a longer form than needed, or out of range; low above high is judged at high."
  broken : {w : Wanted} {ws : List Wanted} {ts : List Thing} (xs : List ℕ) (rest : List Thing) → ts ≡ item_of w xs ∷ rest → Breaks (rule_of w) xs → Offence 41 (w ∷ ws) ts
  -- "42: an item after the last."
  after_last : {t : Thing} {ts : List Thing} → Offence 42 [] (t ∷ ts)

-- ---- x is given to the items of a kind and choice, exactly when
pub data Given (x kind choice : ℕ) (ts : List Thing) : Type 0 where
  offended : (ws ws' : List Wanted) (ts' : List Thing) → LaidOut kind choice ws → Takes ws ts ws' ts' → Offence x ws' ts' → Given x kind choice ts
  -- "43: choice not above for that PDU"
  no_layout : x ≡ 43 → ((ws : List Wanted) → LaidOut kind choice ws → ⊥) → Given x kind choice ts
