-- A run after another, records behind a run's, how many are eaten, and the first record of some.
use Prim.Native.Nat.{ℕ, suc, ◌+◌, ◌≤◌, ◌<◌}
use native.Mathlib.Omega.{arith}
use mathlib.Core.Path.{◌≡◌, refl, sym, ap, ◌∙◌}
use mathlib.Core.List.{List, [], ◌∷◌, ◌++◌}
use mathlib.Core.Option.{Option, none, some}
use lib.ListN.{length, drop}
use Rattle.octets.specs.Choice.{impossible}
use Rattle.octets.specs.Reading.{oct}
use Rattle.runs.specs.Run.{Run, Order}
use Rattle.runs.specs.Offered.{answer}
use Rattle.apdu.specs.declared.Edition.{Edition}
use Rattle.frames.specs.declared.Receiver.{Receiver}
use Rattle.messages.specs.Slots as Messages
use Rattle.rebuild.specs.declared.Key.{Key}
use Rattle.collector.specs.Calls.{Answered}
use Rattle.playback.specs.Layout.{record_size, record_octets}
use Rattle.playback.specs.Reading.{Records, order_of, read_on, read_records}
use Rattle.playback.specs.Calls.{one, more, then_go, play, Course, course, reached, by_front, course_of, Ready}
use Rattle.playback.specs.Lent.{more_of}
use Rattle.playback.proofs.Records.{read_behind, read_first}
use Rattle.playback.proofs.Readiness.{ReadyAt, one_ready}

more_none : (d : Answered) → more 0 d ≡ d
more_none d = let z : 0 + d.eaten ≡ d.eaten = omega arith in ap (λ (n : ℕ). answer n d.said d.state d.slots d.area) z

pub more_more : (m n : ℕ) (d : Answered) → more m (more n d) ≡ more (m + n) d
more_more m n d = let z : m + (n + d.eaten) ≡ m + n + d.eaten = omega arith in ap (λ (n : ℕ). answer n d.said d.state d.slots d.area) z

-- what goes on behind an answer: nothing where it reports
abbrev pub further : Option (List ℕ) → Answered → Answered → Answered
further none d rest = more d.eaten rest
further (some report) d rest = d

abbrev pub behind : Edition → Answered → Run → Answered
behind edition d run = further d.said d (play edition d.state d.slots d.area run)

further_go : (x y : Option (List ℕ)) (d e rest : Answered) → e.said ≡ y → more 1 (further y e rest) ≡ further y (more 1 e) rest
further_go x none d e rest q = more_more 1 e.eaten rest
further_go x (some r) d e rest q = refl

go_behind : (edition : Edition) (x : Option (List ℕ)) (d e : Answered) (run : Run) → then_go x d (behind edition e run) ≡ behind edition (then_go x d e) run
go_behind edition none d e run = further_go none e.said d e (play edition e.state e.slots e.area run) refl
go_behind edition (some r) d e run = refl

-- a run after another
pub play_on : (edition : Edition) (xs run : Run) (r : Receiver) (s : List (Messages.Slot Key)) (a : List ℕ) → play edition r s a (xs ++ run) ≡ behind edition (play edition r s a xs) run
play_on edition [] run r s a = sym (more_none (play edition r s a run))
play_on edition (o ∷ xs) run r s a =
    let d = one edition o r s a in
    ap (then_go d.said d) (play_on edition xs run d.state d.slots d.area) ∙ go_behind edition d.said d (play edition d.state d.slots d.area xs) run

-- ---- how many are eaten
go_most : (x : Option (List ℕ)) (d e : Answered) (n : ℕ) → e.eaten ≤ n → (then_go x d e).eaten ≤ suc n
go_most none d e n l = omega arith
go_most (some r) d e n l = omega arith

pub play_most : (edition : Edition) (run : Run) (r : Receiver) (s : List (Messages.Slot Key)) (a : List ℕ) → (play edition r s a run).eaten ≤ length run
play_most edition [] r s a = omega arith
play_most edition (o ∷ run) r s a =
    let d = one edition o r s a in
    go_most d.said d (play edition d.state d.slots d.area run) (length run) (play_most edition run d.state d.slots d.area)

go_all : (x : Option (List ℕ)) (d e : Answered) (n : ℕ) → (e.said ≡ none → e.eaten ≡ n) → (then_go x d e).said ≡ none → (then_go x d e).eaten ≡ suc n
go_all none d e n h q = let z = h q in omega arith
go_all (some r) d e n h q = impossible (cc)

-- all where nothing is reported
pub play_all : (edition : Edition) (run : Run) (r : Receiver) (s : List (Messages.Slot Key)) (a : List ℕ) → (play edition r s a run).said ≡ none → (play edition r s a run).eaten ≡ length run
play_all edition [] r s a q = refl
play_all edition (o ∷ run) r s a q =
    let d = one edition o r s a in
    go_all d.said d (play edition d.state d.slots d.area run) (length run) (play_all edition run d.state d.slots d.area) q

go_some : (x : Option (List ℕ)) (d e : Answered) → 0 < (then_go x d e).eaten
go_some none d e = omega arith
go_some (some r) d e = omega arith

-- and one where there is one
pub play_some : (edition : Edition) (run : Run) (r : Receiver) (s : List (Messages.Slot Key)) (a : List ℕ) → 0 < length run → 0 < (play edition r s a run).eaten
play_some edition [] r s a l = absurd (omega arith)
play_some edition (o ∷ run) r s a l = let d = one edition o r s a in go_some d.said d (play edition d.state d.slots d.area run)

-- ---- readiness stays
go_ready : (x : Option (List ℕ)) (d e : Answered) → ReadyAt d → ReadyAt e → ReadyAt (then_go x d e)
go_ready none d e D E = E
go_ready (some r) d e D E = D

pub play_ready : (edition : Edition) (run : Run) {r : Receiver} {s : List (Messages.Slot Key)} {a : List ℕ} → Ready r s a → ReadyAt (play edition r s a run)
play_ready edition [] R = R
play_ready edition (o ∷ run) {r} {s} {a} R =
    let d = one edition o r s a in
    let D : ReadyAt d = one_ready edition R o in
    go_ready d.said d (play edition d.state d.slots d.area run) D (play_ready edition run D)

-- ---- the course: records behind a run's
abbrev pub further_of : Option (List ℕ) → Answered → Course → Course
further_of none d rest = more_of d.eaten rest
further_of (some report) d rest = course 0 d

by_further : (x : Option (List ℕ)) (d rest : Answered) (n : ℕ) → d.said ≡ x → by_front (further x d rest) n ≡ further_of x d (by_front rest n)
by_further none d rest n q = refl
by_further (some r) d rest n q = ap (λ (x : Option (List ℕ)). course (reached x n) d) q

pub course_on : (edition : Edition) (run : Run) (o : List ℕ) (r : Receiver) (s : List (Messages.Slot Key)) (a : List ℕ)
    → (let d = play edition r s a run in course_of edition r s a (record_octets run ++ o) ≡ further_of d.said d (course_of edition d.state d.slots d.area o))
unfolding course_of
course_on edition run o r s a =
    let d = play edition r s a run in
    let w = read_records o in
    ap (λ (x : Records). by_front (play edition r s a x.front) x.stop) (read_behind run o)
    ∙ ap (λ (x : Answered). by_front x w.stop) (play_on edition run w.front r s a)
    ∙ by_further d.said d (play edition d.state d.slots d.area w.front) w.stop refl

-- ---- the first record
go_course : (x : Option (List ℕ)) (d rest : Answered) (n : ℕ) → by_front (then_go x d rest) n ≡ further_of x (answer 1 x d.state d.slots d.area) (by_front rest n)
go_course none d rest n = refl
go_course (some r) d rest n = refl

pub course_first : (edition : Edition) (o : List ℕ) (r : Receiver) (s : List (Messages.Slot Key)) (a : List ℕ) (y : Order) → record_size ≤ length o
    → order_of (oct o 0) (oct o 1) (oct o 2) (oct o 3) ≡ some y
    → (let d = one edition y r s a in
    course_of edition r s a o ≡ further_of d.said (answer 1 d.said d.state d.slots d.area) (course_of edition d.state d.slots d.area (drop record_size o)))
unfolding course_of
course_first edition o r s a y l q =
    let d = one edition y r s a in
    let w = read_records (drop record_size o) in
    ap (λ (x : Records). by_front (play edition r s a x.front) x.stop) (read_first o l ∙ ap (λ (x : Option Order). read_on x w) q)
    ∙ go_course d.said d (play edition d.state d.slots d.area w.front) w.stop

pub course_bad : (edition : Edition) (o : List ℕ) (r : Receiver) (s : List (Messages.Slot Key)) (a : List ℕ) → record_size ≤ length o
    → order_of (oct o 0) (oct o 1) (oct o 2) (oct o 3) ≡ none → course_of edition r s a o ≡ course 67 (answer 0 none r s a)
unfolding course_of
course_bad edition o r s a l q =
    ap (λ (x : Records). by_front (play edition r s a x.front) x.stop) (read_first o l ∙ ap (λ (x : Option Order). read_on x (read_records (drop record_size o))) q)
