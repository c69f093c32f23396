-- What the functions of the reading promise, which go from place to place: what is answered there is what the parts say of the records that are left from there on.
use Rattle.std.specs.Prelude.{ℕ, ◌≤◌, ◌≡◌, List, Bool, true, false, eqb}
use Rattle.std.specs.declared.option.Option.{Option}
use Rattle.std.specs.declared.option.Option.TheVariants.{None, Some}
use Rattle.std.specs.declared.result.Result.{Result}
use Rattle.std.specs.declared.result.Result.TheVariants.{Ok, Err}
use Rattle.octets.specs.Choice.{pick, both}
use Rattle.tags.specs.Head.{Tag}
use Rattle.tags.specs.Head.Tag.{Item, Opening, Closing}
use Rattle.items.specs.Records.{Rec}
use Rattle.items.specs.Left.{Left}
use Rattle.services.specs.Parts.{Answer, present, instance_of, context_number, application_number, optional_number, last}
use Rattle.services.specs.Reading.{last_instance}
use Rattle.services.specs.declared.Service.TheVariants.{WriteProperty, WhoIs, IAm}
use Rattle.services.specs.declared.Target.{Target}
use Rattle.services.specs.declared.Span.{Span}

-- the contents of the item at a place, where it is of this kind and number
unfoldable pub found_in : ℕ → ℕ → Tag → Option Span
found_in kind number (Item k n v p l) = pick (both (eqb k kind) (eqb n number)) (Some (record { at = p; len = l })) None
found_in kind number (Opening n p) = None
found_in kind number (Closing n p) = None
found_in kind number (Tag.Refused x) = None

-- the answer is this reading of the records that are left from a place on
abbrev pub Answers : List ℕ → ℕ → (List Rec → Answer) → Answer → Type 0
Answers s at reading r = (rs : List Rec) → Left s at rs → r ≡ reading rs

-- a part gives a, and reading goes on at the place `to`: whatever is answered there is the answer here
abbrev pub Goes : {A : Type 0} → List ℕ → ℕ → ((A → List Rec → Answer) → List Rec → Answer) → A → ℕ → Type 0
Goes {A} s at part a to = (next : A → List Rec → Answer) (r : Answer) → Answers s to (next a) r → Answers s at (part next) r

-- a part refuses with x
abbrev pub Stops : {A : Type 0} → List ℕ → ℕ → ((A → List Rec → Answer) → List Rec → Answer) → ℕ → Type 0
Stops {A} s at part x = (next : A → List Rec → Answer) → Answers s at (part next) (Err x)

-- what a part read, and the place after it, or the number of its refusal
abbrev pub Says : {A : Type 0} → List ℕ → ℕ → ((A → List Rec → Answer) → List Rec → Answer) → Result (A × ℕ) ℕ → Type 0
Says s at part (Ok (v, to)) = Goes s at part v to
Says s at part (Err x) = Stops s at part x

-- a number that was read is not above the range
abbrev pub Topped : ℕ → Result (ℕ × ℕ) ℕ → Type 0
Topped high (Ok (v, to)) = v ≤ high
Topped high (Err x) = Unit {0}

-- whether an optional number is there
abbrev pub Presence : List ℕ → ℕ → ℕ → Bool → Type 0
Presence s at number r = (rs : List Rec) → Left s at rs → r ≡ present number rs

-- an optional number as an option
abbrev pub given : Bool → ℕ → Option ℕ
given true v = Some v
given false v = None

abbrev pub optional_part : List ℕ → ℕ → ℕ → ℕ → (Option ℕ → List Rec → Answer) → List Rec → Answer
optional_part s number low high next = optional_number s number low high (λ here v. next (given here v))

abbrev pub OptionalTopped : ℕ → Result (Option ℕ × ℕ) ℕ → Type 0
OptionalTopped high (Ok (Some v, to)) = v ≤ high
OptionalTopped high (Ok (None, to)) = Unit {0}
OptionalTopped high (Err x) = Unit {0}

-- the last parts of WriteProperty, of Who-Is with limits and of I-Am, after what was read before them
abbrev pub priority_part : List ℕ → Target → Span → List Rec → Answer
priority_part s t value = optional_number s 4 1 16 (λ ranked priority. last (WriteProperty (record { target = t; value = value; ranked = ranked; priority = priority })))

abbrev pub limits_part : List ℕ → List Rec → Answer
limits_part s =
    context_number s 0 0 last_instance (λ low.
    context_number s 1 low last_instance (λ high.
    last (WhoIs (record { limited = true; low = low; high = high }))))

abbrev pub capable_part : List ℕ → ℕ → ℕ → List Rec → Answer
capable_part s v longest =
    application_number s 9 0 3 (λ segmentation.
    application_number s 2 0 65535 (λ vendor.
    last (IAm (record { instance = instance_of v; longest = longest; segmentation = segmentation; vendor = vendor }))))
