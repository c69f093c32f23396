-- The reading of a service's parameters: "Tag refusals 30 to 39 come before 43 and 40 to 42."
use Rattle.std.specs.Prelude.{ℕ, Bool, true, false, List, eqb, Err}
use Rattle.octets.specs.Choice.{pick, both}
use Rattle.items.specs.Records.{Rec}
use Rattle.items.specs.Reading.{Out, items_of}
use Rattle.items.specs.Reading.Out.{good, bad}
use Rattle.services.specs.Parts.{Answer, wanted, present, number_of, any_number, type_of, instance_of, context_number, application_number, context_object, optional_number, group, last}
use Rattle.services.specs.declared.Service.TheVariants.{ReadProperty, ReadPropertyAck, WriteProperty, WhoIs, IAm, Error}
use Rattle.services.specs.declared.Target.{Target}

-- "0 to 4194303"
abbrev pub last_instance : ℕ
last_instance = 4194303

abbrev pub target : ℕ → ℕ → Bool → ℕ → Target
target v property indexed index = record { object = type_of v; instance = instance_of v; property = property; indexed = indexed; index = index }

-- "context 0 object (10-bit type, 22-bit instance), 1 property, optional 2 index"
unfoldable pub target_parts : List ℕ → (Target → List Rec → Answer) → List Rec → Answer
target_parts s next =
    context_object s 0 (λ v.
    context_number s 1 0 any_number (λ property.
    optional_number s 2 0 any_number (λ indexed index. next (target v property indexed index))))

-- "ReadProperty 12, request"
unfoldable pub read_property : List ℕ → List Rec → Answer
read_property s = target_parts s (λ t. last (ReadProperty t))

-- "Its ack adds a group 3, the value, possibly empty."
unfoldable pub read_property_ack : List ℕ → List Rec → Answer
read_property_ack s = target_parts s (λ t. group 3 (λ value. last (ReadPropertyAck (record { target = t; value = value }))))

-- "WriteProperty 15: as the ack, with optional context 4 priority 1 to 16."
unfoldable pub write_property : List ℕ → List Rec → Answer
write_property s =
    target_parts s (λ t.
    group 3 (λ value.
    optional_number s 4 1 16 (λ ranked priority.
    last (WriteProperty (record { target = t; value = value; ranked = ranked; priority = priority })))))

-- "Who-Is 8: none, or context 0 and 1, both 0 to 4194303, low not above high": a first item of another sort is an item after the last
unfoldable pub who_is : List ℕ → List Rec → Answer
who_is s rs =
    pick (present 0 rs)
    (context_number s 0 0 last_instance (λ low.
    context_number s 1 low last_instance (λ high.
    last (WhoIs (record { limited = true; low = low; high = high })))) rs)
    (last (WhoIs (record { limited = false; low = 0; high = 0 })) rs)

-- "I-Am 0: application object of type 8, unsigned, enumerated 0 to 3, unsigned to 65535."
unfoldable pub device_rule : List ℕ → Rec → ℕ
device_rule s r = pick (eqb (type_of (number_of s r)) 8) 0 41

unfoldable pub i_am : List ℕ → List Rec → Answer
i_am s =
    wanted 0 12 (device_rule s) (number_of s) (λ v.
    application_number s 2 0 any_number (λ longest.
    application_number s 9 0 3 (λ segmentation.
    application_number s 2 0 65535 (λ vendor.
    last (IAm (record { instance = instance_of v; longest = longest; segmentation = segmentation; vendor = vendor }))))))

-- "Error for 12 or 15: two application enumerated."
unfoldable pub error_of : List ℕ → List Rec → Answer
error_of s =
    application_number s 9 0 any_number (λ class.
    application_number s 9 0 any_number (λ code.
    last (Error (record { class = class; code = code }))))

-- which layout a kind of PDU (0 confirmed request, 1 unconfirmed, 3 complex ack, 5 error) and a choice have. 43: "choice not above for that PDU"
unfoldable pub layout_for : ℕ → ℕ → List ℕ → List Rec → Answer
layout_for kind choice s rs =
    pick (both (eqb kind 0) (eqb choice 12)) (read_property s rs)
    (pick (both (eqb kind 3) (eqb choice 12)) (read_property_ack s rs)
    (pick (both (eqb kind 0) (eqb choice 15)) (write_property s rs)
    (pick (both (eqb kind 1) (eqb choice 8)) (who_is s rs)
    (pick (both (eqb kind 1) (eqb choice 0)) (i_am s rs)
    (pick (both (eqb kind 5) (eqb choice 12)) (error_of s rs)
    (pick (both (eqb kind 5) (eqb choice 15)) (error_of s rs)
    (Err 43)))))))

abbrev pub after_tags : (List Rec → Answer) → Out → Answer
after_tags f (good rs end) = f rs
after_tags f (bad x) = Err x

unfoldable pub read_service : ℕ → ℕ → List ℕ → Answer
read_service kind choice s = after_tags (layout_for kind choice s) (items_of s)
