-- The table of kinds: each by name, over what it fills.
use Rattle.std.specs.Prelude.{ℕ}
use Rattle.reports.specs.declared.Apdu.{Apdu}
use Rattle.reports.specs.declared.Frame.{Frame}
use Rattle.reports.specs.declared.Report.{Report}

abbrev pub no_frame : Frame
no_frame = record { kind = 0; destination = 0; source = 0 }

abbrev pub no_apdu : Apdu
no_apdu = record { first = 0; invoke = 0; choice = 0 }

-- 1 "frame of a type other than 5 and 6": 2-4, data length
abbrev pub other_frame : Frame → ℕ → Report
other_frame f len = record { kind = 1; number = 0; frame = f; apdu = no_apdu; slot = 0; length = len }

-- 2 "damage": 1
abbrev pub damaged : ℕ → Report
damaged n = record { kind = 2; number = n; frame = no_frame; apdu = no_apdu; slot = 0; length = 0 }

-- 3 "unsegmented APDU, its tags good": 2-6, 12, APDU length
abbrev pub unsegmented : Frame → Apdu → ℕ → Report
unsegmented f a len = record { kind = 3; number = 0; frame = f; apdu = a; slot = 0; length = len }

-- 4 "segment with MOR taken": 2-7, 12, octets held so far
abbrev pub segment_taken : Frame → Apdu → ℕ → ℕ → Report
segment_taken f a s len = record { kind = 4; number = 0; frame = f; apdu = a; slot = s; length = len }

-- 5 "message complete, its tags good": 2-7, 12, total
abbrev pub complete : Frame → Apdu → ℕ → ℕ → Report
complete f a s len = record { kind = 5; number = 0; frame = f; apdu = a; slot = s; length = len }

-- 6 "refused": 1-4
abbrev pub refusal : Frame → ℕ → Report
refusal f n = record { kind = 6; number = n; frame = f; apdu = no_apdu; slot = 0; length = 0 }

-- 7 "network layer message": 2-4, octets after the message type (and vendor)
abbrev pub network_message : Frame → ℕ → Report
network_message f len = record { kind = 7; number = 0; frame = f; apdu = no_apdu; slot = 0; length = len }

-- a report that is one of the seven
pub data Kind : Report → Type 0 where
  other : (f : Frame) (len : ℕ) → Kind (other_frame f len)
  damage : (n : ℕ) → Kind (damaged n)
  single : (f : Frame) (a : Apdu) (len : ℕ) → Kind (unsegmented f a len)
  taken : (f : Frame) (a : Apdu) (s len : ℕ) → Kind (segment_taken f a s len)
  whole : (f : Frame) (a : Apdu) (s len : ℕ) → Kind (complete f a s len)
  refused : (f : Frame) (n : ℕ) → Kind (refusal f n)
  network : (f : Frame) (len : ℕ) → Kind (network_message f len)
