-- The refusals and their numbers: document 01's rows.
use Rattle.std.specs.Prelude.{ℕ, ◌≤◌, Result, Ok, Err}
use Rattle.std.proofs.Common.{lit≤}
use Rattle.octets.specs.declared.refusal.Refusal.{Refusal}
use Rattle.octets.specs.declared.refusal.Refusal.TheVariants.{NpduEndsEarly, NpduVersion, NpduReserved, AddressLength, NetworkNumber, ApduEndsEarly, ApduType, ApduReserved, SizeOrWindow, ApduLeftOver, ItemEndsEarly, TagNumber, NotShortest, ContentsLength, ContentsRule, StrayClosing, GroupLeftOpen, TooDeep, TooManyItems, TooManyOctets, ParameterMissing, ParameterRange, ItemAfterLast, UnknownChoice, NoSlotFree, NotBegun, OutOfOrder, OtherChoice, MessageTooLong, SlotNotOpen, UnfitState, AreaSize, TooSmall, NoReading, TooManySegments, OutOfRange, BadRecord, OddRecords}

-- the number of each
abbrev pub number_of : Refusal → ℕ
number_of NpduEndsEarly = 10
number_of NpduVersion = 11
number_of NpduReserved = 12
number_of AddressLength = 13
number_of NetworkNumber = 14
number_of ApduEndsEarly = 20
number_of ApduType = 21
number_of ApduReserved = 22
number_of SizeOrWindow = 23
number_of ApduLeftOver = 24
number_of ItemEndsEarly = 30
number_of TagNumber = 31
number_of NotShortest = 32
number_of ContentsLength = 33
number_of ContentsRule = 34
number_of StrayClosing = 35
number_of GroupLeftOpen = 36
number_of TooDeep = 37
number_of TooManyItems = 38
number_of TooManyOctets = 39
number_of ParameterMissing = 40
number_of ParameterRange = 41
number_of ItemAfterLast = 42
number_of UnknownChoice = 43
number_of NoSlotFree = 50
number_of NotBegun = 51
number_of OutOfOrder = 52
number_of OtherChoice = 53
number_of MessageTooLong = 54
number_of SlotNotOpen = 56
number_of UnfitState = 59
number_of AreaSize = 60
number_of TooSmall = 61
number_of NoReading = 62
number_of TooManySegments = 63
number_of OutOfRange = 64
number_of BadRecord = 67
number_of OddRecords = 68

-- an answer with the number in place of the refusal: so the definitions, which speak in document 01's numbers, say it
abbrev pub numbered : {A : Type 0} → Result A Refusal → Result A ℕ
numbered (Ok a) = Ok a
numbered (Err r) = Err (number_of r)

-- the number by which an answer refuses, 0 where it is good
abbrev pub fault_of : {A : Type 0} → Result A Refusal → ℕ
fault_of (Ok a) = 0
fault_of (Err r) = number_of r

-- none of them is 0
pub number_some : (r : Refusal) → 1 ≤ number_of r
number_some NpduEndsEarly = lit≤ tt
number_some NpduVersion = lit≤ tt
number_some NpduReserved = lit≤ tt
number_some AddressLength = lit≤ tt
number_some NetworkNumber = lit≤ tt
number_some ApduEndsEarly = lit≤ tt
number_some ApduType = lit≤ tt
number_some ApduReserved = lit≤ tt
number_some SizeOrWindow = lit≤ tt
number_some ApduLeftOver = lit≤ tt
number_some ItemEndsEarly = lit≤ tt
number_some TagNumber = lit≤ tt
number_some NotShortest = lit≤ tt
number_some ContentsLength = lit≤ tt
number_some ContentsRule = lit≤ tt
number_some StrayClosing = lit≤ tt
number_some GroupLeftOpen = lit≤ tt
number_some TooDeep = lit≤ tt
number_some TooManyItems = lit≤ tt
number_some TooManyOctets = lit≤ tt
number_some ParameterMissing = lit≤ tt
number_some ParameterRange = lit≤ tt
number_some ItemAfterLast = lit≤ tt
number_some UnknownChoice = lit≤ tt
number_some NoSlotFree = lit≤ tt
number_some NotBegun = lit≤ tt
number_some OutOfOrder = lit≤ tt
number_some OtherChoice = lit≤ tt
number_some MessageTooLong = lit≤ tt
number_some SlotNotOpen = lit≤ tt
number_some UnfitState = lit≤ tt
number_some AreaSize = lit≤ tt
number_some TooSmall = lit≤ tt
number_some NoReading = lit≤ tt
number_some TooManySegments = lit≤ tt
number_some OutOfRange = lit≤ tt
number_some BadRecord = lit≤ tt
number_some OddRecords = lit≤ tt
