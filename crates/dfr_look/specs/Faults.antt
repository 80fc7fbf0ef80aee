-- The reasons for which a frame is skipped, by number.
use Rattle.std.specs.Prelude.{ℕ, List, slice_index, slice_set}
use Rattle.dfr_bus.specs.declared.fault.Wrong.{Wrong}
use Rattle.dfr_bus.specs.declared.fault.Wrong.TheVariants.{CutShort, Tag, IndefiniteLength, ReservedLength, TooLong, Size, Length, Asdus, Uneven, Magic, Version, Link, Packet, Number, Kind, Trailing}
use Rattle.dfr_look.specs.Tracks.{up}

-- those of a capture's head and of its packets are not of a frame, and have one number
abbrev pub number_of : Wrong → ℕ
number_of CutShort = 0
number_of (Tag tag) = 1
number_of IndefiniteLength = 2
number_of ReservedLength = 3
number_of TooLong = 4
number_of Size = 5
number_of Length = 6
number_of Asdus = 7
number_of Uneven = 8
number_of Number = 9
number_of Kind = 10
number_of Trailing = 11
number_of Magic = 12
number_of Version = 12
number_of Link = 12
number_of Packet = 12

-- one frame more of a reason
abbrev pub noted : Wrong → List ℕ → List ℕ
noted wrong tally = slice_set tally (number_of wrong) (up (slice_index tally (number_of wrong)) 1)
