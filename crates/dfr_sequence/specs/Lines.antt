-- The lines of a file of events, behind the first one.
use Rattle.std.specs.Prelude.{ℕ, ◌+◌, ℤ, pos, neg_ℤ, int_le, Bool, true, false, ◌&&◌, if◌then◌else◌, List, [], ◌++◌, codes, decimal, Option, Some, None, slice_get}
use Rattle.comtrade_values.specs.Dates.{civil_text}
use Rattle.dfr_channels.specs.Parts.{SetupParts, StatusParts, status_id}
use Rattle.dfr_sequence.specs.Contacts.{differ}
use Rattle.dfr_sequence.specs.declared.change.Change.{Change}

-- an instant of the years 1 to 9999
abbrev pub has_date : ℤ → Bool
has_date t = int_le (neg_ℤ (pos 62_135_596_800_000_000)) t && int_le t (pos 253_402_300_799_999_999)

abbrev pub instant_text : Option ℤ → List ℕ
instant_text None = codes "?"
instant_text (Some t) = if has_date t then civil_text 32 t else codes "?"

-- station and device
unfoldable pub names_text : SetupParts → List ℕ
names_text s = codes "," ++ s.station ++ codes "," ++ s.device ++ codes ","

abbrev pub state_text : Bool → List ℕ
state_text true = codes ",1,"
state_text false = codes ",0,"

-- whether a state is the contact's normal one; nothing where there is no such contact
abbrev pub is_text : Option StatusParts → Bool → List ℕ
is_text None on = []
is_text (Some c) on = if differ c.normal on then codes "off-normal" else codes "normal"

-- a contact, counted from 1: its id, its new state, whether that is the normal one
unfoldable pub contact_text : SetupParts → ℕ → Bool → List ℕ
contact_text s channel on =
    decimal (channel + 1) ++ codes "," ++ status_id (slice_get s.status channel) ++ (state_text on ++ is_text (slice_get s.status channel) on)

-- for how many changes the line stands, how many scans were lost before, the scan
unfoldable pub counts_text : Change → List ℕ
counts_text c =
    (codes "," ++ decimal c.count) ++ (codes "," ++ decimal c.flip.place.lost) ++ (codes "," ++ decimal c.flip.place.scan) ++ codes "\n"

-- the line of a change, at this instant
unfoldable pub change_line : SetupParts → Option ℤ → Change → List ℕ
change_line s instant c = instant_text instant ++ names_text s ++ contact_text s c.channel c.flip.on ++ counts_text c

-- the line of changes that are missing before the next line
unfoldable pub missing_line : SetupParts → ℕ → List ℕ
missing_line s n = names_text s ++ (codes ",,,missing," ++ decimal n) ++ codes ",,\n"
