-- Counted frames: before each frame stand the byte A5, a checksum of what follows, and a counter that goes up by one with each frame. The
-- numbers have two bytes, the least significant one first.
use Rattle.std.specs.Prelude.{◌≡◌, ℕ, suc, zero, ◌+◌, ◌-◌, ◌*◌, ◌==◌, Bool, true, false, ◌&&◌, nat_le, nat_lt, if◌then◌else◌, List, [], ◌∷◌, ◌++◌, length, take, drop, replicate, fold, bit_xor, Option, Some, None}
use Rattle.byteorder.specs.Endian.{little_number}
use Rattle.dfr_channels.specs.Parts.{SetupParts}
use Rattle.dfr_station.specs.Lines.{ArrivalParts, Lost, Noise, FrameMeans}
use Rattle.dfr_station.specs.declared.intake.feed.Why.TheVariants as why
use Rattle.dfr_station.specs.declared.station.Lowest.{Lowest}

-- ---- the checksum: CRC-16 with the polynomial x^16 + x^12 + x^5 + 1, from FFFF on, the highest bit of each byte first

abbrev pub crc_bit : ℕ → ℕ
crc_bit c = if nat_lt c 32_768 then c * 2 else bit_xor ((c - 32_768) * 2) 4_129

-- sixteen bits, divided by eight steps
unfoldable pub crc_steps : ℕ → ℕ
crc_steps c = crc_bit (crc_bit (crc_bit (crc_bit (crc_bit (crc_bit (crc_bit (crc_bit c)))))))

-- one byte more
abbrev pub crc_byte : ℕ → ℕ → ℕ
crc_byte crc byte = crc_steps (bit_xor crc (byte * 256))

abbrev pub crc_16 : List ℕ → ℕ
crc_16 bytes = fold crc_byte 65_535 bytes

-- ---- one frame

-- how many bytes stand before a frame
abbrev pub head : ℕ
head = 5

abbrev pub has_mark : List ℕ → Bool
has_mark [] = false
has_mark (b ∷ bs) = b == 165

abbrev pub checksum_in : List ℕ → ℕ
checksum_in bytes = little_number 2 (drop 1 bytes)

abbrev pub counter_in : List ℕ → ℕ
counter_in bytes = little_number 2 (drop 3 bytes)

-- a counted frame of so many bytes stands at the front: the mark, and the checksum of its counter and its bytes
unfoldable pub is_counted : ℕ → List ℕ → Bool
is_counted size bytes = has_mark bytes && (checksum_in bytes == crc_16 (take (size + 2) (drop 3 bytes)))

-- ---- all bytes

-- a frame with its counter, or bytes that are none
pub data Part : Type 0 where
  Frame : ℕ → List ℕ → Part
  Other : Part

abbrev pub with_other : Bool → List Part → List Part
with_other true ps = ps
with_other false ps = Other ∷ ps

-- The parts of bytes, of which the first `rest` are the rest of a frame; `noisy`: those before them were no frame. Where no frame stands, the
-- next one is looked for from the next byte on.
unfoldable pub parts_in : (size rest : ℕ) → Bool → List ℕ → List Part
parts_in size rest noisy [] = []
parts_in size (suc rest) noisy (b ∷ bs) = parts_in size rest noisy bs
parts_in size zero noisy (b ∷ bs) =
    if nat_lt (length (b ∷ bs)) (head + size) then []
    else if is_counted size (b ∷ bs) then Frame (counter_in (b ∷ bs)) (take size (drop head (b ∷ bs))) ∷ parts_in size (size + 4) false bs
    else with_other noisy (parts_in size zero true bs)

-- the counter after this one
abbrev pub next_counter : ℕ → ℕ
next_counter n = if n == 65_535 then 0 else n + 1

-- how many frames are missing before the one with this counter, if that one was to come next
abbrev pub missing_before : Option ℕ → ℕ → ℕ
missing_before None counter = 0
missing_before (Some due) counter = if nat_le due counter then counter - due else counter + 65_536 - due

-- each frame means its scan; before it each missing one is a lost scan
unfoldable pub PartsGive : SetupParts → Lowest → Option ℕ → List Part → List ArrivalParts → Type 0
PartsGive layout l due [] xs = xs ≡ []
PartsGive layout l due (Other ∷ ps) xs = (rest : List ArrivalParts) × (xs ≡ Noise ∷ rest) × PartsGive layout l due ps rest
PartsGive layout l due (Frame counter bytes ∷ ps) xs =
    (a : ArrivalParts) × (rest : List ArrivalParts) × FrameMeans layout l bytes a
    × (xs ≡ replicate (missing_before due counter) (Lost why.Counted) ++ a ∷ rest)
    × PartsGive layout l (Some (next_counter counter)) ps rest
