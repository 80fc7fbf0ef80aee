-- A frame: the samples and the status words of one row of BINARY data (C37.111-1999, clause 6), without its number and
-- its time stamp. Every number has its least significant byte first.
use Rattle.std.specs.Prelude.{ℕ, ◌+◌, ◌*◌, ◌/◌, List, map, drop, negsuc}
use Rattle.std.specs.List.{range_with_len}
use Rattle.dfr_channels.specs.Parts.{ScanParts}
use Rattle.dfr_channels.specs.declared.scan.Reading.{Reading}
use Rattle.dfr_channels.specs.declared.scan.Reading.TheVariants as reading
use Rattle.comtrade_format.specs.Packed.{value_at, bits_at}
use Rattle.dfr_station.specs.declared.station.Lowest.{Lowest}
use Rattle.dfr_station.specs.declared.station.Lowest.TheVariants as lowest

-- two bytes for each of k analogue channels, and two for each sixteen of m status channels begun
abbrev pub frame_len : ℕ → ℕ → ℕ
frame_len k m = 2 * k + 2 * ((m + 15) / 16)

-- a sample of 8000 is a missing one; where the converter clips, it counts as -32767
abbrev pub read_as : Lowest → Reading → Reading
read_as l (reading.Value x) = reading.Value x
read_as lowest.Missing reading.Missing = reading.Missing
read_as lowest.Clipped reading.Missing = reading.Value (negsuc 32_766)

-- the sample in the first two bytes
abbrev pub sample_at : Lowest → List ℕ → Reading
sample_at l bytes = read_as l (value_at bytes)

-- sample i stands in the two bytes after i samples
abbrev pub samples_at : Lowest → ℕ → List ℕ → List Reading
samples_at l count bytes = map (λ i. sample_at l (drop (2 * i) bytes)) (range_with_len 0 count)

-- the scan of a frame of k samples and m bits; bits without a channel mean nothing
unfoldable pub frame_scan : Lowest → ℕ → ℕ → List ℕ → ScanParts
frame_scan l k m frame = record { analog = samples_at l k frame; status = bits_at m (drop (2 * k) frame) }
