-- What comes with the whole input: the arrivals of its frames, counted or not, or of its lines, in order.
use Rattle.std.specs.Prelude.{◌≡◌, ◌⊎◌, ℕ, ◌+◌, ◌-◌, ◌^◌, ◌≤◌, ◌<◌, min, Bool, true, false, List, [], ◌∷◌, ◌++◌, length, take, drop, Option, Some, None}
use Rattle.std.specs.List.{slice_split}
use Rattle.std.specs.Io.KnownBytes.{Keeps, Consumes, IsAtEnd}
use Rattle.comtrade_values.specs.Lines.{without_cr}
use Rattle.dfr_channels.specs.Parts.{SetupParts}
use Rattle.dfr_station.specs.Counted.{PartsGive, parts_in}
use Rattle.dfr_station.specs.Frames.{frame_len}
use Rattle.dfr_station.specs.Lines.{ArrivalParts, Scan, Lost, Order, Time, Skips, Noise, parts_of, FrameMeans, LineMeans, refused, is_feed}
use Rattle.dfr_station.specs.declared.event.Skipped.TheVariants as skipped
use Rattle.dfr_station.specs.declared.intake.feed.Why.TheVariants as why
use Rattle.dfr_station.specs.declared.intake.arrival.Arrival.{Arrival}
use Rattle.dfr_station.specs.declared.intake.cutter.Cutter.{Cutter}
use Rattle.dfr_station.specs.declared.reading.Given.{Given}
use Rattle.dfr_station.specs.declared.reading.Given.TheVariants as given
use Rattle.dfr_station.specs.declared.station.Input.{Input}
use Rattle.dfr_station.specs.declared.station.Input.TheVariants as form
use Rattle.dfr_station.specs.declared.station.Lowest.{Lowest}

-- ---- one read

-- what a read gave: so many bytes that came next; or none, since no more come, or since the input can't be read
abbrev pub Reads : Option (List ℕ) → Given → Option (List ℕ) → List ℕ → Type 0
Reads before (given.Bytes n) after bytes = (0 < n) × (length bytes ≡ n) × Consumes before after bytes
Reads before given.End after bytes = (bytes ≡ []) × Keeps before after × IsAtEnd after
Reads before given.Broken after bytes = (bytes ≡ []) × Keeps before after

abbrev pub count_of : Given → ℕ
count_of (given.Bytes n) = n
count_of given.End = 0
count_of given.Broken = 0

-- a read put the bytes that it gave after those that wait
abbrev pub Fills : {I : Type 0} → (I → Option (List ℕ)) → List ℕ → I → Given → List ℕ → I → Type 0
Fills left waiting input given grown later =
    (bytes : List ℕ) × (grown ≡ waiting ++ bytes) × Reads (left input) given (left later) bytes

-- so many bytes left a queue, and were put after those that wait
abbrev pub Takes : List ℕ → List ℕ → ℕ → List ℕ → List ℕ → Type 0
Takes received waiting count grown later =
    (bytes : List ℕ) × (length bytes ≡ count) × (grown ≡ waiting ++ bytes) × (later ≡ received ++ bytes)

-- bytes came next, one read after the other, and wait after those that waited
pub record Grows {I : Type 0} (left : I → Option (List ℕ)) (waiting : List ℕ) (input : I) (grown : List ℕ) (later : I) : Type 0 where
  pub bytes : List ℕ
  pub put : grown ≡ waiting ++ bytes
  pub came : Consumes (left input) (left later) bytes

-- ---- counts, which stop at the greatest `u64`

abbrev pub one_more : ℕ → ℕ
one_more n = min (n + 1) (2 ^ 64 - 1)

-- how many scans came after these arrivals
abbrev pub scans_after : ℕ → List ArrivalParts → ℕ
scans_after came [] = came
scans_after came (Scan scan ∷ xs) = scans_after (one_more came) xs
scans_after came (Lost why ∷ xs) = scans_after (one_more came) xs
scans_after came (Order line at order ∷ xs) = scans_after came xs
scans_after came (Time line instant ∷ xs) = scans_after came xs
scans_after came (Skips line why ∷ xs) = scans_after came xs
scans_after came (Noise ∷ xs) = scans_after came xs

-- ---- frames

abbrev pub frame_size : SetupParts → ℕ
frame_size layout = frame_len (length layout.analog) (length layout.status)

-- the arrivals of bytes that are frames: one of each whole frame, in order
unfoldable pub FramesGive : SetupParts → Lowest → List ℕ → List ArrivalParts → Type 0
FramesGive layout l bytes [] = length bytes < frame_size layout
FramesGive layout l bytes (a ∷ xs) =
    (frame_size layout ≤ length bytes) × FrameMeans layout l (take (frame_size layout) bytes) a
    × FramesGive layout l (drop (frame_size layout) bytes) xs

-- ---- lines

-- a line of so many bytes is too long
abbrev pub long : ℕ
long = 65_536

-- the pieces between line feeds; what stands behind the last line feed is a line, too
abbrev pub pieces : List ℕ → List (List ℕ)
pieces bytes = slice_split is_feed bytes

-- what piece n gives, after so many scans: what it means as a line, or a refusal where it is too long
abbrev pub PieceGives : SetupParts → ℕ → ℕ → List ℕ → List ArrivalParts → Type 0
PieceGives layout n came piece xs =
    ((long ≤ length piece) × (xs ≡ refused n came (take long piece) skipped.Long why.Unread))
    ⊎ ((length piece < long) × LineMeans layout n came (without_cr piece) xs)

-- the arrivals of pieces of which the first is line n, after so many scans
unfoldable pub LinesGive : SetupParts → ℕ → ℕ → List (List ℕ) → List ArrivalParts → Type 0
LinesGive layout n came [] xs = xs ≡ []
LinesGive layout n came (piece ∷ pieces) xs =
    (here : List ArrivalParts) × (rest : List ArrivalParts) × PieceGives layout n came piece here
    × (xs ≡ here ++ rest) × LinesGive layout (one_more n) (scans_after came here) pieces rest

-- ---- the input, wherever its reading stands

-- `owed`: the line handed out last is a lost scan as well; `skipping`: the rest of a line that was too long comes first; `due`: the counter of
-- the frame that is to come next; `noisy`: the bytes before were no frame, which was handed out
pub record ReadingParts : Type 0 where
  pub form : Input
  pub came : ℕ
  pub lines : ℕ
  pub owed : Bool
  pub skipping : Bool
  pub due : Option ℕ
  pub noisy : Bool

-- the pieces that are lines: not the rest of one that was too long
abbrev pub lines_left : Bool → List ℕ → List (List ℕ)
lines_left true bytes = drop 1 (pieces bytes)
lines_left false bytes = pieces bytes

-- a lost scan that is owed comes before the lines
abbrev pub OwedGive : SetupParts → ReadingParts → List (List ℕ) → Bool → List ArrivalParts → Type 0
OwedGive layout s pieces true xs =
    (rest : List ArrivalParts) × (xs ≡ Lost why.Unread ∷ rest) × LinesGive layout (one_more s.lines) (one_more s.came) pieces rest
OwedGive layout s pieces false xs = LinesGive layout (one_more s.lines) s.came pieces xs

abbrev pub FormGives : SetupParts → ReadingParts → List ℕ → Input → List ArrivalParts → Type 0
FormGives layout s bytes (form.Frames l) xs = FramesGive layout l bytes xs
FormGives layout s bytes (form.Counted l) xs = PartsGive layout l s.due (parts_in (frame_size layout) 0 s.noisy bytes) xs
FormGives layout s bytes form.Lines xs = OwedGive layout s (lines_left s.skipping bytes) s.owed xs

-- what the bytes that are to come give, all up to the input's end
unfoldable pub Comes : SetupParts → ReadingParts → List ℕ → List ArrivalParts → Type 0
Comes layout s bytes xs = FormGives layout s bytes s.form xs

-- ---- the bytes that wait

abbrev pub reading_of : {A : Type 0} → Cutter A → ReadingParts
reading_of c =
    record { form = c.form; came = c.came; lines = c.lines; owed = c.is_owed; skipping = c.is_skipping; due = c.due; noisy = c.is_noisy }

-- what comes with the bytes that wait and then these, up to the input's end
abbrev pub ComesOver : {A : Type 0} → Cutter A → List ℕ → List ArrivalParts → Type 0
ComesOver c more xs = Comes c.layout.now (reading_of c) (c.buffer ++ more) xs

-- A cutter came to another state and gave these arrivals: they come first, before what comes from then on. So it is whatever comes
-- after the bytes that wait; where they are the last, nothing does.
pub record Cuts {A : Type 0} (last : Bool) (c : Cutter A) (given : List ArrivalParts) (d : Cutter A) : Type 0 where
  pub first : (more : List ℕ) → (last ≡ true → more ≡ []) → (xs : List ArrivalParts) → ComesOver d more xs → ComesOver c more (given ++ xs)

-- nothing whole waits, and there is room for more; where the bytes are the last, nothing comes any more
pub record Wants {A : Type 0} (last : Bool) (c d : Cutter A) : Type 0 where
  pub room : length d.buffer < 65_536
  pub cut : Cuts last c [] d
  pub over : last ≡ true → ComesOver d [] []

abbrev pub Hands : {A : Type 0} → Bool → Cutter A → Option (Arrival A) → Cutter A → Type 0
Hands last c None d = Wants last c d
Hands last c (Some a) d = Cuts last c (parts_of a ∷ []) d

-- ---- one line

-- what was handed out of a line
abbrev pub handed : {A : Type 0} → Option (Arrival A) → List ArrivalParts
handed None = []
handed (Some a) = parts_of a ∷ []

-- the lost scan that is owed for it
abbrev pub owed_list : Bool → List ArrivalParts
owed_list true = Lost why.Unread ∷ []
owed_list false = []

-- how many scans came, with that one
abbrev pub with_owed : ℕ → Bool → ℕ
with_owed came true = one_more came
with_owed came false = came

-- a line comes next
pub record IsReady {A : Type 0} (c : Cutter A) : Type 0 where
  pub lines : c.form ≡ form.Lines
  pub paid : c.is_owed ≡ false
  pub begins : c.is_skipping ≡ false

-- one line was used up
pub record TakesLine {A : Type 0} (last : Bool) (c : Cutter A) (o : Option (Arrival A)) (d : Cutter A) : Type 0 where
  pub cut : Cuts last c (handed o) d
  pub shorter : length d.buffer < length c.buffer
  pub same : d.form ≡ c.form
  pub paid : o ≡ None → d.is_owed ≡ false
