-- What a recorder keeps of its past.
use Rattle.std.specs.Prelude.{ℕ, ◌≡◌, ◌+◌, ◌-◌, ◌++◌, if◌then◌else◌, List, [], ◌∷◌, length, drop, nat_lt, slice_get, Option, None, option_map, option_to_list}
use Rattle.dfr_channels.specs.Parts.{SetupParts, ScanParts}
use Rattle.dfr_channels.specs.declared.rule.Rule.{Rule}
use Rattle.dfr_recorder.specs.declared.limits.Limits.{Limits}
use Rattle.dfr_recorder.specs.declared.marks.Newest.{Newest}
use Rattle.dfr_recorder.specs.Parts.{RecordParts}
use Rattle.dfr_recorder.specs.Steps.{StepParts}
use Rattle.dfr_recorder.specs.Answers.{AnswerParts}
use Rattle.dfr_recorder.specs.History.{Opening, Past, past, count, open_one, ended, newest_of, record_of, records, answer}

-- layout and limits, how many scans were accepted, the last ones, the rules, the number and the end of the newest record, the open one with its
-- scans so far, and those that wait, the oldest first
pub record Kept : Type 0 where
  pub layout : SetupParts
  pub limits : Limits
  pub scans : ℕ
  pub ring : List ScanParts
  pub rules : List Rule
  pub newest : Newest
  pub recording : Option RecordParts
  pub shelf : List RecordParts

-- the last n items
abbrev pub latest : {X : Type 0} → ℕ → List X → List X
latest n xs = drop (length xs - n) xs

-- the oldest scan of a ring, which leaves it when one is taken in where all places are filled
abbrev pub leaving_of : ℕ → List ScanParts → ScanParts → Option ScanParts
leaving_of places ring scan = if nat_lt (length ring) places then None else slice_get (ring ++ scan ∷ []) 0

abbrev pub kept_of : SetupParts → Limits → Past → Kept
kept_of layout limits p = record {
  layout = layout;
  limits = limits;
  scans = count p;
  ring = latest (limits.pre + 1) p.scans;
  rules = p.rules;
  newest = newest_of p.extents;
  recording = option_map (record_of p.scans) (open_one p);
  shelf = drop p.taken (records p.scans (ended p));
}

-- what is kept, by its parts
abbrev pub kept_by : SetupParts → Limits → List Rule → ℕ → List ScanParts → Newest → Option RecordParts → List RecordParts → Kept
kept_by layout limits rules n ring newest recording shelf =
    record { layout = layout; limits = limits; scans = n; ring = ring; rules = rules; newest = newest; recording = recording; shelf = shelf }

-- what is kept after a history
abbrev pub kept : Opening → List StepParts → Kept
kept o h = kept_of o.layout o.limits (past o h)

-- the scan that leaves the ring when one is accepted
abbrev pub leaving : Kept → ScanParts → Option ScanParts
leaving k scan = leaving_of (k.limits.pre + 1) k.ring scan

-- what a step is answered after a history
abbrev pub reply : Opening → List StepParts → StepParts → AnswerParts
reply o h s = answer o.layout o.limits (past o h) s

-- for every history of which `old` is kept, the step is answered so, and `new` is kept after it
abbrev pub IsStep : Kept → StepParts → AnswerParts → Kept → Type 0
IsStep old s a new = (o : Opening) (h : List StepParts) → kept o h ≡ old → (reply o h s ≡ a) × (kept o (s ∷ h) ≡ new)

-- how many scans records have
abbrev pub scans_in : List RecordParts → ℕ
scans_in [] = 0
scans_in (r ∷ rs) = length r.scans + scans_in rs

-- how many scans are held in ring, open record and shelf
abbrev pub held : Kept → ℕ
held k = length k.ring + scans_in (option_to_list k.recording) + scans_in k.shelf
