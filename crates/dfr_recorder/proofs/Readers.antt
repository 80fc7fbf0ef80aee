-- What is read off what is kept is what the history says.
use Rattle.std.proofs.Common.{ℕ, ◌≡◌, refl, sym, ap, ◌∙◌, Bool, List, length, Option, Some, None}
use Rattle.std.specs.Prelude.{is_some, option_map}
use Rattle.dfr_channels.specs.Parts.{ScanParts}
use Rattle.dfr_recorder.specs.declared.record.Extent.{Extent}
use Rattle.dfr_recorder.specs.Steps.{StepParts}
use Rattle.dfr_recorder.specs.History.{Opening, past, waiting, is_open, open_one, record_of}
use Rattle.dfr_recorder.specs.Kept.{Kept, kept}
use Rattle.dfr_recorder.proofs.Law.{length-shelf}

pub waiting_law : (old : Kept) (n : ℕ) → n ≡ length old.shelf → (o : Opening) (h : List StepParts) → kept o h ≡ old → n ≡ waiting (past o h)
waiting_law old n is o h e = is ∙ sym (ap (λ (k : Kept). length k.shelf) e) ∙ length-shelf o.layout o.limits (past o h)

open-by : (scans : List ScanParts) (o : Option Extent) → is_some (option_map (record_of scans) o) ≡ is_some o
open-by scans None = refl
open-by scans (Some e) = refl

pub open_law : (o : Opening) (h : List StepParts) → is_some (kept o h).recording ≡ is_open (past o h)
open_law o h = open-by (past o h).scans (open_one (past o h))

pub recording_law : (old : Kept) (b : Bool) → b ≡ is_some old.recording → (o : Opening) (h : List StepParts) → kept o h ≡ old → b ≡ is_open (past o h)
recording_law old b is o h e = is ∙ sym (ap (λ (k : Kept). is_some k.recording) e) ∙ open_law o h
