-- What each answer prints.
use Rattle.std.specs.Prelude.{ℕ, List, [], ◌++◌, length, Option, Some, None, Result, Ok, Err, codes, decimal}
use Rattle.dfr_channels.specs.declared.rules.RuleFault.{RuleFault}
use Rattle.dfr_recorder.specs.declared.record.Cause.{Cause}
use Rattle.dfr_recorder.specs.declared.record.Cause.TheVariants.{Manual, Rule}
use Rattle.dfr_recorder.specs.declared.record.Extent.{Extent}
use Rattle.dfr_recorder.specs.declared.step.Hit.{Hit}
use Rattle.dfr_recorder.specs.declared.step.Hit.TheVariants.{Opened, Extended, AtLimit, ShelfFull}
use Rattle.dfr_recorder.specs.declared.step.Scanned.{Scanned}
use Rattle.dfr_recorder.specs.declared.step.ScanRefusal.{ScanRefusal}
use Rattle.dfr_recorder.specs.declared.step.ScanRefusal.TheVariants as scan_refused
use Rattle.dfr_recorder.specs.declared.step.LostRefusal.{LostRefusal}
use Rattle.dfr_recorder.specs.declared.step.LostRefusal.TheVariants as lost_refused
use Rattle.dfr_recorder.specs.declared.step.TriggerFault.{TriggerFault}
use Rattle.dfr_recorder.specs.declared.step.TriggerFault.TheVariants as trigger_refused
use Rattle.dfr_program.specs.FaultTexts.{rule_word}

abbrev pub hit_text : Hit → List ℕ
hit_text (Opened n) = codes "opened " ++ decimal n
hit_text (Extended n) = codes "extended " ++ decimal n
hit_text (AtLimit n) = codes "at-limit " ++ decimal n
hit_text ShelfFull = codes "shelf-full"

abbrev pub fired_text : Option Hit → List ℕ
fired_text (Some hit) = codes " " ++ hit_text hit
fired_text None = []

abbrev pub closed_text : Option ℕ → List ℕ
closed_text (Some n) = codes " closed " ++ decimal n
closed_text None = []

unfoldable pub scanned_text : Scanned → List ℕ
scanned_text s = codes "scan " ++ decimal s.number ++ fired_text s.trigger ++ closed_text s.closed ++ codes "\n"

-- out of memory isn't printed
unfoldable pub scan_refusal_text : ScanRefusal → List ℕ
scan_refusal_text scan_refused.Shape = codes "scan refused shape\n"
scan_refusal_text (scan_refused.Range i) = codes "scan refused range " ++ decimal i ++ codes "\n"
scan_refusal_text scan_refused.ClockEnd = codes "scan refused clock-end\n"
scan_refusal_text scan_refused.Memory = []

-- a lost scan fires no rule, so no hit is printed; nor is out of memory
unfoldable pub lost_text : Result Scanned LostRefusal → List ℕ
lost_text (Ok s) = codes "lost " ++ decimal s.number ++ closed_text s.closed ++ codes "\n"
lost_text (Err lost_refused.ClockEnd) = codes "lost refused clock-end\n"
lost_text (Err lost_refused.Memory) = []

-- nor is it here
unfoldable pub trigger_text : Result Hit TriggerFault → List ℕ
trigger_text (Ok hit) = codes "trigger " ++ hit_text hit ++ codes "\n"
trigger_text (Err trigger_refused.NoScan) = codes "trigger refused no-scan\n"
trigger_text (Err trigger_refused.Covered) = codes "trigger refused covered\n"
trigger_text (Err trigger_refused.ShelfFull) = codes "trigger refused shelf-full\n"
trigger_text (Err trigger_refused.Memory) = []

unfoldable pub rules_refused_text : RuleFault → List ℕ
rules_refused_text fault = codes "rules refused " ++ rule_word fault ++ codes "\n"

abbrev pub cause_text : Cause → List ℕ
cause_text Manual = codes " manual\n"
cause_text (Rule i) = codes " rule " ++ decimal i ++ codes "\n"

unfoldable pub extent_text : Extent → List ℕ
extent_text e =
    codes "record " ++ decimal e.number ++ codes " " ++ decimal e.first ++ codes " " ++ decimal e.trigger
    ++ codes " " ++ decimal e.last ++ cause_text e.cause

-- a part's name, its length in bytes, and a line end
unfoldable pub length_text : List ℕ → ℕ → List ℕ
length_text name n = name ++ decimal n ++ codes "\n"

-- a record's extent, its configuration file, and how long its data file is
unfoldable pub front_text : Extent → List ℕ → List ℕ → List ℕ
front_text extent cfg dat = extent_text extent ++ length_text (codes "cfg ") (length cfg) ++ cfg ++ length_text (codes "dat ") (length dat)

-- a record's extent and its two files
abbrev pub record_text : Extent → List ℕ → List ℕ → List ℕ
record_text extent cfg dat = front_text extent cfg dat ++ dat ++ codes "\n"
