-- What a live run prints in the end.
use Rattle.std.specs.Prelude.{ℕ, List, [], ◌++◌, ◌+◌, sum_by, Bool, true, false, Option, Some, None, codes, decimal}
use Rattle.std.specs.List.{flat_map}
use Rattle.dfr_live.specs.Parts.{EntryParts, LeftParts}
use Rattle.dfr_live.specs.declared.entry.Reply.{Reply}
use Rattle.dfr_live.specs.declared.entry.Reply.TheVariants as reply
use Rattle.dfr_live.specs.declared.ended.EndFault.TheVariants as end_refused
use Rattle.dfr_live.specs.declared.outcome.OpenFault.TheVariants as open_refused
use Rattle.dfr_live.specs.declared.report.LiveFault.{LiveFault}
use Rattle.dfr_live.specs.declared.report.LiveFault.TheVariants as run
use Rattle.dfr_live.specs.declared.report.LiveReport.{LiveReport}
use Rattle.dfr_program.specs.Texts.{trigger_text}

-- rules with too many entries are refused before the run
abbrev pub rules_text : Bool → List ℕ
rules_text true = codes "rules set\n"
rules_text false = codes "rules refused no-channel\n"

unfoldable pub at_text : ℕ → List ℕ
at_text at = codes "at " ++ decimal at ++ codes " "

-- a take isn't printed
abbrev pub reply_text : ℕ → Reply → List ℕ
reply_text at (reply.Trigger result) = at_text at ++ trigger_text result
reply_text at (reply.Take taken) = []
reply_text at (reply.SetRules done) = at_text at ++ rules_text done

abbrev pub entry_text : EntryParts → List ℕ
entry_text e = reply_text e.at e.reply

unfoldable pub sums_text : ℕ → ℕ → ℕ → ℕ → List ℕ
sums_text scans refused records left =
    codes "scans " ++ decimal scans ++ codes " refused " ++ decimal refused ++ codes " records " ++ decimal records
    ++ codes " left " ++ decimal left ++ codes "\n"

-- how many scan steps are left: each scan's own, and those of its losses
abbrev pub steps_left : List LeftParts → ℕ
steps_left left = sum_by (λ (x : LeftParts). x.lost + 1) left

-- each call but takes, in the order of the log, and the four numbers
unfoldable pub report_text : {A : Type 0} → LiveReport A → List ℕ
report_text r = flat_map entry_text r.ended.log.items ++ sums_text r.stepped r.refused r.records (steps_left r.ended.left.items)

-- the word of a run's fault; out of memory has none
abbrev pub run_word : LiveFault → Option (List ℕ)
run_word (run.Feed code) = Some (codes "feed")
run_word (run.Sink code) = Some (codes "sink")
run_word run.Turns = Some (codes "turns")
run_word run.Counter = Some (codes "counter")
run_word run.Memory = None
run_word (run.Open open_refused.Used) = Some (codes "open")
run_word (run.Open open_refused.Lane) = Some (codes "open")
run_word (run.Open open_refused.Seats) = Some (codes "open")
run_word (run.Open open_refused.Memory) = None
run_word (run.End end_refused.Tokens) = Some (codes "end")
run_word (run.End end_refused.Mismatch) = Some (codes "end")
run_word (run.End end_refused.Memory) = None

unfoldable pub run_fault_text : List ℕ → List ℕ
run_fault_text word = codes "fault " ++ word ++ codes "\n"
