use Rattle.std.proofs.Common.{◌≡◌, length}
use Rattle.comtrade_values.specs.Lines.{cut_lines}
use Rattle.dfr_setup.specs.RulesFiles.{path_of}
use Rattle.dfr_setup.proofs.rules_file.rules_path.Given as goal

-- those passed over are before `go` and name no path
abbrev pub invariant-loop-line : goal.invariant-loop-line
invariant-loop-line l = path_of l.lines ≡ path_of (cut_lines l.text)

abbrev pub decreases-loop-line : goal.decreases-loop-line
decreases-loop-line l = length l.lines
