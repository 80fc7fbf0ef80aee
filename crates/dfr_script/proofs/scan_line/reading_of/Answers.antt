use Rattle.std.proofs.Common.{rules, tests}
use Rattle.dfr_script.specs.ScanLines.{reading}
use Rattle.dfr_script.proofs.scan_line.reading_of.Goals as goal

pub returns-then-is_word : goal.returns-then-is_word
unfolding reading
returns-then-is_word c = search (tests, rules)
