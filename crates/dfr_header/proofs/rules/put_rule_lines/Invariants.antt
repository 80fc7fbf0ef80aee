use Rattle.std.proofs.Common.{◌≡◌, ◌+◌, ◌++◌, drop}
use Rattle.std.specs.List.{flat_map}
use Rattle.comtrade_format.specs.Numbered.{numbered}
use Rattle.dfr_header.specs.Rules.{rule_line, whole}
use Rattle.dfr_header.proofs.rules.put_rule_lines.Given as goal

-- what is written and what is still to be written are all of it
abbrev pub invariant-loop-i : goal.invariant-loop-i
invariant-loop-i g l =
    l.out.items ++ flat_map whole (numbered (rule_line l.layout) (0 + l.i) (drop l.i l.rules))
    ≡ l.initial.out.items ++ flat_map whole (numbered (rule_line l.layout) 0 l.rules)
