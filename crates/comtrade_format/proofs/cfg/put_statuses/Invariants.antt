use Rattle.std.proofs.Common.{◌≡◌, ◌+◌, ◌++◌, drop}
use Rattle.std.specs.List.{flat_map}
use Rattle.comtrade_format.specs.Lines.{line}
use Rattle.comtrade_format.specs.Numbered.{numbered}
use Rattle.comtrade_format.specs.Cfg.{status_fields}
use Rattle.comtrade_format.proofs.cfg.put_statuses.Given as goal

-- what is written and what is still to be written are all of it
abbrev pub invariant-loop-i : goal.invariant-loop-i
invariant-loop-i g l = l.out.items ++ flat_map line (numbered status_fields (1 + l.i) (drop l.i l.channels)) ≡ l.initial.out.items ++ flat_map line (numbered status_fields 1 l.channels)
