use Rattle.std.proofs.Common.{map}
use Rattle.dfr_script.specs.Commands.{parts_of}
use Rattle.dfr_program.specs.Plans.{IsPlanned, given, placed}
use Rattle.dfr_program.proofs.plan.plan_all.Given as goal

abbrev pub invariant-loop-command : goal.invariant-loop-command
invariant-loop-command g l = IsPlanned l.layout (map parts_of l.yielded) (map given l.scans.items) (map placed l.orders.items)
