use Rattle.std.proofs.Common.{◌≡◌, ◌≤◌, drop, length, map}
use Rattle.std.specs.Prelude.{Ok}
use Rattle.dfr_script.specs.Commands.{parts_of}
use Rattle.dfr_script.specs.Scripts.{commands}
use Rattle.dfr_script.proofs.script.commands_of.Given as goal

abbrev pub invariant-loop-line : goal.invariant-loop-line
invariant-loop-line g l = record {
  within : l.count ≤ length l.fn.lines;
  left : l.lines ≡ drop l.count l.fn.lines;
  made : commands l.from l.fn.lines l.count ≡ Ok (map parts_of l.list.items);
}

abbrev pub decreases-loop-line : goal.decreases-loop-line
decreases-loop-line g l = length l.lines
