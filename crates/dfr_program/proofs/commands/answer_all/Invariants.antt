use Rattle.std.proofs.Common.{map}
use Rattle.dfr_script.specs.Commands.{parts_of}
use Rattle.dfr_program.proofs.Answering.{Ran}
use Rattle.dfr_program.proofs.commands.answer_all.Given as goal

abbrev pub invariant-loop-command : goal.invariant-loop-command
invariant-loop-command g l =
    Ran l.kind l.fn.recorder (map parts_of l.yielded) l.recorder (g.W.Write.contents l.initial.w) l.initial.out.items (g.W.Write.contents l.w) l.out.items
