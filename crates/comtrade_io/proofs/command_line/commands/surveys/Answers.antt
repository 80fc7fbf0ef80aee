use Rattle.std.proofs.lemmas.Result.{IfOk-weaker}
use Rattle.comtrade_io.proofs.MetCommands.{added}
use Rattle.comtrade_io.proofs.command_line.commands.surveys.Goals as goal

pub returns : goal.returns
returns c = λ a is_program.
    let one = added _ _ _ _ _ is_program c.in_ok-list.ensures c.in_ok-subcommand.ensures in
    let two = added _ _ _ _ _ one c.in_ok-events.ensures c.in_ok-subcommand-2.ensures in
    let three = added _ _ _ _ _ two c.in_ok-fault.ensures c.in_ok-subcommand-3.ensures in
    let four = added _ _ _ _ _ three c.in_ok-report.ensures c.in_ok-subcommand-4.ensures in
    IfOk-weaker c.subcommand-5.result _ _ (λ r h. added _ _ _ _ _ four c.in_ok-compare.ensures h) c.subcommand-5.ensures
