use Rattle.std.proofs.lemmas.Result.{IfOk-weaker}
use Rattle.comtrade_io.proofs.MetCommands.{added}
use Rattle.comtrade_io.proofs.command_line.commands.comtrade.Goals as goal

pub returns : goal.returns
returns c =
    let viewing = c.in_ok-viewing.ensures (c.with_choice-top.ensures _ c.in_ok-named.ensures) in
    let surveying = c.in_ok-surveying.ensures _ viewing in
    let kinded = c.in_ok-convert.ensures in
    let measuring = added _ _ _ _ _ surveying c.in_ok-measure.ensures c.in_ok-subcommand.ensures in
    let detecting = added _ _ _ _ _ measuring c.in_ok-detect.ensures c.in_ok-subcommand-2.ensures in
    let converting = added _ _ _ _ _ detecting kinded.command c.in_ok-subcommand-3.ensures in
    let importing = added _ _ _ _ _ converting c.in_ok-importing.ensures c.in_ok-subcommand-4.ensures in
    IfOk-weaker c.subcommand-5.result _ _ (λ r h. record {
      kinds = kinded.kinds;
      words = kinded.words;
      command = added _ _ _ _ _ importing c.in_ok-extract.ensures h;
    }) c.subcommand-5.ensures
