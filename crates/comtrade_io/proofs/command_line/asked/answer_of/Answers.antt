use Rattle.std.proofs.lemmas.Result.{IfOk-weaker}
use Rattle.comtrade_io.proofs.MetCommands.{answers, done, reads, reads_freely, told}
use Rattle.comtrade_io.proofs.command_line.asked.answer_of.Goals as goal

pub returns-in-Ok : goal.returns-in-Ok
returns-in-Ok c =
    let is = c.in_ok-comtrade.ensures in
    let has = c.in-Ok.ensures.matches (reads _ is) in
    let found = c.in-Ok.ensures.kinds (reads_freely _ is) in
    IfOk-weaker c.answer_to.result _ _ (λ answer h. answers _ _ answer is (done _ _ _ answer has.1 found h)) c.answer_to.ensures

pub returns-in-Err : goal.returns-in-Err
returns-in-Err c =
    let is = c.in_ok-comtrade.ensures in
    let found = c.in-Err.ensures.kinds (reads_freely _ is) in
    IfOk-weaker c.told.result _ _ (λ answer h. answers _ _ answer is (told _ _ _ answer found h)) c.told.ensures
