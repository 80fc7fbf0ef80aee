use Rattle.comtrade_io.proofs.command_line.commands.named.Goals as goal

pub returns : goal.returns
returns c =
    let one = c.in_ok-one.ensures _ _ c.command-bare.ensures c.words.ensures.rule c.words.ensures.local in
    c.with-2.ensures _ _ one c.recursive.ensures.rule c.recursive.ensures.local
