use Rattle.comtrade_io.proofs.command_line.commands.over_pair.Goals as goal

pub returns : goal.returns
returns c =
    let one = c.in_ok-one.ensures _ _ c.command-bare.ensures c.word-file.ensures.rule c.word-file.ensures.local in
    c.with-2.ensures _ _ one c.free_word.ensures.rule c.free_word.ensures.local
