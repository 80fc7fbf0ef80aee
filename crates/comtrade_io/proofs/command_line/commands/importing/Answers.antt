use Rattle.comtrade_io.proofs.command_line.commands.importing.Goals as goal

pub returns : goal.returns
returns c =
    let dated = c.in_ok-dated.ensures _ _ c.in_ok-named.ensures c.option.ensures.rule c.option.ensures.local in
    let refusing = c.in_ok-refusing.ensures _ _ dated c.repeated.ensures.rule c.repeated.ensures.local in
    c.with_encoding.ensures _ refusing
