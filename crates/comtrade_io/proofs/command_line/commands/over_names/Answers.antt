use Rattle.comtrade_io.proofs.command_line.commands.over_names.Goals as goal

pub returns : goal.returns
returns c =
    let filter = c.in_ok-filter.ensures _ c.in_ok-named.ensures in
    c.with_output.ensures _ (c.in_ok-encoding.ensures _ (c.in_ok-json.ensures _ filter))
