use Rattle.comtrade_io.proofs.command_line.commands.import_names.Goals as goal

pub returns : goal.returns
returns c = c.over_new.ensures _ c.command-bare.ensures
