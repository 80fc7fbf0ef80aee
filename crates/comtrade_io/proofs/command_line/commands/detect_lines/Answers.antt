use Rattle.comtrade_io.proofs.command_line.commands.detect_lines.Goals as goal

pub returns : goal.returns
returns c = c.with.ensures _ _ c.command-bare.ensures c.word.ensures.rule c.word.ensures.local
