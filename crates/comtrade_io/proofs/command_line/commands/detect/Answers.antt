use Rattle.comtrade_io.proofs.command_line.commands.detect.Goals as goal

pub returns : goal.returns
returns c =
    let one = c.in_ok-one.ensures _ _ c.in_ok-detect_lines.ensures c.word.ensures.rule c.word.ensures.local in
    let two = c.in_ok-two.ensures _ _ one c.free_word.ensures.rule c.free_word.ensures.local in
    c.with_output.ensures _ (c.in_ok-json.ensures _ two)
