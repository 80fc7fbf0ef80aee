use Rattle.std.proofs.Common.{ap, ◌∙◌, rules}
use Rattle.clap.specs.Simple.{app_of_fields}
use Rattle.comtrade_io.specs.Commands.{IsCommand}
use Rattle.comtrade_io.proofs.command_line.commands.over_new.Goals as goal

pub returns : goal.returns
returns c = λ a bare.
    let used : IsCommand a c.override_usage-used.result = record {
      app = ap app_of_fields c.override_usage-used.ensures ∙ bare.app;
      local = let is_local = bare.local in search rules;
    } in
    let one = c.in_ok-one.ensures _ _ used c.word-file.ensures.rule c.word-file.ensures.local in
    let two = c.in_ok-two.ensures _ _ one c.word.ensures.rule c.word.ensures.local in
    c.with-3.ensures _ _ two c.free_word.ensures.rule c.free_word.ensures.local
