use Rattle.std.proofs.Common.{ap, ◌∙◌, codes, rules}
use Rattle.clap.specs.Simple.{app_of_fields}
use Rattle.clap.specs.Words.{new_app}
use Rattle.comtrade_io.specs.Commands.{IsCommand}
use Rattle.comtrade_io.proofs.command_line.commands.extract.Goals as goal

pub returns : goal.returns
returns c =
    let bare : IsCommand (new_app (codes "extract")) c.about-bare.result = record {
      app = ap app_of_fields c.about-bare.ensures ∙ c.new.ensures.app;
      local = search rules;
    } in
    c.with.ensures _ _ bare c.word.ensures.rule c.word.ensures.local
