use Rattle.std.proofs.Common.{ap, ◌∙◌, rules, true}
use Rattle.clap.specs.Simple.{on_top, app_of_fields}
use Rattle.comtrade_io.proofs.command_line.commands.with_choice.Goals as goal

pub returns : goal.returns
returns c = λ a is_command. record {
  app = ap app_of_fields c.subcommand_required.ensures
      ∙ ap (on_top (λ s. record s { subcommand_required = true })) (ap app_of_fields c.arg_required_else_help.ensures
      ∙ ap (on_top (λ s. record s { arg_required_else_help = true })) (ap app_of_fields c.no_binary_name.ensures
      ∙ ap (on_top (λ s. record s { no_binary_name = true })) is_command.app));
  local = let is_local = is_command.local in search rules;
}
