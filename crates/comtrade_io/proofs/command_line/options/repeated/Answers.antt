use Rattle.std.proofs.Common.{ap, ◌∙◌, Some}
use Rattle.clap.specs.Words.{Rule, rule_of}
use Rattle.clap.specs.declared.builder.arg.Arg.{Arg}
use Rattle.clap.specs.declared.builder.action.ArgAction.TheVariants.{Append}
use Rattle.comtrade_io.proofs.command_line.options.repeated.Goals as goal

pub returns-clause-rule : goal.returns-clause-rule
returns-clause-rule c = ap rule_of c.action.ensures ∙ ap (λ (r : Rule). record r { action = Some Append }) c.option.ensures.rule

pub returns-clause-local : goal.returns-clause-local
returns-clause-local c = ap (λ (x : Arg). x.global) c.action.ensures ∙ c.option.ensures.local
