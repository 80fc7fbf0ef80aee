use Rattle.std.proofs.Common.{ap, ◌∙◌, true}
use Rattle.clap.specs.Words.{Rule, rule_of}
use Rattle.clap.specs.declared.builder.arg.Arg.{Arg}
use Rattle.comtrade_io.proofs.command_line.options.word.Goals as goal

pub returns-clause-rule : goal.returns-clause-rule
returns-clause-rule c = ap rule_of c.required.ensures ∙ ap (λ (r : Rule). record r { required = true }) c.free_word.ensures.rule

pub returns-clause-local : goal.returns-clause-local
returns-clause-local c = ap (λ (x : Arg). x.global) c.required.ensures ∙ c.free_word.ensures.local
