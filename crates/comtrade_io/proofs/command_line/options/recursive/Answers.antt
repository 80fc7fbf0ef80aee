use Rattle.std.proofs.Common.{ap, ◌∙◌, Some}
use Rattle.clap.specs.Words.{Rule, rule_of}
use Rattle.clap.specs.declared.builder.arg.Arg.{Arg}
use Rattle.comtrade_io.proofs.command_line.options.recursive.Goals as goal

pub returns-clause-rule : goal.returns-clause-rule
returns-clause-rule c = ap rule_of c.short.ensures
    ∙ ap (λ (r : Rule). record r { short = Some 114 }) c.flag.ensures.rule

pub returns-clause-local : goal.returns-clause-local
returns-clause-local c = ap (λ (x : Arg). x.global) c.short.ensures ∙ c.flag.ensures.local
