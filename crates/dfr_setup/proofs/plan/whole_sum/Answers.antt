use Rattle.std.proofs.Common.{sym, subst, Result}
use Rattle.dfr_setup.specs.Addends.{SumParts}
use Rattle.dfr_setup.specs.Plans as plans
use Rattle.dfr_channels.specs.LineFields.{and_then}
use Rattle.dfr_setup.specs.Refusing.{Is}
use Rattle.dfr_setup.specs.declared.fault.DetectorFault.{DetectorFault}
use Rattle.dfr_setup.proofs.plan.whole_sum.Goals as goal

pub returns-clause-value : goal.returns-clause-value
returns-clause-value g c =
    subst (λ (said : Result SumParts DetectorFault). Is (λ (x : SumParts). x) (and_then said (λ (s : SumParts). plans.counted c.args.test s)) c.counted.result)
    (sym c.in_ok-sum.ensures) c.counted.ensures.value
