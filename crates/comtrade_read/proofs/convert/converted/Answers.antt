use Rattle.std.proofs.Common.{◌≡◌, Some, subst, rules}
use Rattle.comtrade_values.specs.Faults.{◌or◌}
use Rattle.comtrade_format.specs.Data.{dat_refusal}
use Rattle.comtrade_format.specs.Parts.{FileParts}
use Rattle.comtrade_format.specs.Refusals.{cfg_refusal}
use Rattle.comtrade_read.proofs.FirstRefusal.{is_first}
use Rattle.comtrade_read.proofs.convert.converted.Goals as goal

pub returns : goal.returns
returns g c = record {
  reads = tt;
  fault = record {
    file = c.in-Ok.file;
    reads = c.in-Ok.ensures.found;
    refused = subst (λ (f : FileParts). (cfg_refusal f or dat_refusal f.head.kind f) ≡ Some c.in-Err-written_of.fault) c.with_kind-file.ensures
        (is_first _ _ c.in_default.not-Memory c.in-Err-written_of.ensures.fault);
  };
}

pub returns-in-Memory-clause-fault : goal.returns-in-Memory-clause-fault
returns-in-Memory-clause-fault g c = search rules depth 1
