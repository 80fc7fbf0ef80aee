-- The recorder that a set-up says, or what is wrong with the set-up.
use Rattle.std.specs.Prelude.{◌≡◌, ℕ, List, [], Option, Some, option_map}
use Rattle.comtrade_values.specs.Faults.{◌or◌}
use Rattle.dfr_channels.specs.Firing.{rules_fault}
use Rattle.dfr_channels.specs.Parts.{SetupParts}
use Rattle.dfr_channels.specs.Setups.{setup_fault}
use Rattle.dfr_channels.specs.declared.rule.Rule.{Rule}
use Rattle.dfr_recorder.specs.Limits.{limit_fault}
use Rattle.dfr_recorder.specs.History.{opening}
use Rattle.dfr_recorder.specs.Kept.{Kept, kept}
use Rattle.dfr_recorder.specs.declared.limits.Limits.{Limits}
use Rattle.dfr_recorder.specs.declared.limits.LimitFault.{LimitFault}
use Rattle.dfr_script.specs.declared.limit_line.LimitNumbers.{LimitNumbers}
use Rattle.dfr_script.specs.declared.recorder.RecorderFault.{RecorderFault}
use Rattle.dfr_script.specs.declared.recorder.RecorderFault.TheVariants as faults
use Rattle.dfr_script.specs.declared.recorder.RecorderRefusal.{RecorderRefusal}
use Rattle.dfr_script.specs.declared.recorder.RecorderRefusal.TheVariants as refusal
use Rattle.dfr_script.specs.Parts.{RecorderSetupParts}

abbrev pub number_fault : ℕ → LimitNumbers → Option LimitFault
number_fault rate n = limit_fault rate n.pre n.post n.longest n.shelf

-- limits, and then rules, over channels
abbrev pub limits_or_rules_fault : SetupParts → LimitNumbers → List Rule → Option RecorderFault
limits_or_rules_fault over numbers list =
    option_map faults.Limits (number_fault over.rate numbers) or option_map faults.Rules (rules_fault over list)

-- of a set-up: its channels, its limits, its rules
abbrev pub set_up_fault : RecorderSetupParts → Option RecorderFault
set_up_fault s = option_map faults.Setup (setup_fault s.setup) or limits_or_rules_fault s.setup s.limits s.rules

-- out of memory, or this fault
abbrev pub Refuses : Option RecorderFault → RecorderRefusal → Type 0
Refuses fault (refusal.Fault f) = fault ≡ Some f
Refuses fault refusal.Memory = Unit {0}

-- limits of these numbers and this choice
pub record HasNumbers (numbers : LimitNumbers) (limits : Limits) : Type 0 where
  pub pre : limits.pre ≡ numbers.pre
  pub post : limits.post ≡ numbers.post
  pub longest : limits.longest ≡ numbers.longest
  pub shelf : limits.shelf ≡ numbers.shelf
  pub unshared : limits.unshared ≡ numbers.unshared

-- a new recorder, over the channels, the limits and the rules of a set-up
pub record IsMadeOf (s : RecorderSetupParts) (k : Kept) : Type 0 where
  pub layout : k.layout ≡ s.setup
  pub limits : HasNumbers s.limits k.limits
  pub rules : k.rules ≡ s.rules
  pub fresh : k ≡ kept (opening k.layout k.limits k.rules) []
