-- What a reading that stopped means for a run.
use Rattle.comtrade_values.specs.declared.input.InputFault.{InputFault}
use Rattle.comtrade_values.specs.declared.input.InputFault.TheVariants as input
use Rattle.dfr_program.specs.declared.fault.RunFault.{RunFault}
use Rattle.dfr_program.specs.declared.fault.RunFault.TheVariants as run

-- a read that failed and too many bytes are one fault
abbrev pub run_fault : InputFault → RunFault
run_fault input.Failed = run.Input
run_fault input.Long = run.Input
run_fault input.Memory = run.Memory
