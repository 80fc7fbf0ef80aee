-- What the values of the code say.
use Rattle.std.specs.Prelude.{◌≡◌, ℕ, List, take, Result, Ok, Err}
use Rattle.dfr_bus.specs.declared.fault.Fault.{Fault}
use Rattle.dfr_bus.specs.declared.asdu.Asdu.{Asdu}
use Rattle.dfr_bus.specs.declared.sampled_values.SampledValues.{SampledValues}
use Rattle.dfr_bus.specs.SampledValues.{Frame}

-- what was returned, seen by `view`, is what reading gives
abbrev pub Gives : {X Y : Type 0} → (X → Y) → Result X Fault → Result Y Fault → Type 0
Gives view (Ok x) read = read ≡ Ok (view x)
Gives view (Err e) read = read ≡ Err e

abbrev pub frame_of : SampledValues → Frame
frame_of v = record {
  app_id = v.app_id;
  reserved_1 = v.reserved_1;
  reserved_2 = v.reserved_2;
  asdus = take v.count v.places;
}
