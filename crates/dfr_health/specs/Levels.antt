-- How grave an event is, for the system's log.
use Rattle.std.specs.Prelude.{ℕ, List, codes, Bool, true, false, Result, Ok, Err}
use Rattle.dfr_recorder.specs.declared.step.Hit.TheVariants as hit
use Rattle.dfr_station.specs.declared.event.Event.{Event}
use Rattle.dfr_station.specs.declared.event.Event.TheVariants as event
use Rattle.dfr_station.specs.declared.event.Replied.{Replied}
use Rattle.dfr_station.specs.declared.event.Replied.TheVariants as replied
use Rattle.dfr_station.specs.declared.event.Trouble.{Trouble}
use Rattle.dfr_station.specs.declared.event.Trouble.TheVariants as trouble
use Rattle.dfr_health.specs.declared.level.Level.{Level}
use Rattle.dfr_health.specs.declared.level.Level.TheVariants.{Trouble as Grave, Loss, Plain}

-- an order that was refused is a loss
abbrev pub level_of_reply : Replied → Level
level_of_reply (replied.Trigger (Ok hit.ShelfFull)) = Loss
level_of_reply (replied.Trigger (Ok done)) = Plain
level_of_reply (replied.Trigger (Err fault)) = Loss
level_of_reply (replied.Rules true) = Plain
level_of_reply (replied.Rules false) = Loss
level_of_reply replied.Stop = Plain

-- a record that a storm cost is a loss; one that could not be written for another reason is trouble
abbrev pub level_of_unwritten : Trouble → Level
level_of_unwritten trouble.Storm = Loss
level_of_unwritten why = Grave

-- Trouble: records, or all scans, are in danger. A loss: something was lost or refused, or the clock was set.
abbrev pub level : Event → Level
level (event.Trouble why) = Grave
level (event.Unwritten extent key why) = level_of_unwritten why
level event.Unfinished = Grave
level (event.ShelfFull waiting) = Grave
level (event.Silent seconds) = Grave
level event.Broken = Grave
level event.Memory = Grave
level (event.Lost first last count why) = Loss
level (event.Line line why) = Loss
level (event.Order why) = Loss
level (event.Unopened count) = Loss
level (event.Missed count) = Loss
level (event.Cut bytes) = Loss
level (event.Noise at) = Loss
level event.Undated = Loss
level (event.ClockSet micros) = Loss
level (event.Record extent key clock true) = Loss
level (event.Reply asked at reply) = level_of_reply reply
level e = Plain

-- what a line of a level begins with: the number of the syslog level, as journald reads it (3 error, 4 warning, 6 information)
abbrev pub prefix_text : Level → List ℕ
prefix_text Grave = codes "<3>"
prefix_text Loss = codes "<4>"
prefix_text Plain = codes "<6>"
