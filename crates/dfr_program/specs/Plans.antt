-- What a live run is given of a script: the scans that are fed, lost ones among them, and the orders
-- with their places.
use Rattle.std.specs.Prelude.{◌≡◌, ℕ, ◌+◌, List, [], ◌∷◌, ◌++◌, length, map, min, max, Option, Some, None, option_map}
use Rattle.std.specs.List.{flat_map}
use Rattle.std.specs.Vec.Iter.{into_iter_items}
use Rattle.comtrade_values.specs.Faults.{◌or◌}
use Rattle.dfr_channels.specs.Firing.{rules_fault}
use Rattle.dfr_channels.specs.Parts.{SetupParts}
use Rattle.dfr_recorder.specs.Steps.{StepParts}
use Rattle.dfr_recorder.specs.Steps as step
use Rattle.dfr_script.specs.Parts.{CommandParts, ScriptParts}
use Rattle.dfr_script.specs.Parts as command
use Rattle.dfr_live.specs.Parts.{CallParts, EntryParts}
use Rattle.dfr_live.specs.Parts as call
use Rattle.dfr_live.specs.declared.station.Order.{Order}
use Rattle.dfr_live.specs.Devices.{call_in}
use Rattle.dfr_program.specs.declared.plan.Given.{Given}
use Rattle.dfr_program.specs.declared.plan.Given.TheVariants as gives
use Rattle.dfr_program.specs.declared.plan.Placed.{Placed}
use Rattle.dfr_program.specs.declared.plan.Scans.{Scans}
use Rattle.dfr_program.specs.declared.prepared.Fault.{Fault}
use Rattle.dfr_program.specs.declared.prepared.Fault.TheVariants as faults
use Rattle.dfr_program.specs.Faults.{script_fault, script_in}

-- the line of a command's rules, where they don't fit the layout
abbrev pub refused_line : SetupParts → CommandParts → Option ℕ
refused_line layout (command.Scan scan) = None
refused_line layout command.Lost = None
refused_line layout command.Trigger = None
refused_line layout command.Take = None
refused_line layout (command.Rules line list) = option_map (λ fault. line) (rules_fault layout list)

-- the first such line
unfoldable pub refused_in : SetupParts → List CommandParts → Option ℕ
refused_in layout [] = None
refused_in layout (c ∷ cs) = refused_line layout c or refused_in layout cs

abbrev pub command_fault : ScriptParts → Option Fault
command_fault s = option_map faults.RulesAt (refused_in s.setup s.commands)

-- the first fault of a script for a live run: what a replay refuses, then rules after `go` that don't fit
unfoldable pub live_fault : List ℕ → Option Fault
live_fault text = script_fault text or command_fault (script_in text)

-- the scan step that a command feeds: a scan's or a lost one's
abbrev pub scan_in : CommandParts → List StepParts
scan_in (command.Scan scan) = step.Scan scan ∷ []
scan_in command.Lost = step.Lost ∷ []
scan_in command.Trigger = []
scan_in command.Take = []
scan_in (command.Rules line list) = []

-- the order of a command that stands after so many scan steps; a take is none
abbrev pub order_in : ℕ → CommandParts → List (ℕ × CallParts)
order_in place (command.Scan scan) = []
order_in place command.Lost = []
order_in place command.Trigger = (place, call.Trigger) ∷ []
order_in place command.Take = []
order_in place (command.Rules line list) = (place, call.SetRules list) ∷ []

unfoldable pub scans_in : List CommandParts → List StepParts
scans_in cs = flat_map scan_in cs

-- the orders of commands of which the first stands after so many scan steps
unfoldable pub orders_in : ℕ → List CommandParts → List (ℕ × CallParts)
orders_in place [] = []
orders_in place (c ∷ cs) = order_in place c ++ orders_in (place + length (scan_in c)) cs

-- the step of what is fed, whatever its allocator is
abbrev pub given : {A : Type 0} → Given A → StepParts
given (gives.Scan scan) = step.Scan scan
given gives.Lost = step.Lost

-- an order with its place, whatever its allocator is
abbrev pub placed : {A : Type 0} → ℕ × Order A → ℕ × CallParts
placed p = (p.0, call_in p.1)

-- commands whose rules all fit: each of their scans is fed, lost ones too, in order, and each trigger and each list of rules is
-- ordered at the number of scan steps before it
pub record IsPlanned (layout : SetupParts) (cs : List CommandParts) (scans : List StepParts) (orders : List (ℕ × CallParts)) : Type 0 where
  pub fit : refused_in layout cs ≡ None
  pub fed : scans ≡ scans_in cs
  pub ordered : orders ≡ orders_in 0 cs

-- the calls of orders with their places, each with the number of scan steps made before it, in a run of so many: the
-- greatest place of it and of those before it, but at most all steps of the run
abbrev pub calls_made : ℕ → ℕ → List (ℕ × CallParts) → List (ℕ × CallParts)
calls_made steps before [] = []
calls_made steps before (o ∷ os) = (min (max before o.0) steps, o.1) ∷ calls_made steps (max before o.0) os

abbrev pub call_at : EntryParts → ℕ × CallParts
call_at e = (e.at, e.call)

-- the scan steps that a feed hasn't given yet
abbrev pub steps_left : {A : Type 0} → Scans A → List StepParts
steps_left s = map given (into_iter_items s.rest)

-- the orders that haven't been given yet, with their places
abbrev pub orders_left : {A : Type 0} → Placed A → List (ℕ × CallParts)
orders_left p = map placed (into_iter_items p.rest)

-- the first order that is left is given, and the others are left then; where none is left, none is given
abbrev pub OrdersNext : {A : Type 0} → List (ℕ × CallParts) → Option (ℕ × Order A) → List (ℕ × CallParts) → Type 0
OrdersNext old (Some order) new = old ≡ placed order ∷ new
OrdersNext old None new = (old ≡ []) × (new ≡ [])
