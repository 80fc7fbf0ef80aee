use Rattle.std.proofs.Common.{◌≡◌}
use Rattle.dfr_station.specs.Input.{Grows}
use Rattle.dfr_station.proofs.first.read_scan.Given as goal

abbrev pub invariant-loop : goal.invariant-loop
invariant-loop g l =
    Grows g.I.Read.remaining l.initial.reading.first.buffer l.initial.reading.input.now l.reading.first.buffer l.reading.input.now
    × (l.reading.input.ghost_name ≡ l.initial.reading.input.ghost_name)
