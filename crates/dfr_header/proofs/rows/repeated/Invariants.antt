use Rattle.std.proofs.Common.{◌≡◌, ◌-◌, ◌++◌}
use Rattle.std.specs.List.{repeat}
use Rattle.dfr_header.proofs.rows.repeated.Given as goal

-- what is there and what is still to come are all of it
abbrev pub invariant-loop : goal.invariant-loop
invariant-loop g l = l.all.items ++ repeat (l.count - l.counter) l.one ≡ repeat l.count l.one
