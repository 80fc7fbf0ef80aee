use Rattle.benchmarks.proofs.live.lane.run.Given as goal

abbrev pub ghosts-named : goal.ghosts-named
ghosts-named g a = record { lane = a.opened.lane; opening = a.opened.opening; seats = a.opened.seats }
