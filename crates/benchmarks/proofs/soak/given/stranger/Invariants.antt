use Rattle.benchmarks.proofs.soak.given.stranger.Given as goal

abbrev pub ghosts-token_named : goal.ghosts-token_named
ghosts-token_named g a = record { lane = a.opened.lane; opening = a.opened.opening; seats = a.opened.seats }
