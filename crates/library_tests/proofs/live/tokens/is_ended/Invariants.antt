use Rattle.library_tests.proofs.live.tokens.is_ended.Given as goal

abbrev pub ghosts-ends_in : goal.ghosts-ends_in
ghosts-ends_in g a = record { lane = a.opened.lane; opening = a.opened.opening; seats = a.opened.seats }
