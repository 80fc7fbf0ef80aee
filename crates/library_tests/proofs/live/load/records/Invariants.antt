use Rattle.library_tests.proofs.live.load.records.Given as goal

abbrev pub ghosts-works : goal.ghosts-works
ghosts-works g a = record { lane = a.opened.lane; opening = a.opened.opening; seats = a.opened.seats }
