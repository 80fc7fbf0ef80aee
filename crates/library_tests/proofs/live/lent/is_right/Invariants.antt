use Rattle.library_tests.proofs.live.lent.is_right.Given as goal

abbrev pub ghosts-lends : goal.ghosts-lends
ghosts-lends g a = record { lane = a.opened.lane; opening = a.opened.opening; seats = a.opened.seats }
