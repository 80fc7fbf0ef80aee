use Rattle.library_tests.proofs.live.lent.is_refused.Given as goal

abbrev pub ghosts-loses_at_the_end : goal.ghosts-loses_at_the_end
ghosts-loses_at_the_end a = record { lane = a.opened.lane; opening = a.opened.opening; seats = a.opened.seats }
