use Rattle.library_tests.proofs.refused.live_play.is_played.Given as goal

abbrev pub ghosts-plays : goal.ghosts-plays
ghosts-plays g a = record { lane = a.opened.lane; opening = a.opened.opening; seats = a.opened.seats }
