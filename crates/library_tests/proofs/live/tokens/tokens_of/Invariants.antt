use Rattle.library_tests.proofs.live.tokens.tokens_of.Given as goal

abbrev pub ghosts-tokens_named : goal.ghosts-tokens_named
ghosts-tokens_named a = record { lane = a.opened.lane; opening = a.opened.opening; seats = a.opened.seats }
