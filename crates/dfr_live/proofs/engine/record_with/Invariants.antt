use Rattle.dfr_live.proofs.engine.record_with.Given as goal

abbrev pub ghosts-record_named : goal.ghosts-record_named
ghosts-record_named g a = record { lane = a.opened.lane; opening = a.opened.opening; seats = a.opened.seats }
