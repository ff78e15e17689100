use Rattle.room_server.proofs.summary.summarize_events.Given as goal

abbrev pub ghosts-tally_events : goal.ghosts-tally_events
ghosts-tally_events a = record { name = a.blank.name; parts = a.blank.parts }
