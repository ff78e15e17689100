use Rattle.room_server.proofs.replay.replay_whole.Given as goal

abbrev pub ghosts-replay_events : goal.ghosts-replay_events
ghosts-replay_events g a = record { name = a.blank.name; parts = a.blank.parts }
