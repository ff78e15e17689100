use Rattle.trials.proofs.eight.each_client_decodes_what_it_may_see.Given as goal

abbrev pub ghosts-pass_all : goal.ghosts-pass_all
ghosts-pass_all g a = record { name = a.blank.name; parts = a.blank.parts }
