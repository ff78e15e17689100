use Rattle.std.proofs.Common.{◌≡◌, true, take}
use Rattle.std.specs.List.{list_all}
use Rattle.state_model.specs.Sound.{keys_differ}
use Rattle.text_model.specs.Marks.{is_room_name}
use Rattle.text_words.specs.Words.{bytes_of}
use Rattle.schedule_text.proofs.def.names_of.Given as goal

abbrev pub invariant-loop-word : goal.invariant-loop-word
invariant-loop-word l = record {
  read : l.names ≡ take l.word-index (bytes_of l.words);
  named : list_all is_room_name l.names ≡ true;
  apart : keys_differ l.names ≡ true;
}
