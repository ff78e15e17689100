use Rattle.std.proofs.Common.{◌≡◌, ◌++◌, map, take}
use Rattle.text_model.specs.DefLines.{def_words}
use Rattle.text_model.specs.Marks.{lines}
use Rattle.schedule_text.proofs.write.append_defs.Given as goal

abbrev pub invariant-loop-def : goal.invariant-loop-def
invariant-loop-def l = l.out.items ≡ l.fn.out.items ++ lines (map def_words (take l.def-index l.defs))
