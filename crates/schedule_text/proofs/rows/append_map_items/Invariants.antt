use Rattle.std.proofs.Common.{◌≡◌, ◌++◌, map, take}
use Rattle.text_words.specs.Words.{behind}
use Rattle.text_model.specs.RowLines.{map_item_word}
use Rattle.schedule_text.proofs.rows.append_map_items.Given as goal

abbrev pub invariant-loop-item : goal.invariant-loop-item
invariant-loop-item l = l.out.items ≡ l.fn.out.items ++ behind (map map_item_word (take l.item-index l.items))
