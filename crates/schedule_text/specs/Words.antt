-- The words that lines are printed of.
use Rattle.std.specs.Prelude.{ℕ, List, [], ◌∷◌, ◌++◌, map, codes}
use Rattle.std.specs.Fmt.{decimal}
use Rattle.text_model.specs.Decimals.{signed_text}
use Rattle.text_model.specs.DefLines.{DefNumbers, def_words}
use Rattle.text_model.specs.Marks.{hex_word, lines, quoted}
use Rattle.text_model.specs.SchemaLines.{schema_text}
use Rattle.text_model.specs.WordForms.{plain}
use Rattle.text_model.specs.declared.schedule.Schedule.{Schedule}
use Rattle.schedule_text.specs.declared.def.Numbers.{Numbers}
use Rattle.schedule_text.specs.declared.word.Word.{Word}
use Rattle.schedule_text.specs.declared.word.Word.TheVariants.{Plain, Number, Signed, Whole, Link, Hex, Quoted, Escaped}

-- the text of a word
abbrev pub word_text : Word → List ℕ
word_text (Plain w) = w.now
word_text (Number n) = decimal n
word_text (Signed z) = signed_text z
word_text (Whole z) = signed_text z
word_text (Link n) = 35 ∷ decimal n
word_text (Hex bytes) = hex_word bytes.now
word_text (Quoted t) = quoted t.now
word_text (Escaped bytes) = plain bytes.now

-- the texts of words
abbrev pub word_texts : List Word → List (List ℕ)
word_texts ws = map word_text ws

-- what a schedule says before its events
abbrev pub heading_text : Schedule → List ℕ
heading_text s = schema_text s.schema ++ lines ((codes "process" ∷ s.process ∷ []) ∷ map def_words s.defs)

-- the numbers of a definition, as the model has them
abbrev pub numbers_in : Numbers → DefNumbers
numbers_in n = record { max = n.max; seat = n.seat; patch = n.patch; keep = n.keep }
