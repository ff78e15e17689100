use Rattle.std.proofs.Common.{◌∙◌, ◌++◌, ◌∷◌, [], ap, sym, arith}
use Rattle.schedule_text.proofs.KeyLaws.{key_again, key_apart, key_named, key_read}
use Rattle.schedule_text.proofs.def.names_of.Goals as goal

pub returns-then-is_among : goal.returns-then-is_among
returns-then-is_among c =
    key_again c.args.words.now c.loop-word.word-index _ c.loop-word.names c.as_slice.result.now (omega arith) c.loop-word.invariant.read c.as_slice.ensures (sym c.is_among.ensures ∙ c.if-is_among.true)

pub loop-word-preserved : goal.loop-word-preserved
loop-word-preserved c =
    let names = c.loop-word.names in
    let is = c.in_ok-push.ensures ∙ ap (λ t. names ++ t ∷ []) c.in_ok-name_text.ensures in
    record {
      read = key_read c.args.words.now c.loop-word.word-index _ names _ (omega arith) c.loop-word.invariant.read is;
      named = key_named names _ _ is c.loop-word.invariant.named (sym c.is_room_name.ensures ∙ c.if-not-is_room_name.false);
      apart = key_apart names _ _ c.as_slice.result.now is c.loop-word.invariant.apart c.as_slice.ensures (sym c.is_among.ensures ∙ c.if-is_among.false);
    }
