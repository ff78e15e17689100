use Rattle.std.proofs.lemmas.Str.{is_utf8-from_IsUtf8}
use Rattle.msgpack_lite.proofs.writing.put_text.Goals as goal

pub returns-in_err-put_text_head-clause-text : goal.returns-in_err-put_text_head-clause-text
returns-in_err-put_text_head-clause-text c = is_utf8-from_IsUtf8 c.args.text.now c.utf8.text

pub returns-clause-text : goal.returns-clause-text
returns-clause-text c = is_utf8-from_IsUtf8 c.args.text.now c.utf8.text
