-- A text is UTF-8.
use Rattle.std.proofs.lemmas.Str.{is_utf8-from_IsUtf8}
use Rattle.client_frames.proofs.writing.put_fault.Goals as goal

pub returns-in_err-push-clause-words : goal.returns-in_err-push-clause-words
returns-in_err-push-clause-words c = is_utf8-from_IsUtf8 c.args.text.now c.utf8.text

pub returns-in_err-put_number-clause-words : goal.returns-in_err-put_number-clause-words
returns-in_err-put_number-clause-words c = is_utf8-from_IsUtf8 c.args.text.now c.utf8.text

pub returns-clause-words : goal.returns-clause-words
returns-clause-words c = is_utf8-from_IsUtf8 c.args.text.now c.utf8.text
