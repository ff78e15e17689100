-- A name is UTF-8.
use Rattle.std.proofs.lemmas.Str.{is_utf8-from_IsUtf8}
use Rattle.client_frames.proofs.writing.put_named.Goals as goal

pub returns-in_err-push-clause-kept : goal.returns-in_err-push-clause-kept
returns-in_err-push-clause-kept c = is_utf8-from_IsUtf8 c.args.name.now c.utf8.name

pub returns-clause-kept : goal.returns-clause-kept
returns-clause-kept c = is_utf8-from_IsUtf8 c.args.name.now c.utf8.name
