use Rattle.std.proofs.Common.{◌≡◌, true}
use Rattle.std.proofs.lemmas.Str.{IsUtf8-from_is_utf8}
use Rattle.std.specs.Str.{is_utf8}
use Rattle.percent_encoding.specs.Percent.{percent_decode}
use Rattle.matchmaker.proofs.target.name_from.Goals as goal

pub unreachable-requires : goal.unreachable-requires
unreachable-requires c =
    let text : is_utf8 (percent_decode c.percent_decode.result.bytes.now) ≡ true = rw c.percent_decode.ensures.bytes c.requires in
    let k = c.in-Err-Utf8.ensures.utf8 (IsUtf8-from_is_utf8 _ text) in
    let is = c.in-Err-Utf8.field-0-is in
    absurd cc
