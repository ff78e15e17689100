use Rattle.std.proofs.Common.{◌∷◌, ap, arith}
use Rattle.std.specs.Prelude.{is_some}
use Rattle.json.specs.Lex.{in_escape, in_string}
use Rattle.json.specs.Text.{after_backslash, plain}
use Rattle.validate.proofs.QuotedSteps.{Passed-from, byte_content, byte_lex, control_content, escape_content, escape_lex}
use Rattle.validate.proofs.quoted.after_unit.Goals as goal

pub returns-then-first-eq92 : goal.returns-then-first-eq92
returns-then-first-eq92 c =
    let x = c.args.first in
    let rest = c.args.rest.now in
    Passed-from plain after_backslash in_string in_escape (x ∷ rest) rest c.after_escape.result (ap is_some (escape_content x rest c.if-first-eq92.true)) (escape_lex x rest c.if-first-eq92.true) (omega arith) c.after_escape.ensures

pub returns-then-first-lt32 : goal.returns-then-first-lt32
returns-then-first-lt32 c = ap is_some (control_content c.args.first c.args.rest.now c.if-first-lt32.true)

pub returns-else-first-lt32 : goal.returns-else-first-lt32
returns-else-first-lt32 c =
    let x = c.args.first in
    let rest = c.args.rest.now in
    (byte_content x rest c.requires c.if-first-eq92.false c.if-first-lt32.false, byte_lex x rest c.requires c.if-first-eq92.false, omega arith)
