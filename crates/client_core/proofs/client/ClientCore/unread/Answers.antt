use Rattle.std.proofs.Common.{◌≡◌, ◌∙◌, true, false, refl, sym, ap}
use Rattle.client_core.specs.Cores.{Core, is_patch}
use Rattle.client_core.proofs.Turns.{turn_needs, turn_refused}
use Rattle.client_core.proofs.client.ClientCore.unread.Goals as goal
use Rattle.client_core.proofs.client.ClientCore.unread.Goals.{else-not-self-via-then-not-self+else-is_patch, else-not-self-via-else-not-self}

pub returns-then-is_patch : goal.returns-then-is_patch
returns-then-is_patch c =
    let now = c.args.self.now in
    let ready : c.self.inside.ready ≡ false = cc in
    let unready : now.client.ready ≡ false = ap (λ (x : Core). x.client.ready) (sym c.self.view_is) ∙ ready in
    (turn_refused now.schema now.client c.args.frame.now c.requires.unclosed unready (sym c.if-is_patch.ensures), refl, c.requires.spent)

pub returns : goal.returns
returns c =
    let now = c.args.self.now in
    let other : now.client.ready ≡ false → is_patch c.args.frame.now ≡ false = λ unready.
    let ready : c.self.inside.ready ≡ false = ap (λ (x : Core). x.client.ready) c.self.view_is ∙ unready in
    elim c.else-not-self.branch [
      | else-not-self-via-then-not-self+else-is_patch w ↦ sym w.if-is_patch.ensures
      | else-not-self-via-else-not-self w ↦ let is = w.if-not-self.false in cc
    ] in (
      λ unspent. turn_needs now.schema now.client c.args.frame.now c.requires.unclosed c.requires.there other,
      ap (λ (x : Core). let y : Core = record { schema = x.schema; client = x.client; spent = true } in y) c.self.view_is,
    )
