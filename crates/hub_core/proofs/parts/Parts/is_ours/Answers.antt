use Rattle.std.proofs.Common.{◌≡◌, ◌&&◌, ◌∙◌, Bool, true, false, Some, None, refl, ap, sym, rules}
use Rattle.std.specs.Str.{bytes_eq}
use Rattle.hub_core.proofs.HandleLaws.{known_by}
use Rattle.hub_core.proofs.parts.Parts.is_ours.Goals as goal

and_true : (b : Bool) → b ≡ (b && true)
and_true true = refl
and_true false = refl

and_false : (b : Bool) → false ≡ (b && false)
and_false true = refl
and_false false = refl

pub returns-in-Some : goal.returns-in-Some
returns-in-Some g c =
    let same : c.eq.result ≡ bytes_eq c.args.opening.now.process c.args.self.now.process = search rules in
    same ∙ and_true (bytes_eq c.args.opening.now.process c.args.self.now.process)
    ∙ ap (λ b. bytes_eq c.args.opening.now.process c.args.self.now.process && b)
    (sym (known_by g.R.RoomLike.room c.args.opening.now.room c.args.self.now.registry.rooms (Some c.in-Some.field-0.serial) (rw (← c.opening.view_is, ← c.self.view_is) c.in-Some.ensures)))

pub returns-in-None : goal.returns-in-None
returns-in-None g c =
    and_false (bytes_eq c.args.opening.now.process c.args.self.now.process)
    ∙ ap (λ b. bytes_eq c.args.opening.now.process c.args.self.now.process && b) (sym (known_by g.R.RoomLike.room c.args.opening.now.room c.args.self.now.registry.rooms None (rw (← c.opening.view_is, ← c.self.view_is) c.in-None.ensures)))
