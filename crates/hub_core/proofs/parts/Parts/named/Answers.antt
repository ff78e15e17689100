use Rattle.std.proofs.Common.{◌≡◌, ◌∙◌, ℕ, Bool, true, false, List, Some, None, refl, sym, ap}
use Rattle.std.specs.Prelude.{option_copied, if◌then◌else◌}
use Rattle.schema_model.specs.Ids.{is_id}
use Rattle.hub_core.proofs.OutcomeLaws.{none_named}
use Rattle.hub_core.proofs.parts.Parts.named.Goals as goal

no_id : (b : Bool) (x : List ℕ) → None ≡ (if b then Some x else None) → b ≡ false
no_id true x h = absurd cc
no_id false x h = refl

pub returns-in_err-id_of : goal.returns-in_err-id_of
returns-in_err-id_of g c =
    let none : is_id c.args.name.now ≡ false = no_id (is_id c.args.name.now) c.args.name.now (c.in_err-id_of.ensures ∙ ap (λ x. if is_id x then Some x else None) c.as_bytes.ensures.value) in
    ap option_copied c.from_residual.ensures ∙ sym (none_named g.R.RoomLike.room g.R.RoomLike.Holds 0 c.args.name.now c.args.self.now.registry.rooms c.know.ensures.0 c.requires.order.rooms none)
