use Rattle.std.proofs.Common.{rules, ◌≤◌, nat_le, subst, sym}
use Rattle.std.proofs.lemmas.Bool.{and_parts, leb-true}
use Rattle.room_model.specs.declared.definition.RoomDef.{RoomDef}
use Rattle.room_model.specs.Limits.{longest_time}
use Rattle.room_model.proofs.DefinitionParts.{def_within}
use Rattle.room_core.proofs.room.RoomRoomLike.make.Goals as goal

pub invariant_of-result : goal.invariant_of-result
invariant_of-result c =
    let keep = c.args.def.now.keep in
    let most : keep ≤ longest_time = leb-true keep longest_time (and_parts (nat_le 0 keep) (nat_le keep longest_time) (def_within c.args.def.now c.requires).keep).1 in
    record {
      ordered = search rules;
      stands = λ fresh. (search rules, search rules, subst (λ (d : RoomDef). d.keep ≤ longest_time) (sym c.in_ok-copy.ensures) most);
    }
