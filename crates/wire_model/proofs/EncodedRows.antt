-- What told blocks mean against the rows known so far, and what they make of rows.
use Rattle.std.specs.Prelude.{◌≡◌, List, [], ◌∷◌, map, refl, None}
use Rattle.schema_model.specs.Classes.{Schema}
use Rattle.schema_model.specs.declared.value.Value.TheVariants.{Link}
use Rattle.state_model.specs.declared.row.Row.TheVariants.{Struct}
use Rattle.state_model.specs.declared.row.RowEntry.{RowEntry}
use Rattle.state_model.specs.Rows.{root_alone, kinds_of}
use Rattle.state_model.specs.Reached.{freed}
use Rattle.state_model.proofs.Examples as ex
use Rattle.state_model.proofs.Zoo as z
use Rattle.wire_model.specs.declared.op.OpKey.TheVariants.{Field}
use Rattle.wire_model.specs.declared.op.OpValue.TheVariants as carried
use Rattle.wire_model.specs.declared.op.Op.TheVariants as op
use Rattle.wire_model.specs.Edits.{Linked, Replace, encoded_blocks}
use Rattle.wire_model.specs.Patch.{patch_edits}
use Rattle.wire_model.specs.Frame.{patch}
use Rattle.wire_model.specs.Resolved.{holder_kind, resolved_ops, known_behind, resolved_blocks, applied}

-- what the patch from old to new rows tells means again what it had
abbrev MeansAgain : Schema → List RowEntry → List RowEntry → Type 0
MeansAgain schema old new = resolved_blocks schema (kinds_of old) (encoded_blocks (patch_edits schema old new)) ≡ patch_edits schema old new

-- every shape, tags, and a class that inherits
a_whole_zoo_is_told : MeansAgain z.zoo (root_alone z.zoo) z.zoo_rows
a_whole_zoo_is_told = refl

a_moved_player_is_told : MeansAgain ex.two_maps (ex.a_player_in (ex.named 0 (112 ∷ []) (Link 3) ∷ []) []) (ex.a_player_in [] (ex.named 0 (113 ∷ []) (Link 3) ∷ []))
a_moved_player_is_told = refl

cards_in_another_order_are_told : MeansAgain ex.hand (ex.two_cards (Link 2 ∷ Link 3 ∷ [])) (ex.two_cards (Link 3 ∷ Link 2 ∷ []))
cards_in_another_order_are_told = refl

-- done to the old rows, it gives the new ones
a_whole_zoo_is_made : freed (applied z.zoo (root_alone z.zoo) (patch z.zoo (root_alone z.zoo) z.zoo_rows)) ≡ z.zoo_rows
a_whole_zoo_is_made = refl

-- a holder that isn't known is taken for an instance of class 0
an_unknown_holder : map (holder_kind (ex.row 4 (Struct 1 []) ∷ [])) (4 ∷ 5 ∷ []) ≡ Struct 1 [] ∷ Struct 0 [] ∷ []
an_unknown_holder = refl

-- an instance without a mark is of the declared class, and known from then on
an_instance_without_a_mark : resolved_ops ex.nodes (Struct 0 []) [] (op.Replace (Field 0) (carried.Struct 7 None) ∷ [])
    ≡ Replace (Field 0) (Linked 7 (Struct 0 [])) ∷ []
an_instance_without_a_mark = refl

it_is_known_behind : known_behind ex.nodes (Struct 0 []) [] (op.Replace (Field 0) (carried.Struct 7 None) ∷ op.Delete (Field 0) ∷ []) ≡ ex.row 7 (Struct 0 []) ∷ []
it_is_known_behind = refl

no_operation_makes_nothing_known : known_behind ex.nodes (Struct 0 []) (ex.row 3 (Struct 0 []) ∷ []) [] ≡ ex.row 3 (Struct 0 []) ∷ []
no_operation_makes_nothing_known = refl
