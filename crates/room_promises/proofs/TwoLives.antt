-- An example: two clients of one room that both see their states, one of them a hidden field too; worked out by hand.
use Rattle.std.specs.Prelude.{◌≡◌, ℕ, true, List, [], ◌∷◌, map, None, Ok, Result, pos, codes, refl}
use Rattle.schema_model.specs.Classes.{Schema}
use Rattle.schema_model.specs.declared.class.Item.TheVariants as item
use Rattle.schema_model.specs.declared.class.Shape.TheVariants as shape
use Rattle.schema_model.specs.declared.scalar.ScalarKind.TheVariants as kind
use Rattle.schema_model.specs.declared.value.Value.TheVariants as value
use Rattle.state_model.specs.declared.command.Command.TheVariants as command
use Rattle.state_model.specs.declared.row.Row.TheVariants.{Struct}
use Rattle.state_model.specs.declared.row.RowEntry.{RowEntry}
use Rattle.state_model.proofs.Examples as ex
use Rattle.wire_model.specs.Decoded.{seen}
use Rattle.wire_model.specs.declared.fault.OpFault.{OpFault}
use Rattle.wire_model.proofs.Opened.{reading}
use Rattle.room_model.specs.declared.definition.RoomDef.{RoomDef}
use Rattle.room_model.specs.declared.event.Act.TheVariants as act
use Rattle.room_model.specs.declared.event.RoomEvent.{RoomEvent}
use Rattle.room_model.specs.declared.event.RoomEvent.TheVariants as event
use Rattle.life_model.specs.LatestFrames.{latest_frames}
use Rattle.life_model.specs.RoomLives.{RoomLife, RoomRun, room_run, is_live}
use Rattle.room_promises.specs.RoomPromises.{CanPlay}

-- `State { round: number, gold: number view }`
abbrev pub purse : Schema
purse = record {
  classes = ex.root_class (codes "State") (ex.plain_field (codes "round") (shape.One (item.Scalar kind.Number)) ∷ ex.hidden_field (codes "gold") (shape.One (item.Scalar kind.Number)) ∷ []) ∷ [];
  root = 0;
}

abbrev def : RoomDef
def = record { name = codes "duel"; max = 2; seat = 15000; patch = 50; keep = 20000; filter = [] }

abbrev a : List ℕ
a = codes "aaaaaaaaa"

abbrev b : List ℕ
b = codes "bbbbbbbbb"

-- both come, the state is set and ticks; then the gold is shown to the first, and the state ticks again
abbrev events : List RoomEvent
events =
    event.Reserve a 15000 ∷ event.Reserve b 15000
    ∷ event.Enter a None (codes "token0001") ∷ event.Enter b None (codes "token0002")
    ∷ event.Frame a (10 ∷ []) ∷ event.Frame b (10 ∷ [])
    ∷ event.Act (act.State (command.Put 0 0 (value.Whole (pos 5)))) ∷ event.Act (act.State (command.Put 0 1 (value.Whole (pos 7))))
    ∷ event.Tick
    ∷ event.Act (act.ViewAdd a (ex.seen_row 0))
    ∷ event.Tick ∷ []

abbrev run : RoomRun
run = room_run purse def [] events

-- the state with its gold, and without
abbrev with_gold : List RowEntry
with_gold = ex.row 0 (Struct 0 (ex.field 0 (value.Whole (pos 5)) ∷ ex.field 1 (value.Whole (pos 7)) ∷ [])) ∷ []

abbrev without_gold : List RowEntry
without_gold = ex.row 0 (Struct 0 (ex.field 0 (value.Whole (pos 5)) ∷ [])) ∷ []

-- the promises speak of such a run
two_come : CanPlay purse def [] events
unfolding reading
two_come = record { schema_kept = refl; follow = refl; worded = refl }

both_are_live : map (is_live run.room) run.lives ≡ true ∷ true ∷ []
both_are_live = refl

-- one decodes the gold and the other doesn't
abbrev seen_by : RoomLife → Result (List RowEntry) OpFault
seen_by l = seen purse (latest_frames l.outputs)

one_sees_the_gold : map seen_by run.lives ≡ Ok with_gold ∷ Ok without_gold ∷ []
unfolding reading
one_sees_the_gold = refl

-- which is the view of each
each_may_see_it : map (λ (l : RoomLife). l.view) run.lives ≡ with_gold ∷ without_gold ∷ []
each_may_see_it = refl
