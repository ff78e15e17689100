-- Two runs of one hub that differ in a hidden number alone, worked out by hand. The client to whom it isn't shown has equal records and
-- is given equal bytes; those of the client to whom it is shown differ in one entry, and in one frame.
use Rattle.std.specs.Prelude.{◌≡◌, ◌≢◌, ℕ, List, [], ◌∷◌, ◌++◌, map, Contains, pos, codes, refl}
use Rattle.std.proofs.Common.{sym, ap, ◌∙◌}
use Rattle.std.specs.Fmt.{digits}
use Rattle.percent_encoding.specs.Percent.{percent_decode}
use Rattle.schema_model.specs.Classes.{Schema}
use Rattle.schema_model.specs.declared.class.Item.TheVariants as item
use Rattle.schema_model.specs.declared.class.Shape.TheVariants as shape
use Rattle.schema_model.specs.declared.scalar.ScalarKind.TheVariants as kind
use Rattle.schema_model.specs.declared.value.Value.TheVariants as value
use Rattle.state_model.specs.declared.command.Command.TheVariants as command
use Rattle.state_model.specs.declared.row.Row.TheVariants.{Struct}
use Rattle.state_model.specs.declared.row.RowEntry.{RowEntry}
use Rattle.state_model.proofs.Examples as ex
use Rattle.frame_model.proofs.Opened.{reading}
use Rattle.room_model.specs.declared.event.Act.TheVariants as act
use Rattle.hub_model.specs.declared.event.HubEvent.{HubEvent}
use Rattle.hub_model.specs.declared.event.HubEvent.TheVariants as event
use Rattle.hub_model.specs.HubValues.{new_hub}
use Rattle.life_model.specs.Entries.{Record, Asked, Opened, Framed, Ticked, Sending, Frame, Closing}
use Rattle.life_model.specs.HubLives.{HubLife, HubRun, hub_run}
use Rattle.life_model.specs.HubPromises.{CanRun, rules_of}
use Rattle.life_model.specs.Sent.{sent}
use Rattle.hub_promises.proofs.HubLifeRows.{duel, read, r1, r2, s1, s2, t1, t2, seated, join, five}
use Rattle.hub_promises.proofs.HubsKept.{hubs_give_equal_bytes}

-- `State { x: number, gold: number view }`
abbrev purse : Schema
purse = record {
  classes = ex.root_class (codes "State")
      (ex.plain_field (codes "x") (shape.One (item.Scalar kind.Number)) ∷ ex.hidden_field (codes "gold") (shape.One (item.Scalar kind.Number)) ∷ []) ∷ [];
  root = 0;
}

-- two clients come into one room, of whom the second is shown the gold; a tick; the second leaves
abbrev events : ℕ → List HubEvent
events gold =
    event.Ask 1 (codes "/matchmake/joinOrCreate/duel") [] r1 s1 ∷ event.Opening 2 (codes "/proc00001/room00001?sessionId=sess00001") t1 ∷ event.Frame 2 (10 ∷ [])
    ∷ event.Ask 1 (codes "/matchmake/join/duel") [] r2 s2 ∷ event.Opening 3 (codes "/proc00001/room00001?sessionId=sess00002") t2 ∷ event.Frame 3 (10 ∷ [])
    ∷ event.Act r1 (act.State (command.Put 0 0 (value.Whole (pos 5)))) ∷ event.Act r1 (act.State (command.Put 0 1 (value.Whole (pos gold))))
    ∷ event.Act r1 (act.ViewAdd s2 (ex.seen_row 0)) ∷ event.Tick r1 ∷ event.Frame 3 (12 ∷ []) ∷ []

-- the run with this gold
abbrev run : ℕ → HubRun
run gold = hub_run (rules_of read) (new_hub purse (codes "proc00001") (duel ∷ [])) (events gold)

-- of its lives the records, and what they are given
abbrev records : ℕ → List Record
records gold = map (λ (l : HubLife). l.entries) (run gold).lives

abbrev given : ℕ → List (List Sending)
given gold = map (λ (l : HubLife). l.outputs) (run gold).lives

-- ---- what is expected

-- the state with its gold
abbrev five_and : ℕ → List RowEntry
five_and gold = ex.row 0 (Struct 0 (ex.field 0 (value.Whole (pos 5)) ∷ ex.field 1 (value.Whole (pos gold)) ∷ [])) ∷ []

-- the first client sees what all see, whatever gold there is
abbrev first_record : Record
first_record = Asked (codes "/matchmake/joinOrCreate/duel") [] (seated 1 2 (codes "duel") r1 s1) ∷ Opened t1 ∷ Framed (10 ∷ []) ∷ Ticked five five ∷ []

abbrev first_given : List Sending
first_given = join t1 ∷ Frame (14 ∷ 128 ∷ 5 ∷ []) ∷ []

-- the second sees the gold at the tick, and in nothing before or behind it
abbrev until_tick : Record
until_tick = Asked (codes "/matchmake/join/duel") [] (seated 2 2 (codes "duel") r1 s2) ∷ Opened t2 ∷ Framed (10 ∷ []) ∷ []

abbrev from_tick : Record
from_tick = Framed (12 ∷ []) ∷ []

abbrev second_record : ℕ → Record
second_record gold = until_tick ++ Ticked five (five_and gold) ∷ from_tick

abbrev second_given : ℕ → List Sending
second_given gold = join t2 ∷ Frame (14 ∷ 128 ∷ 5 ∷ 255 ∷ 0 ∷ 129 ∷ gold ∷ []) ∷ Closing 4000 ∷ []

-- ---- the runs with the gold 5 and 6

one_record_is_equal : map records (5 ∷ 6 ∷ []) ≡ (first_record ∷ second_record 5 ∷ []) ∷ (first_record ∷ second_record 6 ∷ []) ∷ []
unfolding digits reading percent_decode
one_record_is_equal = refl

-- and its bytes are; of the other's one frame differs
its_bytes_are_equal : map given (5 ∷ 6 ∷ []) ≡ (first_given ∷ second_given 5 ∷ []) ∷ (first_given ∷ second_given 6 ∷ []) ∷ []
unfolding digits reading percent_decode
its_bytes_are_equal = refl

-- which is what the records are sent
they_are_sent : map (sent purse) (first_record ∷ second_record 5 ∷ second_record 6 ∷ []) ≡ first_given ∷ second_given 5 ∷ second_given 6 ∷ []
unfolding reading
they_are_sent = refl

-- the second's differ
bytes_differ : second_given 5 ≢ second_given 6
bytes_differ = λ same. cc

records_differ : second_record 5 ≢ second_record 6
unfolding reading
records_differ = λ same. bytes_differ (ap (sent purse) same)

-- ---- the law of equal bytes

-- it speaks of both runs
five_can_run : CanRun purse (duel ∷ []) (events 5)
unfolding reading
five_can_run = record { schema_kept = refl; forms = refl; come = refl }

six_can_run : CanRun purse (duel ∷ []) (events 6)
unfolding reading
six_can_run = record { schema_kept = refl; forms = refl; come = refl }

-- and says of the first client's lives that they are given the same, by their records alone
the_law_says_so : (k l : HubLife) → Contains (run 5).lives k → Contains (run 6).lives l → k.entries ≡ first_record → l.entries ≡ first_record → k.outputs ≡ l.outputs
the_law_says_so k l there here is_first is_too =
    hubs_give_equal_bytes read read purse (codes "proc00001") (codes "proc00001") (duel ∷ []) (duel ∷ []) (events 5) (events 6) five_can_run six_can_run k l there here (is_first ∙ sym is_too)
