-- The summary of a schedule's run. Ours.
use Rattle.std.specs.Prelude.{ℕ, ◌+◌, Bool, true, false, List, [], ◌∷◌, codes, filter, length}
use Rattle.std.specs.List.{fold}
use Rattle.std.specs.Fmt.{decimal}
use Rattle.hub_model.specs.declared.event.HubEvent.{HubEvent}
use Rattle.hub_model.specs.declared.event.HubEvent.TheVariants.{Tick}
use Rattle.hub_model.specs.declared.event.HubOut.{HubOut}
use Rattle.hub_model.specs.declared.event.HubOut.TheVariants.{Refused, Send}
use Rattle.hub_model.specs.HubStep.{hub_after, outs_from}
use Rattle.hub_model.specs.HubValues.{HubRoom, HubValue}
use Rattle.room_core.specs.Values.{live_count}
use Rattle.text_model.specs.declared.schedule.Schedule.{Schedule}
use Rattle.text_model.specs.Marks.{lines}
use Rattle.room_server.specs.declared.summary.Tally.{Tally}
use Rattle.room_server.specs.Turns.{rules, start}

-- of no outputs, of one more, and of so many more
abbrev pub no_outs : Tally
no_outs = record { refused = 0; sends = 0; bytes = 0 }

abbrev pub with_out : Tally → HubOut → Tally
with_out t (Refused refusal) = record { refused = t.refused + 1; sends = t.sends; bytes = t.bytes }
with_out t (Send conn bytes) = record { refused = t.refused; sends = t.sends + 1; bytes = t.bytes + length bytes }
with_out t out = t

abbrev pub with_outs : Tally → List HubOut → Tally
with_outs t outs = fold with_out t outs

abbrev pub is_tick : HubEvent → Bool
is_tick (Tick room) = true
is_tick e = false

-- how many sessions of a hub's rooms are live
abbrev pub live_in : List HubRoom → ℕ
live_in [] = 0
live_in (r ∷ rs) = live_count r.room.sessions + live_in rs

-- a line of a word and a number
abbrev pub counted : List ℕ → ℕ → List (List ℕ)
counted word n = word ∷ decimal n ∷ []

-- the lines of counts
abbrev pub counts_text : ℕ → ℕ → ℕ → Tally → List ℕ
counts_text events ticks live tally = lines (
    counted (codes "events") events ∷ counted (codes "ticks") ticks ∷ counted (codes "live") live
    ∷ counted (codes "refused") tally.refused ∷ counted (codes "sends") tally.sends ∷ counted (codes "bytes") tally.bytes
    ∷ (codes "end" ∷ []) ∷ []
    )

-- of a run of events: how many they are, the ticks among them, the sessions that are live at the end, and what it gave
abbrev pub run_text : HubValue → List HubEvent → List ℕ
run_text hub events =
    counts_text (length events) (length (filter is_tick events)) (live_in (hub_after rules hub events).rooms) (with_outs no_outs (outs_from rules hub events))

abbrev pub summary_text : Schedule → List ℕ
summary_text s = run_text (start s) s.events
