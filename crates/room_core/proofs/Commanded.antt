-- What a command makes of a room, by its answer.
use Rattle.std.proofs.Common.{◌≡◌, ◌⊎◌, inl, inr, ℕ, List, Option, Result, Ok, Err, refl, sym, subst}
use Rattle.std.specs.Prelude.{IsErr, OnOk}
use Rattle.lists.specs.declared.memory.Memory.{Memory}
use Rattle.lists.proofs.Results.{on_ok}
use Rattle.state_model.specs.declared.command.Command.{Command}
use Rattle.state_model.specs.declared.command.TableFault.{TableFault}
use Rattle.state_model.specs.declared.command.TableFault.TheVariants as fault
use Rattle.state_model.specs.Commands.{do_command}
use Rattle.state_model.specs.State.{State}
use Rattle.command_laws.specs.Kept.{IsKept}
use Rattle.command_laws.specs.Later.{IsLater}
use Rattle.instance_table.specs.Table.{TableState, Answers}
use Rattle.room_model.specs.declared.event.RoomOut.{RoomOut}
use Rattle.live_state.specs.Live.{Live, schema_of}
use Rattle.view_counts.specs.Settled.{View}
use Rattle.room_core.specs.declared.client.Client.{Client}
use Rattle.room_core.specs.Stands.{Stands}
use Rattle.room_core.specs.Steps.{AnswerTells}
use Rattle.room_core.proofs.StandsLaws.{stands_answered}

-- ---- results

on_ok_err : {X E : Type 0} (T : Type 0) (r : Result X E) → IsErr r → OnOk r T
on_ok_err T (Ok x) h = absurd (cc)
on_ok_err T (Err e) h = tt

-- ---- the answer

-- a fault is out of memory, or changes nothing
refused_answer : (f : TableFault) (does : Result (State × Option ℕ) TableFault) (old new : TableState) → Answers does old new (Err f) → (f ≡ fault.Memory) ⊎ (new ≡ old)
refused_answer fault.NoRef does old new h = inr h.1
refused_answer fault.NoField does old new h = inr h.1
refused_answer fault.NoItem does old new h = inr h.1
refused_answer fault.WrongType does old new h = inr h.1
refused_answer fault.OutOfRange does old new h = inr h.1
refused_answer fault.Cycle does old new h = inr h.1
refused_answer fault.Duplicate does old new h = inr h.1
refused_answer fault.InstancesFull does old new h = inr h.1
refused_answer fault.PlacesFull does old new h = inr h.1
refused_answer fault.TextFull does old new h = inr h.1
refused_answer fault.TextTooLong does old new h = inr h.1
refused_answer fault.RefsSpent does old new h = inr h.1
refused_answer fault.NumbersSpent does old new h = inr h.1
refused_answer fault.Present does old new h = inr h.1
refused_answer fault.Memory does old new h = inl refl

-- the command was done
record Done (does : Result (State × Option ℕ) TableFault) (new : TableState) : Type 0 where
  made : Option ℕ
  does_so : does ≡ Ok (new.state, made)

-- or memory was wanting, or it was refused and changed nothing
outcome : (a : Result (Option ℕ) TableFault) (does : Result (State × Option ℕ) TableFault) (old new : TableState) (r : Result (List RoomOut) Memory) → Answers does old new a → AnswerTells a r → IsErr r ⊎ (Done does new ⊎ (new ≡ old))
outcome (Ok made) does old new r h tells = inr (inl (record { made = made; does_so = h.0 }))
outcome (Err f) does old new r h tells = elim (refused_answer f does old new h) [
  | inl e ↦ inl (tells.memory e)
  | inr same ↦ inr (inr same)
]

-- ---- the room

-- it stands as it did, and so does what else held
pub command_stands : (shared : View) (cs : List Client) (live after : Live) (c : Command) (a : Result (Option ℕ) TableFault) (r : Result (List RoomOut) Memory) (S T : Type 0)
    → Answers (do_command (schema_of live) live.table.state c) live.table after.table a → AnswerTells a r → IsKept (schema_of live) live.table.state → schema_of after ≡ schema_of live
    → IsLater live.table.state after.table.state → Stands live shared cs × S × T → OnOk r (Stands after shared cs × S × T)
command_stands shared cs live after c a r S T answers tells kept same later s =
    let does = do_command (schema_of live) live.table.state c in
    elim (outcome a does live.table after.table r answers tells) [
      | inl e ↦ on_ok_err (Stands after shared cs × S × T) r e
      | inr (inl d) ↦ on_ok r (stands_answered live after shared cs c d.made kept same later d.does_so s.0, s.1, s.2)
      | inr (inr d) ↦ on_ok r (subst (λ (t : TableState). Stands (let l : Live = record { table = t } in l) shared cs) (sym d) s.0, s.1, s.2)
    ]
