-- The events of a schedule that has a text may come to a hub, and what its parts are.
use Rattle.std.proofs.Common.{◌≡◌, ◌&&◌, ℕ, true, List, length, map, refl, nat_le}
use Rattle.std.specs.List.{list_all}
use Rattle.std.specs.Str.{is_utf8}
use Rattle.std.proofs.lemmas.Bool.{and_parts, and_from}
use Rattle.frame_model.specs.Kinds.{is_kept_kind}
use Rattle.frame_model.specs.declared.frame.MsgKind.{MsgKind}
use Rattle.frame_model.specs.declared.frame.MsgKind.TheVariants as kind
use Rattle.hub_model.specs.declared.event.HubEvent.{HubEvent}
use Rattle.hub_model.specs.declared.event.HubEvent.TheVariants as event
use Rattle.hub_model.specs.Kinds.{event_has_kept_kind}
use Rattle.life_model.specs.HubPromises.{may_come}
use Rattle.room_model.specs.Acts.{has_kept_kind, is_short_kind, is_worded_act, may_act}
use Rattle.room_model.specs.Definitions.{is_room_def}
use Rattle.room_model.specs.declared.definition.RoomDef.{RoomDef}
use Rattle.room_model.specs.declared.event.Act.{Act}
use Rattle.room_model.specs.declared.event.Act.TheVariants as act
use Rattle.schema_model.specs.Classes.{is_kept}
use Rattle.schema_model.specs.Fits.{is_worded}
use Rattle.schema_model.specs.declared.value.Value.{Value}
use Rattle.schema_model.specs.declared.value.Value.TheVariants as value
use Rattle.state_model.specs.Sound.{keys_differ}
use Rattle.state_model.specs.Worded.{is_worded_command}
use Rattle.state_model.specs.declared.command.Command.{Command}
use Rattle.state_model.specs.declared.command.Command.TheVariants as command
use Rattle.text_model.proofs.Spaced.{all_pass}
use Rattle.text_model.specs.declared.schedule.Schedule.{Schedule}
use Rattle.text_model.specs.Acts.{is_act, is_command, is_field_number, is_kind, is_ref, is_value}
use Rattle.text_model.specs.DefLines.{is_named_def, most_defs}
use Rattle.text_model.specs.Events.{is_event}
use Rattle.text_model.specs.Marks.{is_id, is_room_name}
use Rattle.text_model.specs.Schedules.{are_named_defs, is_schedule}
use Rattle.text_model.specs.SchemaLines.{is_spelled}
use Rattle.text_model.specs.WordForms.{are_bytes, is_text}

-- ---- acts and events

worded_value : (v : Value) → is_value v ≡ true → is_worded v ≡ true
worded_value (value.Whole z) h = refl
worded_value (value.Str t) h = (and_parts (are_bytes t) (is_utf8 t) h).1
worded_value (value.Truth b) h = refl
worded_value (value.Link n) h = refl

pub worded_command : (c : Command) → is_command c ≡ true → is_worded_command c ≡ true
worded_command (command.Make t) h = refl
worded_command (command.MakeFor home) h = refl
worded_command (command.Put r f v) h = and_from (is_worded v) true (worded_value v (and_parts (is_field_number f) (is_value v) (and_parts (is_ref r) (is_field_number f && is_value v) h).1).1) refl
worded_command (command.Unset r f) h = refl
worded_command (command.PutKey r k v) h =
    let both = and_parts (is_text k) (is_value v) (and_parts (is_ref r) (is_text k && is_value v) h).1 in
    and_from (is_worded v) (is_utf8 k) (worded_value v both.1) (and_parts (are_bytes k) (is_utf8 k) both.0).1
worded_command (command.DelKey r k) h = refl
worded_command (command.Push r v) h = and_from (is_worded v) true (worded_value v (and_parts (is_ref r) (is_value v) h).1) refl
worded_command (command.SetAt r n v) h = and_from (is_worded v) true (worded_value v (and_parts (is_ref n) (is_value v) (and_parts (is_ref r) (is_ref n && is_value v) h).1).1) refl
worded_command (command.DelAt r n) h = refl
worded_command (command.Add r v) h = and_from (is_worded v) true (worded_value v (and_parts (is_ref r) (is_value v) h).1) refl
worded_command (command.Del r v) h = refl
worded_command (command.Clear r) h = refl

short_kind : (k : MsgKind) → is_kind k ≡ true → is_short_kind k ≡ true
short_kind (kind.Name t) h = (and_parts (is_text t) _ h).1
short_kind (kind.Num z) h = refl

kept_kind : (k : MsgKind) → is_kind k ≡ true → is_kept_kind k ≡ true
kept_kind (kind.Name t) h = (and_parts (are_bytes t) (is_utf8 t) (and_parts (is_text t) _ h).0).1
kept_kind (kind.Num z) h = h

-- the kind of a message to one session, and of one to all
one_kind : (s : List ℕ) (k : MsgKind) (payload : List ℕ) → (is_id s && (is_kind k && are_bytes payload)) ≡ true → is_kind k ≡ true
one_kind s k payload h = (and_parts (is_kind k) (are_bytes payload) (and_parts (is_id s) (is_kind k && are_bytes payload) h).1).0

pub acts_may : (a : Act) → is_act a ≡ true → may_act a ≡ true
acts_may (act.State c) h = refl
acts_may (act.ViewAdd s p) h = refl
acts_may (act.ViewDel s p) h = refl
acts_may (act.Send s k payload) h = short_kind k (one_kind s k payload h)
acts_may (act.Raw s k payload) h = short_kind k (one_kind s k payload h)
acts_may (act.ToAll k payload) h = short_kind k (and_parts (is_kind k) (are_bytes payload) h).0
acts_may (act.Kick s code) h = refl
acts_may act.Lock h = refl
acts_may act.Unlock h = refl
acts_may (act.Keep s ms) h = (and_parts (is_id s) _ h).1

acts_worded : (a : Act) → is_act a ≡ true → is_worded_act a ≡ true
acts_worded (act.State c) h = worded_command c h
acts_worded (act.ViewAdd s p) h = refl
acts_worded (act.ViewDel s p) h = refl
acts_worded (act.Send s k payload) h = refl
acts_worded (act.Raw s k payload) h = refl
acts_worded (act.ToAll k payload) h = refl
acts_worded (act.Kick s code) h = refl
acts_worded act.Lock h = refl
acts_worded act.Unlock h = refl
acts_worded (act.Keep s ms) h = refl

acts_kept : (a : Act) → is_act a ≡ true → has_kept_kind a ≡ true
acts_kept (act.State c) h = refl
acts_kept (act.ViewAdd s p) h = refl
acts_kept (act.ViewDel s p) h = refl
acts_kept (act.Send s k payload) h = kept_kind k (one_kind s k payload h)
acts_kept (act.Raw s k payload) h = kept_kind k (one_kind s k payload h)
acts_kept (act.ToAll k payload) h = kept_kind k (and_parts (is_kind k) (are_bytes payload) h).0
acts_kept (act.Kick s code) h = refl
acts_kept act.Lock h = refl
acts_kept act.Unlock h = refl
acts_kept (act.Keep s ms) h = refl

pub event_comes : (e : HubEvent) → is_event e ≡ true → may_come e ≡ true
event_comes (event.At ms) h = refl
event_comes (event.Ask conn target body room session) h = refl
event_comes (event.Bad conn) h = refl
event_comes (event.Opening conn target fresh) h = refl
event_comes (event.Frame conn bytes) h = refl
event_comes (event.Lost conn) h = refl
event_comes (event.Act room a) h = (let is = (and_parts (is_id room) (is_act a) h).1 in and_from (may_act a) (is_worded_act a) (acts_may a is) (acts_worded a is))
event_comes (event.Tick room) h = refl

pub event_kept : (e : HubEvent) → is_event e ≡ true → event_has_kept_kind e ≡ true
event_kept (event.At ms) h = refl
event_kept (event.Ask conn target body room session) h = refl
event_kept (event.Bad conn) h = refl
event_kept (event.Opening conn target fresh) h = refl
event_kept (event.Frame conn bytes) h = refl
event_kept (event.Lost conn) h = refl
event_kept (event.Act room a) h = acts_kept a (and_parts (is_id room) (is_act a) h).1
event_kept (event.Tick room) h = refl

-- ---- the parts of a schedule

named_form : (d : RoomDef) → is_named_def d ≡ true → is_room_def d ≡ true
named_form d h = (and_parts (list_all is_room_name d.filter) (is_room_def d) (and_parts (is_room_name d.name) _ h).1).1

-- what is known of each
pub record Parts (s : Schedule) : Type 0 where
  pub spelled : is_spelled s.schema ≡ true
  pub kept : is_kept s.schema ≡ true
  pub process : is_id s.process ≡ true
  pub names : list_all is_named_def s.defs ≡ true
  pub forms : list_all is_room_def s.defs ≡ true
  pub few : nat_le (length s.defs) most_defs ≡ true
  pub differ : keys_differ (map (λ (d : RoomDef). d.name) s.defs) ≡ true
  pub events : list_all is_event s.events ≡ true

pub parts_of : (s : Schedule) → is_schedule s ≡ true → Parts s
parts_of s h =
    let a = and_parts (is_spelled s.schema) (is_id s.process && (are_named_defs s.defs && list_all is_event s.events)) h in
    let b = and_parts (is_id s.process) (are_named_defs s.defs && list_all is_event s.events) a.1 in
    let c = and_parts (are_named_defs s.defs) (list_all is_event s.events) b.1 in
    let d = and_parts (list_all is_named_def s.defs) _ c.0 in
    let e = and_parts (nat_le 1 (length s.defs)) _ d.1 in
    let f = and_parts (nat_le (length s.defs) most_defs) (keys_differ (map (λ (d : RoomDef). d.name) s.defs)) e.1 in
    record {
      spelled = a.0;
      kept = (and_parts (is_kept s.schema) _ (and_parts _ _ (and_parts _ _ a.0).0).0).0;
      process = b.0;
      names = d.0;
      forms = all_pass is_named_def is_room_def s.defs named_form d.0;
      few = f.0;
      differ = f.1;
      events = c.1;
    }
