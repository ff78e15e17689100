-- What is given where a target asks for something.
use Rattle.std.proofs.Common.{◌≡◌, ◌==◌, ◌&&◌, ◌||◌, ℕ, true, false, Bool, List, Option, Some, None, Result, Ok, Err, option_and_then, length, refl, ap, inl, inr, ◌⊎◌, nat_lt, arith}
use Rattle.std.specs.Prelude.{is_some, if◌then◌else◌, IsOk, IsTrue}
use Rattle.std.proofs.lemmas.Bool.Decides.{nat_tests}
use Rattle.std.specs.Str.{is_utf8}
use Rattle.json.specs.Json.{Json, if_last, value}
use Rattle.json.specs.Lex.{tokens}
use Rattle.serde_json.specs.Data.{Data}
use Rattle.serde_json.specs.Read.{of_json, read}
use Rattle.lists.proofs.Tests.{or_wider}
use Rattle.room_model.specs.declared.definition.RoomDef.{RoomDef}
use Rattle.hub_model.specs.declared.request.AskFault.{AskFault}
use Rattle.hub_model.specs.declared.request.AskFault.TheVariants.{NoMethod, BadPayload, NoHandler, Memory}
use Rattle.hub_model.specs.declared.request.Request.{Request}
use Rattle.hub_model.specs.Requests.{Asked, asked_of, read_request, with_body}
use Rattle.validate.specs.Json.{is_json}
use Rattle.matchmaker.specs.Bodies.{can_be_read, said_by, said_of_data}
use Rattle.matchmaker.specs.Gives.{GivesAsked, GivesRequest, LacksBody, has_escape, takes_memory}

pub or_last : (a b : Bool) → b ≡ true → (a || b) ≡ true
or_last true b h = refl
or_last false b h = h

-- where its body isn't given
pub lacks : (defs : List RoomDef) (asked : Asked) (raw body : List ℕ) (f : AskFault) → LacksBody body f → GivesAsked raw body (Err f) (with_body defs asked (said_by body))
lacks defs asked raw body NoMethod h = elim h [ ]
lacks defs asked raw body BadPayload h = rw h refl
lacks defs asked raw body NoHandler h = elim h [ ]
lacks defs asked raw body Memory h = let long : nat_lt 0 (length body) ≡ true = grind (arith, nat_tests) in inr (or_last (has_escape raw) (nat_lt 0 (length body)) long)

-- and the body can be read
pub given : (defs : List RoomDef) (target raw body : List ℕ) (asked : Asked) (r : Result Request AskFault) → Some asked ≡ asked_of target → can_be_read body ≡ true → (has_escape raw ≡ true → has_escape target ≡ true)
    → GivesAsked raw body r (with_body defs asked (said_by body)) → GivesRequest target body r (read_request defs target (said_by body))
given defs target raw body asked (Ok q) is reads escape h = rw (← is) h
given defs target raw body asked (Err NoMethod) is reads escape h = rw (← is) h
given defs target raw body asked (Err BadPayload) is reads escape h = rw (← is) h
given defs target raw body asked (Err NoHandler) is reads escape h = rw (← is) h
given defs target raw body asked (Err Memory) is reads escape h =
    let both : (is_some (asked_of target) && can_be_read body) ≡ true = rw (← is, reads) refl in
    let taken : IsOk (read_request defs target (said_by body)) ⊎ IsTrue (takes_memory target body) = rw (← is) (elim h [ inl ok ↦ inl ok | inr takes ↦ inr (or_wider (has_escape raw) (has_escape target) (nat_lt 0 (length body)) escape takes) ]) in
    (both, taken)

-- what can't be read is no value
unread_text : (text : Bool) (j : Option Json) → (text && is_some j) ≡ false → (if text then option_and_then of_json j else None) ≡ None
unread_text false j h = refl
unread_text true None h = refl
unread_text true (Some j) h = absurd cc

unread : (empty : Bool) (body : List ℕ) (there : Option Data) → (empty || is_json body) ≡ false → (if empty then there else (if is_utf8 body then read body else None)) ≡ None
unread true body there h = absurd cc
unread false body there h = unread_text (is_utf8 body) (option_and_then (λ p. if_last p.0 p.1) (value 127 (tokens body))) h

-- so a target that asks with it is refused
pub refused : (defs : List RoomDef) (target body : List ℕ) (asked : Asked) → Some asked ≡ asked_of target → can_be_read body ≡ false → read_request defs target (said_by body) ≡ Err BadPayload
refused defs target body asked is reads = rw (← is) (ap (λ d. with_body defs asked (option_and_then said_of_data d)) (unread (length body == 0) body _ reads))
