-- What a client that isn't closed makes of each frame that it is given: it refuses none.
use Rattle.std.proofs.Common.{◌≡◌, ℕ, ◌<◌, Bool, true, false, ◌&&◌, List, [], ◌∷◌, ◌++◌, map, Ok, refl, ap, codes, pos, length, arith}
use Rattle.std.specs.Prelude.{is_ok}
use Rattle.std.proofs.lemmas.Bool.Decides.{nat_tests}
use Rattle.schema_model.specs.Classes.{Schema}
use Rattle.state_model.specs.declared.row.RowEntry.{RowEntry}
use Rattle.state_model.specs.Rows.{root_alone}
use Rattle.wire_model.specs.Decoded.{decoded}
use Rattle.frame_model.proofs.Opened.{reading}
use Rattle.frame_model.specs.Frames.{server_bytes}
use Rattle.frame_model.specs.Kinds.{is_kept_kind}
use Rattle.frame_model.specs.ServerReading.{read_server}
use Rattle.frame_model.specs.declared.frame.MsgKind.{MsgKind}
use Rattle.frame_model.specs.declared.frame.MsgKind.TheVariants.{Name, Num}
use Rattle.frame_model.specs.declared.frame.ServerFrame.{ServerFrame}
use Rattle.frame_model.specs.declared.frame.ServerFrame.TheVariants as server
use Rattle.room_model.specs.Acts.{is_short_kind}
use Rattle.room_model.specs.Limits.{kind_bound}
use Rattle.room_model.specs.Room.{join_frame, unread_frame}
use Rattle.client_frames.specs.Written.{IsShortKind}
use Rattle.client_frames.proofs.Again.{join_again, fault_again, server_message_again, server_raw_again}
use Rattle.life_model.specs.Clients.{Client, client_turn, client_after, after_frame, joined}
use Rattle.life_model.specs.Entries.{Sending, Frame, Closing}
use Rattle.life_model.specs.Followed.{frames_given, takes_all}

-- ---- a frame

-- a client takes a frame, and is this client then
pub record Takes (schema : Schema) (c : Client) (frame : List ℕ) (d : Client) : Type 0 where
  pub ok : is_ok (client_turn schema c frame).out ≡ true
  pub is : (client_turn schema c frame).client ≡ d

-- a frame that every client takes that isn't closed, and that leaves it as it is
abbrev pub IsTaken : Schema → List ℕ → Type 0
IsTaken schema frame = (c : Client) → c.closed ≡ false → Takes schema c frame c

-- a turn by what the frame is read as
turn_is : (schema : Schema) (c : Client) (bytes : List ℕ) (frame : ServerFrame) → c.closed ≡ false → read_server bytes ≡ Ok frame → client_turn schema c bytes ≡ after_frame schema c frame
turn_is schema c bytes frame not_closed read = rw (not_closed, read) refl

short_kind : (k : MsgKind) → is_short_kind k ≡ true → IsShortKind k
short_kind (Name t) short = let below : length t < kind_bound = grind (arith, nat_tests) in omega (arith, below)
short_kind (Num z) short = tt

pub message_taken : (schema : Schema) (k : MsgKind) (payload : List ℕ) → is_short_kind k ≡ true → is_kept_kind k ≡ true → IsTaken schema (server_bytes (server.Msg k payload))
message_taken schema k payload short good c not_closed =
    let turn = turn_is schema c (server_bytes (server.Msg k payload)) (server.Msg k payload) not_closed (server_message_again k payload (short_kind k short) good) in
    record { ok = rw turn refl; is = rw turn refl }

pub raw_taken : (schema : Schema) (k : MsgKind) (payload : List ℕ) → is_short_kind k ≡ true → is_kept_kind k ≡ true → IsTaken schema (server_bytes (server.Raw k payload))
raw_taken schema k payload short good c not_closed =
    let turn = turn_is schema c (server_bytes (server.Raw k payload)) (server.Raw k payload) not_closed (server_raw_again k payload (short_kind k short) good) in
    record { ok = rw turn refl; is = rw turn refl }

-- the answer to a frame that can't be read
pub unread_taken : (schema : Schema) → IsTaken schema unread_frame
unfolding reading
unread_taken schema c not_closed =
    let turn = turn_is schema c unread_frame (server.Fault (pos 4217) (codes "invalid payload")) not_closed (fault_again (pos 4217) (codes "invalid payload") refl (omega arith) refl) in
    record { ok = rw turn refl; is = rw turn refl }

pub join_taken : (schema : Schema) (token : List ℕ) (c : Client) → c.closed ≡ false → Takes schema c (join_frame token) (joined c)
join_taken schema token c not_closed =
    let turn = turn_is schema c (join_frame token) (server.Join token []) not_closed (join_again token []) in
    record { ok = rw turn refl; is = rw turn refl }

-- a full state leads to its rows
pub full_taken : (schema : Schema) (bytes : List ℕ) (rows : List RowEntry) (c : Client) → c.closed ≡ false → decoded schema bytes (root_alone schema) ≡ Ok rows
    → Takes schema c (server_bytes (server.State bytes)) (record { rows = rows; ready = true; closed = c.closed })
full_taken schema bytes rows c not_closed leads = record { ok = rw (not_closed, leads) refl; is = rw (not_closed, leads) refl }

-- and so does a patch, behind a full state
pub patch_taken : (schema : Schema) (bytes : List ℕ) (rows : List RowEntry) (c : Client) → c.closed ≡ false → c.ready ≡ true → decoded schema bytes c.rows ≡ Ok rows
    → Takes schema c (server_bytes (server.Patch bytes)) (record { rows = rows; ready = true; closed = c.closed })
patch_taken schema bytes rows c not_closed ready leads = record { ok = rw (not_closed, ready, leads) refl; is = rw (not_closed, ready, leads) refl }

-- ---- frames

-- messages, none of which is refused
abbrev pub AreTaken : Schema → List (List ℕ) → Type 0
AreTaken schema [] = Unit {0}
AreTaken schema (f ∷ fs) = IsTaken schema f × AreTaken schema fs

-- frames that leave a client as it is
pub record Leaves (schema : Schema) (c : Client) (frames : List (List ℕ)) : Type 0 where
  pub taken : takes_all schema c frames ≡ true
  pub is : client_after schema c frames ≡ c

pub all_taken : (schema : Schema) (c : Client) (frames : List (List ℕ)) → c.closed ≡ false → AreTaken schema frames → Leaves schema c frames
all_taken schema c [] not_closed m = record { taken = refl; is = refl }
all_taken schema c (f ∷ fs) not_closed m =
    let turn = m.0 c not_closed in
    let rest = all_taken schema c fs not_closed m.1 in
    record { taken = rw (turn.ok, turn.is) rest.taken; is = rw turn.is rest.is }

pub more_taken : (schema : Schema) (queue : List (List ℕ)) (frame : List ℕ) → AreTaken schema queue → IsTaken schema frame → AreTaken schema (queue ++ frame ∷ [])
more_taken schema [] frame m is = (is, tt)
more_taken schema (f ∷ fs) frame m is = (m.0, more_taken schema fs frame m.1 is)

-- frames behind others
pub takes_append : (schema : Schema) (c : Client) (fs gs : List (List ℕ)) → takes_all schema c (fs ++ gs) ≡ (takes_all schema c fs && takes_all schema (client_after schema c fs) gs)
takes_append schema c [] gs = refl
takes_append schema c (f ∷ fs) gs =
    let next = (client_turn schema c f).client in
    let go : (b : Bool) → (b && takes_all schema next (fs ++ gs)) ≡ ((b && takes_all schema next fs) && takes_all schema (client_after schema next fs) gs) = elim [ true ↦ takes_append schema next fs gs | false ↦ refl ] in
    go (is_ok (client_turn schema c f).out)

pub given_append : (ss ts : List Sending) → frames_given (ss ++ ts) ≡ frames_given ss ++ frames_given ts
given_append [] ts = refl
given_append (Frame bytes ∷ ss) ts = ap (λ fs. bytes ∷ fs) (given_append ss ts)
given_append (Closing code ∷ ss) ts = given_append ss ts

pub given_frames : (frames : List (List ℕ)) → frames_given (map Frame frames) ≡ frames
given_frames [] = refl
given_frames (f ∷ fs) = ap (λ fs. f ∷ fs) (given_frames fs)
