-- The lines of outputs. Ours.
use Rattle.std.specs.Prelude.{ℕ, List, [], ◌∷◌, codes}
use Rattle.std.specs.Fmt.{decimal}
use Rattle.frame_model.specs.declared.frame.MsgKind.{MsgKind}
use Rattle.frame_model.specs.declared.frame.MsgKind.TheVariants.{Name, Num}
use Rattle.state_model.specs.declared.command.TableFault.{TableFault}
use Rattle.state_model.specs.declared.command.TableFault.TheVariants as fault
use Rattle.room_model.specs.declared.refusal.Refusal.{Refusal}
use Rattle.room_model.specs.declared.refusal.Refusal.TheVariants as refusal
use Rattle.hub_model.specs.declared.event.HubOut.{HubOut}
use Rattle.hub_model.specs.declared.event.HubOut.TheVariants as out
use Rattle.text_model.specs.Decimals.{signed_text}
use Rattle.text_model.specs.Marks.{hex_word, quoted, line}

-- a message kind: a quoted word or a decimal
abbrev pub kind_word : MsgKind → List ℕ
kind_word (Name t) = quoted t
kind_word (Num z) = signed_text z

-- the word of a refused command
abbrev pub fault_word : TableFault → List ℕ
fault_word fault.NoRef = codes "no-ref"
fault_word fault.NoField = codes "no-field"
fault_word fault.NoItem = codes "no-item"
fault_word fault.WrongType = codes "wrong-type"
fault_word fault.OutOfRange = codes "out-of-range"
fault_word fault.Cycle = codes "cycle"
fault_word fault.Duplicate = codes "duplicate"
fault_word fault.InstancesFull = codes "instances-full"
fault_word fault.PlacesFull = codes "places-full"
fault_word fault.TextFull = codes "text-full"
fault_word fault.TextTooLong = codes "text-too-long"
fault_word fault.RefsSpent = codes "refs-spent"
fault_word fault.NumbersSpent = codes "numbers-spent"
fault_word fault.Present = codes "present"
fault_word fault.Memory = codes "memory"

-- the word of a refusal
abbrev pub refusal_word : Refusal → List ℕ
refusal_word refusal.NoRoom = codes "no-room"
refusal_word refusal.NoConn = codes "no-conn"
refusal_word refusal.ConnInUse = codes "conn-in-use"
refusal_word refusal.NoSession = codes "no-session"
refusal_word refusal.NotHere = codes "not-here"
refusal_word refusal.QueueFull = codes "queue-full"
refusal_word refusal.ViewFull = codes "view-full"
refusal_word (refusal.Table f) = fault_word f

-- the words of an output
abbrev pub out_words : HubOut → List (List ℕ)
out_words (out.Send conn bytes) = codes "send" ∷ decimal conn ∷ hex_word bytes ∷ []
out_words (out.Close conn code) = codes "close" ∷ decimal conn ∷ decimal code ∷ []
out_words (out.Reply conn json) = codes "reply" ∷ decimal conn ∷ json ∷ []
out_words (out.Created room name) = codes "created" ∷ room ∷ name ∷ []
out_words (out.Joined room session) = codes "joined" ∷ room ∷ session ∷ []
out_words (out.Returned room session) = codes "returned" ∷ room ∷ session ∷ []
out_words (out.Message room session kind payload) = codes "message" ∷ room ∷ session ∷ kind_word kind ∷ hex_word payload ∷ []
out_words (out.RawMessage room session kind payload) = codes "rawmessage" ∷ room ∷ session ∷ kind_word kind ∷ hex_word payload ∷ []
out_words (out.Dropped room session) = codes "dropped" ∷ room ∷ session ∷ []
out_words (out.Left room session) = codes "left" ∷ room ∷ session ∷ []
out_words (out.Disposed room) = codes "disposed" ∷ room ∷ []
out_words (out.Made room n) = codes "made" ∷ room ∷ decimal n ∷ []
out_words (out.Refused r) = codes "refused" ∷ refusal_word r ∷ []

-- the line of an output
abbrev pub out_line : HubOut → List ℕ
out_line o = line (out_words o)
