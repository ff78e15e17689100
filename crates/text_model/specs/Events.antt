-- Events as lines: the words of each, and the event that a line stands for. Ours.
use Rattle.std.specs.Prelude.{ℕ, ◌^◌, Bool, ◌&&◌, List, [], ◌∷◌, Option, None, if◌then◌else◌, nat_lt, codes}
use Rattle.std.specs.Option.{option_map}
use Rattle.std.specs.Fmt.{decimal}
use Rattle.hub_model.specs.declared.event.HubEvent.{HubEvent}
use Rattle.hub_model.specs.declared.event.HubEvent.TheVariants.{At, Ask, Bad, Opening, Frame, Lost, Act, Tick}
use Rattle.text_model.specs.Acts.{act_of, act_words, is_act}
use Rattle.text_model.specs.Decimals.{decimal_below}
use Rattle.text_model.specs.Lines.{both, is_word, three, words_of}
use Rattle.text_model.specs.Marks.{hex_word, is_id, line}
use Rattle.text_model.specs.WordForms.{are_bytes, hex_of, id_of, is_text, plain, plain_of, plain_text_of}

-- the words of an event
abbrev pub event_words : HubEvent → List (List ℕ)
event_words (At ms) = codes "at" ∷ decimal ms ∷ []
event_words (Ask conn target body room session) = codes "ask" ∷ decimal conn ∷ plain target ∷ plain body ∷ room ∷ session ∷ []
event_words (Bad conn) = codes "bad" ∷ decimal conn ∷ []
event_words (Opening conn target fresh) = codes "open" ∷ decimal conn ∷ plain target ∷ fresh ∷ []
event_words (Frame conn bytes) = codes "frame" ∷ decimal conn ∷ hex_word bytes ∷ []
event_words (Lost conn) = codes "drop" ∷ decimal conn ∷ []
event_words (Act room a) = codes "act" ∷ room ∷ act_words a
event_words (Tick room) = codes "tick" ∷ room ∷ []

-- the line of an event
abbrev pub event_line : HubEvent → List ℕ
event_line e = line (event_words e)

-- which events have one: their numbers are of 64 bits, their texts are texts, and their ids are ids
abbrev pub is_number : ℕ → Bool
is_number n = nat_lt n (2 ^ 64)

abbrev pub is_event : HubEvent → Bool
is_event (At ms) = is_number ms
is_event (Ask conn target body room session) = is_number conn && (is_text target && (are_bytes body && (is_id room && is_id session)))
is_event (Bad conn) = is_number conn
is_event (Opening conn target fresh) = is_number conn && (is_text target && is_id fresh)
is_event (Frame conn bytes) = is_number conn && are_bytes bytes
is_event (Lost conn) = is_number conn
is_event (Act room a) = is_id room && is_act a
is_event (Tick room) = is_id room

-- ---- what words stand for

abbrev pub number_of_word : List ℕ → Option ℕ
number_of_word w = decimal_below (2 ^ 64) w

-- with one word behind the first one, or more
abbrev pub short_of : List ℕ → List ℕ → Option HubEvent
short_of w a =
    if is_word (codes "at") w then option_map At (number_of_word a)
    else if is_word (codes "bad") w then option_map Bad (number_of_word a)
    else if is_word (codes "drop") w then option_map Lost (number_of_word a)
    else if is_word (codes "tick") w then option_map Tick (id_of a)
    else None

abbrev pub frame_of : List ℕ → List ℕ → Option HubEvent
frame_of a b = both Frame (number_of_word a) (hex_of b)

abbrev pub opening_of_words : List ℕ → List ℕ → List ℕ → Option HubEvent
opening_of_words a b c = three Opening (number_of_word a) (plain_text_of b) (id_of c)

-- a request, but for the ids that were drawn for it
pub record Seeking : Type 0 where
  pub conn : ℕ
  pub target : List ℕ
  pub body : List ℕ

abbrev pub seeking_of : List ℕ → List ℕ → List ℕ → Option Seeking
seeking_of a b c = three (λ conn target body. record { conn = conn; target = target; body = body }) (number_of_word a) (plain_text_of b) (plain_of c)

abbrev pub ids_of : List ℕ → List ℕ → Option (List ℕ × List ℕ)
ids_of a b = both (λ room session. (room, session)) (id_of a) (id_of b)

abbrev pub asked_of : List ℕ → List ℕ → List ℕ → List ℕ → List ℕ → Option HubEvent
asked_of a b c d e = both (λ (s : Seeking) (ids : List ℕ × List ℕ). Ask s.conn s.target s.body ids.0 ids.1) (seeking_of a b c) (ids_of d e)

abbrev pub acted_of : List ℕ → List (List ℕ) → Option HubEvent
acted_of room ws = both Act (id_of room) (act_of ws)

-- what stands behind another first word
abbrev pub plainly_of : List ℕ → List (List ℕ) → Option HubEvent
plainly_of w (a ∷ []) = short_of w a
plainly_of w (a ∷ b ∷ []) = if is_word (codes "frame") w then frame_of a b else None
plainly_of w (a ∷ b ∷ c ∷ []) = if is_word (codes "open") w then opening_of_words a b c else None
plainly_of w (a ∷ b ∷ c ∷ d ∷ e ∷ []) = if is_word (codes "ask") w then asked_of a b c d e else None
plainly_of w ws = None

-- the event whose words these are
abbrev pub event_of : List (List ℕ) → Option HubEvent
event_of (w ∷ a ∷ ws) = if is_word (codes "act") w then acted_of a ws else plainly_of w (a ∷ ws)
event_of ws = None

-- the event whose line this is, without its LF
abbrev pub event_of_line : List ℕ → Option HubEvent
event_of_line l = event_of (words_of l)
