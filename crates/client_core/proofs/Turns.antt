-- Where memory may run out in a client's turn.
use Rattle.std.proofs.Common.{◌≡◌, ℕ, Bool, true, false, cond, ◌==◌, List, [], ◌∷◌, Result, Ok, Err, IsOk, refl, sym, ap, subst, ◌∙◌}
use Rattle.std.proofs.lemmas.Bool.{eqb-true, true≢false}
use Rattle.std.specs.Str.{bytes_eq}
use Rattle.std.specs.Prelude.{codes, drop, length}
use Rattle.schema_model.specs.Classes.{Schema}
use Rattle.schema_model.specs.Reading.{◌>>=◌, number_at, text_at}
use Rattle.state_model.specs.Rows.{root_alone}
use Rattle.state_model.specs.declared.row.RowEntry.{RowEntry}
use Rattle.wire_model.specs.Decoded.{decoded}
use Rattle.wire_model.specs.declared.fault.OpFault.{OpFault}
use Rattle.frame_model.specs.Reading.{kind_at}
use Rattle.frame_model.specs.ServerReading.{behind, by_itself, counted_at, faulted, joined, placed, read_server, server_by_code}
use Rattle.frame_model.specs.declared.fault.FrameFault.{FrameFault}
use Rattle.frame_model.specs.declared.fault.FrameFault.TheVariants as frame
use Rattle.frame_model.specs.declared.frame.ServerFrame.{ServerFrame}
use Rattle.frame_model.specs.declared.frame.ServerFrame.TheVariants as server
use Rattle.life_model.specs.Clients.{Client, after_frame, after_read, client_turn, refused, with_rows}
use Rattle.life_model.specs.declared.client.ClientFault.TheVariants as fault
use Rattle.life_model.specs.declared.client.ClientOut.{ClientOut}
use Rattle.life_model.specs.declared.client.ClientOut.TheVariants.{Full, Patched}
use Rattle.client_core.specs.Cores.{NeedsMemory, is_patch}

-- ---- which bytes are a patch

-- bytes are read as a patch
abbrev reads_patch : Result ServerFrame FrameFault → Bool
reads_patch (Ok (server.Patch bytes)) = true
reads_patch r = false

-- one of two
none_of : (b : Bool) (x y : Result ServerFrame FrameFault) → reads_patch x ≡ false → reads_patch y ≡ false → reads_patch (cond b x y) ≡ false
none_of true x y h k = h
none_of false x y h k = k

-- one part behind another
none_behind : {A : Type 0} (r : Result A FrameFault) (rest : A → Result ServerFrame FrameFault) → ((a : A) → reads_patch (rest a) ≡ false) → reads_patch (r >>= rest) ≡ false
none_behind (Ok a) rest h = h a
none_behind (Err f) rest h = refl

joined_none : (bytes : List ℕ) → reads_patch (joined bytes) ≡ false
unfolding joined
joined_none bytes =
    none_behind (counted_at bytes 1) _ (λ token. none_behind (counted_at bytes token.1) _ (λ word. none_of (bytes_eq word.0 (codes "schema")) (Ok (server.Join token.0 (drop word.1 bytes))) _ refl refl))

faulted_none : (bytes : List ℕ) → reads_patch (faulted bytes) ≡ false
unfolding faulted
faulted_none bytes =
    none_behind (placed 1 (number_at bytes 1)) _ (λ code. none_behind (placed code.1 (text_at bytes code.1)) _ (λ words. none_of (words.1 == length bytes) (Ok (server.Fault code.0 words.0)) _ refl refl))

left_none : (rest : List ℕ) → reads_patch (by_itself rest) ≡ false
left_none [] = refl
left_none (b ∷ bs) = refl

-- another first byte isn't a patch's
others_none : (code : ℕ) (rest : List ℕ) → (code == 15) ≡ false → reads_patch (server_by_code code rest) ≡ false
others_none code rest h =
    none_of (code == 10) _ _ (joined_none (code ∷ rest))
    (none_of (code == 11) _ _ (faulted_none (code ∷ rest))
    (none_of (code == 12) _ _ (left_none rest)
    (none_of (code == 13) _ _ (none_behind (kind_at (code ∷ rest) 1) _ (λ kind. refl))
    (none_of (code == 14) _ _ refl
    (ap (λ b. reads_patch (cond b (Ok (server.Patch rest)) (cond (code == 17) (kind_at (code ∷ rest) 1 >>= behind server.Raw (code ∷ rest)) (Err (frame.UnknownCode code))))) h
    ∙ none_of (code == 17) _ _ (none_behind (kind_at (code ∷ rest) 1) _ (λ kind. refl)) refl)))))

patch_told : (bytes : List ℕ) → is_patch bytes ≡ false → reads_patch (read_server bytes) ≡ false
patch_told [] h = refl
patch_told (code ∷ rest) h = others_none code rest h

-- ---- what needs memory

rows_need : (c : Client) (out : ClientOut) (r : Result (List RowEntry) OpFault) → NeedsMemory (with_rows c out r).out
rows_need c out (Ok rows) = tt
rows_need c out (Err f) = tt

patch_needs : (schema : Schema) (c : Client) (bytes : List ℕ) (ready : Bool) → (ready ≡ false → reads_patch (Ok (server.Patch bytes)) ≡ false)
    → NeedsMemory (cond ready (with_rows c Patched (decoded schema bytes c.rows)) (refused c fault.BeforeFull)).out
patch_needs schema c bytes true other = rows_need c Patched (decoded schema bytes c.rows)
patch_needs schema c bytes false other = absurd (true≢false (other refl))

-- what a frame leads to, but for a patch before a full state
frame_needs : (schema : Schema) (c : Client) (f : ServerFrame) → (c.ready ≡ false → reads_patch (Ok f) ≡ false) → NeedsMemory (after_frame schema c f).out
frame_needs schema c (server.Join token handshake) other = tt
frame_needs schema c (server.Fault code t) other = tt
frame_needs schema c server.Leave other = tt
frame_needs schema c (server.Msg kind payload) other = tt
frame_needs schema c (server.State bytes) other = rows_need c Full (decoded schema bytes (root_alone schema))
frame_needs schema c (server.Patch bytes) other = patch_needs schema c bytes c.ready other
frame_needs schema c (server.Raw kind payload) other = tt

read_needs : (schema : Schema) (c : Client) (r : Result ServerFrame FrameFault) → IsOk r → (c.ready ≡ false → reads_patch r ≡ false) → NeedsMemory (after_read schema c r).out
read_needs schema c (Ok f) there other = frame_needs schema c f other
read_needs schema c (Err f) there other = absurd (true≢false (sym there))

-- bytes that are a frame, to a client that isn't closed, and to one before a full state no patch
pub turn_needs : (schema : Schema) (c : Client) (bytes : List ℕ) → c.closed ≡ false → IsOk (read_server bytes) → (c.ready ≡ false → is_patch bytes ≡ false) → NeedsMemory (client_turn schema c bytes).out
turn_needs schema c bytes unclosed there other =
    subst (λ b. NeedsMemory (cond b (refused c fault.Closed) (after_read schema c (read_server bytes))).out) (sym unclosed)
    (read_needs schema c (read_server bytes) there (λ h. patch_told bytes (other h)))

-- a patch before a full state
pub turn_refused : (schema : Schema) (c : Client) (bytes : List ℕ) → c.closed ≡ false → c.ready ≡ false → is_patch bytes ≡ true → (client_turn schema c bytes).out ≡ Err fault.BeforeFull
turn_refused schema c [] unclosed unready h = cc
turn_refused schema c (code ∷ rest) unclosed unready h =
    let same : code ≡ 15 = eqb-true code 15 h in
    rw (same, unclosed, unready) refl
