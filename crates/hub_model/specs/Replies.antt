-- The texts of replies and targets. After Colyseus 0.16.
use Rattle.std.specs.Prelude.{ℕ, ◌/◌, ◌%◌, ◌==◌, ◌||◌, List, [], ◌∷◌, ◌++◌, codes, nat_lt, if◌then◌else◌}
use Rattle.std.specs.Char.{digit_char}
use Rattle.std.specs.List.{flat_map}
use Rattle.std.specs.Fmt.{decimal}

-- the target of a request to join a room of a name, or to create one
abbrev pub join_or_create_target : List ℕ → List ℕ
join_or_create_target name = codes "/matchmake/joinOrCreate/" ++ name

-- the target of the opening of a reservation
abbrev pub opening_target : List ℕ → List ℕ → List ℕ → List ℕ
opening_target process room session = codes "/" ++ (process ++ (codes "/" ++ (room ++ (codes "?sessionId=" ++ session))))

-- ---- texts in JSON, with the shortest escapes

-- the letter of a byte's short escape; 0 where it has none
abbrev pub escape_letter : ℕ → ℕ
escape_letter b =
    if (b == 34) || (b == 92) then b else if b == 8 then 98 else if b == 12 then 102 else if b == 10 then 110 else if b == 13 then 114 else if b == 9 then 116 else 0

abbrev pub json_byte : ℕ → List ℕ
json_byte b =
    if nat_lt 0 (escape_letter b) then 92 ∷ escape_letter b ∷ []
    else if nat_lt b 32 then 92 ∷ 117 ∷ 48 ∷ 48 ∷ digit_char (b / 16) ∷ digit_char (b % 16) ∷ []
    else b ∷ []

abbrev pub json_text : List ℕ → List ℕ
json_text t = 34 ∷ (flat_map json_byte t ++ 34 ∷ [])

-- the reply to a request that got a seat
abbrev pub seat_reply : ℕ → ℕ → List ℕ → List ℕ → List ℕ → List ℕ → List ℕ
seat_reply clients max name process room session =
    codes "{\"room\":{\"clients\":" ++ (decimal clients ++ (codes ",\"maxClients\":" ++ (decimal max
    ++ (codes ",\"name\":" ++ (json_text name ++ (codes ",\"processId\":" ++ (json_text process ++ (codes ",\"roomId\":" ++ (json_text room
    ++ (codes "},\"sessionId\":" ++ (json_text session ++ codes "}")))))))))))

-- the reply to one that is refused
abbrev pub refusal_reply : ℕ → List ℕ → List ℕ
refusal_reply code text = codes "{\"code\":" ++ (decimal code ++ (codes ",\"error\":" ++ (json_text text ++ codes "}")))
