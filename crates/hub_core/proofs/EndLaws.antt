-- Connections without those of sessions, one session after another.
use Rattle.std.proofs.Common.{◌≡◌, ℕ, Bool, true, false, not, ◌||◌, ◌++◌, List, [], ◌∷◌, filter, refl, ap, ◌∙◌, arith}
use Rattle.std.specs.List.{list_any}
use Rattle.std.specs.Str.{bytes_eq}
use Rattle.hub_model.specs.declared.conn.HubConn.{HubConn}
use Rattle.hub_model.specs.HubValues.{is_conn_for}
use Rattle.hub_core.specs.Endings.{without_all}

or_false : (b : Bool) → b || false ≡ b
or_false true = refl
or_false false = refl

or_assoc : (a b c : Bool) → a || (b || c) ≡ (a || b) || c
or_assoc true b c = refl
or_assoc false b c = refl

any_last : (c : HubConn) (session : List ℕ) (sessions : List (List ℕ)) → list_any (λ s. bytes_eq c.session s) (sessions ++ session ∷ []) ≡ list_any (λ s. bytes_eq c.session s) sessions || bytes_eq c.session session
any_last c session [] = or_false (bytes_eq c.session session)
any_last c session (s ∷ ss) = ap (λ b. bytes_eq c.session s || b) (any_last c session ss) ∙ or_assoc (bytes_eq c.session s) (list_any (λ s. bytes_eq c.session s) ss) (bytes_eq c.session session)

pub none_of : (room : List ℕ) (cs : List HubConn) → without_all room [] cs ≡ cs
none_of room [] = refl
none_of room (c ∷ cs) = grind (arith, none_of room cs)

pub one_more : (room session : List ℕ) (sessions : List (List ℕ)) (cs : List HubConn) → filter (λ c. not (is_conn_for room session c)) (without_all room sessions cs) ≡ without_all room (sessions ++ session ∷ []) cs
one_more room session sessions [] = refl
one_more room session sessions (c ∷ cs) = grind (arith, any_last c session sessions, one_more room session sessions cs)
