-- The connections of a hub, found by their numbers and by their sessions.
use Rattle.std.specs.Prelude.{◌≡◌, ℕ, List, [], ◌∷◌, IfSome, Option, Some, None}
use Rattle.std.specs.Option.{option_map}
use Rattle.std.specs.BTreeMap.{is_at}
use Rattle.std.specs.Map.{lookup}
use Rattle.std.specs.Ordering.{nat_cmp, ordering_then}
use Rattle.std.specs.declared.cmp.Ordering.{Ordering}
use Rattle.std.specs.Cmp.Lexicographic.{slice_cmp}
use Rattle.lists.specs.Rising.{RisesFrom}
use Rattle.trees.specs.Trees.{entry_values, IsKeyed}
use Rattle.hub_model.specs.declared.conn.HubConn.{HubConn}
use Rattle.hub_model.specs.HubValues.{conn_for, conn_number}

-- how a room and a session stand to others
abbrev pub by_both : List ℕ × List ℕ → List ℕ × List ℕ → Ordering
by_both a b = ordering_then (slice_cmp nat_cmp a.0 b.0) (slice_cmp nat_cmp a.1 b.1)

-- no two connections are of one session
abbrev pub AreApart : List HubConn → Type 0
AreApart [] = Unit {0}
AreApart (c ∷ cs) = (conn_for cs c.room c.session ≡ None) × AreApart cs

-- each session's number is that of its connection
abbrev pub AreNumbers : List HubConn → List ((List ℕ × List ℕ) × ℕ) → Type 0
AreNumbers cs es = (room session : List ℕ) → lookup (is_at (by_both (room, session))) es ≡ option_map conn_number (conn_for cs room session)

abbrev pub AreConns : List (ℕ × HubConn) → List ((List ℕ × List ℕ) × ℕ) → Type 0
AreConns es numbers = IsKeyed conn_number es × RisesFrom conn_number 0 (entry_values es) × AreApart (entry_values es) × AreNumbers (entry_values es) numbers

-- a connection is that of its room and session
abbrev pub IsOwn : List HubConn → Option HubConn → Type 0
IsOwn cs o = IfSome o (λ (c : HubConn). conn_for cs c.room c.session ≡ Some c)
