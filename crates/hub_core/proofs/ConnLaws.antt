-- Connections found by their sessions: what putting one in and taking one out makes of it.
use Rattle.std.proofs.Common.{◌≡◌, ℕ, suc, ◌≤◌, Bool, true, false, not, ◌&&◌, List, [], ◌∷◌, Option, Some, None, cond, filter, refl, sym, ap, subst, ◌∙◌, arith}
use Rattle.std.specs.Option.{option_map}
use Rattle.std.specs.BTreeMap.{is_at}
use Rattle.std.specs.Map.{lookup}
use Rattle.std.specs.Ordering.{nat_cmp, is_eq, ordering_then}
use Rattle.std.specs.declared.cmp.Ordering.{Ordering}
use Rattle.std.specs.declared.cmp.Ordering.TheVariants.{Less, Equal, Greater}
use Rattle.std.specs.Cmp.Lexicographic.{slice_cmp}
use Rattle.std.specs.Str.{bytes_eq}
use Rattle.std.proofs.lemmas.Bool.Decides.{nat_tests}
use Rattle.std.proofs.lemmas.Map.Text.{is_eq-slice_cmp}
use Rattle.std.proofs.lemmas.Slice.Eq.{bytes_eq-Decides}
use Rattle.lists.specs.Rising.{RisesFrom, find as find_by, put, remove}
use Rattle.lists.proofs.RisingLaws.{find_below, remove_missing}
use Rattle.hub_model.specs.declared.conn.HubConn.{HubConn}
use Rattle.hub_model.specs.HubValues.{conn_for, conn_number, is_conn_for}
use Rattle.hub_core.specs.declared.conns.Linked.TheInside.{Inside}
use Rattle.hub_core.specs.Conns.{by_both, AreApart, AreNumbers}

-- a connection as the hub's value has it
abbrev pub conn_of : Inside → HubConn
conn_of l = record { conn = l.conn; room = l.room; session = l.session }

pub both_equal : (a b : Ordering) → is_eq (ordering_then a b) ≡ is_eq a && is_eq b
both_equal Less b = refl
both_equal Equal b = refl
both_equal Greater b = refl

-- a room and a session are others where their bytes are
same_both : (room session other_room other : List ℕ) → is_at (by_both (room, session)) (other_room, other) ≡ bytes_eq room other_room && bytes_eq session other
same_both room session other_room other =
    both_equal (slice_cmp nat_cmp room other_room) (slice_cmp nat_cmp session other)
    ∙ ap (λ a. a && is_eq (slice_cmp nat_cmp session other)) (is_eq-slice_cmp room other_room)
    ∙ ap (λ b. bytes_eq room other_room && b) (is_eq-slice_cmp session other)

-- one that is of a session is found where it is put in
pub for_put : (c : HubConn) (cs : List HubConn) (room session : List ℕ) → find_by conn_number c.conn cs ≡ None → conn_for cs c.room c.session ≡ None →
    conn_for (put conn_number c cs) room session ≡ cond (is_conn_for room session c) (Some c) (conn_for cs room session)
for_put c [] room session new alone = refl
for_put c (d ∷ cs) room session new alone =
    grind (arith, nat_tests, bytes_eq-Decides, for_put c cs room session)

pub AreApart-put : (c : HubConn) (cs : List HubConn) → find_by conn_number c.conn cs ≡ None → conn_for cs c.room c.session ≡ None → AreApart cs →
    AreApart (put conn_number c cs)
AreApart-put c [] new alone apart = (refl, tt)
AreApart-put c (d ∷ cs) new alone apart =
    grind (arith, nat_tests, bytes_eq-Decides, apart.0, apart.1, AreApart-put c cs, for_put c cs d.room d.session)

-- what is left without those of a session
abbrev pub without : List ℕ → List ℕ → List HubConn → List HubConn
without room session cs = filter (λ c. not (is_conn_for room session c)) cs

pub for_without : (room session : List ℕ) (cs : List HubConn) (other_room other : List ℕ) →
    conn_for (without room session cs) other_room other ≡ cond (bytes_eq room other_room && bytes_eq session other) None (conn_for cs other_room other)
for_without room session [] other_room other = grind (arith)
for_without room session (c ∷ cs) other_room other = grind (arith, bytes_eq-Decides, for_without room session cs other_room other)

pub AreApart-without : (room session : List ℕ) (cs : List HubConn) → AreApart cs → AreApart (without room session cs)
AreApart-without room session [] apart = tt
AreApart-without room session (c ∷ cs) apart = grind (arith, apart.0, apart.1, AreApart-without room session cs apart.1, for_without room session cs c.room c.session)

-- where no connection is of a session, all are left
pub none_left_out : (room session : List ℕ) (cs : List HubConn) → conn_for cs room session ≡ None → without room session cs ≡ cs
none_left_out room session [] none = refl
none_left_out room session (c ∷ cs) none = grind (arith, none, none_left_out room session cs)

-- no number, no connection
pub nobody : (c : Option HubConn) → option_map conn_number c ≡ None → c ≡ None
nobody None none = refl
nobody (Some c) none = grind (arith, none)

found_from : (room session : List ℕ) (low n : ℕ) (cs : List HubConn) → RisesFrom conn_number low cs → option_map conn_number (conn_for cs room session) ≡ Some n → low ≤ n
found_from room session low n [] rises found = grind (arith, found)
found_from room session low n (c ∷ cs) rises found = grind (arith, rises.0, found, found_from room session (suc c.conn) n cs rises.1)

-- those of a session are the one with the number that is found for it
pub number_out : (room session : List ℕ) (low n : ℕ) (cs : List HubConn) → RisesFrom conn_number low cs → AreApart cs →
    option_map conn_number (conn_for cs room session) ≡ Some n → remove conn_number n cs ≡ without room session cs
number_out room session low n [] rises apart found = refl
number_out room session low n (c ∷ cs) rises apart found =
    grind (
      arith,
      nat_tests,
      bytes_eq-Decides,
      apart.0,
      number_out room session (suc c.conn) n cs rises.1 apart.1,
      none_left_out room session cs,
      remove_missing conn_number n cs,
      find_below conn_number (suc c.conn) cs n rises.1,
      found_from room session (suc c.conn) n cs rises.1,
      found,
    )

-- ---- their numbers

-- the numbers, with one set or taken out
abbrev pub Renumbered : List ℕ → List ℕ → Option ℕ → List ((List ℕ × List ℕ) × ℕ) → List ((List ℕ × List ℕ) × ℕ) → Type 0
Renumbered room session n es fs =
    (q : List ℕ × List ℕ) → lookup (is_at (by_both q)) fs ≡ cond (is_at (by_both (room, session)) q) n (lookup (is_at (by_both q)) es)

pub AreNumbers-put : (c : HubConn) (cs : List HubConn) (es fs : List ((List ℕ × List ℕ) × ℕ)) → find_by conn_number c.conn cs ≡ None → conn_for cs c.room c.session ≡ None →
    AreNumbers cs es → Renumbered c.room c.session (Some c.conn) es fs → AreNumbers (put conn_number c cs) fs
AreNumbers-put c cs es fs new alone numbers step = λ room session.
    step (room, session)
    ∙ ap (λ b. cond b (Some c.conn) (lookup (is_at (by_both (room, session))) es)) (same_both c.room c.session room session)
    ∙ ap (cond (is_conn_for room session c) (Some c.conn)) (numbers room session)
    ∙ by_test room session (is_conn_for room session c)
    ∙ sym (ap (option_map conn_number) (for_put c cs room session new alone))
  where
    by_test : (room session : List ℕ) (b : Bool) →
        cond b (Some c.conn) (option_map conn_number (conn_for cs room session)) ≡ option_map conn_number (cond b (Some c) (conn_for cs room session))
    by_test room session true = refl
    by_test room session false = refl

pub AreNumbers-without : (room session : List ℕ) (cs : List HubConn) (es fs : List ((List ℕ × List ℕ) × ℕ)) → AreNumbers cs es → Renumbered room session None es fs →
    AreNumbers (without room session cs) fs
AreNumbers-without room session cs es fs numbers step = λ other_room other.
    step (other_room, other)
    ∙ ap (λ b. cond b None (lookup (is_at (by_both (other_room, other))) es)) (same_both room session other_room other)
    ∙ ap (cond (bytes_eq room other_room && bytes_eq session other) None) (numbers other_room other)
    ∙ by_test other_room other (bytes_eq room other_room && bytes_eq session other)
    ∙ sym (ap (option_map conn_number) (for_without room session cs other_room other))
  where
    by_test : (other_room other : List ℕ) (b : Bool) →
        cond b None (option_map conn_number (conn_for cs other_room other)) ≡ option_map conn_number (cond b None (conn_for cs other_room other))
    by_test other_room other true = refl
    by_test other_room other false = refl

-- one that is set and taken out again, where there was none
pub AreNumbers-undone : (room session : List ℕ) (n : ℕ) (cs : List HubConn) (es fs gs : List ((List ℕ × List ℕ) × ℕ)) → conn_for cs room session ≡ None → AreNumbers cs es →
    Renumbered room session (Some n) es fs → Renumbered room session None fs gs → AreNumbers cs gs
AreNumbers-undone room session n cs es fs gs alone numbers set out =
    subst (λ l. AreNumbers l gs) (none_left_out room session cs alone) (AreNumbers-without room session cs es gs numbers both)
  where
    by_test : (b : Bool) (x : Option ℕ) → cond b None (cond b (Some n) x) ≡ cond b None x
    by_test true x = refl
    by_test false x = refl

    both : Renumbered room session None es gs
    both q = out q ∙ ap (cond (is_at (by_both (room, session)) q) None) (set q) ∙ by_test (is_at (by_both (room, session)) q) (lookup (is_at (by_both q)) es)

-- the connection of a number is that of its session
pub own_found : (n : ℕ) (cs : List HubConn) (c : HubConn) → AreApart cs → find_by conn_number n cs ≡ Some c → conn_for cs c.room c.session ≡ Some c
own_found n [] c apart found = absurd cc
own_found n (d ∷ cs) c apart found = grind (arith, nat_tests, bytes_eq-Decides, apart.0, found, own_found n cs c apart.1)
