use Rattle.std.proofs.Common.{◌≡◌, ◌∙◌, ℕ, Bool, true, false, cond, Some, None, Option, List, refl, sym, ap}
use Rattle.std.specs.Prelude.{slice_get}
use Rattle.std.specs.List.{find}
use Rattle.std.specs.Option.{option_map}
use Rattle.room_model.specs.declared.seat.Seat.{Seat}
use Rattle.room_model.specs.declared.seat.Seat.TheVariants.{Reserved, Taken, Kept}
use Rattle.room_model.specs.declared.seat.SeatEntry.{SeatEntry}
use Rattle.room_model.specs.Ledger.{has_as_token, is_kept_by}
use Rattle.seat_ledger.specs.Places.{IsPlaceWith}
use Rattle.seat_ledger.proofs.ledger.SeatLedger.kept_by.Goals as goal

-- the session of the kept seat with a token
abbrev kept_among : List SeatEntry → List ℕ → Option (List ℕ)
kept_among es token = option_map (λ (e : SeatEntry). e.session) (find (λ (e : SeatEntry). is_kept_by token e.seat) es)

-- what an entry with the token tells of it
abbrev kept_session : SeatEntry → Seat → Option (List ℕ)
kept_session e (Reserved lapse) = None
kept_session e (Taken t) = None
kept_session e (Kept t lapse) = Some e.session

told : (token : List ℕ) (e : SeatEntry) (seat : Seat) → has_as_token token seat ≡ true → option_map (λ (e : SeatEntry). e.session) (cond (is_kept_by token seat) (Some e) None) ≡ kept_session e seat
told token e (Reserved lapse) h = absurd (let no : (let f : Bool = false in f) ≡ true = h in cc)
told token e (Taken t) h = refl
told token e (Kept t lapse) h = ap (λ b. option_map (λ (e : SeatEntry). e.session) (cond b (Some e) None)) h

pub kept_is : (es : List SeatEntry) (token : List ℕ) (at : ℕ) (e : SeatEntry) → IsPlaceWith token es at → slice_get es at ≡ Some e → kept_session e e.seat ≡ kept_among es token
kept_is es token at e is there = sym (ap (option_map (λ (e : SeatEntry). e.session)) (is.kept e there) ∙ told token e e.seat (is.own e there))

pub returns-in-Reserved : goal.returns-in-Reserved
returns-in-Reserved c =
    let e = c.entry-entry.result in
    ap (kept_session e) (sym c.in-Reserved.is)
    ∙ (kept_is c.self.inside.places.entries c.args.token c.in_ok-at.at e c.in_ok-at.ensures c.entry-entry.ensures.there ∙ ap (λ s. kept_among s.entries c.args.token) c.self.view_is)

pub returns-in-Taken : goal.returns-in-Taken
returns-in-Taken c =
    let e = c.entry-entry.result in
    ap (kept_session e) (sym c.in-Taken.is)
    ∙ (kept_is c.self.inside.places.entries c.args.token c.in_ok-at.at e c.in_ok-at.ensures c.entry-entry.ensures.there ∙ ap (λ s. kept_among s.entries c.args.token) c.self.view_is)

pub returns-in-Kept : goal.returns-in-Kept
returns-in-Kept c =
    let e = c.entry-entry.result in
    ap (kept_session e) (sym c.in-Kept.is)
    ∙ (kept_is c.self.inside.places.entries c.args.token c.in_ok-at.at e c.in_ok-at.ensures c.entry-entry.ensures.there ∙ ap (λ s. kept_among s.entries c.args.token) c.self.view_is)
