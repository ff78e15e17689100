use Rattle.std.proofs.Common.{None, Some, subst, sym}
use Rattle.room_core.specs.Clients.{IsClientAt}
use Rattle.room_core.proofs.ClientLists.{client_place}
use Rattle.room_core.proofs.parts.Parts.place_of.Goals as goal

pub returns-in_err-at : goal.returns-in_err-at
returns-in_err-at c =
    let p = c.args.self.now in
    subst (IsClientAt c.args.session p.clients.items) (sym c.from_residual.ensures) (client_place c.args.session p.places.entries p.clients.items None c.requires.placed.alike c.in_err-at.ensures)

pub returns : goal.returns
returns c = client_place c.args.session c.args.self.now.places.entries c.args.self.now.clients.items (Some c.in_ok-at.at) c.requires.placed.alike c.in_ok-at.ensures
