use Rattle.std.proofs.Common.{sym, subst, arith, ap, ◌∙◌}
use Rattle.state_model.specs.State.{State}
use Rattle.command_laws.specs.Later.{IsLater}
use Rattle.instance_table.specs.Table.{TableState, freed_numbers, state_in}
use Rattle.command_laws.proofs.LaterLaws.{later_swept}
use Rattle.instance_table.proofs.SweptTables.{swept_are, swept_state, swept_table}
use Rattle.instance_table.proofs.table.Table.sweep.Goals as goal

pub invariant_of-self : goal.invariant_of-self
invariant_of-self c = (
  swept_table c.self.inside.schema c.self.inside.graph.nodes c.sweep.new.graph.nodes c.self.inside.given c.self.inside.totals.places c.self.inside.totals.text c.sweep.new.totals.places c.sweep.new.totals.text c.self.invariant.0
      c.sweep.ensures.rows c.sweep.ensures.counts c.sweep.ensures.exact c.sweep.ensures.places c.sweep.ensures.text c.sweep.ensures.less c.sweep.ensures.shorter c.sweep.ensures.fewer,
  omega (arith, c.sweep.ensures.room, c.sort.ensures.kept),
  omega (arith, c.sweep.ensures.fewer, c.self.invariant.2),
)

pub returns-clause-swept : goal.returns-clause-swept
returns-clause-swept c =
    swept_are c.self.inside.schema c.self.inside.graph.nodes c.sweep.new.graph.nodes c.self.inside.given c.self.inside.totals.places c.self.inside.totals.text c.sweep.new.gone.numbers c.sort.new.self.numbers c.self.invariant.0
    c.sweep.ensures.rows c.sweep.ensures.gone c.sort.ensures.numbers c.sort.ensures.rises
    ∙ ap (λ (t : TableState). freed_numbers t.state.rows) c.self.view_is

pub returns-clause-later : goal.returns-clause-later
returns-clause-later c =
    let i = c.self.inside in
    let after = swept_state i.graph.nodes c.sweep.new.graph.nodes i.given c.sweep.ensures.rows c.sweep.ensures.counts in
    let stays : IsLater (state_in i.graph.nodes i.given) (state_in c.sweep.new.graph.nodes i.given) =
    subst (λ (s : State). IsLater (state_in i.graph.nodes i.given) s) (sym after) (later_swept i.schema (state_in i.graph.nodes i.given) c.self.invariant.0.kept) in
    subst (λ (t : TableState). IsLater t.state (state_in c.sweep.new.graph.nodes i.given)) c.self.view_is stays
