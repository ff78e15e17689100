use Rattle.std.proofs.Common.{sym, arith}
use Rattle.instance_table.proofs.SweepLaws.{fewer_freed, fewer_rested, next_places, next_rests, next_room, next_text, swept_counts, swept_end, swept_freed, swept_rested, swept_rows, swept_start}
use Rattle.instance_table.proofs.sweeping.sweep.Goals as goal

pub loop-who-init : goal.loop-who-init
loop-who-init c = record {
  swept = swept_start c.args.graph.now.nodes c.args.totals.now.places c.args.totals.now.text c.args.gone.now.numbers (rw c.nodes.ensures at c.know_rising.ensures) c.requires.exact c.requires.places c.requires.text c.requires.none;
  room = omega arith;
}

pub free-requires-clause-rests : goal.free-requires-clause-rests
free-requires-clause-rests c =
    next_rests c.in-Some.who c.args.graph.now.nodes c.loop-who.graph.nodes c.next_loose.new.self.nodes c.loop-who.totals.places c.loop-who.totals.text c.loop-who.gone.numbers
    c.loop-who.invariant.swept c.in-Some.ensures.nodes (sym c.if-is_loose.ensures)

pub free-requires-clause-places : goal.free-requires-clause-places
free-requires-clause-places c =
    next_places c.in-Some.who c.args.graph.now.nodes c.loop-who.graph.nodes c.next_loose.new.self.nodes c.loop-who.totals.places c.loop-who.totals.text c.loop-who.gone.numbers
    c.loop-who.invariant.swept c.in-Some.ensures.nodes (sym c.if-is_loose.ensures)

pub free-requires-clause-text : goal.free-requires-clause-text
free-requires-clause-text c =
    next_text c.in-Some.who c.args.graph.now.nodes c.loop-who.graph.nodes c.next_loose.new.self.nodes c.loop-who.totals.places c.loop-who.totals.text c.loop-who.gone.numbers
    c.loop-who.invariant.swept c.in-Some.ensures.nodes (sym c.if-is_loose.ensures)

pub free-requires-clause-few : goal.free-requires-clause-few
free-requires-clause-few c = omega (arith, c.loop-who.invariant.swept.texts, c.loop-who.invariant.swept.shorter, c.requires.text, c.requires.few)

pub free-requires-clause-room : goal.free-requires-clause-room
free-requires-clause-room c =
    next_room c.in-Some.who c.args.graph.now.nodes c.loop-who.graph.nodes c.next_loose.new.self.nodes c.loop-who.totals.places c.loop-who.totals.text c.loop-who.gone.numbers
    c.loop-who.gone.room c.loop-who.invariant.swept c.in-Some.ensures.nodes (sym c.if-is_loose.ensures)
    (omega (arith, c.requires.room, c.loop-who.invariant.room))

pub loop-who-smaller-then-is_loose : goal.loop-who-smaller-then-is_loose
loop-who-smaller-then-is_loose c =
    fewer_freed c.in-Some.who c.args.graph.now.nodes c.loop-who.graph.nodes c.next_loose.new.self.nodes c.free.new.graph.nodes c.loop-who.totals.places c.loop-who.totals.text c.loop-who.gone.numbers c.loop-who.graph.loose c.free.new.graph.loose
    c.loop-who.invariant.swept c.in-Some.ensures.nodes (sym c.if-is_loose.ensures) c.free.ensures.nodes c.free.ensures.loose

pub loop-who-preserved-then-is_loose : goal.loop-who-preserved-then-is_loose
loop-who-preserved-then-is_loose c = record {
  swept = swept_freed c.in-Some.who c.args.graph.now.nodes c.loop-who.graph.nodes c.next_loose.new.self.nodes c.free.new.graph.nodes c.loop-who.totals.places c.loop-who.totals.text c.loop-who.gone.numbers
      c.free.new.totals.places c.free.new.totals.text c.free.new.gone.numbers
      c.loop-who.invariant.swept c.in-Some.ensures.nodes (sym c.if-is_loose.ensures) c.free.ensures.nodes c.free.ensures.places c.free.ensures.text c.free.ensures.gone;
  room = omega (arith, c.loop-who.invariant.room, c.free.ensures.kept);
}

pub loop-who-smaller : goal.loop-who-smaller
loop-who-smaller c =
    fewer_rested c.in-Some.who c.loop-who.graph.nodes c.next_loose.new.self.nodes c.loop-who.graph.loose c.next_loose.new.self.loose c.in-Some.ensures.nodes c.in-Some.ensures.loose

pub loop-who-preserved : goal.loop-who-preserved
loop-who-preserved c = record {
  swept = swept_rested c.in-Some.who c.args.graph.now.nodes c.loop-who.graph.nodes c.next_loose.new.self.nodes c.loop-who.totals.places c.loop-who.totals.text c.loop-who.gone.numbers
      c.loop-who.invariant.swept c.in-Some.ensures.nodes (sym c.if-is_loose.ensures);
  room = c.loop-who.invariant.room;
}

pub returns-clause-rows : goal.returns-clause-rows
returns-clause-rows c =
    let old = c.args.graph.now.nodes in
    let left = c.next_loose.new.self.nodes in
    swept_rows old left c.loop-who.totals.places c.loop-who.totals.text c.loop-who.gone.numbers
    (swept_end old c.loop-who.graph.nodes left c.loop-who.totals.places c.loop-who.totals.text c.loop-who.gone.numbers c.loop-who.invariant.swept c.in_default.ensures.nodes)
    (c.next_loose.ensures.none c.in_default.is)

pub returns-clause-counts : goal.returns-clause-counts
returns-clause-counts c =
    let old = c.args.graph.now.nodes in
    let left = c.next_loose.new.self.nodes in
    swept_counts old left c.loop-who.totals.places c.loop-who.totals.text c.loop-who.gone.numbers
    (swept_end old c.loop-who.graph.nodes left c.loop-who.totals.places c.loop-who.totals.text c.loop-who.gone.numbers c.loop-who.invariant.swept c.in_default.ensures.nodes)
    (c.next_loose.ensures.none c.in_default.is)
