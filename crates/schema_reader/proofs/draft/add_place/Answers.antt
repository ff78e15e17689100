use Rattle.std.proofs.lemmas.Map.Text.{hash_map_updates_str}
use Rattle.schema_reader.proofs.draft.add_place.Goals as goal

pub returns-clause-ok : goal.returns-clause-ok
returns-clause-ok c = hash_map_updates_str c.args.name.now c.args.places.now c.insert.new.self _ c.in_ok-insert.ensures.updates
