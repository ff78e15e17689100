-- What it says of a schema that it is spelled, part by part.
use Rattle.std.proofs.Common.{◌≡◌, ◌<◌, ◌≤◌, true, [], length, map, ltb, ltb-true, lt-ltb, leb, leb-true, le-leb}
use Rattle.std.specs.List.{list_all}
use Rattle.std.proofs.lemmas.Bool.{and_parts, and_from}
use Rattle.schema_model.specs.Classes.{Schema, fields_from, parents_earlier, item_in_range, item_of, is_kept}
use Rattle.schema_model.specs.declared.class.Class.{Class}
use Rattle.schema_model.specs.declared.class.FieldDecl.{FieldDecl}
use Rattle.schema_model.proofs.FieldCounts.{is_small}
use Rattle.state_model.specs.Sound.{keys_differ}
use Rattle.text_model.specs.SchemaLines.{is_class, fields_differ, is_spelled}

pub record AreSpelled (s : Schema) : Type 0 where
  pub count : length s.classes ≤ 256
  pub root : s.root < length s.classes
  pub parents : parents_earlier 0 s.classes ≡ true
  pub items : list_all (λ (c : Class). list_all (λ (f : FieldDecl). item_in_range (length s.classes) (item_of f.shape)) c.own) s.classes ≡ true
  pub small : list_all is_small (fields_from [] s.classes) ≡ true
  pub classes : list_all (is_class s.classes) s.classes ≡ true
  pub names : keys_differ (map (λ (c : Class). c.name) s.classes) ≡ true
  pub fields : list_all fields_differ (fields_from [] s.classes) ≡ true

pub parts_of_spelled : (s : Schema) → is_spelled s ≡ true → AreSpelled s
parts_of_spelled s h =
    let fields = and_parts _ (list_all fields_differ (fields_from [] s.classes)) h in
    let names = and_parts _ (keys_differ (map (λ (c : Class). c.name) s.classes)) fields.0 in
    let classes = and_parts (is_kept s) (list_all (is_class s.classes) s.classes) names.0 in
    let small = and_parts _ (list_all is_small (fields_from [] s.classes)) classes.0 in
    let items =
    and_parts _ (list_all (λ (c : Class). list_all (λ (f : FieldDecl). item_in_range (length s.classes) (item_of f.shape)) c.own) s.classes) small.0 in
    let parents = and_parts _ (parents_earlier 0 s.classes) items.0 in
    let bounds = and_parts (leb (length s.classes) 256) (ltb s.root (length s.classes)) parents.0 in
    record {
      count = leb-true (length s.classes) 256 bounds.0;
      root = ltb-true s.root (length s.classes) bounds.1;
      parents = parents.1;
      items = items.1;
      small = small.1;
      classes = classes.1;
      names = names.1;
      fields = fields.1;
    }

pub spelled_of_parts : (s : Schema) → AreSpelled s → is_spelled s ≡ true
spelled_of_parts s p =
    let bounds = and_from _ _ (le-leb (length s.classes) 256 p.count) (lt-ltb s.root (length s.classes) p.root) in
    let kept = and_from _ _ (and_from _ _ (and_from _ _ bounds p.parents) p.items) p.small in
    and_from _ _ (and_from _ _ (and_from _ _ kept p.classes) p.names) p.fields
