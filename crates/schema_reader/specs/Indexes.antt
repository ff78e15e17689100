-- What stands beside a draft, so that its names are found fast.
use Rattle.std.specs.Prelude.{◌≡◌, ◌≤◌, ℕ, List, [], map, length, Option, Vec}
use Rattle.std.specs.Global.{Global}
use Rattle.std.specs.Borrow.{Bor}
use Rattle.std.specs.HashMap as hash
use Rattle.std.specs.HashMap.{HashMap}
use Rattle.std.specs.declared.hash.FoldHasher.{FoldHasher}
use Rattle.std.specs.declared.hash.BuildHasherDefault.{BuildHasherDefault}
use Rattle.std.specs.Str.{bytes_eq}
use Rattle.schema_model.specs.Classes.{most_classes}
use Rattle.text_model.specs.SchemaReading.{class_place, names_from}
use Rattle.text_model.specs.declared.draft.DraftClass.{DraftClass}
use Rattle.text_words.specs.Words.{bytes_of}

-- the places of names
abbrev pub Places : Type 0
Places = HashMap (Bor (List ℕ)) ℕ (BuildHasherDefault FoldHasher)

-- the place of a name
abbrev pub place_in : Places → List ℕ → Option ℕ
place_in places name = hash.get_by (λ k. bytes_eq name k.now) places

-- the names of the fields of each class
abbrev pub all_names : List (Vec (Bor (List ℕ)) Global) → List (List (List ℕ))
all_names names = map (λ ns. bytes_of ns.items) names

-- each class's place is found by its name, its fields' names stand at its place, and there are few classes
pub record IsIndexed (classes : List DraftClass) (places : Places) (names : List (Vec (Bor (List ℕ)) Global)) : Type 0 where
  pub found : (name : List ℕ) → place_in places name ≡ class_place classes name
  pub named : all_names names ≡ names_from [] classes
  pub few : length classes ≤ most_classes
