-- The members of a view: three sets of pairs, and how view edits and ticks change them. After the StateView of `@colyseus/schema` 3; the limit is ours.
use Rattle.std.specs.Prelude.{ℕ, ◌+◌, ◌*◌, Bool, true, false, not, List, [], ◌∷◌, map, filter, length, ℤ, pos, ◌+ℤ◌, nat_abs, Option, nat_lt, if◌then◌else◌}
use Rattle.std.specs.Option.{option_map_or}
use Rattle.lists.specs.Rising as rising
use Rattle.schema_model.specs.Classes.{Schema}
use Rattle.schema_model.specs.declared.place.Pair.{Pair}
use Rattle.state_model.specs.declared.row.Row.{Row}
use Rattle.state_model.specs.declared.row.Row.TheVariants.{Struct}
use Rattle.state_model.specs.declared.row.RowEntry.{RowEntry}
use Rattle.state_model.specs.declared.row.FieldValue.{FieldValue}
use Rattle.state_model.specs.Values.{same_whole}
use Rattle.state_model.specs.Rows.{is_live}
use Rattle.state_model.specs.Places.{tag_of}
use Rattle.state_model.specs.Reached.{reached}
use Rattle.state_model.specs.Shown.{is_member}

-- the pairs now, at the last tick, and kept since then; each rises by row, then by tag
pub record Members : Type 0 where
  pub now : List Pair
  pub last : List Pair
  pub kept : List Pair

-- no pairs
abbrev pub no_members : Members
no_members = record { now = []; last = []; kept = [] }

-- the number by which pairs rise: by row, then by tag, which is from -32768 to 32767
abbrev pub pair_rank : Pair → ℕ
pair_rank p = 65536 * p.who + nat_abs (p.tag +ℤ pos 32768)

-- the pairs with these
abbrev pub with_pairs : List Pair → List Pair → List Pair
with_pairs pairs [] = pairs
with_pairs pairs (p ∷ ps) = with_pairs (rising.put pair_rank p pairs) ps

-- the pairs without these
abbrev pub without_pairs : List Pair → List Pair → List Pair
without_pairs pairs gone = filter (λ (p : Pair). not (is_member gone p.who p.tag)) pairs

-- a field leads on for a tag: it is untagged, or has this tag
abbrev pub leads_on : ℤ → Option ℤ → Bool
leads_on tag field_tag = option_map_or (same_whole tag) field_tag true

-- a row with the places that lead on for a tag; every item of a collection does
abbrev pub row_through : Schema → ℤ → Row → Row
row_through schema tag (Struct class fields) = Struct class (filter (λ (f : FieldValue). leads_on tag (tag_of schema class f.field)) fields)
row_through schema tag row = row

-- the rows through which a view edit goes: each with the places that lead on for a tag
abbrev pub rows_through : Schema → ℤ → List RowEntry → List RowEntry
rows_through schema tag rows =
    map (λ (e : RowEntry). let s : RowEntry = record { who = e.who; row = row_through schema tag e.row } in s) rows

-- the pairs of a view edit: of the row, and of every row reached from it through places that are untagged or have the tag; none where the row isn't live
abbrev pub pairs_behind : Schema → List RowEntry → Pair → List Pair
pairs_behind schema rows p =
    if is_live rows p.who
    then map (λ n. let q : Pair = record { who = n; tag = p.tag } in q) (reached (rows_through schema p.tag rows) p.who)
    else []

-- after a row was added to the view
abbrev pub view_added : Schema → List RowEntry → Pair → Members → Members
view_added schema rows p m = record {
  now = with_pairs m.now (pairs_behind schema rows p);
  last = m.last;
  kept = with_pairs m.kept (pairs_behind schema rows p);
}

-- after a row was taken out of the view
abbrev pub view_removed : Schema → List RowEntry → Pair → Members → Members
view_removed schema rows p m = record { now = without_pairs m.now (pairs_behind schema rows p); last = m.last; kept = m.kept }

-- more pairs are kept than a view may have
abbrev pub is_view_full : Members → Bool
is_view_full m = nat_lt 65536 (length m.kept)

-- after a sweep: the pairs of freed instances are gone
abbrev pub live_members : List RowEntry → Members → Members
live_members rows m = record { now = filter (λ (p : Pair). is_live rows p.who) m.now; last = m.last; kept = m.kept }

-- at the end of a tick
abbrev pub ticked : Members → Members
ticked m = record { now = m.now; last = m.now; kept = m.now }

-- exactly one of two tests holds
abbrev pub differs : Bool → Bool → Bool
differs true b = not b
differs false b = b

-- the pairs that are in exactly one of now and the last tick's
abbrev pub changed_pairs : Members → List Pair
changed_pairs m =
    filter (λ (p : Pair). differs (is_member m.now p.who p.tag) (is_member m.last p.who p.tag)) (with_pairs m.now m.last)
