-- One tick follows another where the state is a later one.
use Rattle.std.proofs.Common.{◌≡◌, ℕ, true, Some, sym}
use Rattle.schema_model.specs.Classes.{Schema}
use Rattle.state_model.specs.declared.row.Row.{Row}
use Rattle.state_model.specs.declared.row.Row.TheVariants.{Struct, Map, Array, Set}
use Rattle.state_model.specs.Rows.{row_at}
use Rattle.state_model.specs.State.{State}
use Rattle.command_laws.specs.Kept.{IsKept}
use Rattle.command_laws.specs.Later.{IsLater}
use Rattle.state_model.specs.Spelled.{are_spelled}
use Rattle.wire_laws.specs.PatchLaw.{SameKeys}
use Rattle.wire_laws.specs.FrameLaw.{Follows}
use Rattle.wire_laws.proofs.KindLaws.{kind_emptied}
use Rattle.live_state.specs.Live.{Live, schema_of}
use Rattle.view_counts.specs.Settled.{LastTick}

module _ (schema : Schema) (old new : State) (was : IsKept schema old) (is : IsKept schema new) (later : IsLater old new) where
  -- items of a map keep their keys
  keys_stay : (n : ℕ) (a b : Row) → row_at old.rows n ≡ Some a → row_at new.rows n ≡ Some b → SameKeys a b
  keys_stay n (Map home xs) (Map other ys) there here = λ k x y at_first at_last. sym (later.keys n k home other xs ys x y there here at_first at_last)
  keys_stay n (Map home xs) (Struct c fs) there here = tt
  keys_stay n (Map home xs) (Array c fs) there here = tt
  keys_stay n (Map home xs) (Set c fs) there here = tt
  keys_stay n (Struct c fs) b there here = tt
  keys_stay n (Array c fs) b there here = tt
  keys_stay n (Set c fs) b there here = tt

  pub later_follows : Follows schema old.rows new.rows
  later_follows = record {
    old_sound = was.sound;
    new_sound = is.sound;
    no_cycle = was.acyclic;
    agree = record {
      kinds = λ n a b there here. kind_emptied a b (sym (later.kinds n a b there here));
      keys = keys_stay;
    };
  }

-- so its rows are those of the last tick
abbrev pub tick_of : (live : Live) (old : State) → IsKept (schema_of live) old → IsKept (schema_of live) live.table.state → IsLater old live.table.state → are_spelled old.rows ≡ true → LastTick live
tick_of live old was is later spelled = record {
  rows = old.rows;
  follows = later_follows (schema_of live) old live.table.state was is later;
  spelled = spelled;
}
