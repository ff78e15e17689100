-- What reading computes with, for examples that hold by computation.
use Rattle.std.specs.Str.{is_utf8, chars}
use lib.Utf8.{encode}
use Rattle.schema_model.specs.Reading.{number_at, number_of, wide_at, signed_at, unsigned_at, text_at, text_length, text_of}
use Rattle.wire_model.specs.Grammar.{step_at, count_at, value_at, marked_value, instance_value, keyed_value, named_value, by_ref_value, collection_step, switch_at}

-- an example names this one on its line
unfoldable pub reading : Unit {0}
unfolding step_at switch_at count_at collection_step keyed_value named_value by_ref_value value_at instance_value marked_value number_at number_of wide_at signed_at unsigned_at text_at text_length text_of is_utf8 chars encode
reading = tt
