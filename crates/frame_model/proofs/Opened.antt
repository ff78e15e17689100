-- What reading frames computes with, for examples that hold by computation.
use Rattle.std.specs.Str.{is_utf8, chars}
use lib.Utf8.{encode}
use Rattle.schema_model.specs.Reading.{number_at, number_of, wide_at, signed_at, unsigned_at, text_at, text_length, text_of}
use Rattle.frame_model.specs.Packs as packs
use Rattle.frame_model.specs.ServerReading.{joined, faulted}

-- an example names this one on its line
unfoldable pub reading : Unit {0}
unfolding joined faulted packs.form_of packs.run_at packs.text_at packs.key_at packs.items_at packs.members_at packs.list_at packs.dict_at packs.value_at packs.pack_at number_at
    number_of wide_at signed_at unsigned_at text_at text_length text_of is_utf8 chars encode
reading = tt
