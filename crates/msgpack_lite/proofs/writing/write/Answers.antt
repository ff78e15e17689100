use Rattle.frame_model.specs.PackData.{data_of}
use Rattle.msgpack_lite.proofs.Again.{written_again}
use Rattle.msgpack_lite.proofs.writing.write.Goals as goal

pub returns-else-is_err-clause-again : goal.returns-else-is_err-clause-again
returns-else-is_err-clause-again c =
    let put = c.put_pack-outcome in
    written_again put.result (data_of c.args.pack.now) c.args.out.now.items put.new.out.items c.requires put.ensures.ok put.ensures.texts
