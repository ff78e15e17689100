-- Each frame is read again.
use Rattle.std.proofs.Common.{◌≡◌, ◌^◌, true, rules}
use Rattle.schema_model.specs.Fits.{in_signed}
use Rattle.client_frames.proofs.Again.{fault_again, join_again, server_message_again, server_raw_again}
use Rattle.client_frames.proofs.writing.put_server.Goals as goal

pub returns-in-Join-clause-again : goal.returns-in-Join-clause-again
returns-in-Join-clause-again c =
    let f = c.in-Join in
    rw f.is (join_again f.token f.handshake)

pub returns-in-Fault-clause-again : goal.returns-in-Fault-clause-again
returns-in-Fault-clause-again c =
    let f = c.in-Fault in
    let number : in_signed (2 ^ 31) f.code ≡ true = search rules in
    rw f.is (fault_again f.code f.text number (rw f.is at c.requires) (rw c.as_str.ensures at c.put_fault.ensures.words))

pub returns-in-Msg-clause-again : goal.returns-in-Msg-clause-again
returns-in-Msg-clause-again c =
    let f = c.in-Msg in
    rw f.is (server_message_again f.kind f.payload (rw f.is at c.requires) c.put_message.ensures.kept)

pub returns-in-Raw-clause-again : goal.returns-in-Raw-clause-again
returns-in-Raw-clause-again c =
    let f = c.in-Raw in
    rw f.is (server_raw_again f.kind f.payload (rw f.is at c.requires) c.put_message-in-Raw.ensures.kept)
