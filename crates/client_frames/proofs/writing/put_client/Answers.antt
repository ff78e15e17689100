-- Each frame is read again.
use Rattle.client_frames.proofs.Again.{message_again, raw_again}
use Rattle.client_frames.proofs.writing.put_client.Goals as goal

pub returns-in-Msg-clause-again : goal.returns-in-Msg-clause-again
returns-in-Msg-clause-again c =
    let f = c.in-Msg in
    rw f.is (message_again f.kind f.payload (rw f.is at c.requires) c.put_message.ensures.kept)

pub returns-in-Raw-clause-again : goal.returns-in-Raw-clause-again
returns-in-Raw-clause-again c =
    let f = c.in-Raw in
    rw f.is (raw_again f.kind f.payload (rw f.is at c.requires) c.put_message-in-Raw.ensures.kept)
