use Rattle.std.proofs.Common.{◌≡◌, subst, sym}
use Rattle.std.specs.Prelude.{IfOk}
use Rattle.room_server.proofs.LoadLaws.{generated_replays}
use Rattle.room_server.specs.Replays.{CanReplay}
use Rattle.room_server.specs.Summaries.{summary_text}
use Rattle.room_server.proofs.make.summary_of.Goals as goal

pub summarize-requires : goal.summarize-requires
summarize-requires c = subst CanReplay (sym c.in_ok-schedule.ensures.value) (generated_replays c.args.seed c.args.rounds)

pub returns : goal.returns
returns c = subst (λ s. IfOk c.summarize.result (λ text. text.items ≡ summary_text s)) c.in_ok-schedule.ensures.value c.summarize.ensures
