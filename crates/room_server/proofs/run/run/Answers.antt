use Rattle.std.proofs.Common.{ℕ, [], ◌∷◌, sym, subst, Contains}
use Rattle.room_server.proofs.EndingLaws.{status_listed, ended_usage, ended_done, ended_refused, prefix_ended, done_always, refused_always, made_always}
use Rattle.room_server.proofs.ReplayedLaws.{taken_keep}
use Rattle.room_server.proofs.TaskLaws.{task_built}
use Rattle.room_server.proofs.run.run.Goals as goal

pub returns-clause-status : goal.returns-clause-status
returns-clause-status g c =
    let Listed : ℕ → Type 0 = Contains (0 ∷ 2 ∷ 3 ∷ 4 ∷ 5 ∷ 7 ∷ []) in subst Listed (sym c.status.ensures) (status_listed c.answer.result)

pub returns-clause-done : goal.returns-clause-done
returns-clause-done g c = ended_done _ (task_built c.args.words.now) _ _ _ _ c.answer.result c.status.result c.answer.ensures.ends c.status.ensures

pub returns-clause-usage : goal.returns-clause-usage
returns-clause-usage g c = ended_usage _ _ _ _ _ c.answer.result c.status.result c.answer.ensures.ends c.status.ensures

pub returns-clause-refused : goal.returns-clause-refused
returns-clause-refused g c = ended_refused _ (task_built c.args.words.now) _ _ _ _ c.answer.result c.status.result c.answer.ensures.ends c.status.ensures

pub returns-clause-prefix : goal.returns-clause-prefix
returns-clause-prefix g c = prefix_ended _ _ _ _ _ c.answer.result c.answer.ensures.ends

pub returns-clause-done_always : goal.returns-clause-done_always
returns-clause-done_always g c = done_always _ (task_built c.args.words.now) _ _ _ _ c.answer.result c.status.result _ _ _ _ c.answer.ensures.ends c.status.ensures c.answer.ensures.read_cause c.answer.ensures.write_cause

pub returns-clause-refused_always : goal.returns-clause-refused_always
returns-clause-refused_always g c = refused_always _ (task_built c.args.words.now) _ _ _ _ c.answer.result c.status.result _ _ _ _ c.answer.ensures.ends c.status.ensures c.answer.ensures.read_cause c.answer.ensures.write_cause

pub returns-clause-made_always : goal.returns-clause-made_always
returns-clause-made_always g c = made_always _ _ _ _ _ c.answer.result c.status.result _ _ c.answer.ensures.ends c.status.ensures c.answer.ensures.write_cause

pub returns-clause-promises : goal.returns-clause-promises
returns-clause-promises g c is = taken_keep _ _ _
