use Rattle.std.proofs.Common.{◌≡◌, [], ◌++◌, append-nil, refl, sym, ap, subst, ◌∙◌}
use Rattle.lists.specs.Rising.{RisesFrom}
use Rattle.state_model.specs.declared.row.Row.{Row}
use Rattle.state_model.specs.declared.row.RowEntry.{RowEntry}
use Rattle.state_model.specs.Rows.{number_of}
use Rattle.patch_decoder.specs.Drafts.{entry_of, entries_of}
use Rattle.patch_decoder.proofs.DraftLaws.{draft_above, draft_moved}
use Rattle.patch_decoder.proofs.drafts.Drafts.into_rows.Goals as goal

pub loop-who-init : goal.loop-who-init
loop-who-init c = (
  ap (λ l. l ++ entries_of c.into_iter-who-iterator.result) c.new-rows.ensures ∙ (ap entries_of c.into_iter-who-iterator.ensures.into_iter_gives.0 ∙ c.self.view_is),
  subst (RisesFrom number_of 0) c.self.view_is c.self.invariant,
)

pub push-requires : goal.push-requires
push-requires c =
    let so_far = c.loop-who.invariant in
    draft_above c.args.self c.loop-who.rows c.loop-who.who-iterator c.next.new.self (c.in-Some.who, c.in-Some.draft) c.in-Some.who so_far.1 so_far.0 c.in-Some.ensures.steps refl

pub loop-who-preserved : goal.loop-who-preserved
loop-who-preserved c =
    let so_far = c.loop-who.invariant in
    let r : RowEntry = record { who = c.in-Some.who; row = c.in_ok-row.row } in
    let same : r ≡ entry_of (c.in-Some.who, c.in-Some.draft) = ap (λ (row : Row). let e : RowEntry = record { who = c.in-Some.who; row = row } in e) c.in_ok-row.ensures in (
      ap (λ l. l ++ entries_of c.next.new.self) c.in_ok-push.ensures
          ∙ draft_moved c.args.self c.loop-who.rows c.loop-who.who-iterator c.next.new.self (c.in-Some.who, c.in-Some.draft) r so_far.0 c.in-Some.ensures.steps same,
      so_far.1,
    )

pub returns : goal.returns
returns c =
    let left : entries_of c.loop-who.who-iterator ≡ [] = ap entries_of c.in-None.ensures.steps.0 in
    c.from_rising.ensures ∙ (sym (append-nil c.loop-who.rows) ∙ (ap (λ l. c.loop-who.rows ++ l) (sym left) ∙ c.loop-who.invariant.0))
