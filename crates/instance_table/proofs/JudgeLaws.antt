-- What a command comes to, by its first cause.
use Rattle.std.proofs.Common.{◌≡◌, ℕ, ◌≤◌, true, false, List, length, Ok, Option, Some, None, IfSome, option_and_then, refl, sym, ap, subst, ◌∙◌}
use Rattle.std.specs.Option.{option_map, option_map_or}
use Rattle.schema_model.specs.Classes.{Schema}
use Rattle.state_model.specs.declared.command.Command.{Command}
use Rattle.state_model.specs.declared.command.Command.TheVariants as command
use Rattle.state_model.specs.declared.command.TableFault.{TableFault}
use Rattle.state_model.specs.Commands.{do_command, holder_of, is_no_field, refusal_of}
use Rattle.state_model.specs.State.{text_limit}
use Rattle.state_model.specs.Worded.{is_worded_command}
use Rattle.command_laws.specs.Accounts.{row_text}
use Rattle.instance_table.specs.declared.node.Node.{Node}
use Rattle.instance_table.specs.declared.body.Body.{Body}
use Rattle.instance_table.specs.declared.plan.Plan.{Plan}
use Rattle.instance_table.specs.declared.plan.Verdict.TheVariants.{Refused, Makes, Changes}
use Rattle.instance_table.specs.Amounts.{places_after}
use Rattle.instance_table.specs.Bodies.{row_of}
use Rattle.instance_table.specs.Changes.{changed}
use Rattle.instance_table.specs.Found.{IsJudged, IsPlanned}
use Rattle.instance_table.specs.Nodes.{node_at}
use Rattle.instance_table.specs.Table.{IsTable, state_in}
use Rattle.instance_table.proofs.ChangeLaws.{told_of}
use Rattle.instance_table.proofs.ChangedTables.{IsChanged, changed_table}
use Rattle.instance_table.proofs.TableSteps.{holder_stands, row_text_few}

-- a command that is declared and needs no row names none
pub none_named : (schema : Schema) (c : Command) → is_no_field schema c None ≡ false → holder_of c ≡ None
none_named schema (command.Make class) h = refl
none_named schema (command.MakeFor home) h = refl
none_named schema c h = cc

-- a command that changes no row is refused or makes one
pub make_judged : (schema : Schema) (es : List (ℕ × Node)) (given places text : ℕ) (c : Command) (o : Option TableFault) → o ≡ refusal_of schema (state_in es given) c → holder_of c ≡ None
    → IsJudged schema es given places text c (option_map_or Refused o Makes)
make_judged schema es given places text c (Some fault) is none = sym is
make_judged schema es given places text c None is none = (sym is, none)

-- what holds of a body holds of the row with it
pub with_body : (P : Body → Type 0) (o : Option Node) (b : Body) → Some b ≡ option_map (λ (n : Node). n.body) o → P b → IfSome o (λ n. P n.body)
with_body P None b h p = cc
with_body P (Some n) b h p = let same : b ≡ n.body = cc in subst P same p

-- the body of the row that a command changes is that of its number
pub body_named : (es fs : List (ℕ × Node)) (h : Option ℕ) (who : ℕ) (o : Option Body) (b : Body) {named : Option ℕ} → fs ≡ es → h ≡ named → h ≡ Some who
    → o ≡ option_map (λ (n : Node). n.body) (option_and_then (node_at fs) named) → o ≡ Some b → Some b ≡ option_map (λ (n : Node). n.body) (node_at es who)
body_named es fs h who o b same names is body there =
    sym there ∙ (body ∙ (ap (λ k. option_map (λ (n : Node). n.body) (option_and_then (node_at fs) k)) (sym names ∙ is) ∙ ap (λ l. option_map (λ (n : Node). n.body) (node_at l who)) same))

-- a row of a table has few bytes of text
pub body_few : (schema : Schema) (es : List (ℕ × Node)) (given places text who : ℕ) (b : Body) → IsTable schema es given places text → Some b ≡ option_map (λ (n : Node). n.body) (node_at es who) → row_text (row_of b) ≤ text_limit
body_few schema es given places text who b table h = from (node_at es who) refl h
  where
    from : (o : Option Node) → node_at es who ≡ o → Some b ≡ option_map (λ (n : Node). n.body) o → row_text (row_of b) ≤ text_limit
    from None at h = cc
    from (Some n) at h =
        let same : n.body ≡ b = cc in
        subst (λ (x : Body). row_text (row_of x) ≤ text_limit) same (row_text_few schema es given places text who n table at)

-- a table whose row was changed as planned: its totals are the plan's, and its state is the command's
pub record IsDone (schema : Schema) (es fs : List (ℕ × Node)) (given : ℕ) (c : Command) (plan : Plan) : Type 0 where
  pub table : IsTable schema fs given plan.totals.places plan.totals.text
  pub answer : do_command schema (state_in es given) c ≡ Ok (state_in fs given, None)
  pub long : length fs ≡ length es

pub done_as_planned : (schema : Schema) (es fs : List (ℕ × Node)) (given places text who : ℕ) (c : Command) (plan : Plan) → IsTable schema es given places text → is_worded_command c ≡ true
    → IsJudged schema es given places text c (Changes who plan) → IfSome (node_at es who) (λ (n : Node). fs ≡ changed c who n.body es) → IsDone schema es fs given c plan
done_as_planned schema es fs given places text who c plan table words judged nodes =
    let stands = holder_stands schema es given who c judged.0 judged.1 in
    let n = stands.0 in
    let at = stands.1 in
    let same : fs ≡ changed c who n.body es = told_of (λ (m : Node). fs ≡ changed c who m.body es) (node_at es who) n at nodes in
    let planned = told_of (λ (m : Node). IsPlanned c (row_of m.body) places text plan) (node_at es who) n at judged.2 in
    let after = subst (λ l. IsChanged schema es l given places text c n.body) (sym same) (changed_table schema es given places text who c n.body table words judged.0 judged.1 (ap (option_map (λ (x : Node). x.body)) at)) in
    record {
      table = subst (λ p. IsTable schema fs given p plan.totals.text) (sym planned.places_after) (subst (λ t. IsTable schema fs given (places_after c (row_of n.body) places) t) (sym planned.text_after) after.table);
      answer = after.answer;
      long = after.long;
    }
