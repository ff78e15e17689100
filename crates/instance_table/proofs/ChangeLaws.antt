-- A command that changes a row, step by step.
use Rattle.std.proofs.Common.{◌≡◌, ℕ, true, cond, List, Option, Some, None, IfSome, Result, Ok, Err, OnOk, is_ok, refl, sym, ap, ◌∙◌, subst}
use Rattle.std.specs.Option.{option_map}
use Rattle.state_model.specs.declared.command.Command.{Command}
use Rattle.command_laws.specs.Accounts.{is_clear}
use Rattle.plain_rows.specs.Links.{held_at}
use Rattle.instance_table.specs.declared.node.Node.{Node}
use Rattle.instance_table.specs.declared.body.Body.{Body}
use Rattle.instance_table.specs.Graph.{GraphState}
use Rattle.instance_table.specs.Nodes.{node_at, at_node, rows_in, held_more}
use Rattle.instance_table.specs.Changes.{edited_node, hold_link, let_go_each, row_cleared, place_changed, changed}
use Rattle.instance_table.proofs.LetGoLaws.{body_at, body_same}
use Rattle.instance_table.proofs.StateLaws.{held_found}

-- what is told of the node that is there
pub of_some : {P : Node → Type 0} (o : Option Node) → ((n : Node) → o ≡ Some n → P n) → IfSome o P
of_some None f = tt
of_some (Some n) f = f n refl

-- what is told of the node that is there, of this one, and the other way round
pub told_of : (P : Node → Type 0) (o : Option Node) (n : Node) → o ≡ Some n → IfSome o P → P n
told_of P o n e h = subst (λ q. IfSome q P) e h

pub tell_of : (P : Node → Type 0) (o : Option Node) (n : Node) → o ≡ Some n → P n → IfSome o P
tell_of P o n e h = subst (λ q. IfSome q P) (sym e) h

-- what is told of the body of a number is told of the same body
pub of_body : (P : Body → Type 0) (es fs : List (ℕ × Node)) (who : ℕ) → body_at fs who ≡ body_at es who → IfSome (node_at es who) (λ n. P n.body) → IfSome (node_at fs who) (λ n. P n.body)
of_body P es fs who same h = from (node_at es who) (node_at fs who) same h
  where
    from : (o p : Option Node) → option_map (λ (n : Node). n.body) p ≡ option_map (λ (n : Node). n.body) o → IfSome o (λ n. P n.body) → IfSome p (λ n. P n.body)
    from o None e h = tt
    from None (Some m) e h = cc
    from (Some n) (Some m) e h = let same : n.body ≡ m.body = cc in subst P same h

pub body_hold : (link : Option ℕ) (h : ℕ) (es : List (ℕ × Node)) (who : ℕ) → body_at (hold_link link h es) who ≡ body_at es who
body_hold None h es who = refl
body_hold (Some k) h es who = body_same k (held_more h) es (λ n. refl) who

-- a row that let go of all is cleared by an edit
pub cleared_is : (c : Command) (h : ℕ) (start : List (ℕ × Node)) (n : Node) → node_at start h ≡ Some n → is_clear c ≡ true
    → at_node h (edited_node c) (let_go_each (held_at (rows_in start) h) h start) ≡ changed c h n.body start
cleared_is c h start n at clear =
    ap (λ l. at_node h (edited_node c) (let_go_each l h start)) (held_found start h (Some n) (sym at))
    ∙ sym (ap (λ b. cond b (row_cleared c h n.body start) (place_changed c h n.body start)) clear)

pub clear_done : {T E : Type 0} (r : Result T E) (c : Command) (h : ℕ) (start : List (ℕ × Node)) (before after : GraphState) (n : Node) → before.nodes ≡ let_go_each (held_at (rows_in start) h) h start
    → after ≡ cond (is_ok r) (record before { nodes = at_node h (edited_node c) before.nodes }) before → node_at start h ≡ Some n → is_clear c ≡ true → OnOk r (after.nodes ≡ changed c h n.body start)
clear_done (Ok x) c h start before after n e a at clear = ap (λ (g : GraphState). g.nodes) a ∙ (ap (at_node h (edited_node c)) e ∙ cleared_is c h start n at clear)
clear_done (Err x) c h start before after n e a at clear = tt
