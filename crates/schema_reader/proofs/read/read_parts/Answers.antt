use Rattle.std.proofs.Common.{◌∙◌, [], Ok, arith, refl, sym, ap, subst}
use Rattle.std.specs.Prelude.{Result}
use Rattle.std.proofs.lemmas.Result.{err_from_is_err_and}
use Rattle.schema_model.specs.Classes.{Schema}
use Rattle.text_model.specs.declared.fault.SchemaFault.{SchemaFault}
use Rattle.text_model.specs.Lines.{words_of}
use Rattle.schema_reader.specs.Gives.{Gives, schema_of_parts}
use Rattle.schema_reader.proofs.Lines.{reached_few, reached_more, read_rest, read_rest_last, read_rest_refused, read_rest_taken, read_rest_whole}
use Rattle.schema_reader.proofs.read.read_parts.Goals as goal

pub loop-line-init : goal.loop-line-init
loop-line-init c = record {
  whole = ap (λ d. read_rest 0 d c.args.text.now) c.new-draft.ensures ∙ read_rest_whole c.args.text.now;
  reached = record { lines = []; counted = refl; taken = ap Ok (sym c.new-draft.ensures) };
}

pub returns-in_err-take_line : goal.returns-in_err-take_line
returns-in_err-take_line c =
    let l = c.loop-line in
    let p = err_from_is_err_and c.from_residual.result c.from_residual.ensures.1 in
    rw (p.1, p.2)
    (read_rest_refused l.count l.draft l.rest.now c.in-Some.line.now c.in-Some.behind.now _ _ c.in-Some.ensures c.in_err-take_line.ensures l.invariant.whole)

pub loop-line-preserved : goal.loop-line-preserved
loop-line-preserved c =
    let l = c.loop-line in
    record {
      whole = sym (read_rest_taken l.count l.draft _ l.rest.now c.in-Some.line.now c.in-Some.behind.now c.in-Some.ensures c.in_ok-take_line.ensures) ∙ l.invariant.whole;
      reached = reached_more l.count l.draft _ (words_of c.in-Some.line.now) l.invariant.reached c.in_ok-take_line.ensures;
    }

pub returns : goal.returns
returns c =
    let l = c.loop-line in
    let whole = sym (read_rest_last l.count l.draft l.rest.now c.in_default.ensures) ∙ l.invariant.whole in
    subst (λ (t : Result Schema SchemaFault). Gives (schema_of_parts c.finish.result) t) whole c.finish.ensures

pub overflow_add-count : goal.overflow_add-count
overflow_add-count c = omega (arith, reached_few c.loop-line.count c.loop-line.draft c.loop-line.invariant.reached)

pub finish-requires : goal.finish-requires
finish-requires c = omega (arith, reached_few c.loop-line.count c.loop-line.draft c.loop-line.invariant.reached)
