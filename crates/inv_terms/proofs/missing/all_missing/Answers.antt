use Rattle.std.proofs.Common.{◌≡◌, ◌≤◌, ap, sym, ◌∙◌, subst, arith, length, drop, length-drop}
use Rattle.std.proofs.lemmas.Result.{IfOk-weaker}
use Rattle.term_table.specs.SemanticModel.{terms}
use Rattle.inv_terms.specs.Lacking.{all_missing_from, all_missing}
use Rattle.inv_terms.proofs.LineRowLemmas.{few, from_first, model_length}
use Rattle.inv_terms.proofs.missing.all_missing.Goals as goal

pub split_at-requires : goal.split_at-requires
split_at-requires g c =
    let first : c.first_row_in-first.result ≤ 141 = subst (λ n. n ≤ 141) (sym c.first_row_in-first.ensures) (few c.args.context) in
    let rows : length c.term_rows.result.now ≡ 181 = ap length c.term_rows.ensures ∙ model_length in
    omega (arith, first, rows)

pub all_missing_among-requires : goal.all_missing_among-requires
all_missing_among-requires g c =
    let first : c.first_row_in-first.result ≤ 141 = subst (λ n. n ≤ 141) (sym c.first_row_in-first.ensures) (few c.args.context) in
    let rows : length c.term_rows.result.now ≡ 181 = ap length c.term_rows.ensures ∙ model_length in
    let behind = ap length c.split_at.ensures.back ∙ length-drop c.first_row_in-first.result c.term_rows.result.now in
    omega (arith, first, rows, behind)

pub returns : goal.returns
returns g c =
    IfOk-weaker c.all_missing_among.result _ _
    (λ violations is. is ∙ (ap (all_missing_from c.standing_of.result c.args.context c.first_row_in-first.result) c.split_at.ensures.back ∙
    (ap (λ rows. all_missing_from c.standing_of.result c.args.context c.first_row_in-first.result (drop c.first_row_in-first.result rows)) c.term_rows.ensures ∙
    (ap (λ n. all_missing_from c.standing_of.result c.args.context n (drop n terms)) c.first_row_in-first.ensures ∙
    (from_first c.standing_of.result c.args.context ∙ ap (λ seats. all_missing seats c.args.context) c.standing_of.ensures))))) c.all_missing_among.ensures
