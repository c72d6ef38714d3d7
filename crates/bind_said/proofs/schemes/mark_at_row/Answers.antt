use Rattle.std.proofs.Common.{map, refl, ap, ◌∙◌}
use Rattle.std.proofs.lemmas.Result.{on_ok_weaker}
use Rattle.bind_meaning.specs.Said.{sepa}
use Rattle.bind_walk.specs.declared.names.FoundLeaf.TheVariants as founds
use Rattle.bind_said.specs.Marks.{mark_all}
use Rattle.bind_said.specs.Saying.{asks_for_scheme, found_step, saying_below}
use Rattle.bind_said.proofs.MarkLemmas.{unmarked-by, marked-by}
use Rattle.bind_said.proofs.WordLemmas.{literal}
use Rattle.bind_said.proofs.schemes.mark_at_row.Goals as goal

pub returns-then-not-asks_for_scheme : goal.returns-then-not-asks_for_scheme
returns-then-not-asks_for_scheme g c =
    let d = c.args.input.now.doc.now in
    unmarked-by c.args.marks.now.items (asks_for_scheme c.args.row.now) c.asks_for_scheme.result
    (saying_below d sepa (founds.Attribute c.args.name) (map (found_step d) c.args.row.now.path) 0) c.asks_for_scheme.ensures c.if-not-asks_for_scheme.true

pub returns : goal.returns
returns g c =
    let d = c.args.input.now.doc.now in
    let old = c.args.marks.now.items in
    on_ok_weaker c.mark_along.result
    (λ e. marked-by old c.mark_along.new.marks.items (asks_for_scheme c.args.row.now) c.asks_for_scheme.result
    (saying_below d sepa (founds.Attribute c.args.name) (map (found_step d) c.args.row.now.path) 0) c.asks_for_scheme.ensures c.if-not-asks_for_scheme.false
    (e ∙ (ap (λ t. mark_all old (saying_below d t (founds.Attribute c.args.name) (map (found_step d) c.as_slice.result.now) 0)) (literal sepa refl)
    ∙ ap (λ path. mark_all old (saying_below d sepa (founds.Attribute c.args.name) (map (found_step d) path) 0)) c.as_slice.ensures)))
    c.mark_along.ensures
