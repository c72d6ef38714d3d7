use Rattle.std.proofs.Common.{refl, ap, ◌∙◌}
use Rattle.std.specs.Prelude.{codes}
use Rattle.std.proofs.lemmas.Result.{on_ok_weaker}
use Rattle.bind_meaning.specs.Said.{is_of_added_date}
use Rattle.bind_said.specs.Marks.{mark_all}
use Rattle.bind_said.specs.Saying.{saying_attributes}
use Rattle.bind_said.proofs.MarkLemmas.{unmarked-by, marked-by}
use Rattle.bind_said.proofs.WordLemmas.{literal}
use Rattle.bind_said.proofs.picked.mark_format.Goals as goal

pub returns-then-not-is_of_added_date : goal.returns-then-not-is_of_added_date
returns-then-not-is_of_added_date g c = unmarked-by c.args.marks.now.items (is_of_added_date c.args.row.now) c.is_of_added_date.result
    (saying_attributes c.args.input.now.doc.now (codes "102") c.args.name c.args.n) c.is_of_added_date.ensures c.if-not-is_of_added_date.true

pub returns : goal.returns
returns g c =
    let d = c.args.input.now.doc.now in
    let old = c.args.marks.now.items in
    on_ok_weaker c.mark_saying_attributes.result
    (λ e. marked-by old c.mark_saying_attributes.new.marks.items (is_of_added_date c.args.row.now) c.is_of_added_date.result
    (saying_attributes d (codes "102") c.args.name c.args.n) c.is_of_added_date.ensures c.if-not-is_of_added_date.false
    (e ∙ ap (λ t. mark_all old (saying_attributes d t c.args.name c.args.n)) (literal (codes "102") refl)))
    c.mark_saying_attributes.ensures
