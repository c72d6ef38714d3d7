use Rattle.std.proofs.Common.{◌<◌, length, ap, sym, subst, ◌∙◌}
use Rattle.node_arena.specs.Moves.{tree_nodes}
use Rattle.bind_run.specs.Reading.{ReadsWhole, by_root, lost_by_root, rows_in}
use Rattle.bind_run.proofs.IndicatorLemmas.{known-ok, known-err, same-node, not-memory}
use Rattle.bind_run.proofs.WithinLemmas.{whole-within, document-within}
use Rattle.bind_run.proofs.reading.read_document_whole.Goals as goal

pub returns-in-Ok-clause-reads : goal.returns-in-Ok-clause-reads
returns-in-Ok-clause-reads c =
    let table = known-ok _ c.in-Ok.document_type (sym c.binding_of.ensures ∙ c.in-Ok.is) in
    let rows = rows_in c.args.tables.now in
    let nodes = tree_nodes c.args.doc.now in
    subst (λ o. ReadsWhole (by_root rows nodes c.args.lists.now o) (lost_by_root rows nodes o) c.read_whole_counted.result)
    (sym table) c.read_whole_counted.ensures.reads

pub returns-in-Ok-clause-within : goal.returns-in-Ok-clause-within
returns-in-Ok-clause-within c =
    whole-within _ _ _ c.read_whole_counted.result c.read_whole_counted.ensures.reads
    (document-within c.args.doc.now c.is_of_a_tree.ensures.numbers c.is_of_a_tree.ensures.rooted c.args.lists.now (rows_in c.args.tables.now
    c.in-Ok.document_type))

pub returns-in-Err-clause-reads : goal.returns-in-Err-clause-reads
returns-in-Err-clause-reads c = λ _.
    let known = known-err _ c.in-Err.fault (sym c.binding_of.ensures ∙ c.in-Err.is) in
    ap (by_root (rows_in c.args.tables.now) _ c.args.lists.now) known.0 ∙ known.1

pub returns-in-Err-clause-within : goal.returns-in-Err-clause-within
returns-in-Err-clause-within c = λ _.
    let known = known-err _ c.in-Err.fault (sym c.binding_of.ensures ∙ c.in-Err.is) in
    subst (λ n. n < length c.args.doc.now.nodes) (same-node _ _ known.1) c.is_of_a_tree.ensures.rooted

pub returns-in-Err-clause-memory : goal.returns-in-Err-clause-memory
returns-in-Err-clause-memory c = not-memory _ (known-err _ c.in-Err.fault (sym c.binding_of.ensures ∙ c.in-Err.is)).1
