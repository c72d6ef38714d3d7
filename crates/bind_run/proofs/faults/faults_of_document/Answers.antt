use Rattle.std.proofs.Common.{◌<◌, Ok, Err, length, ap, sym, subst, ◌∙◌}
use Rattle.bind_meaning.specs.declared.fault.BindFault.{BindFault}
use Rattle.bind_run.specs.Reading.{faults_by_root, rows_in}
use Rattle.bind_run.proofs.IndicatorLemmas.{known-ok, known-same}
use Rattle.bind_run.proofs.faults.faults_of_document.Goals as goal

pub returns-in-Ok-faults_of_table-clause-finds : goal.returns-in-Ok-faults_of_table-clause-finds
returns-in-Ok-faults_of_table-clause-finds c =
    let table = known-ok _ c.in-Ok.document_type (sym c.binding_of.ensures ∙ c.in-Ok.is) in
    let e = c.in-Ok-faults_of_table.ensures in
    ap (faults_by_root (rows_in c.args.tables.now) _ c.args.lists.now) table
    ∙ (λ i. Ok (record {
      document_type = (sym e.document_type) i;
      faults = (sym e.faults) i;
      passed = (sym e.passed_over) i;
      unread = (sym e.unread) i;
      misplaced = (sym e.misplaced) i;
    }))

pub returns-in-Err-clause-finds : goal.returns-in-Err-clause-finds
returns-in-Err-clause-finds c = λ _.
    let known = known-same _ c.in-Err.fault (sym c.binding_of.ensures ∙ c.in-Err.is) in
    ap (faults_by_root (rows_in c.args.tables.now) _ c.args.lists.now) known.0 ∙ ap Err known.1

pub returns-in-Err-clause-fault_within : goal.returns-in-Err-clause-fault_within
returns-in-Err-clause-fault_within c =
    let known = known-same _ c.in-Err.fault (sym c.binding_of.ensures ∙ c.in-Err.is) in
    subst (λ (f : BindFault). f.node < length c.args.doc.now.nodes) known.1 c.is_of_a_tree.ensures.rooted
