use Rattle.invoice_data.specs.Members.{lack_fault}
use Rattle.invoice_data.proofs.ToldLemmas.{next_fault, no_fault_left}
use Rattle.invoice_data.proofs.lacks.put_each.Goals as goal

pub violations-preserved : goal.violations-preserved
violations-preserved c =
    next_fault (lack_fault c.args.room c.args.at) c.args.violations.now c.violations.violation-index c.violation-item.result _ _ _ _ c.violations-test.true
    c.violation-item.is c.lack_fault.ensures c.in_ok-put_fault.ensures c.violations.invariant

pub returns : goal.returns
returns c = no_fault_left (lack_fault c.args.room c.args.at) c.args.violations.now c.violations.violation-index _ _ c.violations-test.false c.violations.invariant
