use Rattle.schematron_run.proofs.MarkLemmas.{touches}
use Rattle.schematron_run.proofs.firsts.mark_one.Goals as goal

pub returns-in_ok-push-in-None-clause-touched : goal.returns-in_ok-push-in-None-clause-touched
returns-in_ok-push-in-None-clause-touched c =
    rw c.number.ensures
    (touches c.args.table.now c.args.touched.now.items c.push.new.self.items c.args.n c.args.rule c.requires.within c.requires.touched
    c.in_ok-push-in-None.ensures.items)
