use Rattle.schematron_faults.proofs.TextLemmas.{no_texts, texts_on}
use Rattle.schematron_faults.proofs.texts.texts_with.Goals as goal

pub entries-init : goal.entries-init
entries-init c = no_texts c.args.blanks.now _

pub entries-preserved : goal.entries-preserved
entries-preserved c = texts_on c.args.blanks.now c.args.entries.now c.entries.e-index c.e-item.result c.entries.texts c.take_entry.new.texts c.entries-test.true
    c.e-item.is c.in_ok-take_entry.ensures c.entries.invariant
