use Rattle.schematron_entries.specs.Seen.{seen_entry}
use Rattle.schematron_faults.proofs.TextLemmas.{four_stay}
use Rattle.schematron_faults.proofs.texts.expressions_stay.Goals as goal

pub returns : goal.returns
returns c = four_stay c.args.blanks.now (seen_entry c.args.e.now) c.in_ok-context.context c.in_ok-test.test c.in_ok-value.value c.in_ok-select.select
    c.in_ok-context.ensures c.in_ok-test.ensures c.in_ok-value.ensures c.in_ok-select.ensures
