use Rattle.std.proofs.Common.{◌∙◌, ap}
use Rattle.schematron_entries.specs.Keys as spec
use Rattle.schematron_entries.proofs.DeclaredLemmas.{keys_loop}
use Rattle.schematron_entries.proofs.naming.ids_of.Goals as goal

pub entries-preserved : goal.entries-preserved
entries-preserved c = keys_loop spec.id_key c.entries.ids c.put.new.names c.args.entries.now c.entries.e-index c.e-item.result c.entries-test.true c.e-item.is
    c.entries.invariant
    (c.in_ok-put.ensures.keys ∙ ap (spec.with_option c.entries.ids) c.id_of.ensures)
