use Rattle.std.proofs.Common.{◌∙◌, ap, sym}
use Rattle.std.specs.List.{list_any}
use Rattle.schematron_meaning.specs.Showing.{first_declared}
use Rattle.schematron_entries.specs.Keys as spec
use Rattle.schematron_entries.specs.Seen.{seen_entries}
use Rattle.schematron_entries.proofs.DeclaredLemmas.{keys_loop, declared_found, declared_on, declared_begun}
use Rattle.schematron_entries.proofs.declared.first_declared.Goals as goal

pub entries-init : goal.entries-init
entries-init c = record { names = λ k. ap (list_any (spec.is_same k)) c.new-names.ensures; left = declared_begun (seen_entries c.args.entries.now) }

pub returns-then-is_some : goal.returns-then-is_some
returns-then-is_some c = declared_found (first_declared (seen_entries c.args.entries.now))
    (seen_entries c.args.entries.now) c.in_ok-ids.ids c.entries.names c.args.entries.now c.entries.e-index c.e-item.result c.in_ok-found.found
    c.entries-test.true c.e-item.is c.in_ok-ids.ensures c.entries.invariant.names c.in_ok-found.ensures.fault
    (sym c.is_some.ensures ∙ c.if-is_some.true) c.entries.invariant.left

pub entries-preserved : goal.entries-preserved
entries-preserved c = record {
  names = keys_loop spec.name_key c.entries.names c.fault_at.new.names c.args.entries.now c.entries.e-index c.e-item.result c.entries-test.true c.e-item.is
      c.entries.invariant.names c.in_ok-found.ensures.keys;
  left = declared_on (first_declared (seen_entries c.args.entries.now)) (seen_entries c.args.entries.now) c.in_ok-ids.ids c.entries.names c.args.entries.now
      c.entries.e-index c.e-item.result c.in_ok-found.found
      c.entries-test.true c.e-item.is c.in_ok-ids.ensures c.entries.invariant.names c.in_ok-found.ensures.fault
      (sym c.is_some.ensures ∙ c.if-is_some.false) c.entries.invariant.left;
}
