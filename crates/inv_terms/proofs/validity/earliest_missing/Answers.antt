use Rattle.std.proofs.Common.{sym, subst, Option}
use Rattle.inv_terms.specs.declared.violations.ModelViolation.{ModelViolation}
use Rattle.term_table.specs.Contexts.{root_context}
use Rattle.inv_terms.proofs.WalkLemmas.{Walk, walk_begins, walk_step}
use Rattle.inv_terms.proofs.validity.earliest_missing.Goals as goal

pub entries-init : goal.entries-init
entries-init c =
    let es = c.args.entries.now in
    subst (λ (first : Option ModelViolation). Walk es root_context es first) (sym c.first_missing-first.ensures) (walk_begins es)

pub entries-preserved : goal.entries-preserved
entries-preserved c =
    walk_step c.args.entries.now c.entries.before c.entries.rest.now c.in-Some.e.now c.in-Some.behind.now c.entries.first c.in-Some.ensures.cases.0 c.requires
    c.entries.invariant c.with_outer-outer.result c.with_inner-first.result c.with_outer-outer.ensures c.with_inner-first.ensures
