use Rattle.std.proofs.Common.{◌∙◌, sym, subst}
use Rattle.schematron_rules.specs.Seen.{seen_rule}
use Rattle.schematron_run.specs.Firsts.{AreBelow}
use Rattle.schematron_run.specs.Inputs.{nodes_of, count}
use Rattle.schematron_run.proofs.ListLemmas.{on_ok, below_within}
use Rattle.schematron_run.proofs.FirstLemmas.{marked_by}
use Rattle.schematron_run.proofs.firsts.mark_rule.Goals as goal

pub mark-requires-clause-within : goal.mark-requires-clause-within
mark-requires-clause-within g c =
    subst (λ k. AreBelow k c.as_slice.result.now) (sym c.requires.long)
    (subst (AreBelow (count c.args.input.now)) (sym c.as_slice.ensures)
    (below_within (count c.args.input.now) c.in_ok-marks.marks c.in_ok-marks.ensures.within))

pub returns-clause-kept : goal.returns-clause-kept
returns-clause-kept g c =
    on_ok c.mark.result
    (marked_by (nodes_of c.args.input.now) c.documents_are_walkable.ensures.walkable c.args.env.now
    (seen_rule c.args.rule.now) c.as_slice.result.now c.args.number c.args.table.now c.mark.new.table
    (c.as_slice.ensures ∙ c.in_ok-marks.ensures.marks c.requires.context))
    c.mark.ensures.kept
