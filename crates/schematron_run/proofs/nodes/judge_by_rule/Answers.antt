use Rattle.std.proofs.Common.{◌++◌, ◌∷◌, ◌∙◌, [], ap, append_assoc, map}
use Rattle.std.specs.List.{flat_map}
use Rattle.schematron_findings.specs.declared.finding.Line.TheVariants as l
use Rattle.schematron_run.specs.Judging.{by_assertion, filled}
use Rattle.schematron_run.specs.Ready.{ready_assertion, ready_let}
use Rattle.schematron_run.specs.Inputs.{nodes_of}
use Rattle.schematron_run.proofs.ListLemmas.{on_ok}
use Rattle.schematron_run.proofs.nodes.judge_by_rule.Goals as goal

pub returns-clause-found : goal.returns-clause-found
returns-clause-found g c =
    let nodes = nodes_of c.args.input.now in
    let rule = c.args.rule.now in
    let told = flat_map (by_assertion nodes c.args.n (filled nodes c.args.n (map ready_let rule.lets.items) c.args.env.now))
    (map ready_assertion rule.assertions.items) in
    let old = c.args.findings.now in
    on_ok c.judge_inside.result
    (λ e. e ∙ (ap (λ lines. lines ++ told) c.in_ok-push.ensures.ok
    ∙ (ap (λ context. (old ++ l.Fired c.args.n c.args.k context ∷ []) ++ told) c.lent_text-context.ensures
    ∙ append_assoc old (l.Fired c.args.n c.args.k rule.source.now.context.text ∷ []) told)))
    c.judge_inside.ensures.found
