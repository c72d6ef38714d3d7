use Rattle.std.proofs.Common.{◌≡◌, ◌++◌, ◌∷◌, ◌∙◌, [], ap, append_assoc, length, map, take}
use Rattle.std.specs.List.{flat_map}
use Rattle.inv_base.specs.Tree.{Node}
use Rattle.schematron_findings.specs.declared.finding.Line.TheVariants as l
use Rattle.schematron_rules.specs.Seen.{seen_rule, seen_lets}
use Rattle.schematron_run.specs.Judging.{by_first, filled}
use Rattle.schematron_run.specs.Inputs.{nodes_of}
use Rattle.schematron_run.proofs.LetLemmas.{cut_off}
use Rattle.schematron_run.proofs.patterns.judge_pattern.Goals as goal

pub returns-clause-found : goal.returns-clause-found
returns-clause-found g c =
    let nodes = nodes_of c.args.input.now in
    let pattern = c.args.pattern.now in
    let old = c.args.findings.now in
    let env = c.args.env.now in
    let inner = filled nodes 0 (seen_lets pattern.lets) env in
    let inside : c.fill_once.new.env ≡ inner =
    c.in_ok-fill_once.ensures.filled ∙ (ap (λ n. filled nodes n (seen_lets c.as_slice.result.now) env) c.document.ensures.number ∙
    ap (λ lets. filled nodes 0 (seen_lets lets) env) c.as_slice.ensures) in
    let told = flat_map (λ (node : Node). by_first nodes inner node 0 (map seen_rule pattern.rules)) nodes in
    c.in_ok-judge_by_rules.ensures.found
    ∙ (ap (λ v. c.push.new.self ++ flat_map (λ (node : Node). by_first nodes v node 0 (map seen_rule c.as_slice-2.result.now)) nodes) inside
    ∙ (ap (λ rules. c.push.new.self ++ flat_map (λ (node : Node). by_first nodes inner node 0 (map seen_rule rules)) nodes) c.as_slice-2.ensures
    ∙ (ap (λ lines. lines ++ told) c.in_ok-push.ensures.ok
    ∙ (ap (λ id. (old ++ l.Pattern id ∷ []) ++ told) c.lent_label-id.ensures
    ∙ append_assoc old (l.Pattern pattern.id ∷ []) told))))

pub returns-clause-env : goal.returns-clause-env
returns-clause-env g c =
    let nodes = nodes_of c.args.input.now in
    c.truncate.ensures
    ∙ (ap (take c.len-before.result) c.in_ok-judge_by_rules.ensures.env
    ∙ (ap (λ k. take k c.fill_once.new.env) c.len-before.ensures
    ∙ (ap (take (length c.args.env.now)) c.in_ok-fill_once.ensures.filled ∙ cut_off nodes c.document.result (seen_lets c.as_slice.result.now) c.args.env.now)))
