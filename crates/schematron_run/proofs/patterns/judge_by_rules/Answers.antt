use Rattle.std.proofs.Common.{◌≡◌, ◌++◌, ◌∙◌, ap, map, sym, subst}
use Rattle.std.specs.List.{All, flat_map}
use Rattle.schematron_rules.specs.Seen.{seen_rule}
use Rattle.schematron_run.specs.Firsts.{entry, by_entry, AreBelow}
use Rattle.schematron_run.specs.Ready.{ready_rule, IsRuleFor}
use Rattle.schematron_run.specs.Inputs.{nodes_of}
use Rattle.schematron_run.proofs.FirstLemmas.{kept_below, kept_touched, all_found}
use Rattle.schematron_run.proofs.patterns.judge_by_rules.Goals as goal

pub judge_nodes-requires-clause-ready : goal.judge_nodes-requires-clause-ready
judge_nodes-requires-clause-ready g c = subst (All (IsRuleFor c.args.input.now.doc.now)) (sym c.as_mut_slice.ensures.value) c.in_ok-ready.ensures.ready

pub judge_nodes-requires-clause-long : goal.judge_nodes-requires-clause-long
judge_nodes-requires-clause-long g c = c.first_rules.ensures.long ∙ c.requires.long

pub judge_nodes-requires-clause-within : goal.judge_nodes-requires-clause-within
judge_nodes-requires-clause-within g c =
    let walked = c.documents_are_walkable.ensures in
    subst (λ k. AreBelow k c.as_slice.result.now) walked.long
    (kept_below (nodes_of c.args.input.now) walked.walkable c.first_rules.new.table c.as_slice.result.now
    (c.as_slice.ensures.value ∙ c.in_ok-touched.ensures.touched))

pub clear-requires-clause-within : goal.clear-requires-clause-within
clear-requires-clause-within g c =
    let walked = c.documents_are_walkable.ensures in
    subst (λ k. AreBelow k c.as_slice-2.result.now) (walked.long ∙ sym (c.first_rules.ensures.long ∙ c.requires.long))
    (kept_below (nodes_of c.args.input.now) walked.walkable c.first_rules.new.table c.as_slice-2.result.now
    (c.as_slice-2.ensures.value ∙ c.in_ok-touched.ensures.touched))

pub clear-requires-clause-touched : goal.clear-requires-clause-touched
clear-requires-clause-touched g c =
    let walked = c.documents_are_walkable.ensures in
    kept_touched (nodes_of c.args.input.now) walked.walkable c.first_rules.new.table c.as_slice-2.result.now
    (c.first_rules.ensures.long ∙ (c.requires.long ∙ sym walked.long)) (c.as_slice-2.ensures.value ∙ c.in_ok-touched.ensures.touched)

pub returns-clause-found : goal.returns-clause-found
returns-clause-found g c =
    let nodes = nodes_of c.args.input.now in
    let env = c.args.env.now in
    let table = c.first_rules.new.table in
    let old = c.args.findings.now in
    let touched = c.as_slice.result.now in
    let walked = c.documents_are_walkable.ensures in
    let same : map ready_rule c.as_mut_slice.result.now ≡ map seen_rule c.args.rules.now =
    ap (map ready_rule) c.as_mut_slice.ensures.value ∙ c.in_ok-ready.ensures.seen in
    c.in_ok-judge_nodes.ensures.found
    ∙ (ap (λ rules. old ++ flat_map (λ n. by_entry nodes env rules n (entry table n)) touched) same
    ∙ ap (λ lines. old ++ lines)
    (all_found nodes walked.walkable env (map seen_rule c.args.rules.now) table touched c.in_ok-touched.ensures.firsts
    (c.as_slice.ensures.value ∙ c.in_ok-touched.ensures.touched)))
