use Rattle.std.proofs.Common.{◌≡◌, ◌++◌, ◌∙◌, List, ap, length, map, take, sym, subst}
use Rattle.std.specs.List.{All, flat_map}
use Rattle.schematron_rules.specs.Seen.{seen_shown}
use Rattle.schematron_run.specs.declared.ready.ReadyAssertion.{ReadyAssertion}
use Rattle.schematron_run.specs.declared.ready.ReadyLet.{ReadyLet}
use Rattle.schematron_run.specs.Judging.{by_assertion, filled}
use Rattle.schematron_run.specs.Ready.{ready_assertion, ready_let, IsAssertionFor, IsLetFor}
use Rattle.schematron_run.specs.Inputs.{nodes_of}
use Rattle.schematron_run.proofs.LetLemmas.{cut_off}
use Rattle.schematron_run.proofs.ListLemmas.{back_seen, back_all}
use Rattle.schematron_run.proofs.nodes.judge_inside.Goals as goal

pub fill-requires-clause-ready : goal.fill-requires-clause-ready
fill-requires-clause-ready g c = subst (All (IsLetFor c.args.input.now.doc.now)) (sym c.as_mut_slice.ensures.value) c.requires.ready.lets

pub judge_assertions-requires-clause-ready : goal.judge_assertions-requires-clause-ready
judge_assertions-requires-clause-ready g c = subst (All (IsAssertionFor c.args.input.now.doc.now))
    (sym c.as_mut_slice-2.ensures.value) c.requires.ready.assertions

pub returns-clause-found : goal.returns-clause-found
returns-clause-found g c =
    let nodes = nodes_of c.args.input.now in
    let n = c.args.n in
    let old = c.args.findings.now in
    let variables = filled nodes n (map ready_let c.args.rule.now.lets.items) c.args.env.now in
    let inside : c.fill.new.env ≡ variables =
    c.in_ok-fill.ensures.filled ∙ ap (λ (lets : List ReadyLet). filled nodes n (map ready_let lets) c.args.env.now) c.as_mut_slice.ensures.value in
    c.in_ok-judge_assertions.ensures.found
    ∙ (ap (λ env. old ++ flat_map (by_assertion nodes n env) (map ready_assertion c.as_mut_slice-2.result.now)) inside
    ∙ ap (λ (found : List ReadyAssertion). old ++ flat_map (by_assertion nodes n variables) (map ready_assertion found)) c.as_mut_slice-2.ensures.value)

pub returns-clause-env : goal.returns-clause-env
returns-clause-env g c =
    let nodes = nodes_of c.args.input.now in
    c.truncate.ensures
    ∙ (ap (λ k. take k c.fill.new.env) c.len-before.ensures
    ∙ (ap (take (length c.args.env.now)) c.in_ok-fill.ensures.filled ∙ cut_off nodes c.args.n (map ready_let c.as_mut_slice.result.now) c.args.env.now))

pub returns-clause-same : goal.returns-clause-same
returns-clause-same g c =
    let rule = c.args.rule.now in
    let lets = back_seen ready_let rule.lets c.as_mut_slice.result.now c.fill.new.lets c.as_mut_slice.ensures.len c.in_ok-fill.ensures.same
    c.as_mut_slice.ensures.value in
    let assertions = back_seen ready_assertion rule.assertions c.as_mut_slice-2.result.now c.judge_assertions.new.assertions c.as_mut_slice-2.ensures.len
    c.in_ok-judge_assertions.ensures.same
    c.as_mut_slice-2.ensures.value in
    λ i. record { context = seen_shown rule.source.now.context; lets = lets i; assertions = assertions i }

pub returns-clause-ready : goal.returns-clause-ready
returns-clause-ready g c =
    let rule = c.args.rule.now in
    let document = c.args.input.now.doc.now in
    record {
      lets = back_all ready_let rule.lets c.as_mut_slice.result.now c.fill.new.lets c.as_mut_slice.ensures.len c.in_ok-fill.ensures.same
          (IsLetFor document) c.in_ok-fill.ensures.ready;
      assertions = back_all ready_assertion rule.assertions c.as_mut_slice-2.result.now c.judge_assertions.new.assertions c.as_mut_slice-2.ensures.len
          c.in_ok-judge_assertions.ensures.same
          (IsAssertionFor document) c.in_ok-judge_assertions.ensures.ready;
    }
