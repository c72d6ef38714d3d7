use Rattle.std.proofs.Common.{◌≤◌, ◌++◌, ◌∙◌, length, ap, append-nil, map, sym, arith}
use Rattle.std.proofs.Math.Seq.{map-set_same}
use Rattle.std.proofs.lemmas.List.Elements.{All-set}
use Rattle.std.proofs.lemmas.Option.{slice_get_past}
use Rattle.schematron_run.specs.Firsts.{by_entry}
use Rattle.schematron_run.specs.Ready.{ready_rule, IsRuleFor}
use Rattle.schematron_run.specs.Inputs.{nodes_of}
use Rattle.schematron_run.proofs.ListLemmas.{on_ok}
use Rattle.schematron_run.proofs.FirstLemmas.{no_entry}
use Rattle.schematron_run.proofs.nodes.judge_by_entry.Goals as goal

pub judge_by_rule-requires-clause-ready : goal.judge_by_rule-requires-clause-ready
judge_by_rule-requires-clause-ready g c = c.requires.ready c.in-Some.k _ (omega arith)

pub returns-then-place-rules-clause-same : goal.returns-then-place-rules-clause-same
returns-then-place-rules-clause-same g c =
    on_ok c.judge_by_rule.result (λ e. map-set_same ready_rule c.args.rules.now c.in-Some.k c.judge_by_rule.new.rule _ e) c.judge_by_rule.ensures.same

pub returns-then-place-rules-clause-ready : goal.returns-then-place-rules-clause-ready
returns-then-place-rules-clause-ready g c =
    on_ok c.judge_by_rule.result (λ h. All-set (IsRuleFor c.args.input.now.doc.now) c.args.rules.now c.in-Some.k c.judge_by_rule.new.rule h c.requires.ready)
    c.judge_by_rule.ensures.ready

pub returns-else-place-rules-clause-found : goal.returns-else-place-rules-clause-found
returns-else-place-rules-clause-found g c =
    let nodes = nodes_of c.args.input.now in
    let rules = c.args.rules.now in
    let old = c.args.findings.now in
    let past : length rules ≤ c.in-Some.k = omega arith in
    sym (append-nil old)
    ∙ ap (λ lines. old ++ lines)
    (sym (ap (by_entry nodes c.args.env.now (map ready_rule rules) c.args.n) c.in-Some.is ∙
    no_entry nodes c.args.env.now rules c.args.n c.in-Some.k (slice_get_past rules c.in-Some.k past)))
