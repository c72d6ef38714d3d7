use Rattle.std.proofs.Common.{◌<◌, ◌++◌, ◌∙◌, ℕ, ap, map, sym, subst}
use Rattle.xpath_steps.specs.Variables.{ValuesWithin}
use Rattle.schematron_run.specs.Firsts.{entry, by_entry}
use Rattle.schematron_run.specs.Ready.{ready_rule}
use Rattle.schematron_run.specs.Inputs.{nodes_of, count}
use Rattle.schematron_run.proofs.ListLemmas.{below_at, drop_item, flat_next-plain, flat_done-plain}
use Rattle.schematron_run.proofs.nodes.judge_nodes.Goals as goal

pub entry_at-kept-requires : goal.entry_at-kept-requires
entry_at-kept-requires g c =
    subst (λ k. c.n-item.result < k) (sym c.requires.long)
    (below_at (count c.args.input.now) c.args.nodes.now c.nodes.n-index c.n-item.result c.requires.within c.n-item.is c.nodes-test.true)

pub judge_by_entry-requires-clause-ready : goal.judge_by_entry-requires-clause-ready
judge_by_entry-requires-clause-ready g c = c.nodes.invariant.ready

pub judge_by_entry-requires-clause-within : goal.judge_by_entry-requires-clause-within
judge_by_entry-requires-clause-within g c = below_at (count c.args.input.now) c.args.nodes.now c.nodes.n-index c.n-item.result c.requires.within c.n-item.is
    c.nodes-test.true

pub judge_by_entry-requires-clause-variables : goal.judge_by_entry-requires-clause-variables
judge_by_entry-requires-clause-variables g c = subst (ValuesWithin (count c.args.input.now)) (sym c.nodes.invariant.env) c.requires.variables

pub nodes-preserved : goal.nodes-preserved
nodes-preserved g c =
    let all = nodes_of c.args.input.now in
    let rules = map ready_rule c.args.rules.now in
    let n = c.n-item.result in
    record {
      same = c.in_ok-judge_by_entry.ensures.same ∙ c.nodes.invariant.same;
      ready = c.in_ok-judge_by_entry.ensures.ready;
      env = c.in_ok-judge_by_entry.ensures.env ∙ c.nodes.invariant.env;
      found = flat_next-plain (λ (n : ℕ). by_entry all c.args.env.now rules n (entry c.args.table.now n)) c.args.nodes.now c.nodes.n-index n c.nodes.findings
          c.judge_by_entry.new.findings
          (drop_item c.args.nodes.now c.nodes.n-index n c.n-item.is c.nodes-test.true)
          (c.in_ok-judge_by_entry.ensures.found
          ∙ (ap (λ seen. c.nodes.findings ++ by_entry all c.nodes.env seen n c.entry_at-kept.result) c.nodes.invariant.same
          ∙ (ap (λ env. c.nodes.findings ++ by_entry all env rules n c.entry_at-kept.result) c.nodes.invariant.env
          ∙ ap (λ kept. c.nodes.findings ++ by_entry all c.args.env.now rules n kept) c.entry_at-kept.ensures)))
          c.nodes.invariant.found;
    }

pub returns-clause-found : goal.returns-clause-found
returns-clause-found g c =
    flat_done-plain (λ (n : ℕ). by_entry (nodes_of c.args.input.now) c.args.env.now (map ready_rule c.args.rules.now) n (entry c.args.table.now n))
    c.args.nodes.now c.nodes.n-index c.nodes.findings
    c.nodes-test.false c.nodes.invariant.found
