use Rattle.std.proofs.Common.{ℕ, ◌<◌, ◌≤◌, ◌∙◌, subst}
use Rattle.schematron_meaning.specs.Written.{outer_scope}
use Rattle.schematron_meaning.specs.Expansion.{instances}
use Rattle.schematron_faults.proofs.AgainLemmas.{behind_turn}
use Rattle.schematron_faults.proofs.LoopLemmas.{patterns_more, patterns_end}
use Rattle.schematron_faults.proofs.SearchLemmas.{goes_none}
use Rattle.schematron_faults.proofs.patterns.judge_patterns.Goals as goal

pub instances-init : goal.instances-init
instances-init c = record { goes = λ is. goes_none c.args.search.now; scopes = c.in_ok-scopes.ensures }

pub instances-preserved : goal.instances-preserved
instances-preserved c = record {
  goes = λ is. patterns_more c.args.file.now (outer_scope c.args.file.now.entries) c.in_ok-instances.instances.items c.instances.at c.index.result.now
      c.args.search.now c.instances.search c.judge_instance.new.search
      (subst (λ (n : ℕ). c.instances.at < n) (c.len-at-end.ensures ∙ c.in_ok-instances.instances.ok.0) c.instances-test.true) c.index.ensures
      (c.instances.invariant.goes is)
      (c.in_ok-judge_instance.ensures.goes c.args.search.now is
      (behind_turn c.args.file.now c.in_ok-instances.instances.items c.deref.result.now c.instances.at c.index.result.now c.args.search.now c.instances.search
      c.deref.ensures.value c.in_ok-instances.ensures
      (subst (λ (n : ℕ). c.instances.at < n) (c.len-at-end.ensures ∙ c.in_ok-instances.instances.ok.0) c.instances-test.true) c.index.ensures c.requires.again
      c.requires.texts (c.instances.invariant.goes is)));
  scopes = c.in_ok-judge_instance.ensures.scopes;
}

pub returns : goal.returns
returns c = λ is. patterns_end c.args.file.now (outer_scope c.args.file.now.entries) c.in_ok-instances.instances.items
    (instances c.args.file.now.entries) c.instances.at c.args.search.now c.instances.search
    c.in_ok-instances.ensures (subst (λ (n : ℕ). n ≤ c.instances.at) (c.len-at-end.ensures ∙ c.in_ok-instances.instances.ok.0) c.instances-test.false)
    (c.instances.invariant.goes is)
