use Rattle.std.proofs.Common.{◌++◌, ◌∙◌, ap, get_or, map, sym, subst}
use Rattle.std.proofs.lemmas.List.{drop_more}
use Rattle.xpath_steps.specs.Variables.{ValuesWithin}
use Rattle.schematron_rules.specs.Seen.{seen_pattern}
use Rattle.schematron_run.specs.Judging.{by_number}
use Rattle.schematron_run.specs.Inputs.{nodes_of, count}
use Rattle.schematron_run.proofs.ListLemmas.{flat_next-plain, flat_done-plain}
use Rattle.schematron_run.proofs.patterns.judge_patterns.Goals as goal

pub judge_by_number-requires-clause-variables : goal.judge_by_number-requires-clause-variables
judge_by_number-requires-clause-variables g c = subst (ValuesWithin (count c.args.input.now)) (sym c.numbers.invariant.env) c.requires.variables

pub judge_by_number-requires-clause-long : goal.judge_by_number-requires-clause-long
judge_by_number-requires-clause-long g c = c.numbers.invariant.long ∙ c.requires.long

pub judge_by_number-requires-clause-clear : goal.judge_by_number-requires-clause-clear
judge_by_number-requires-clause-clear g c = c.numbers.invariant.clear

pub numbers-preserved : goal.numbers-preserved
numbers-preserved g c =
    let nodes = nodes_of c.args.input.now in
    let patterns = map seen_pattern c.args.patterns.now in
    let numbers = c.args.numbers.now in
    let k = get_or numbers c.numbers.k-index 0 in
    record {
      env = c.in_ok-judge_by_number.ensures.env ∙ c.numbers.invariant.env;
      long = c.judge_by_number.ensures.long ∙ c.numbers.invariant.long;
      clear = c.in_ok-judge_by_number.ensures.clear;
      found = flat_next-plain (by_number nodes c.args.env.now patterns) numbers c.numbers.k-index k c.numbers.findings c.judge_by_number.new.findings
          (drop_more numbers c.numbers.k-index 0 c.numbers-test.true)
          (c.in_ok-judge_by_number.ensures.found ∙ ap (λ env. c.numbers.findings ++ by_number nodes env patterns k) c.numbers.invariant.env)
          c.numbers.invariant.found;
    }

pub returns : goal.returns
returns g c =
    flat_done-plain (by_number (nodes_of c.args.input.now) c.args.env.now (map seen_pattern c.args.patterns.now)) c.args.numbers.now c.numbers.k-index
    c.numbers.findings c.numbers-test.false
    c.numbers.invariant.found
