use Rattle.std.proofs.Common.{◌++◌, ◌∙◌, ap, append-nil, sym}
use Rattle.schematron_rules.specs.Seen.{seen_pattern}
use Rattle.schematron_run.specs.Contexts.{HaveContexts}
use Rattle.schematron_run.specs.Inputs.{nodes_of}
use Rattle.schematron_run.proofs.ListLemmas.{on_ok, all_of}
use Rattle.schematron_run.proofs.FirstLemmas.{no_number, a_number}
use Rattle.schematron_run.proofs.patterns.judge_by_number.Goals as goal

pub judge_pattern-requires-clause-contexts : goal.judge_pattern-requires-clause-contexts
judge_pattern-requires-clause-contexts g c = all_of HaveContexts seen_pattern c.args.patterns.now c.args.k c.in-Some.pattern.now c.requires.contexts
    (sym c.in-Some.ensures)

pub returns-in-None-clause-found : goal.returns-in-None-clause-found
returns-in-None-clause-found g c =
    let old = c.args.findings.now in
    sym (append-nil old)
    ∙ ap (λ lines. old ++ lines) (sym (no_number (nodes_of c.args.input.now) c.args.env.now c.args.patterns.now c.args.k (sym c.in-None.ensures)))

pub returns-in-Some-clause-found : goal.returns-in-Some-clause-found
returns-in-Some-clause-found g c =
    let old = c.args.findings.now in
    on_ok c.judge_pattern.result
    (λ e. e ∙ ap (λ lines. old ++ lines)
    (sym (a_number (nodes_of c.args.input.now) c.args.env.now c.args.patterns.now c.args.k c.in-Some.pattern.now (sym c.in-Some.ensures))))
    c.judge_pattern.ensures.found
