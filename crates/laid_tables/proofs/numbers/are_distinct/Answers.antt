use Rattle.std.proofs.Common.{List, ℕ}
use Rattle.xml_state.proofs.LookupLemmas.{counted-found, counted-new, counts-more}
use Rattle.bind_table.specs.declared.lines.Line.{Line}
use Rattle.laid_tables.specs.Lines.{line_numbers}
use Rattle.laid_tables.proofs.DistinctLemmas.{number-within, number-at, some-twice, none-twice}
use Rattle.laid_tables.proofs.numbers.are_distinct.Goals as goal

pub returns-then-not-branch : goal.returns-then-not-branch
returns-then-not-branch c =
    let lines : List Line = c.args.lines.now in
    let all : List ℕ = line_numbers lines in
    let within = number-within lines c.lines.line-index c.lines-test.true in
    let is = number-at lines c.lines.line-index c.line-item.result c.lines-test.true c.line-item.is in
    some-twice all
    (counted-found all c.lines.line-index c.line-item.result.step.number c.lines.seen _ _ within is c.lines.invariant.twice c.lines.invariant.has
    c.in_ok-insert.ensures.added c.if-not-branch.true)

pub lines-preserved : goal.lines-preserved
lines-preserved c =
    let lines : List Line = c.args.lines.now in
    let all : List ℕ = line_numbers lines in
    let within = number-within lines c.lines.line-index c.lines-test.true in
    let is = number-at lines c.lines.line-index c.line-item.result c.lines-test.true c.line-item.is in
    record {
      twice =
          counted-new all c.lines.line-index c.line-item.result.step.number c.lines.seen _ _ within is c.lines.invariant.twice c.lines.invariant.has
          c.in_ok-insert.ensures.added c.if-not-branch.false;
      has =
          counts-more all c.lines.line-index c.line-item.result.step.number c.lines.seen _ _ within is c.lines.invariant.twice c.lines.invariant.has
          c.in_ok-insert.ensures.added c.insert.new.self c.in_ok-insert.ensures.updates;
    }

pub returns : goal.returns
returns c = none-twice c.args.lines.now c.lines.line-index c.lines-test.false c.lines.invariant.twice
