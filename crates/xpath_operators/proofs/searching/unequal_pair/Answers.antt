use Rattle.std.proofs.Common.{◌∙◌, sym}
use Rattle.xpath_operators.proofs.RowLemmas.{alike_is, unlike_is, some_right}
use Rattle.xpath_operators.proofs.searching.unequal_pair.Goals as goal

pub returns-then-are_equal : goal.returns-then-are_equal
returns-then-are_equal c =
    let ys = c.args.ys.now in
    c.some_beside.ensures
    ∙ alike_is c.args.xs.now ys c.index-ys-0.result c.requires.comparable (some_right c.args.xs.now ys c.requires.comparable) c.index-ys-0.is
    (sym c.are_equal.ensures ∙ c.if-are_equal.true)

pub returns-else-are_equal : goal.returns-else-are_equal
returns-else-are_equal c =
    let ys = c.args.ys.now in
    c.with_some.ensures
    ∙ unlike_is c.args.xs.now ys c.index-xs-0.result c.index-ys-0.result c.requires.comparable c.requires.some
    (some_right c.args.xs.now ys c.requires.comparable) c.index-xs-0.is c.index-ys-0.is
    (sym c.are_equal.ensures ∙ c.if-are_equal.false)
