use Rattle.std.proofs.Common.{◌∙◌, ap, sym}
use Rattle.std.specs.List.{list_all}
use Rattle.xpath_operators.specs.Rows.{is_typed_as}
use Rattle.xpath_operators.proofs.ReadLemmas.{alike_answered}
use Rattle.xpath_operators.proofs.rows.read_alike.Goals as goal

pub returns-then-are_typed_as : goal.returns-then-are_typed_as
returns-then-are_typed_as c = alike_answered (λ items. items.items) c.index-xs-0.result c.args.xs.now c.args.ys.now c.rows.result
    (ap (λ kind. list_all (is_typed_as kind) c.args.xs.now) (sym c.rank.ensures) ∙ (sym c.are_typed_as.ensures ∙ c.if-are_typed_as.true)) c.requires.ys
    c.rows.ensures
