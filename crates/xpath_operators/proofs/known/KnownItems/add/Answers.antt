use Rattle.std.proofs.Common.{◌∙◌, ap}
use Rattle.std.specs.Prelude.{not}
use Rattle.xpath_operators.specs.Ranks.{has_alike}
use Rattle.xpath_operators.specs.Rows.{is_in}
use Rattle.xpath_operators.proofs.RowLemmas.{any_mapped, added_is}
use Rattle.xpath_operators.proofs.known.KnownItems.add.Goals as goal

pub returns-clause-new : goal.returns-clause-new
returns-clause-new c =
    let keys = c.self.inside.set.keys in
    c.in_ok-is_new.ensures.added ∙ ap not (ap (is_in keys) c.of.ensures ∙
    (any_mapped c.args.item.now keys ∙ ap (λ items. has_alike items c.args.item.now) c.self.view_is))

pub returns-clause-grown : goal.returns-clause-grown
returns-clause-grown c = λ x.
    added_is c.self.inside.set.keys c.insert.new.self.keys c.of.result c.args.item.now x c.args.self.now c.of.ensures c.self.view_is
    (c.in_ok-is_new.ensures.updates.0 (record { item = record c.args.item { now = x } }))
