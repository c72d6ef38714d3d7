use Rattle.std.proofs.Common.{◌∙◌, rules}
use Rattle.std.proofs.lemmas.Fn.{always_returns_same}
use Rattle.xpath_operators.specs.Ranks.{item_cmp}
use Rattle.xpath_operators.proofs.RowLemmas.{searched_is}
use Rattle.xpath_operators.proofs.ranking.is_in.Goals as goal

pub returns : goal.returns
returns c =
    c.is_ok.ensures.value
    ∙ searched_is c.args.ranked.now c.args.item.now c.binary_search_by.result c.requires c.binary_search_by.ensures.bound
    (c.binary_search_by.ensures.position (λ known. item_cmp known.item.now c.args.item.now) (always_returns_same _ _ _ (λ a r q k. search rules)))
