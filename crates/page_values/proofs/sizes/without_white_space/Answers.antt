use Rattle.std.proofs.Common.{rules, tests}
use Rattle.std.specs.Prelude.{not}
use Rattle.std.proofs.lemmas.Iterator.{YieldsList-from_chars, text_from_collect}
use Rattle.std.proofs.lemmas.Iterator.Consumers.{YieldsList-from_filter}
use Rattle.std.proofs.lemmas.Result.{IfOk-at_ok}
use Rattle.inv_base.specs.Characters.{is_white_space}
use Rattle.page_values.proofs.sizes.without_white_space.Goals as goal

pub returns : goal.returns
returns c =
    IfOk-at_ok _ c.in_ok-bare.was (text_from_collect c.collect.result c.collect.ensures.ran
    (YieldsList-from_filter _ (λ x. not (is_white_space x)) (YieldsList-from_chars c.args.text.now c.utf8.text cc) c.filter.ensures.closure
    (λ x b q k. search (rules, tests))))
