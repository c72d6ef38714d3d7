use Rattle.std.proofs.Common.{◌≡◌, length}
use Rattle.std.specs.Vec.Iter.{into_iter_items, into_iter_len}
use Rattle.xpath_grammar.specs.Machine as m
use Rattle.xpath_syntax.specs.Values.{values}
use Rattle.xpath_syntax.proofs.steps.parsed.Given as goal

abbrev pub invariant-tokens : goal.invariant-tokens
invariant-tokens l = (m.run values (into_iter_items l.token-iterator) (m.at l.mode l.stack) ≡ m.parsed values l.fn.tokens.items) ×
    (into_iter_len l.token-iterator ≡ length (into_iter_items l.token-iterator))
