use Rattle.std.proofs.Common.{◌≡◌, drop}
use Rattle.std.specs.Str.{chars}
use Rattle.xpath_grammar.specs.Grammar.{named_in}
use Rattle.xpath_grammar.proofs.words.named.Given as goal

abbrev pub invariant-values : goal.invariant-values
invariant-values g l = named_in g.T.Worded.spelling (drop l.value-index l.values) (chars l.text) ≡ named_in g.T.Worded.spelling l.values (chars l.text)
