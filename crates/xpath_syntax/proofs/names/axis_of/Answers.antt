use Rattle.std.proofs.Common.{ap, sym, ◌∙◌}
use Rattle.xpath_grammar.specs.Grammar.{named_in, axis_word, axes, axis_of}
use Rattle.xpath_syntax.proofs.names.axis_of.Goals as goal

pub returns-in-Plain : goal.returns-in-Plain
returns-in-Plain c = c.named.ensures ∙ (ap (named_in axis_word axes) c.as_str.ensures ∙ ap axis_of (sym c.in-Plain.is))
