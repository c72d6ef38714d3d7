use Rattle.std.proofs.Common.{List, Option, Some, None, ◌≡◌, refl, sym, ◌∙◌}
use Rattle.std.proofs.lemmas.Option.{none-some}
use Rattle.xpath_tokens.specs.declared.token.Token.{Token}
use Rattle.xpath_grammar.specs.Grammar.{Tree, Spells}
use Rattle.xpath_grammar.specs.Machine.{tree_of}
use Rattle.xpath_grammar.proofs.Complete.{finds_spelled}
use Rattle.xpath_grammar.proofs.Sound.{tree_spelled}
use Rattle.xpath_grammar.proofs.laws.machine_reads.Goals as goal

nothing_found : (tokens : List Token) (found : Option Tree) → tree_of tokens ≡ found → ((x : Tree) → Spells tokens x → ⊥) → tree_of tokens ≡ None
nothing_found tokens None e h = e
nothing_found tokens (Some x) e h = absurd (h x (tree_spelled tokens x e))

pub returns-clause-found : goal.returns-clause-found
returns-clause-found c = λ tokens x. (tree_spelled tokens x, finds_spelled tokens x)

pub returns-clause-nothing : goal.returns-clause-nothing
returns-clause-nothing c = λ tokens. (λ e x s. none-some x (sym e ∙ finds_spelled tokens x s), nothing_found tokens (tree_of tokens) refl)
