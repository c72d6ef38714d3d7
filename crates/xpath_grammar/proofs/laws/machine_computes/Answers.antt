use Rattle.xpath_grammar.proofs.Algebras.{parsed_over}
use Rattle.xpath_grammar.proofs.laws.machine_computes.Goals as goal

pub returns : goal.returns
returns g c = λ A tokens. parsed_over A tokens
