use Rattle.inv_decimal.proofs.Grammar.{read_from_written, written_from_read}
use Rattle.inv_decimal.proofs.laws.readings_follow_the_grammar.Goals as goal

pub returns : goal.returns
returns c = λ text s. (written_from_read text s, read_from_written text s)
