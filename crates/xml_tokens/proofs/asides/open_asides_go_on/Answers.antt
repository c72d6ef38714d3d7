use Rattle.xml_tokens.proofs.OpenLemmas.{open-begins, open-grows}
use Rattle.xml_tokens.proofs.asides.open_asides_go_on.Goals as goal

pub returns-clause-begins : goal.returns-clause-begins
returns-clause-begins c = λ position bytes more aside ended is. open-begins position bytes more aside is ended

pub returns-clause-grows : goal.returns-clause-grows
returns-clause-grows c = λ position bytes more aside is. open-grows position bytes more aside is
