use Rattle.xml_tokens.proofs.FrontLemmas.{all-calm}
use Rattle.xml_tokens.proofs.ascii.are_calm.Goals as goal

pub returns : goal.returns
returns c = all-calm c.args.bytes.now c.front_len.result c.front_len.ensures.exact
