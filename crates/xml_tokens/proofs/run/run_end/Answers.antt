use Rattle.xml_tokens.proofs.FrontLemmas.{place-there, place-nowhere}
use Rattle.xml_tokens.proofs.run.run_end.Goals as goal

pub returns-then-end-bytes : goal.returns-then-end-bytes
returns-then-end-bytes c = place-there c.args.bytes.now c.front_len-end.result c.front_len-end.ensures.exact c.if-end-bytes.true

pub returns-else-end-bytes : goal.returns-else-end-bytes
returns-else-end-bytes c = place-nowhere c.args.bytes.now c.front_len-end.result c.front_len-end.ensures.exact c.if-end-bytes.false
