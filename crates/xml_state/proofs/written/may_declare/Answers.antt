use Rattle.xml_state.proofs.WrittenLemmas.{declares-short, declares-other}
use Rattle.xml_state.proofs.written.may_declare.Goals as goal

pub returns-in-empty : goal.returns-in-empty
returns-in-empty c = λ h. declares-short c.as_bytes.result.now c.args.name.now c.as_bytes.ensures.value c.in-empty.len_below

pub returns-in-len1-up : goal.returns-in-len1-up
returns-in-len1-up c = λ h. declares-other c.as_bytes.result.now c.args.name.now c.as_bytes.ensures.value c.in-len1-up.len_at_least h
