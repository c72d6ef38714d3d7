use Rattle.std.proofs.Common.{ap}
use Rattle.svrl_report.specs.Calls.{byte_calls}
use Rattle.svrl_report.proofs.SvrlLemmas.{bytes-of}
use Rattle.svrl_report.proofs.WriterSteps.{Makes-same}
use Rattle.svrl_report.proofs.elements.put_words.Goals as goal

pub returns-clause-makes : goal.returns-clause-makes
returns-clause-makes g c = Makes-same _ _ _ _ _ _ _ (ap byte_calls (bytes-of c.as_str.result.now c.args.text.now c.as_str.utf8 c.as_str.ensures))
    c.put_text.ensures.makes
