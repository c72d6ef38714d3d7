use Rattle.std.proofs.Common.{◌∷◌, [], ap, sym, ◌∙◌, codes}
use Rattle.xml_write.specs.Calls.{call_attribute}
use Rattle.svrl_report.specs.Calls.{flag_calls}
use Rattle.svrl_report.proofs.SvrlLemmas.{code-bytes}
use Rattle.svrl_report.proofs.WriterSteps.{Makes-same}
use Rattle.svrl_report.proofs.elements.put_flag.Goals as goal

pub returns-in-Error-clause-makes : goal.returns-in-Error-clause-makes
returns-in-Error-clause-makes g c =
    Makes-same _ _ _ _ _ _ _ (ap (λ v. call_attribute (codes "flag") v ∷ []) (c.code_of.ensures ∙ code-bytes c.in-Error.error) ∙
    ap (λ o. flag_calls o c.args.flag.now) (sym c.in-Error.is)) c.attribute.ensures.makes
