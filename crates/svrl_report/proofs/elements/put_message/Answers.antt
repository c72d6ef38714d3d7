use Rattle.std.proofs.Common.{◌∷◌, [], ◌++◌, codes}
use Rattle.xml_write.specs.Calls.{call_start, call_end}
use Rattle.svrl_report.specs.Calls as calls
use Rattle.svrl_report.proofs.WriterSteps.{begin, step, broken, last}
use Rattle.svrl_report.proofs.elements.put_message.Goals as goal

pub returns-in_err-start-clause-makes : goal.returns-in_err-start-clause-makes
returns-in_err-start-clause-makes g c = broken _ _ _ _ _ _ _ _ (call_start (codes "svrl:text") ∷ []) ((calls.text_calls c.args.message.now) ++
    (call_end (codes "svrl:text") ∷ [])) c.from_residual.ensures.0 c.in_err-start.ensures.makes (begin _ _ _)

pub returns-in_err-put_words-clause-makes : goal.returns-in_err-put_words-clause-makes
returns-in_err-put_words-clause-makes g c = broken _ _ _ _ _ _ _ _ (calls.text_calls c.args.message.now)
    (call_end (codes "svrl:text") ∷ []) c.from_residual-in_err-put_words.ensures.0 c.in_err-put_words.ensures.makes
    (step _ _ _ _ _ _ _ (call_start (codes "svrl:text") ∷ []) ((calls.text_calls c.args.message.now) ++ (call_end (codes "svrl:text") ∷ []))
    c.in_ok-start.ensures.makes (begin _ _ _))

pub returns-clause-makes : goal.returns-clause-makes
returns-clause-makes g c = last _ _ _ _ _ _ _ _ (call_end (codes "svrl:text") ∷ []) c.end.ensures.makes
    (step _ _ _ _ _ _ _ (calls.text_calls c.args.message.now) (call_end (codes "svrl:text") ∷ []) c.in_ok-put_words.ensures.makes
    (step _ _ _ _ _ _ _ (call_start (codes "svrl:text") ∷ []) ((calls.text_calls c.args.message.now) ++ (call_end (codes "svrl:text") ∷ []))
    c.in_ok-start.ensures.makes (begin _ _ _)))
