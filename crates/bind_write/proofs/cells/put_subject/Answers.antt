use Rattle.std.proofs.Common.{◌∷◌, [], ◌++◌}
use Rattle.std.specs.Prelude.{encode_utf8_all}
use Rattle.inv_terms.specs.Values.{spelled}
use Rattle.bind_write.proofs.WriterSteps.{goes-same, GoesOn-at_err, text-begin, text-step, text-last, text-break}
use Rattle.bind_write.proofs.TextLemmas.{subject-bytes}
use Rattle.bind_write.proofs.cells.put_subject.Goals as goal

pub returns-in_err-put_part-clause-makes : goal.returns-in_err-put_part-clause-makes
returns-in_err-put_part-clause-makes g c =
    goes-same _ _ _ _ _ _ _ (subject-bytes c.args.code.now)
    (GoesOn-at_err _ _ _ _ _ _ c.from_residual.ensures.0
    (text-break _ _ _ _ _ _ (35 ∷ []) (encode_utf8_all (spelled c.args.code.now) ++ (35 ∷ [])) c.in_err-put_part.ensures.makes (text-begin _ _ _)))

pub returns-in_err-put_value_part-clause-makes : goal.returns-in_err-put_value_part-clause-makes
returns-in_err-put_value_part-clause-makes g c =
    goes-same _ _ _ _ _ _ _ (subject-bytes c.args.code.now)
    (GoesOn-at_err _ _ _ _ _ _ c.from_residual-in_err-put_value_part.ensures.0
    (text-break _ _ _ _ _ _ (encode_utf8_all (spelled c.args.code.now)) (35 ∷ []) c.in_err-put_value_part.ensures.makes
    (text-step _ _ _ _ _ _ _ (35 ∷ []) (encode_utf8_all (spelled c.args.code.now) ++ (35 ∷ [])) c.in_ok-put_part.ensures.makes (text-begin _ _ _))))

pub returns-clause-makes : goal.returns-clause-makes
returns-clause-makes g c =
    goes-same _ _ _ _ _ _ _ (subject-bytes c.args.code.now)
    (text-last _ _ _ _ _ _ _ _ (35 ∷ []) c.put_part-2.ensures.makes
    (text-step _ _ _ _ _ _ _ (encode_utf8_all (spelled c.args.code.now)) (35 ∷ []) c.in_ok-put_value_part.ensures.makes
    (text-step _ _ _ _ _ _ _ (35 ∷ []) (encode_utf8_all (spelled c.args.code.now) ++ (35 ∷ [])) c.in_ok-put_part.ensures.makes (text-begin _ _ _))))
