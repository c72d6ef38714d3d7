use Rattle.std.proofs.Common.{ap}
use Rattle.std.specs.Prelude.{encode_utf8_all, option_copied}
use Rattle.bind_write.specs.Cells.{subject_text}
use Rattle.bind_write.specs.Wordings.{plain_text}
use Rattle.bind_write.proofs.WriterSteps.{goes-same, GoesOn-at_err, text-begin, text-step, text-last, text-break}
use Rattle.bind_write.proofs.TextLemmas.{note-bytes}
use Rattle.bind_write.proofs.cells.put_text_of.Goals as goal

pub returns-in_err-put_subject-in-Some-clause-makes : goal.returns-in_err-put_subject-in-Some-clause-makes
returns-in_err-put_subject-in-Some-clause-makes g c =
    goes-same _ _ _ _ _ _ _ (note-bytes _ _ _ (ap option_copied c.in-Some.is))
    (GoesOn-at_err _ _ _ _ _ _ c.from_residual.ensures.0
    (text-break _ _ _ _ _ _ (encode_utf8_all (subject_text c.in-Some.code.now))
    (encode_utf8_all (plain_text c.args.wording.now.text)) c.in_err-put_subject-in-Some.ensures.makes (text-begin _ _ _)))

pub returns-in_ok-put_subject-in-Some-clause-makes : goal.returns-in_ok-put_subject-in-Some-clause-makes
returns-in_ok-put_subject-in-Some-clause-makes g c =
    goes-same _ _ _ _ _ _ _ (note-bytes _ _ _ (ap option_copied c.in-Some.is))
    (text-last _ _ _ _ _ _ _ _ (encode_utf8_all (plain_text c.args.wording.now.text)) c.put_plain-in-Some.ensures.makes
    (text-step _ _ _ _ _ _ _ (encode_utf8_all (subject_text c.in-Some.code.now))
    (encode_utf8_all (plain_text c.args.wording.now.text)) c.in_ok-put_subject-in-Some.ensures.makes (text-begin _ _ _)))
