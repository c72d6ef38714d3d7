use Rattle.std.proofs.Common.{ap, ◌∙◌, ◌++◌, append-nil}
use Rattle.xml_write.specs.Calls.{content_text, behind_text}
use Rattle.xml_write.proofs.SizeLemmas.{content_text-append, behind_text-append, gauged-texts}
use Rattle.xml_write.proofs.laws.texts_are_joined.Goals as goal

pub returns-clause-appended : goal.returns-clause-appended
returns-clause-appended c =
    λ state a b. ap (λ t. content_text state a ++ t) (append-nil (content_text (behind_text state a) b)) ∙ content_text-append state a b

pub returns-clause-state : goal.returns-clause-state
returns-clause-state c = behind_text-append

pub returns-clause-gauged : goal.returns-clause-gauged
returns-clause-gauged c = gauged-texts
