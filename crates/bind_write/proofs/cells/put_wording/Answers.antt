use Rattle.std.proofs.Common.{◌≡◌, ℕ, List, ap, [], ◌∷◌, ◌∙◌}
use Rattle.std.specs.Prelude.{option_copied}
use Rattle.xml_write.specs.Calls.{call_attribute}
use Rattle.bind_write.proofs.WriterSteps.{Makes-same}
use Rattle.bind_write.proofs.TextLemmas.{text-bytes, plain-note}
use Rattle.bind_write.proofs.cells.put_wording.Goals as goal

same_call : (a b c d : List ℕ) → a ≡ b → c ≡ d → call_attribute a c ∷ [] ≡ call_attribute b d ∷ []
same_call a b c d e f = ap (λ x. call_attribute x c ∷ []) e ∙ ap (λ x. call_attribute b x ∷ []) f

pub returns-clause-makes : goal.returns-clause-makes
returns-clause-makes g c =
    Makes-same _ _ _ _ _ _ _
    (same_call _ _ _ _ (text-bytes _ _ c.as_str.utf8 c.as_str.ensures)
    (text-bytes _ _ c.text_of.utf8 (c.text_of.ensures ∙ plain-note _ _ (ap option_copied c.requires.plain))))
    c.attribute.ensures.makes
