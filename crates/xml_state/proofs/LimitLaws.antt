-- The limits of the code are those that the definitions give as numbers.
use Rattle.std.proofs.Common.{refl, ◌≡◌}
use Rattle.xml_state.specs.declared.limits.TheConstants.{DOCUMENT_LIMITS, RULE_LIMITS}
use Rattle.xml_state.specs.Sizes.{document_limits, rule_limits}

pub the-document-limits : DOCUMENT_LIMITS ≡ document_limits
the-document-limits = refl

pub the-rule-limits : RULE_LIMITS ≡ rule_limits
the-rule-limits = refl
