use Rattle.std.proofs.Common.{sym, ap, ◌∙◌, Some}
use Rattle.inv_terms.proofs.TrimLemmas.{identifier-empty, identifier-full}
use Rattle.inv_terms.proofs.values.identifier_of.Goals as goal

pub returns-then-is_empty : goal.returns-then-is_empty
returns-then-is_empty c = identifier-empty _ _ c.trimmed-identifier.utf8 c.trimmed-identifier.ensures (sym c.is_empty.ensures ∙ c.if-is_empty.true)

pub returns : goal.returns
returns c = ap Some c.in_ok-of.ensures ∙ identifier-full _ _ c.trimmed-identifier.utf8 c.trimmed-identifier.ensures
    (sym c.is_empty.ensures ∙ c.if-is_empty.false)
