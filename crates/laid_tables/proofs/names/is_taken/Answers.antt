use Rattle.std.proofs.Common.{List, ℕ, ap, refl, ◌∙◌, codes}
use Rattle.std.specs.Str.{bytes_eq, chars}
use Rattle.bind_write.proofs.WordLemmas.{chars-word}
use Rattle.laid_tables.proofs.NameLemmas.{one-holds, other-holds}
use Rattle.laid_tables.proofs.names.is_taken.Goals as goal

pub returns-then-is_same_text : goal.returns-then-is_same_text
returns-then-is_same_text c =
    let name : List ℕ = chars c.args.name.now in
    one-holds c.is_same_text.result (bytes_eq name (codes "xmlns")) (bytes_eq name (codes "currencyID"))
    (c.is_same_text.ensures ∙ ap (bytes_eq name) (chars-word (codes "xmlns") refl)) c.if-is_same_text.true

pub returns-else-is_same_text : goal.returns-else-is_same_text
returns-else-is_same_text c =
    let name : List ℕ = chars c.args.name.now in
    let other = c.is_same_text-else-is_same_text in
    other-holds c.is_same_text.result (bytes_eq name (codes "xmlns")) (bytes_eq name (codes "currencyID")) other.result
    (c.is_same_text.ensures ∙ ap (bytes_eq name) (chars-word (codes "xmlns") refl)) c.if-is_same_text.false
    (other.ensures ∙ ap (bytes_eq name) (chars-word (codes "currencyID") refl))
