use Rattle.std.proofs.Common.{◌≡◌, ◌∙◌, IfOk, List, ℕ, sym, subst}
use Rattle.std.proofs.lemmas.Str.{chars-nil}
use Rattle.inv_base.specs.declared.tree.Kind.TheVariants as kinds
use Rattle.validation_report.proofs.OwnTextLemmas.{own-is}
use Rattle.validation_report.proofs.values.own_text.Goals as goal

pub returns-in-Document : goal.returns-in-Document
returns-in-Document c =
    c.lent.ensures ∙ (chars-nil
    ∙ own-is c.args.doc.now c.is_of_a_tree.ensures.tree c.args.n c.requires kinds.Document (sym c.kind.ensures ∙ c.in-Document.is))

pub returns-in-Element : goal.returns-in-Element
returns-in-Element c =
    subst (λ (t : List ℕ). IfOk c.inner_texts_by.result (λ text. text ≡ t))
    (own-is c.args.doc.now c.is_of_a_tree.ensures.tree c.args.n c.requires kinds.Element (sym c.kind.ensures ∙ c.in-Element.is)) c.inner_texts_by.ensures

pub returns-in-Attribute : goal.returns-in-Attribute
returns-in-Attribute c =
    c.lent-in-Attribute.ensures ∙ (c.text.ensures
    ∙ own-is c.args.doc.now c.is_of_a_tree.ensures.tree c.args.n c.requires kinds.Attribute (sym c.kind.ensures ∙ c.in-Attribute.is))

pub returns-in-Text : goal.returns-in-Text
returns-in-Text c =
    c.lent-in-Text.ensures ∙ (c.text-in-Text.ensures
    ∙ own-is c.args.doc.now c.is_of_a_tree.ensures.tree c.args.n c.requires kinds.Text (sym c.kind.ensures ∙ c.in-Text.is))
