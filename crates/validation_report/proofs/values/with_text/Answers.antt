use Rattle.std.proofs.Common.{◌≡◌, ◌∙◌, ◌++◌, IfOk, List, ℕ, ap, sym, subst}
use Rattle.node_arena.specs.Document.{node_at}
use Rattle.node_arena.specs.Strings.{if_text}
use Rattle.validation_report.proofs.OwnTextLemmas.{without-text}
use Rattle.validation_report.proofs.values.with_text.Goals as goal

pub returns-in-Text : goal.returns-in-Text
returns-in-Text c =
    let own = (node_at c.args.doc.now.nodes c.args.n).text in
    subst (λ (t : List ℕ). IfOk c.followed_by.result (λ all. all ≡ c.args.text ++ t))
    (c.text.ensures ∙ ap (λ kind. if_text kind own) (sym c.in-Text.is ∙ c.kind.ensures)) c.followed_by.ensures

pub returns-in-Document : goal.returns-in-Document
returns-in-Document c = without-text c.args.text (node_at c.args.doc.now.nodes c.args.n).text _ _ c.kind.ensures c.in-Document.is
