use Rattle.std.proofs.Common.{◌≡◌, ◌∙◌, ◌++◌, IfOk, chars, ap, subst}
use Rattle.inv_listing.specs.Listing.{term_text}
use Rattle.validation_report.proofs.texts.term_label.Goals as goal

pub returns : goal.returns
returns c =
    let is = c.as_str.ensures.value ∙ (c.in_ok-push_term.ensures ∙ ap (λ front. front ++ term_text c.args.term) c.new-text.ensures.bytes) in
    subst (λ t. IfOk c.of.result (λ text. text ≡ t)) (ap chars is) c.of.ensures
