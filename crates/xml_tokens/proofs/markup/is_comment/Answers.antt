use Rattle.std.proofs.Common.{◌≡◌, true, false, not, ◌&&◌, is_none, ◌==◌, ◌-◌, get_or, length, ap, sym, ◌∙◌, rules}
use Rattle.std.specs.Prelude.{codes}
use Rattle.xml_tokens.specs.Searches.{place_of}
use Rattle.xml_tokens.proofs.MarkupLemmas.{comment-told}
use Rattle.xml_tokens.proofs.markup.is_comment.Goals as goal

pub returns-then-is_none : goal.returns-then-is_none
returns-then-is_none c =
    let none : is_none (place_of (codes "--") c.args.inside.now) ≡ true = search rules in
    let last : not c.ends_in_hyphen.result ≡ not (get_or c.args.inside.now (length c.args.inside.now - 1) 0 == 0x2D) = search rules in
    last ∙ (ap (λ t. t && not (get_or c.args.inside.now (length c.args.inside.now - 1) 0 == 0x2D)) (sym none) ∙ sym (comment-told c.args.inside.now))

pub returns-else-is_none : goal.returns-else-is_none
returns-else-is_none c =
    let none : is_none (place_of (codes "--") c.args.inside.now) ≡ false = search rules in
    c.if-is_none.false ∙ (ap (λ t. t && not (get_or c.args.inside.now (length c.args.inside.now - 1) 0 == 0x2D)) (sym none) ∙
    sym (comment-told c.args.inside.now))
