use Rattle.std.proofs.Common.{◌≡◌, ◌++◌, is_none, subst, sym, rules}
use Rattle.std.specs.Prelude.{codes}
use Rattle.xml_tokens.specs.Searches.{place_of}
use Rattle.xml_tokens.specs.Markup.{comment}
use Rattle.xml_tokens.specs.Told.{Tells}
use Rattle.xml_tokens.proofs.MarkupLemmas.{tells-comment}
use Rattle.xml_tokens.proofs.markup.comment.Goals as goal

pub returns : goal.returns
returns c =
    let right : c.is_comment.result ≡ is_none (place_of (codes "--") (c.args.inside.now ++ codes "-")) = search rules in
    subst (λ r. Tells r (comment c.args.inside.now)) (sym c.aside_if.ensures) (tells-comment c.args.inside.now c.is_comment.result right)
