use Rattle.std.proofs.Common.{ap, ◌∙◌, chars}
use Rattle.std.proofs.lemmas.Str.{IsCharBoundary-from_drop}
use Rattle.xpath_operators.proofs.TrimLemmas.{leading_boundary}
use Rattle.xpath_operators.proofs.spaces.without_leading_space.Goals as goal

pub split_at-requires : goal.split_at-requires
split_at-requires c =
    let cut = leading_boundary c.args.text.now _ c.leading_white.result c.as_bytes.ensures.value c.leading_white.ensures c.utf8.text in
    IsCharBoundary-from_drop c.args.text.now c.leading_white.result cut.within cut.utf8

pub returns : goal.returns
returns c =
    let cut = leading_boundary c.args.text.now _ c.leading_white.result c.as_bytes.ensures.value c.leading_white.ensures c.utf8.text in
    ap chars c.split_at.ensures.back ∙ cut.cut
