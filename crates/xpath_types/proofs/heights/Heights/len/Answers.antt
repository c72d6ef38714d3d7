use Rattle.std.proofs.Common.{◌≡◌, length, sym, ap, ◌∙◌, rules}
use Rattle.xpath_types.proofs.HeightLemmas.{as-high}
use Rattle.xpath_types.proofs.heights.Heights.len.Goals as goal

pub returns : goal.returns
returns c =
    let count : c.len.result ≡ length c.self.inside.stack.items = search rules in
    count ∙ (sym (as-high c.self.inside.stack.items) ∙ ap length c.self.view_is)
