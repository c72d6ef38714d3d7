use Rattle.std.proofs.Common.{◌≡◌, pos, ◌∙◌, subst, chars, string_bytes, rules, w64, to_z, of_z, ℤ}
use Rattle.std.specs.Prelude.{IfOk, int_le}
use Rattle.std.specs.Int.RustNames.{FitsSigned}
use Rattle.std.proofs.lemmas.Int.{to_z-of_z}
use Rattle.xpath_meaning.specs.Texts.{at_places, rounded}
use Rattle.xpath_values.proofs.texts.rest.Goals as goal

pub returns : goal.returns
returns c =
    let fits : FitsSigned w64 c.nearest_whole.result = search rules in
    let same : to_z w64 (of_z w64 c.nearest_whole.result) ≡ rounded c.args.start.now = to_z-of_z w64 c.nearest_whole.result fits ∙
    c.nearest_whole.ensures.value in
    subst (λ (n : ℤ). IfOk c.from_place.result (λ s. chars (string_bytes s) ≡ at_places (λ place. int_le n (pos place)) 1 (chars c.args.text.now))) same
    c.from_place.ensures
