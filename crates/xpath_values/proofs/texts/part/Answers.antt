use Rattle.std.proofs.Common.{◌≡◌, pos, ap, ◌∙◌, subst, chars, string_bytes, rules, arith, w64, to_z, of_z, ℤ, ◌+ℤ◌}
use Rattle.std.specs.Prelude.{IfOk, int_le, int_lt, ◌&&◌}
use Rattle.std.specs.Int.RustNames.{FitsSigned}
use Rattle.std.proofs.lemmas.Int.{ints, to_z-of_z}
use Rattle.xpath_meaning.specs.Texts.{at_places, rounded}
use Rattle.xpath_values.proofs.texts.part.Goals as goal

pub returns : goal.returns
returns c =
    let fits : FitsSigned w64 c.nearest_whole-first.result = search rules in
    let start : to_z w64 (of_z w64 c.nearest_whole-first.result) ≡ rounded c.args.start.now = to_z-of_z w64 c.nearest_whole-first.result fits ∙
    c.nearest_whole-first.ensures.value in
    let sum : to_z w64 (of_z w64 (to_z w64 (of_z w64 c.nearest_whole-first.result) +ℤ to_z w64 (of_z w64 c.nearest_whole.result))) ≡
    c.nearest_whole-first.result +ℤ c.nearest_whole.result = omega (arith, ints) in
    let end : to_z w64 (of_z w64 (to_z w64 (of_z w64 c.nearest_whole-first.result) +ℤ to_z w64 (of_z w64 c.nearest_whole.result))) ≡ rounded c.args.start.now +ℤ
    rounded c.args.count.now =
    sum ∙ (ap (λ z. z +ℤ c.nearest_whole.result) c.nearest_whole-first.ensures.value ∙ ap (λ z. rounded c.args.start.now +ℤ z) c.nearest_whole.ensures.value) in
    subst (λ (n : ℤ). IfOk c.between_places.result
    (λ s. chars (string_bytes s) ≡ at_places (λ place. int_le (rounded c.args.start.now) (pos place) && int_lt (pos place) n) 1 (chars c.args.text.now)))
    end
    (subst (λ (n : ℤ). IfOk c.between_places.result
    (λ s. chars (string_bytes s) ≡ at_places (λ place. int_le n (pos place) &&
    int_lt (pos place) (to_z w64 (of_z w64 (to_z w64 (of_z w64 c.nearest_whole-first.result) +ℤ to_z w64 (of_z w64 c.nearest_whole.result))))) 1
    (chars c.args.text.now))) start
    c.between_places.ensures)
