use Rattle.std.proofs.Common.{◌≡◌, pos, sym, ap, ◌∙◌, subst, drop, chars, string_bytes, w64}
use Rattle.std.specs.Prelude.{IfOk, int_le}
use Rattle.std.proofs.lemmas.Int.{to_z-of_z}
use Rattle.std.proofs.lemmas.Iterator.{YieldsList-from_chars, text_from_collect}
use Rattle.std.proofs.lemmas.Iterator.Consumers.{YieldsList-at}
use Rattle.std.proofs.lemmas.Iterator.Adapters.{YieldsList-from_skip}
use Rattle.xpath_meaning.specs.Texts.{at_places}
use Rattle.xpath_values.specs.Places.{skipped}
use Rattle.xpath_values.proofs.CharacterLemmas.{collected}
use Rattle.xpath_values.proofs.PlaceLemmas.{places_from}
use Rattle.xpath_values.proofs.places.from_place.Goals as goal

pub returns : goal.returns
returns c =
    let count : c.before_place.result ≡ skipped c.args.start = c.before_place.ensures ∙ ap skipped (to_z-of_z w64 c.args.start c.ranges.start) in
    let part : drop c.before_place.result (chars c.args.text.now) ≡ at_places (λ place. int_le c.args.start (pos place)) 1 (chars c.args.text.now) =
    ap (λ n. drop n (chars c.args.text.now)) count ∙ sym (places_from c.args.start (chars c.args.text.now)) in
    subst (λ xs. IfOk c.collect.result (λ s. chars (string_bytes s) ≡ xs)) part
    (collected c.collect.result (drop c.before_place.result (chars c.args.text.now))
    (text_from_collect c.collect.result c.collect.ensures.ran
    (YieldsList-from_skip c.before_place.result (YieldsList-at c.skip.ensures.source (YieldsList-from_chars c.args.text.now c.utf8.text cc))
    c.skip.ensures.count)))
