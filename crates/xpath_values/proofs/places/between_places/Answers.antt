use Rattle.std.proofs.Common.{◌≡◌, pos, sym, ap, ◌∙◌, subst, take, drop, chars, string_bytes, w64, to_z, of_z}
use Rattle.std.specs.Prelude.{IfOk, int_le, int_lt, ◌&&◌}
use Rattle.std.proofs.lemmas.Int.{to_z-of_z}
use Rattle.std.proofs.lemmas.Iterator.{YieldsList-from_chars, YieldsList-from_take, text_from_collect}
use Rattle.std.proofs.lemmas.Iterator.Consumers.{YieldsList-at}
use Rattle.std.proofs.lemmas.Iterator.Adapters.{YieldsList-from_skip}
use Rattle.xpath_meaning.specs.Texts.{at_places}
use Rattle.xpath_values.specs.Places.{skipped, kept}
use Rattle.xpath_values.proofs.CharacterLemmas.{collected}
use Rattle.xpath_values.proofs.PlaceLemmas.{places_between}
use Rattle.xpath_values.proofs.places.between_places.Goals as goal

pub returns : goal.returns
returns c =
    let first : c.before_place.result ≡ skipped c.args.start = c.before_place.ensures ∙ ap skipped (to_z-of_z w64 c.args.start c.ranges.start) in
    let count : c.places_between-count.result ≡ kept c.args.start c.args.end =
    c.places_between-count.ensures ∙ (ap (λ x. kept x (to_z w64 (of_z w64 c.args.end))) (to_z-of_z w64 c.args.start c.ranges.start) ∙
    ap (kept c.args.start) (to_z-of_z w64 c.args.end c.ranges.end)) in
    let part : take c.places_between-count.result (drop c.before_place.result (chars c.args.text.now)) ≡ at_places (λ place. int_le c.args.start (pos place) &&
    int_lt (pos place) c.args.end) 1 (chars c.args.text.now) =
    ap (λ n. take n (drop c.before_place.result (chars c.args.text.now))) count
    ∙ (ap (λ n. take (kept c.args.start c.args.end) (drop n (chars c.args.text.now))) first ∙
    sym (places_between c.args.start c.args.end (chars c.args.text.now))) in
    subst (λ xs. IfOk c.collect.result (λ s. chars (string_bytes s) ≡ xs)) part
    (collected c.collect.result (take c.places_between-count.result (drop c.before_place.result (chars c.args.text.now)))
    (text_from_collect c.collect.result c.collect.ensures.ran
    (YieldsList-from_take c.places_between-count.result
    (YieldsList-at c.take.ensures.source (YieldsList-from_skip c.before_place.result
    (YieldsList-at c.skip.ensures.source (YieldsList-from_chars c.args.text.now c.utf8.text cc)) c.skip.ensures.count)) c.take.ensures.count)))
