use Rattle.std.proofs.Common.{◌==◌, ap, ◌∙◌}
use Rattle.std.specs.List.{position}
use Rattle.xml_tokens.proofs.CutLemmas.{boundary-before, boundary-rest, quote-ascii, split-of, no-place}
use Rattle.xml_tokens.proofs.LiteralLemmas.{literal-ends, literal-open}
use Rattle.xml_tokens.proofs.literals.ended_literal.Goals as goal

pub split_at-requires : goal.split_at-requires
split_at-requires c = boundary-before (λ b. b == c.args.quote) c.args.text.now c.in-Some.place (λ b. quote-ascii c.args.quote b c.requires)
    (c.in-Some.ensures ∙ ap (position (λ b. b == c.args.quote)) c.as_bytes.ensures.value)

pub split_at-requires-in-Some : goal.split_at-requires-in-Some
split_at-requires-in-Some c = boundary-rest (λ b. b == c.args.quote) c.args.text.now c.in-Some.place c.split_at.result.1.now c.utf8.text
    (λ b. quote-ascii c.args.quote b c.requires) (c.in-Some.ensures ∙ ap (position (λ b. b == c.args.quote)) c.as_bytes.ensures.value) c.split_at.ensures.back

pub returns-in-Some : goal.returns-in-Some
returns-in-Some c = literal-ends c.args.quote c.args.text.now c.split_at.result.0.now c.split_at-in-Some.result.1.now
    (split-of (λ b. b == c.args.quote) c.args.text.now c.in-Some.place c.split_at.result.0.now c.split_at.result.1.now c.split_at-in-Some.result.1.now
    (c.in-Some.ensures ∙ ap (position (λ b. b == c.args.quote)) c.as_bytes.ensures.value) c.split_at.ensures.front c.split_at.ensures.back
    c.split_at-in-Some.ensures.back)

pub returns-in-None : goal.returns-in-None
returns-in-None c = literal-open c.args.quote c.args.text.now
    (no-place (λ b. b == c.args.quote) c.args.text.now (c.in-None.ensures ∙ ap (position (λ b. b == c.args.quote)) c.as_bytes.ensures.value))
