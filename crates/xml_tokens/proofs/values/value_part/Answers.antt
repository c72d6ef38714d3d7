use Rattle.std.proofs.Common.{ap, sym, ◌∙◌}
use Rattle.xml_tokens.specs.References.{reference_at}
use Rattle.xml_tokens.specs.Tags as tags
use Rattle.xml_tokens.proofs.ValueLemmas.{part-reference, newline-front}
use Rattle.xml_tokens.proofs.values.value_part.Goals as goal

pub returns-then-c-eq38-clause-exact : goal.returns-then-c-eq38-clause-exact
returns-then-c-eq38-clause-exact c = part-reference c.args.c c.args.behind.now c.referred_part.result c.if-c-eq38.true c.utf8.behind
    (c.referred_part.ensures.exact ∙ ap (λ x. tags.referred_part (reference_at x)) c.as_bytes.ensures.value)

pub returns-then-begins_line_end-clause-low : goal.returns-then-begins_line_end-clause-low
returns-then-begins_line_end-clause-low c = newline-front c.args.c c.args.behind.now c.utf8.behind (sym c.begins_line_end.ensures ∙ c.if-begins_line_end.true)
