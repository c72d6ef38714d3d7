use Rattle.std.proofs.Common.{sym, ◌∙◌}
use Rattle.xml_tokens.proofs.CutLemmas.{first-boundary, first-is}
use Rattle.xml_tokens.proofs.names.first_of.Goals as goal

pub split_at-requires : goal.split_at-requires
split_at-requires c = first-boundary c.args.text.now _ c.in_ok-c.c c.len_utf8.result c.utf8.text
    (sym c.chars.ensures.rest ∙ c.in_ok-c.ensures.steps.0) c.len_utf8.ensures.len

pub returns : goal.returns
returns c = first-is c.args.text.now _ c.split_at.result.1.now c.in_ok-c.c c.len_utf8.result c.utf8.text
    (sym c.chars.ensures.rest ∙ c.in_ok-c.ensures.steps.0) c.len_utf8.ensures.len c.split_at.ensures.back
