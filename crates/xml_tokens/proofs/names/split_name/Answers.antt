use Rattle.std.proofs.Common.{ap, ◌∙◌}
use Rattle.std.specs.List.{position}
use Rattle.xml_tokens.specs.WrittenNames.{ends_name}
use Rattle.xml_tokens.proofs.CutLemmas.{boundary-before, name-end-ascii}
use Rattle.xml_tokens.proofs.names.split_name.Goals as goal

pub split_at-requires : goal.split_at-requires
split_at-requires c = boundary-before ends_name c.args.text.now c.in-Some.place name-end-ascii
    (c.in-Some.ensures ∙ ap (position ends_name) c.as_bytes.ensures.value)
