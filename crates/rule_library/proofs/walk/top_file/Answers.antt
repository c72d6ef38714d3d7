use Rattle.std.proofs.Common.{ap, ◌∙◌}
use Rattle.rule_library.specs.Readings.{file_at}
use Rattle.rule_library.proofs.walk.top_file.Goals as goal

pub returns : goal.returns
returns c = c.file_in.ensures ∙ ap (file_at c.args.walk.now.top.file) c.as_slice.ensures.value
