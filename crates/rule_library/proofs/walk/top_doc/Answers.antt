use Rattle.std.proofs.Common.{ap, ◌∙◌}
use Rattle.rule_library.specs.Readings.{File}
use Rattle.rule_library.proofs.walk.top_doc.Goals as goal

pub returns : goal.returns
returns c = c.doc.ensures ∙ ap (λ (f : File). f.document) c.top_file.ensures
