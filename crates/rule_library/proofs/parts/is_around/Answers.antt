use Rattle.std.proofs.Common.{ap, bytes_eq, ◌∙◌}
use Rattle.rule_library.specs.Readings.{File}
use Rattle.rule_library.proofs.PartLemmas.{open_at, one_around}
use Rattle.rule_library.proofs.parts.is_around.Goals as goal

pub file_in-requires : goal.file_in-requires
file_in-requires c = (open_at c.args.files.now c.args.frames.now c.frames.frame-index c.frame-item.result c.requires c.frames-test.true c.frame-item.is).file

pub frames-preserved : goal.frames-preserved
frames-preserved c =
    one_around c.args.name.now c.args.files.now c.args.frames.now c.frames.frame-index c.frame-item.result c.frames.found c.has_name-found.result
    c.frames.invariant c.frames-test.true c.frame-item.is
    (c.has_name-found.ensures ∙ ap (λ (f : File). bytes_eq f.name c.args.name.now) c.file_in.ensures)
