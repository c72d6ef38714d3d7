use Rattle.std.proofs.Common.{ap, ◌∙◌}
use Rattle.bind_meaning.specs.Tables.{rows_of}
use Rattle.trial_run.proofs.reading.written.Goals as goal

pub written_by-text-requires : goal.written_by-text-requires
written_by-text-requires c = c.as_ref.ensures ∙ (c.in_ok-table.ensures ∙ (c.requires.tables c.target.result ∙ ap rows_of c.target.ensures))
