use Rattle.std.proofs.Common.{refl}
use Rattle.bind_write.proofs.SourceLemmas.{whole_run}
use Rattle.bind_write.proofs.PresenceLemmas.{known-any}
use Rattle.bind_write.proofs.source.whole.Goals as goal

pub returns : goal.returns
returns c = record {
  rows_are = refl;
  entries_are = refl;
  context_is = refl;
  source = record {
    order = c.requires.order;
    run = whole_run c.args.entries.now;
    known = known-any _ c.of_any.ensures.any c.args.entries.now;
    notes = c.requires.notes;
    counted = c.requires.counted;
  };
}
