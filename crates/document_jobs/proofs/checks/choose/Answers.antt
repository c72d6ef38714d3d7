use Rattle.std.proofs.Common.{rules, ◌≡◌, true, refl}
use Rattle.std.specs.Result.{is_ok}
use Rattle.document_jobs.proofs.CheckLemmas.{kept_if, chosen_kept, came_kept}
use Rattle.document_jobs.proofs.checks.choose.Goals as goal

pub files-preserved : goal.files-preserved
files-preserved g c =
    let ok : is_ok c.push.result ≡ true = search rules in
    let kept = kept_if (is_ok c.push.result) _ _ _ ok c.push.ensures.items in
    record {
      chosen = chosen_kept c.args.phase.now c.args.files.now c.files.file-index c.file-item.result c.files-test.true c.file-item.is c.files.chosen.items
          c.push.new.self.items _ kept refl c.in-Ok.ensures c.files.invariant.chosen;
      came = came_kept c.args.phase.now c.args.files.now c.files.file-index c.file-item.result c.files-test.true c.file-item.is c.files.chosen.items
          c.push.new.self.items _ kept refl c.in-Ok.ensures c.files.invariant.came;
      quiet = c.files.invariant.quiet;
    }
