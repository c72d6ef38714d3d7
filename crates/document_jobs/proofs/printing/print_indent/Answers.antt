use Rattle.std.proofs.Common.{◌≡◌, ℕ, ◌+◌, ◌*◌, ◌-◌, ◌≤◌, take, ap, ◌∙◌, arith}
use Rattle.std.proofs.lemmas.List.{take-replicate}
use Rattle.inv_base.proofs.PrintingLemmas.{Prints-append, Prints-same}
use Rattle.document_jobs.specs.declared.printing.TheConstants.{INDENT}
use Rattle.document_jobs.proofs.OutlineLemmas.{spaces, spaces_more}
use Rattle.document_jobs.proofs.printing.print_indent.Goals as goal

-- a front of the spaces that are printed at once
indent : (levels : ℕ) → levels ≤ 100 → take (2 * levels) INDENT ≡ spaces levels
indent levels h = take-replicate (2 * levels) 200 0x20 (omega arith)

pub levels-preserved : goal.levels-preserved
levels-preserved g c =
    let some = c.min-some.result in
    let so_far = c.args.level - 1 - c.levels.rest in
    let few : some ≤ 100 = omega arith in
    let put = Prints-same _ _ _ _ _ _ (c.split_at.ensures.front ∙ indent some few) c.put.ensures in
    let levels : spaces (so_far + some) ≡ spaces (c.args.level - 1 - (c.levels.rest - some)) = ap spaces (omega arith) in
    record {
      within = omega arith;
      printed = Prints-same _ _ _ _ _ _ (spaces_more so_far some ∙ levels)
          (Prints-append (spaces so_far) (spaces some) _ _ _ _ _ _ c.levels.invariant.printed put);
    }
