use Rattle.std.proofs.Common.{sym, ap, ◌∙◌, bytes_eq}
use Rattle.inv_base.proofs.FilesLemmas.{Found-here, Found-passed}
use Rattle.inv_base.proofs.mem_shelf.MemShelf.find.Goals.{then-eq, else-eq}
use Rattle.inv_base.proofs.mem_shelf.MemShelf.find.Goals as goal

pub files-preserved : goal.files-preserved
files-preserved c =
    let tested = ap (λ text. bytes_eq text c.args.name.now) (sym c.as_str.ensures.value) ∙ sym c.eq.ensures in
    elim c.if-eq.branch [
      | then-eq w ↦ rw w.found-is (Found-here _ _ _ _ c.files-test.true c.index-files-k.is (tested ∙ w.if-eq.true))
      | else-eq w ↦ rw w.found-is (Found-passed _ _ _ _ _ c.files-test.true c.index-files-k.is (tested ∙ w.if-eq.false) c.files.invariant)
    ]
