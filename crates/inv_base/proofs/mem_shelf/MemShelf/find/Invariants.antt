use Rattle.inv_base.proofs.FilesLemmas.{Found}
use Rattle.inv_base.proofs.mem_shelf.MemShelf.find.Given as goal

-- the same of the files so far
abbrev pub invariant-files : goal.invariant-files
invariant-files l = Found l.name l.files l.k l.found
