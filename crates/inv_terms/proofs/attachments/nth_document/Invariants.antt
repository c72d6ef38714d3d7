use Rattle.std.proofs.Common.{◌≡◌, drop}
use Rattle.std.specs.Prelude.{slice_get}
use Rattle.inv_terms.specs.Attachments as spec
use Rattle.inv_terms.proofs.attachments.nth_document.Given as goal

abbrev pub invariant-entries : goal.invariant-entries
invariant-entries l = slice_get (spec.documents (drop l.e-index l.entries)) l.left ≡ slice_get (spec.documents l.entries) l.n
