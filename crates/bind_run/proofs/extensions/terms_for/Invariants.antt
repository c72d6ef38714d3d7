use Rattle.std.proofs.Common.{◌≡◌, ◌++◌, drop}
use Rattle.bind_run.specs.Extensions.{terms_for}
use Rattle.bind_run.proofs.extensions.terms_for.Given as goal

-- those so far, and those of the terms to come, are all
abbrev pub invariant-terms : goal.invariant-terms
invariant-terms l = l.added ++ terms_for l.table (drop l.term-index l.terms) ≡ terms_for l.table l.terms
