use Rattle.std.proofs.Common.{◌≡◌, map, drop, fold, max}
use Rattle.std.specs.Prelude.{Some}
use Rattle.inv_terms.specs.declared.entries.Entry.{Entry}
use Rattle.page_values.specs.Seen.{index_inside}
use Rattle.page_values.proofs.places.last_inner.Given as goal

abbrev pub invariant-entries : goal.invariant-entries
invariant-entries l = fold max l.last (map (λ (e : Entry). index_inside e.context (Some l.outer) l.group) (drop l.e-index l.entries))
    ≡ fold max 0 (map (λ (e : Entry). index_inside e.context (Some l.outer) l.group) l.entries)
