use Rattle.std.proofs.Common.{◌+◌, max, fold, map, drop, ap, sym, ◌∙◌, arith}
use Rattle.inv_terms.specs.declared.entries.Entry.{Entry}
use Rattle.bind_meaning.specs.Trees.{index_in}
use Rattle.inv_terms.proofs.CountLemmas.{one_entry, no_entry}
use Rattle.bind_write.proofs.SourceLemmas.{same-index}
use Rattle.bind_write.proofs.spots.last_inner.Goals as goal

pub entries-preserved : goal.entries-preserved
entries-preserved c =
    ap (λ x. fold max x (map (λ (e : Entry). index_in c.args.group e.context.inner) (drop (c.entries.e-index + 1) c.args.run.now))) c.max-last.ensures
    ∙ (ap (λ x. fold max (max c.entries.last x) (map (λ (e : Entry). index_in c.args.group e.context.inner) (drop (c.entries.e-index + 1) c.args.run.now)))
    (c.index_in.ensures ∙ same-index c.args.group c.e-item.result.context.inner)
    ∙ (sym (one_entry (λ (e : Entry). index_in c.args.group e.context.inner) c.entries.last c.args.run.now c.entries.e-index c.e-item.result
    (omega arith) c.e-item.is) ∙ c.entries.invariant))

pub returns : goal.returns
returns c = sym (no_entry (λ (e : Entry). index_in c.args.group e.context.inner) c.entries.last c.args.run.now c.entries.e-index (omega arith)) ∙
    c.entries.invariant
