use Rattle.std.proofs.Common.{◌≡◌, Bool, true, false, List, refl, sym, ◌∙◌, subst}
use Rattle.std.specs.Prelude.{not}
use Rattle.inv_terms.specs.declared.entries.Entry.{Entry}
use Rattle.bind_write.specs.Sources.{HasSameValues}
use Rattle.bind_write.proofs.SourceLemmas.{run_values, same_outer}
use Rattle.bind_write.proofs.PresenceLemmas.{absent}
use Rattle.bind_write.proofs.holding.is_absent.Goals as goal

not_true : (b : Bool) → not b ≡ true → b ≡ false
not_true true h = cc
not_true false h = refl

pub returns : goal.returns
returns c = λ plain.
    let es : List Entry = c.args.source.now.entries.now in
    let same : HasSameValues es c.args.source.now.run.now c.args.context =
    subst (λ run. HasSameValues es run c.args.context) (sym c.requires.source.run)
    (run_values es c.args.source.now.context c.args.context (same_outer _ _ _ c.is_none.ensures c.if-is_none.false c.requires.context.outer)) in
    absent c.args.row.now es c.args.source.now.run.now c.args.source.now.presence c.args.term c.args.context c.requires.source.known same
    (sym c.may_have.ensures ∙ c.if-may_have.false) (sym c.has_placeholder.ensures ∙ not_true _ plain)
