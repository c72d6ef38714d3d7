use Rattle.std.proofs.Common.{◌+◌, drop, get_or, sym, ap, ◌∙◌, refl, arith}
use Rattle.std.proofs.lemmas.List.{drop_all, drop_more}
use Rattle.xml_tokens.specs.Searches.{begins_with}
use Rattle.xml_tokens.proofs.StringLemmas.{searching-begin, searching-here, searching-step, searching-end}
use Rattle.xml_tokens.proofs.scanning.place_after.Goals as goal

pub places-init : goal.places-init
places-init c = searching-begin c.args.string.now c.args.bytes.now c.args.searched _ c.requires.some (omega arith) c.requires.in_vain

pub returns-then-begins_with-clause-exact : goal.returns-then-begins_with-clause-exact
returns-then-begins_with-clause-exact c = searching-here c.args.string.now c.args.bytes.now c.places.place c.requires.some
    (ap (begins_with c.args.string.now) (sym c.split_at.ensures.back) ∙ (sym c.begins_with.ensures.exact ∙ c.if-begins_with.true)) c.places.invariant

pub places-preserved : goal.places-preserved
places-preserved c = searching-step c.args.string.now c.args.bytes.now (drop (c.places.place + 1) c.args.bytes.now)
    (get_or c.args.bytes.now c.places.place 0) c.places.place
    (drop_more c.args.bytes.now c.places.place 0 (omega arith)) refl
    (ap (begins_with c.args.string.now) (sym c.split_at.ensures.back) ∙ (sym c.begins_with.ensures.exact ∙ c.if-begins_with.false)) c.places.invariant

pub returns-clause-exact : goal.returns-clause-exact
returns-clause-exact c = searching-end c.args.string.now c.args.bytes.now c.places.place
    (drop_all c.places.place c.args.bytes.now (omega arith)) c.places.invariant
