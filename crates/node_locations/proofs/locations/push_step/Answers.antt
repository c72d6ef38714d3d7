use Rattle.std.proofs.Common.{refl, codes, sym, ◌∙◌}
use Rattle.inv_base.specs.declared.tree.Kind.TheVariants as kinds
use Rattle.node_locations.proofs.PutLemmas.{HasFront-more, Puts-append, Puts-at_err}
use Rattle.node_locations.proofs.LocationLemmas.{kind_is, test_is, ordinal_is}
use Rattle.node_locations.proofs.locations.push_step.Goals as goal

pub returns-in-Element : goal.returns-in-Element
returns-in-Element c =
    let kind = kind_is c.args.doc.now c.args.n c.requires.within kinds.Element (sym c.kind.ensures ∙ c.in-Element.is) in
    rw kind c.push_element.ensures

pub returns-in_err-push_plain-in-Attribute : goal.returns-in_err-push_plain-in-Attribute
returns-in_err-push_plain-in-Attribute c =
    let kind = kind_is c.args.doc.now c.args.n c.requires.within kinds.Attribute (sym c.kind.ensures ∙ c.in-Attribute.is) in
    rw kind (Puts-at_err _ _ _ _ c.from_residual.ensures.0 (HasFront-more (codes "/@") _ _ _ c.in_err-push_plain-in-Attribute.ensures))

pub returns-in_ok-push_plain-in-Attribute : goal.returns-in_ok-push_plain-in-Attribute
returns-in_ok-push_plain-in-Attribute c =
    let kind = kind_is c.args.doc.now c.args.n c.requires.within kinds.Attribute (sym c.kind.ensures ∙ c.in-Attribute.is) in
    let name = test_is c.args.doc.now c.args.n c.requires.within _ c.name.ensures.value in
    rw kind (rw (← name) (Puts-append _ (codes "/@") _ _ _ _ c.in_ok-push_plain-in-Attribute.ensures c.push_name_test.ensures))

pub returns-in_err-push_plain-in-Text : goal.returns-in_err-push_plain-in-Text
returns-in_err-push_plain-in-Text c =
    let kind = kind_is c.args.doc.now c.args.n c.requires.within kinds.Text (sym c.kind.ensures ∙ c.in-Text.is) in
    rw kind
    (Puts-at_err _ _ _ _ c.from_residual-in_err-push_plain-in-Text.ensures.0 (HasFront-more (codes "/text()") _ _ _ c.in_err-push_plain-in-Text.ensures))

pub returns-in_ok-push_plain-in-Text : goal.returns-in_ok-push_plain-in-Text
returns-in_ok-push_plain-in-Text c =
    let is = sym c.kind.ensures ∙ c.in-Text.is in
    let kind = kind_is c.args.doc.now c.args.n c.requires.within kinds.Text is in
    let place = ordinal_is c.args.doc.now c.args.n c.requires.within _ _ kinds.Text c.requires.ordinals c.get.ensures is refl in
    rw kind (rw (← place) (Puts-append _ (codes "/text()") _ _ _ _ c.in_ok-push_plain-in-Text.ensures c.push_bracketed.ensures))
