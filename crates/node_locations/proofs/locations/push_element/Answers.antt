use Rattle.std.proofs.Common.{[], ◌∷◌, refl}
use Rattle.inv_base.specs.declared.tree.Kind.TheVariants as kinds
use Rattle.node_locations.proofs.PutLemmas.{HasFront-more, HasFront-append, Puts-append, Puts-at_err}
use Rattle.node_locations.proofs.LocationLemmas.{test_is, ordinal_is}
use Rattle.node_locations.proofs.locations.push_element.Goals as goal

pub returns-in_err-push_plain : goal.returns-in_err-push_plain
returns-in_err-push_plain c = Puts-at_err _ _ _ _ c.from_residual.ensures.0 (HasFront-more (0x2F ∷ []) _ _ _ c.in_err-push_plain.ensures)

pub returns-in_err-push_name_test : goal.returns-in_err-push_name_test
returns-in_err-push_name_test c =
    let name = test_is c.args.doc.now c.args.n c.requires.within _ c.name.ensures.value in
    rw (← name)
    (Puts-at_err _ _ _ _ c.from_residual-in_err-push_name_test.ensures.0
    (HasFront-append (0x2F ∷ []) _ _ _ _ c.in_ok-push_plain.ensures (HasFront-more _ _ _ _ c.in_err-push_name_test.ensures)))

pub returns : goal.returns
returns c =
    let name = test_is c.args.doc.now c.args.n c.requires.within _ c.name.ensures.value in
    let place = ordinal_is c.args.doc.now c.args.n c.requires.within _ _ kinds.Element c.requires.ordinals c.get.ensures c.requires.kind refl in
    rw (← name, ← place)
    (Puts-append _ (0x2F ∷ []) _ _ _ _ c.in_ok-push_plain.ensures (Puts-append _ _ _ _ _ _ c.in_ok-push_name_test.ensures c.push_bracketed.ensures))
