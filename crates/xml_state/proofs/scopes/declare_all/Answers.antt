use Rattle.std.proofs.Common.{◌∙◌, refl}
use Rattle.std.proofs.lemmas.Iterator.Consumers.{YieldsList-end}
use Rattle.std.proofs.lemmas.Iterator.Adapters.{YieldsList-from_rev_slice}
use Rattle.xml_state.proofs.ScopeLemmas.{declared_after-all, declared_after-more, grows-nothing, grows-both}
use Rattle.xml_state.proofs.scopes.declare_all.Goals as goal

pub loop-attribute-init : goal.loop-attribute-init
loop-attribute-init c = record { done = refl; grows = grows-nothing _ _ c.requires.bound; found = c.requires.found }

pub loop-attribute-preserved : goal.loop-attribute-preserved
loop-attribute-preserved c = record {
  done = declared_after-more _ c.loop-attribute.yielded c.in-Some.attribute _ _ c.loop-attribute.invariant.done c.in_ok-declare_one.ensures.declares.declared;
  grows = grows-both _ _ _ _ _ _ c.loop-attribute.invariant.grows c.in_ok-declare_one.ensures.declares.grows;
  found = c.in_ok-declare_one.ensures.found;
}

pub returns-clause-declares : goal.returns-clause-declares
returns-clause-declares c =
    let items = YieldsList-end (YieldsList-from_rev_slice c.args.attributes.now cc) c.loop-attribute.yielded _ c.loop-attribute.yielded_by _ _ c.in-None.is
    c.next.ensures.steps in
    record {
      grows = c.loop-attribute.invariant.grows;
      declared = c.loop-attribute.invariant.done ∙ declared_after-all _ c.args.attributes.now c.loop-attribute.yielded items.0;
    }
