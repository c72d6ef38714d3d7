use Rattle.std.proofs.Common.{refl}
use Rattle.xml_state.proofs.LookupLemmas.{has-no-names, looked-found, looked-new, has-more}
use Rattle.xml_state.proofs.duplicates.looks_names_up.Goals as goal

pub loop-attribute-init : goal.loop-attribute-init
loop-attribute-init c = record { twice = refl; has = has-no-names c.new-names.result c.new-names.ensures.empty }

pub returns-then-not-branch : goal.returns-then-not-branch
returns-then-not-branch c =
    looked-found c.args.attributes.now c.loop-attribute.attribute-index c.attribute-item.result c.loop-attribute.names _ _ c.loop-attribute-test.true
    c.attribute-item.is c.loop-attribute.invariant.twice c.loop-attribute.invariant.has
    c.in_ok-insert.ensures.added c.if-not-branch.true

pub loop-attribute-preserved : goal.loop-attribute-preserved
loop-attribute-preserved c = record {
  twice =
      looked-new c.args.attributes.now c.loop-attribute.attribute-index c.attribute-item.result c.loop-attribute.names _ _ c.loop-attribute-test.true
      c.attribute-item.is c.loop-attribute.invariant.twice c.loop-attribute.invariant.has
      c.in_ok-insert.ensures.added c.if-not-branch.false;
  has =
      has-more c.args.attributes.now c.loop-attribute.attribute-index c.attribute-item.result c.loop-attribute.names _ _ c.loop-attribute-test.true
      c.attribute-item.is c.loop-attribute.invariant.twice c.loop-attribute.invariant.has
      c.in_ok-insert.ensures.added c.insert.new.self c.in_ok-insert.ensures.updates;
}
