use Rattle.std.proofs.Common.{◌-◌, arith}
use Rattle.std.specs.BTreeMap.{get}
use Rattle.std.specs.Ordering.{nat_cmp}
use Rattle.xpath_values.proofs.CharacterLemmas.{translation_put}
use Rattle.xpath_values.proofs.translating.translations.Goals as goal

pub characters-preserved : goal.characters-preserved
characters-preserved c = record {
  within = omega (arith, c.characters.invariant.within);
  same = translation_put (get nat_cmp c.characters.table) (get nat_cmp c.insert.new.self) c.args.from.now c.args.to.now
      (c.characters.place - 1) c.characters.place c.index-from-place.result c.character_at.result
      (omega arith) (omega (arith, c.characters.invariant.within)) c.index-from-place.is c.character_at.ensures c.in_ok-insert.ensures.updates.0
      c.characters.invariant.same;
}
