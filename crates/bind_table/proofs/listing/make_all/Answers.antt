use Rattle.std.proofs.Common.{◌≡◌}
use Rattle.bind_table.specs.Items.{made_by}
use Rattle.bind_table.specs.Making.{made_of}
use Rattle.bind_table.proofs.MakingLemmas.{items-behind, made-behind}
use Rattle.bind_table.proofs.listing.make_all.Goals as goal

pub items-preserved : goal.items-preserved
items-preserved c =
    let e : made_of c.make.new.listing ≡ made_by _ (made_of c.items.listing) = c.in_ok-make.ensures in
    record {
      left = rw e (items-behind _ _ _ _ c.items-test.true c.items.invariant.left);
      same = rw e (made-behind _ _ _ _ _ c.items-test.true c.items.invariant.same);
    }
