use Rattle.std.proofs.Common.{◌≡◌, [], drop}
use Rattle.bind_table.specs.Items.{made_by_all, joined}
use Rattle.bind_table.specs.Making.{CanMake, made_of}
use Rattle.bind_table.proofs.listing.listed.Given as goal

abbrev pub invariant-sections : goal.invariant-sections
invariant-sections l = record {
  left : CanMake (joined (drop l.section-index l.sections)) (made_of l.listing);
  same : made_by_all (joined (drop l.section-index l.sections)) (made_of l.listing) ≡ made_by_all (joined l.sections)
      (record { rows = []; path = []; next = 1 });
}
