use Rattle.std.proofs.Common.{◌≡◌, List, [], Bor, slice_index_or}
use Rattle.bind_table.specs.declared.items.TableItem.{TableItem}
use Rattle.bind_table.specs.Items.{made_by_all}
use Rattle.bind_table.specs.Making.{made_of}
use Rattle.bind_table.proofs.MakingLemmas.{section-front, section-behind, section-made}
use Rattle.bind_table.proofs.listing.listed.Goals as goal

-- what stands behind the last section
no_section : Bor (List TableItem)
no_section = record { ref_ptr = (0, 0); now = [] }

pub make_all-requires : goal.make_all-requires
make_all-requires c = section-front _ _ _ _ c.sections-test.true c.sections.invariant.left

pub sections-preserved : goal.sections-preserved
unfolding no_section
sections-preserved c =
    let section : List TableItem = (slice_index_or c.args.sections.now c.sections.section-index no_section).now in
    let e : made_of c.make_all.new.listing ≡ made_by_all section (made_of c.sections.listing) = c.in_ok-make_all.ensures in
    record {
      left = rw e (section-behind _ _ no_section _ c.sections-test.true c.sections.invariant.left);
      same = rw e (section-made _ _ no_section _ _ c.sections-test.true c.sections.invariant.same);
    }
