use Rattle.std.proofs.Common.{ap, codes}
use Rattle.std.specs.Prelude.{flat_map}
use Rattle.inv_base.proofs.PrintingLemmas.{Prints-append, Prints-same}
use Rattle.validation_report.specs.Held.{spot_text, fault_word, outcome_word, located_text, held_unread}
use Rattle.validation_report.proofs.validation.print_held.Goals as goal

pub returns : goal.returns
returns g c =
    let faults = Prints-same _ _ _ _ _ _ (ap (flat_map (spot_text fault_word c.args.reading.now)) c.deref.ensures.value) c.print_spots.ensures in
    let passed = Prints-same _ _ _ _ _ _ (ap (flat_map (located_text (codes "passed over"))) c.deref-2.ensures.value) c.print_all_located.ensures in
    let unread = Prints-same _ _ _ _ _ _ (ap (flat_map held_unread) c.deref-3.ensures.value) c.print_all_unread.ensures in
    let misplaced = Prints-same _ _ _ _ _ _ (ap (flat_map (located_text (codes "misplaced"))) c.deref-4.ensures.value) c.print_all_located-2.ensures in
    let found = Prints-same _ _ _ _ _ _ (ap (flat_map (spot_text outcome_word c.args.rules.now)) c.deref-5.ensures.value) c.print_spots-2.ensures in
    Prints-append _ _ _ _ _ _ _ _ faults
    (Prints-append _ _ _ _ _ _ _ _ passed
    (Prints-append _ _ _ _ _ _ _ _ unread
    (Prints-append _ _ _ _ _ _ _ _ misplaced (Prints-append _ _ _ _ _ _ _ _ found c.print_all_counts.ensures))))
