use Rattle.std.proofs.Common.{◌∙◌, ap}
use Rattle.std.specs.Prelude.{option_map}
use Rattle.schematron_meaning.specs.Entries.{entries}
use Rattle.schematron_faults.specs.Parts.{cycle_found}
use Rattle.schematron_faults.proofs.CycleLemmas.{cycle_found_at}
use Rattle.schematron_faults.proofs.finding.cycle_at.Goals as goal

pub returns : goal.returns
returns c = λ nodes o is f.
    cycle_found_at (entries nodes) (c.numbers_rise.ensures nodes o) (c.rules_follow.ensures nodes o) c.args.file.now c.args.spot _
    (c.cycle_of.ensures ∙ ap (option_map cycle_found) c.part_of.ensures) is f
