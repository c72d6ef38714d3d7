use Rattle.std.proofs.Common.{option_map, sym, ap, refl, ◌∙◌}
use Rattle.node_arena.specs.Moves.{tree_nodes}
use Rattle.svrl_report.specs.Plain.{tally_of}
use Rattle.held_rules.specs.Texts.{seen_ready}
use Rattle.trial_run.specs.Trials.{found_by, trial_rules}
use Rattle.trial_run.proofs.judging.found_by.Goals as goal

pub find-requires : goal.find-requires
find-requires g c = c.requires.ready _ c.in-Some.is
