use Rattle.code_lists.specs.CodeFiles.{built_in_lists}
use Rattle.trial_invoice.specs.Generated.{trial_entries}
use Rattle.trial_laws.proofs.trial_texts_are_read_back.Goals as goal

pub returns : goal.returns
returns c syntax lines some few =
    c.round_trip.ensures.syntax syntax (trial_entries lines) built_in_lists (c.trial_entries_are_an_invoice.ensures lines few)
    (c.trial_entries_are_valid.ensures lines some)
    (c.trial_entries_are_carried.ensures syntax lines few)
