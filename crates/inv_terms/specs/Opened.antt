-- Private functions that look at the entries from a context's first one on: what they answer. No public clause cites
-- it.
use Rattle.std.specs.Prelude.{List, Option, map}
use Rattle.std.specs.List.{take_while}
use Rattle.term_table.specs.declared.contexts.Context.{Context}
use Rattle.term_table.specs.Contexts.{is_inside}
use Rattle.inv_terms.specs.declared.entries.Entry.{Entry}
use Rattle.inv_terms.specs.Listing.{seat_of}
use Rattle.inv_terms.specs.declared.violations.ModelViolation.{ModelViolation}
use Rattle.inv_terms.specs.Lacking.{first_missing}

-- the first lack of a context that begins with these entries
abbrev pub opened_missing : List Entry → Context → Option ModelViolation
opened_missing es context = first_missing (map seat_of (take_while (λ (e : Entry). is_inside context e.context) es)) context
