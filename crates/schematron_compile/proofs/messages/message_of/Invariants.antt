use Rattle.std.proofs.Common.{◌≡◌, ◌++◌, map, length}
use Rattle.std.specs.Vec.Iter.{into_iter_items, into_iter_len}
use Rattle.schematron_meaning.specs.Entries.{Entry}
use Rattle.schematron_meaning.specs.Rules as spec
use Rattle.schematron_entries.specs.Seen.{seen_entry}
use Rattle.schematron_rules.specs.Seen.{seen_part}
use Rattle.schematron_compile.specs.Lent.{lent_entries}
use Rattle.schematron_compile.proofs.messages.message_of.Given as goal

-- the parts so far, and those to come, are all
abbrev pub invariant-parts : goal.invariant-parts
invariant-parts l =
    (map seen_part l.parts ++ map (λ (part : Entry). spec.part_by part.role l.params l.scope part) (lent_entries (into_iter_items l.part-iterator))
    ≡ spec.message_of l.file.entries l.params l.scope (seen_entry l.e))
    × (into_iter_len l.part-iterator ≡ length (into_iter_items l.part-iterator))
