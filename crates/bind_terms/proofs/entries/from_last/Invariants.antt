use Rattle.std.proofs.Common.{◌≡◌, ◌++◌, flat_map, reverse, vec_len}
use Rattle.bind_terms.specs.Entries.{entries_of}
use Rattle.bind_terms.proofs.entries.from_last.Given as goal

abbrev pub invariant-firsts : goal.invariant-firsts
invariant-firsts l = flat_map entries_of l.rest.items ++ reverse l.entries.items ≡ flat_map entries_of l.fn.firsts.items

abbrev pub decreases-firsts : goal.decreases-firsts
decreases-firsts l = vec_len l.rest
