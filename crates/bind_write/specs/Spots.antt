-- Where a line is written, spot by spot. No public clause cites it.
use Rattle.std.specs.Prelude.{ℕ, ◌+◌, ◌==◌, List, Some, None, fold, max, map, if◌then◌else◌}
use Rattle.term_table.specs.declared.groups.Group.{Group}
use Rattle.term_table.specs.declared.contexts.Context.{Context}
use Rattle.inv_terms.specs.declared.entries.Entry.{Entry}
use Rattle.bind_meaning.specs.Trees.{index_in, outer_count, inner_count}
use Rattle.bind_write.specs.Sources.{spot_of}

-- how many occurrences of a group the entries of one outer occurrence show
abbrev pub inner_count_of : List Entry → Group → ℕ
inner_count_of run group = fold max 0 (map (λ (e : Entry). index_in group e.context.inner) run)

abbrev pub count_in : List Entry → Context → Group → ℕ
count_in es c group = elim c.outer [ None ↦ outer_count es group | Some outer ↦ inner_count es outer group ]

abbrev pub nth_spot : Context → Group → ℕ → ℕ → Context
nth_spot c group count k = if count == 0 then c else spot_of c group (k + 1)
