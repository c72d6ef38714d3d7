-- What rows with a term pick, and the attributes that are judged with it, by names as a document has them. No public clause cites it.
use Rattle.std.specs.Prelude.{ℕ, ◌-◌, ◌<◌, Bool, true, false, List, [], ◌∷◌, ◌++◌, length, slice_get, Option, Some, None, codes}
use Rattle.term_table.specs.declared.terms.DataType.{DataType}
use Rattle.term_table.specs.declared.terms.DataType.TheVariants as data_types
use Rattle.node_arena.specs.Document.{Document}
use Rattle.bind_rows.specs.declared.rows.Row.{Row}
use Rattle.bind_meaning.specs.declared.picked.Picked.{Picked}
use Rattle.bind_meaning.specs.Currencies.{currency_id}
use Rattle.bind_meaning.specs.Said.{is_of_amount, is_of_added_date}
use Rattle.bind_said.specs.Saying.{local_number, named_attributes, saying_attributes}
use Rattle.bind_said.specs.declared.picked.JudgedNames.{JudgedNames}

-- The node of the pick is one of the document.
abbrev pub IsWithin : Document → Picked → Type 0
IsWithin d pick = pick.node < length d.nodes

abbrev pub is_amount : Option DataType → Bool
is_amount data_type = elim data_type [ Some data_types.A ↦ true | _ ↦ false ]

abbrev pub currency_at : Document → Option ℕ → Row → ℕ → List ℕ
currency_at d name row n = elim (is_of_amount row) [ true ↦ named_attributes d name n | false ↦ [] ]

abbrev pub format_at : Document → Option ℕ → Row → ℕ → List ℕ
format_at d name row n = elim (is_of_added_date row) [ true ↦ saying_attributes d (codes "102") name n | false ↦ [] ]

abbrev pub judged_at : Document → JudgedNames → Row → ℕ → List ℕ
judged_at d names row n = currency_at d names.currency row n ++ format_at d names.format row n

abbrev pub judged_in : Document → JudgedNames → Option Row → ℕ → List ℕ
judged_in d names None n = []
judged_in d names (Some row) n = judged_at d names row n

abbrev pub said_by_pick_named : Document → JudgedNames → List Row → Picked → List ℕ
said_by_pick_named d names rows pick = pick.node ∷ judged_in d names (slice_get rows (pick.row - 1)) pick.node

abbrev pub judged_names : Document → JudgedNames
judged_names d = record { currency = local_number d currency_id; format = local_number d (codes "format") }

abbrev pub said_by_pick : Document → List Row → Picked → List ℕ
said_by_pick d rows pick = said_by_pick_named d (judged_names d) rows pick
