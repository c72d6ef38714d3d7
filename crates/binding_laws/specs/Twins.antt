-- Two paths that lead to the same elements, as those of the two VAT totals: what is picked along either of them is what is
-- written of the line of the first and then of that of the second. All of it computes from the rows.
use Rattle.std.specs.Prelude.{Bool, true, false, not, ◌&&◌, ◌||◌, List, [], ◌∷◌, is_none}
use Rattle.std.specs.Cmp.Lexicographic.{pointwise}
use Rattle.bind_rows.specs.declared.rows.Step.{Step}
use Rattle.bind_rows.specs.Same.{same_name, same_step}
use Rattle.bind_table.specs.Lines.{Plan, nothing, a_line}
use Rattle.binding_laws.specs.Apart.{is_called, is_unguarded, is_nothing, unknown, beyond, meets_all, is_off, is_clear, is_apart}

-- two paths that lead to the same elements of any document
abbrev pub same_look : Step → Step → Bool
same_look a b = same_step a b || (same_name a.name b.name && (is_unguarded a.guards && is_unguarded b.guards))

abbrev pub same_way : List Step → List Step → Bool
same_way path other = pointwise same_look path other

-- The two paths go through the same lines, none of them one of a group, as far as two that stand beside one another; from
-- there on each stands apart, but for the other.
abbrev pub are_twins : Plan → List Step → List Step → Bool
are_twins nothing path other = false
are_twins (a_line t cells inside rest) [] other = false
are_twins (a_line t cells inside rest) (s ∷ path) [] = false
are_twins (a_line t cells inside rest) (s ∷ path) (v ∷ other) = elim (same_step s t) [
  | true ↦ meets_all unknown s.guards t cells inside && elim (same_step v t) [
    | true ↦ is_none t.group && (is_clear unknown rest (s ∷ path) && are_twins inside path other)
    | false ↦ is_apart unknown rest (v ∷ other) && elim path [ [] ↦ is_nothing inside | (u ∷ further) ↦ is_apart (beyond t.group unknown) inside (u ∷ further) ]
  ]
  | false ↦ not (same_step v t) && elim (is_called s.name t.name) [
    | true ↦ (is_off unknown s.guards t cells inside || elim path [ [] ↦ false | (u ∷ further) ↦ is_clear (beyond t.group unknown) inside (u ∷ further) ]) &&
        are_twins rest (s ∷ path) (v ∷ other)
    | false ↦ are_twins rest (s ∷ path) (v ∷ other)
  ]
]
