-- What is asked of an invoice so that rows are told apart whose guards look at values: the texts that guards ask for aren't
-- values of the terms that are written there, and a term stands beside another where a guard asks for its attribute. All
-- of this computes from the rows.
use Rattle.std.specs.Prelude.{ℕ, Bool, true, false, not, ◌&&◌, ◌||◌, List, [], ◌∷◌, ◌++◌, flat_map, map, Option, Some, None, is_some}
use Rattle.std.specs.List.{list_all, list_any}
use Rattle.std.specs.Str.{bytes_eq}
use Rattle.std.specs.Cmp.Lexicographic.{pointwise}
use Rattle.term_table.specs.declared.groups.Group.{Group}
use Rattle.term_table.specs.declared.terms.DataType.{DataType}
use Rattle.term_table.specs.declared.terms.DataType.TheVariants as data_types
use Rattle.term_table.specs.declared.terms.Term.{Term}
use Rattle.term_table.specs.Contexts.{slot_group, same_groups}
use Rattle.term_table.specs.SemanticModel.{same_term}
use Rattle.term_table.specs.Rows.{data_type_of}
use Rattle.inv_terms.specs.declared.entries.Entry.{Entry}
use Rattle.inv_terms.specs.Values.{spelled}
use Rattle.inv_terms.specs.Listing.{value_in}
use Rattle.bind_rows.specs.declared.names.ElementName.{ElementName}
use Rattle.bind_rows.specs.declared.names.Leaf.TheVariants as leaves
use Rattle.bind_rows.specs.declared.guards.Place.{Place}
use Rattle.bind_rows.specs.declared.guards.Test.{Test}
use Rattle.bind_rows.specs.declared.guards.Test.TheVariants as tests
use Rattle.bind_rows.specs.declared.guards.Guard.{Guard}
use Rattle.bind_rows.specs.declared.rows.Content.TheVariants as contents
use Rattle.bind_rows.specs.declared.rows.Step.{Step}
use Rattle.bind_rows.specs.declared.rows.Row.{Row}
use Rattle.bind_rows.specs.Same.{same_step}
use Rattle.binding_laws.specs.Apart.{is_called, is_attribute_named, Unlike, Together, Known, is_of_group}
use Rattle.binding_laws.specs.Plain.{is_element, stands_nowhere_else}

-- Values of the type have no white space around them.
abbrev pub is_trimmed : Option DataType → Bool
is_trimmed data_type = elim data_type [ Some data_types.I ↦ true | Some data_types.C ↦ true | _ ↦ false ]

-- ---- what guards ask of the attribute at the end of a path

abbrev pub are_names : List ElementName → List Step → Bool
are_names [] [] = true
are_names [] (s ∷ path) = false
are_names (name ∷ names) [] = false
are_names (name ∷ names) (s ∷ path) = is_called name s.name && are_names names path

-- The place is that of the attribute at the end of the steps.
abbrev pub is_place_of : List ℕ → List Step → Place → Bool
is_place_of local path place = is_attribute_named local place.leaf && are_names place.path path

abbrev pub texts_of : Test → List (List ℕ)
texts_of (tests.OneOf texts) = texts
texts_of (tests.NoneOf texts) = texts
texts_of tests.Present = []
texts_of tests.Absent = []

-- the texts that guards along the one path ask for there, at the end of the other
abbrev pub texts_asked : List ℕ → List Step → List Step → List (List ℕ)
texts_asked local [] other = []
texts_asked local (s ∷ path) [] = []
texts_asked local (s ∷ path) (v ∷ other) = elim (is_called s.name v.name) [
  | true ↦ flat_map (λ (guard : Guard). elim (is_place_of local other guard.place) [ true ↦ texts_of guard.test | false ↦ [] ]) s.guards ++
      texts_asked local path other
  | false ↦ []
]

abbrev pub is_presence : Test → Bool
is_presence (tests.OneOf texts) = false
is_presence (tests.NoneOf texts) = false
is_presence tests.Present = true
is_presence tests.Absent = false

-- A guard along the path asks for the attribute at its end.
abbrev pub is_presence_asked : List ℕ → List Step → Bool
is_presence_asked local [] = false
is_presence_asked local (s ∷ path) = list_any (λ (guard : Guard). is_place_of local path guard.place && is_presence guard.test) s.guards ||
    is_presence_asked local path

-- ---- what is asked of the terms

abbrev pub unlike_of : List Row → Row → Term → List ℕ → List Unlike
unlike_of rows row term local = flat_map (λ (other : Row). map (λ text. record { term = term; text = text }) (texts_asked local other.path row.path)) rows

-- The row writes the term at the element of the other, in the same group.
abbrev pub is_main_of : Row → Group → Row → Term → Bool
is_main_of row group main term = is_element main.leaf &&
    (is_of_group group main && (pointwise same_step main.path row.path && stands_nowhere_else term (Some group) None))

abbrev pub together_by : Row → Group → Term → Row → List Together
together_by row group part main = elim main.content [
  | (contents.Term term) ↦ elim (is_main_of row group main term) [ true ↦ record { group = group; term = term; part = part } ∷ [] | false ↦ [] ]
  | (contents.Constant text) ↦ []
]

abbrev pub together_of : List Row → Row → Term → List ℕ → List Together
together_of rows row part local = elim row.outer [
  | None ↦ []
  | Some group ↦ elim (is_of_group group row && is_presence_asked local row.path) [ true ↦ flat_map (together_by row group part) rows | false ↦ [] ]
]

-- the attribute's row, if its term's values have no white space around them
abbrev pub at_attributes : {X : Type 0} → (Row → Term → List ℕ → List X) → Row → List X
at_attributes f row = elim row.content [
  | (contents.Term term) ↦ elim row.leaf [
    | leaves.Element ↦ []
    | (leaves.Attribute local) ↦ elim (is_trimmed (data_type_of term)) [ true ↦ f row term local | false ↦ [] ]
  ]
  | (contents.Constant text) ↦ []
]

-- what is asked of the terms of a table
abbrev pub known_of : List Row → Known
known_of rows = record { gone = []; unlike = flat_map (at_attributes (unlike_of rows)) rows; together = flat_map (at_attributes (together_of rows)) rows }

-- ---- entries that are as asked

-- The entry's value is none of the texts.
abbrev pub is_other_value : Known → Entry → Bool
is_other_value known e = list_all (λ (u : Unlike). not (same_term e.term u.term && bytes_eq u.text (spelled e.value))) known.unlike

-- What has to stand with it, does.
abbrev pub has_parts : Known → List Entry → Entry → Bool
has_parts known es e =
    list_all (λ (x : Together). not (same_term e.term x.term && same_groups (slot_group e.context.outer) (Some x.group)) ||
    is_some (value_in es x.part e.context)) known.together

abbrev pub is_as_known : Known → List Entry → Entry → Bool
is_as_known known es e = is_other_value known e && has_parts known es e
