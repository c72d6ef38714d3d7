-- Tables as the standards list their syntaxes: an element with what stands at it, in it and beside it. Its numbered
-- rows follow.
use Prim.Native.String.{String}
use Rattle.std.specs.Prelude.{ℕ, ◌+◌, Bool, true, false, List, [], ◌∷◌, ◌++◌, map, flat_map, Option, Some, None, codes, slice_get}
use Rattle.std.specs.Option.{option_to_list}
use Rattle.term_table.specs.declared.groups.Group.{Group}
use Rattle.term_table.specs.declared.terms.Term.{Term}
use Rattle.bind_rows.specs.declared.names.Namespace.{Namespace}
use Rattle.bind_rows.specs.declared.names.ElementName.{ElementName}
use Rattle.bind_rows.specs.declared.names.Leaf.{Leaf}
use Rattle.bind_rows.specs.declared.names.Leaf.TheVariants as leaves
use Rattle.bind_rows.specs.declared.guards.Guard.{Guard}
use Rattle.bind_rows.specs.declared.guards.Test.{Test}
use Rattle.bind_rows.specs.declared.guards.Test.TheVariants as tests
use Rattle.bind_rows.specs.declared.rows.Check.{Check}
use Rattle.bind_rows.specs.declared.rows.Check.TheVariants as checks
use Rattle.bind_rows.specs.declared.rows.Content.{Content}
use Rattle.bind_rows.specs.declared.rows.Content.TheVariants as contents
use Rattle.bind_rows.specs.declared.rows.Form.{Form}
use Rattle.bind_rows.specs.declared.rows.Form.TheVariants as forms
use Rattle.bind_rows.specs.declared.rows.Repeats.{Repeats}
use Rattle.bind_rows.specs.declared.rows.Repeats.TheVariants as repeat
use Rattle.bind_rows.specs.declared.rows.Row.{Row}
use Rattle.bind_rows.specs.declared.rows.Step.{Step}
use Rattle.bind_rows.specs.declared.rows.Written.{Written}
use Rattle.bind_rows.specs.declared.rows.Written.TheVariants as written

-- ---- what stands at an element or at an attribute

pub record Value : Type 0 where
  pub content : Content
  pub form : Form
  pub repeats : Repeats
  pub written : Written
  pub check : Check

abbrev pub plain : Content → Value
plain content = record { content = content; form = forms.Model; repeats = repeat.Once; written = written.Always; check = checks.Nothing }

-- a business term by its number, and a part of one
abbrev pub term : ℕ → Term
term number = record { number = number; part = 0 }

abbrev pub bt : ℕ → Value
bt number = plain (contents.Term (term number))

abbrev pub part : ℕ → ℕ → Value
part number n = plain (contents.Term (record { number = number; part = n }))

-- written wherever the element above it holds an entry, and not read
abbrev pub constant : String → Value
constant text = plain (contents.Constant (codes text))

-- Several picks are allowed where their values agree.
abbrev pub agreeing : Value → Value
agreeing value = record value { repeats = repeat.Agreeing }

-- The same, and the term is written in each of the elements that repeat.
abbrev pub spread : Value → Value
spread value = record value { repeats = repeat.Spread }

abbrev pub in_form : Form → Value → Value
in_form form value = record value { form = form }

abbrev pub when : Written → Value → Value
when written value = record value { written = written }

abbrev pub checked : Check → Value → Value
checked check value = record value { check = check }

-- ---- elements

pub record Element : Type 0 where
  pub name : ElementName
  pub always : Bool
  pub group : Option Group
  pub guards : List Guard

-- what stands at an element itself or at an attribute of it
pub record Placed : Type 0 where
  pub leaf : Leaf
  pub value : Value

-- nothing more; or an element with what stands at it, what stands in it, and what follows it
pub data Listing : Type 0 where
  nothing : Listing
  an_element : Element → List Placed → Listing → Listing → Listing

abbrev pub named : Namespace → String → ElementName
named namespace local = record { namespace = namespace; local = codes local }

abbrev pub element : ElementName → List Placed → Listing → Listing
element name placed inside = an_element (record { name = name; always = false; group = None; guards = [] }) placed inside nothing

-- a value at the element itself, and at its attributes
abbrev pub at_element : Value → Placed
at_element value = record { leaf = leaves.Element; value = value }

abbrev pub at : String → Value → Placed
at attribute value = record { leaf = leaves.Attribute (codes attribute); value = value }

-- some elements, and then others
infixr 20 ◌◂◌
abbrev pub ◌◂◌ : Listing → Listing → Listing
nothing ◂ others = others
an_element element placed inside rest ◂ others = an_element element placed inside (rest ◂ others)

-- The element is one occurrence of the group, is written even where it is empty, or is one that meets a guard.
abbrev pub each : Group → Listing → Listing
each group nothing = nothing
each group (an_element element placed inside rest) = an_element (record element { group = Some group }) placed inside rest

abbrev pub always : Listing → Listing
always nothing = nothing
always (an_element element placed inside rest) = an_element (record element { always = true }) placed inside rest

abbrev pub given : Guard → Listing → Listing
given guard nothing = nothing
given guard (an_element element placed inside rest) = an_element (record element { guards = guard ∷ element.guards }) placed inside rest

-- ---- guards

abbrev pub guard : List ElementName → Leaf → Test → Guard
guard path leaf test = record { place = record { path = path; leaf = leaf }; test = test }

abbrev pub one_of : List String → Test
one_of words = tests.OneOf (map codes words)

abbrev pub none_of : List String → Test
none_of words = tests.NoneOf (map codes words)

-- ---- rows

-- the groups that the elements of a path carry
abbrev pub groups_on : List Step → List Group
groups_on path = flat_map (λ (step : Step). option_to_list step.group) path

-- all but the last
abbrev pub without_last : List Group → List Group
without_last [] = []
without_last (g ∷ groups) = elim groups [ [] ↦ [] | h ∷ more ↦ g ∷ without_last groups ]

-- the groups whose occurrences make a context: a spread term stands outside the elements that repeat
abbrev pub context_groups : Repeats → List Group → List Group
context_groups repeat.Once groups = groups
context_groups repeat.Agreeing groups = groups
context_groups repeat.Spread groups = without_last groups

abbrev pub row_at : List Step → Placed → Row
row_at path placed =
    let groups = context_groups placed.value.repeats (groups_on path) in
    record {
      path = path;
      leaf = placed.leaf;
      outer = slice_get groups 0;
      inner = slice_get groups 1;
      content = placed.value.content;
      form = placed.value.form;
      repeats = placed.value.repeats;
      written = placed.value.written;
      check = placed.value.check;
    }

abbrev pub step : Element → ℕ → Step
step e number = record { name = e.name; number = number; always = e.always; group = e.group; guards = e.guards }

-- how many elements
abbrev pub size : Listing → ℕ
size nothing = 0
size (an_element e placed inside rest) = 1 + (size inside + size rest)

-- The rows inside the elements of a path, where the first element has the number: what stands at an element comes
-- before what stands in it.
abbrev pub rows_in : List Step → ℕ → Listing → List Row
rows_in path number nothing = []
rows_in path number (an_element e placed inside rest) =
    let deeper = path ++ step e number ∷ [] in
    map (row_at deeper) placed ++ (rows_in deeper (number + 1) inside ++ rows_in path (number + (1 + size inside)) rest)

-- the rows of a table, whose elements are numbered from 1 in the order of the listing
abbrev pub rows_of : Listing → List Row
rows_of listing = rows_in [] 1 listing
