-- Picks as they are kept, beside the rows that pick them.
use Rattle.std.specs.Prelude.{ℕ, ◌+◌, ◌-◌, ◌^◌, ◌<◌, ◌≤◌, List, [], get_or, None, unwrap_or}
use Rattle.std.specs.List.{All}
use Rattle.std.specs.Option.{ForSome}
use Rattle.inv_base.specs.Tree.{Node}
use Rattle.node_arena.specs.Moves.{parent}
use Rattle.bind_rows.specs.declared.names.Leaf.{Leaf}
use Rattle.bind_rows.specs.declared.names.Leaf.TheVariants as leaves
use Rattle.bind_rows.specs.declared.rows.Row.{Row}
use Rattle.bind_rows.specs.declared.rows.Content.TheVariants as contents
use Rattle.bind_rows.specs.declared.rows.Form.TheVariants as forms
use Rattle.bind_rows.specs.declared.rows.Repeats.TheVariants as repeats
use Rattle.bind_rows.specs.declared.rows.Written.TheVariants as written
use Rattle.bind_rows.specs.declared.rows.Check.TheVariants as checks
use Rattle.bind_meaning.specs.declared.picked.Picked.{Picked}
use Rattle.bind_meaning.specs.Picks.{Pick}

-- what stands where a table has no row
abbrev pub no_row : Row
no_row = record {
  path = [];
  leaf = leaves.Element;
  outer = None;
  inner = None;
  content = contents.Constant [];
  form = forms.Model;
  repeats = repeats.Once;
  written = written.Always;
  check = checks.Nothing;
}

-- the row of that number, from 1
abbrev pub row_at : List Row → ℕ → Row
row_at rows k = get_or rows (k - 1) no_row

-- The row of the pick is one of so many, and its elements are nodes with numbers of 32 bits.
pub record IsRowed (rows : ℕ) (q : Picked) : Type 0 where
  pub row : 0 < q.row
  pub within : q.row ≤ rows
  pub outer : ForSome q.outer (λ n. n + 1 < 2 ^ 32)
  pub inner : ForSome q.inner (λ n. n + 1 < 2 ^ 32)

abbrev pub AreRowed : ℕ → List Picked → Type 0
AreRowed rows qs = All (IsRowed rows) qs

-- Their nodes are of a document of so many.
abbrev pub AreWithin : ℕ → List Picked → Type 0
AreWithin nodes qs = All (λ (q : Picked). q.node < nodes) qs

-- a pick of which no more than the row and the node counts
abbrev pub pick_of : Row → ℕ → Pick
pick_of row n = record { place = 0; row = row; elements = []; node = n }

-- the element or the document that a node is right inside; the document is inside itself
abbrev pub above : List Node → ℕ → ℕ
above nodes n = unwrap_or (parent nodes n) 0

-- the last element of a path that ends at a node
abbrev pub last_element : List Node → Leaf → ℕ → ℕ
last_element nodes leaves.Element n = n
last_element nodes (leaves.Attribute local) n = above nodes n

-- the element around that one
abbrev pub holder : List Node → Leaf → ℕ → ℕ
holder nodes leaf n = above nodes (last_element nodes leaf n)
