-- The root of a document, and the calls that write it, in bytes. No public clause cites it.
use Rattle.std.specs.Prelude.{◌≡◌, Bool, false, List, [], ◌∷◌, ◌++◌, Option, Some, None, Result, OnOk, map}
use Rattle.term_table.specs.declared.contexts.Context.{Context}
use Rattle.inv_terms.specs.declared.entries.Entry.{Entry}
use Rattle.xml_write.specs.declared.pen.PenState.{PenState}
use Rattle.xml_write.specs.declared.pen.PenState.TheVariants.{PastTag}
use Rattle.xml_write.specs.Calls.{Call, call_declare, encoded, declare_calls}
use Rattle.bind_rows.specs.declared.names.Namespace.{Namespace}
use Rattle.bind_rows.specs.declared.rows.Row.{Row}
use Rattle.bind_rows.specs.declared.rows.Step.{Step}
use Rattle.bind_table.specs.declared.lines.Line.{Line}
use Rattle.bind_table.specs.Growing.{AreLines}
use Rattle.bind_table.specs.Lines.{Plan, Cell, a_line}
use Rattle.bind_rows.specs.Namespaces.{declarations_of, prefix_of, uri_of}
use Rattle.bind_meaning.specs.Trees.{spots}
use Rattle.bind_write.specs.declared.source.Source.{Source}
use Rattle.bind_write.specs.declared.roots.Root.{Root}
use Rattle.bind_write.specs.Sources.{IsSource}
use Rattle.bind_write.specs.Holding.{IsLineOf, IsPlanOf, standing}
use Rattle.bind_write.specs.Cells.{cell_calls}
use Rattle.bind_write.specs.Walking.{plan_calls, cells_calls, start_calls, end_calls}

-- ---- where the root stands: in the first context in which it is written

pub record Rooted : Type 0 where
  pub context : Context
  pub held : Bool

abbrev pub rooted_at : Context → Option Bool → Option Rooted → Option Rooted
rooted_at c None others = others
rooted_at c (Some held) others = Some (record { context = c; held = held })

abbrev pub first_root : List Entry → Step → List Cell → Plan → List Context → Option Rooted
first_root es s cells inside [] = None
first_root es s cells inside (c ∷ cs) = rooted_at c (standing es s cells inside false c) (first_root es s cells inside cs)

-- What the code found is the root of the line's document.
pub record IsRoot (source : Source) (s : Step) (cells : List Cell) (plan : Plan) (rooted : Rooted) (root : Root) : Type 0 where
  pub rows_are : root.source.rows.now ≡ source.rows.now
  pub entries_are : root.source.entries.now ≡ source.entries.now
  pub context_is : root.source.context ≡ rooted.context
  pub held_is : root.held ≡ rooted.held
  pub source_is : IsSource root.source
  pub step_is : root.line.now.step ≡ s
  pub line_is : IsLineOf source.rows.now root.line.now root.inside.now cells plan
  pub lines_are : AreLines root.inside.now

abbrev pub IsRootOrNone : Source → Step → List Cell → Plan → Option Rooted → Option Root → Type 0
IsRootOrNone source s cells plan None None = Unit {0}
IsRootOrNone source s cells plan None (Some root) = ⊥
IsRootOrNone source s cells plan (Some rooted) None = ⊥
IsRootOrNone source s cells plan (Some rooted) (Some root) = IsRoot source s cells plan rooted root

abbrev pub IsRootOf : Source → Step → List Cell → Plan → Option Root → Type 0
IsRootOf source s cells plan root = IsRootOrNone source s cells plan
    (first_root source.entries.now s cells plan (spots source.entries.now source.context s.group)) root

abbrev pub FindsRoot : Source → List Line → Option Root → Type 0
FindsRoot source lines root = (s : Step) (cells : List Cell) (inside rest : Plan) → IsPlanOf source.rows.now lines (a_line s cells inside rest) →
    IsRootOf source s cells inside root

-- ---- the calls

abbrev pub declaration_call : Namespace → Call
declaration_call namespace = encoded (call_declare (prefix_of namespace) (uri_of namespace))

abbrev pub declaration_calls : Namespace → List Call
declaration_calls root = map encoded (declare_calls (declarations_of root))

abbrev pub root_start : List Row → List Entry → Line → Context → List Call
root_start rows es line c = start_calls line.step ++ (declaration_calls line.step.name.namespace ++ cell_calls rows es line c)

abbrev pub root_calls : List Entry → Step → List Cell → Plan → Bool → Context → List Call
root_calls es s cells inside held c =
    (start_calls s ++ (declaration_calls s.name.namespace ++ cells_calls es s cells c)) ++ (plan_calls es inside held c ++ end_calls s)

abbrev pub IsPastOk : {E : Type 0} → Result (Unit {0}) E → PenState → Type 0
IsPastOk result state = OnOk result (state ≡ PastTag)
