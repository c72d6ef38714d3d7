-- The text of a document is what the calls of its root append, and a line end.
use Rattle.std.proofs.Common.{◌≡◌, ℕ, List, [], ◌∷◌, ◌++◌, map, Option, Some, None, Result, refl, ap, sym, ◌∙◌, subst}
use Rattle.std.specs.Prelude.{encode_utf8_all}
use Rattle.std.specs.Result.{IsErr}
use Rattle.inv_base.specs.Outside.{SinkView}
use Rattle.inv_base.specs.Tree.{Forest}
use Rattle.inv_base.specs.Writing.{Writes, WritesAll}
use Rattle.inv_base.proofs.WritingLemmas.{WritesAll-nil, WritesFront-more, Writes-append, Writes-at_err}
use Rattle.term_table.specs.Contexts.{root_context}
use Rattle.inv_terms.specs.declared.entries.Entry.{Entry}
use Rattle.xml_write.specs.declared.pen.PenState.{PenState}
use Rattle.xml_write.specs.declared.pen.PenState.TheVariants.{Fresh}
use Rattle.xml_write.specs.Canonical.{Declaration, canonical_text}
use Rattle.xml_write.specs.Calls.{Call, call_close, calls_of, encoded, appended_by_all}
use Rattle.xml_write.specs.Writers.{WriterView, writing, Made, Broke}
use Rattle.xml_write.proofs.CallsLemmas.{appended_by_all-append}
use Rattle.bind_rows.specs.declared.rows.Row.{Row}
use Rattle.bind_rows.specs.declared.rows.Step.{Step}
use Rattle.bind_table.specs.declared.lines.Line.{Line}
use Rattle.bind_table.specs.Lines.{Plan, Cell, nothing, a_line, flat, plan_of}
use Rattle.bind_meaning.specs.Trees.{document_of, spots}
use Rattle.bind_write.specs.declared.source.Source.{Source}
use Rattle.bind_write.specs.declared.roots.Root.{Root}
use Rattle.bind_write.specs.Sources.{Sees}
use Rattle.bind_write.specs.Holding.{IsLineOf, IsPlanOf}
use Rattle.bind_write.specs.Roots.{Rooted, first_root, IsRoot, IsRootOrNone, FindsRoot, root_calls}
use Rattle.bind_write.specs.Documents.{declarations_for, document_text}
use Rattle.bind_write.proofs.RootLemmas.{OneRoot, root_plan, document-calls, no-document}

-- ---- what the code found

-- the root of the invoice's document
pub record Found (rows : List Row) (es : List Entry) (r : OneRoot rows) (source : Source) (root : Root) : Type 0 where
  pub rooted : Rooted
  pub first : first_root es r.s r.cs r.inside (spots es root_context r.s.group) ≡ Some rooted
  pub is : IsRoot source r.s r.cs r.inside rooted root

some-root : (source : Source) (s : Step) (cs : List Cell) (plan : Plan) (found : Option Rooted) (root : Root) → IsRootOrNone source s cs plan found (Some root)
    → (rooted : Rooted) × (found ≡ Some rooted) × IsRoot source s cs plan rooted root
some-root source s cs plan None root i = absurd i
some-root source s cs plan (Some rooted) root i = (rooted, refl, i)

none-root : (source : Source) (s : Step) (cs : List Cell) (plan : Plan) (found : Option Rooted) → IsRootOrNone source s cs plan found None → found ≡ None
none-root source s cs plan None i = refl
none-root source s cs plan (Some rooted) i = absurd i

module _ (rs rows : List Row) (xs es : List Entry) (source : Source) (lines : List Line) (r : OneRoot rows) (s : Sees rs xs root_context source)
    (rows_are : rs ≡ rows) (entries_are : xs ≡ es) (lines_are : lines ≡ flat (plan_of rows)) where
  plan : IsPlanOf source.rows.now lines (a_line r.s r.cs r.inside nothing)
  plan = let P : List Row → Type 0 = λ x. IsPlanOf x lines (a_line r.s r.cs r.inside nothing) in
      subst P (sym (s.rows_are ∙ rows_are)) (root_plan rows lines r lines_are)

  same_first : first_root source.entries.now r.s r.cs r.inside (spots source.entries.now source.context r.s.group) ≡ first_root es r.s r.cs r.inside
      (spots es root_context r.s.group)
  same_first =
      ap (λ x. first_root x r.s r.cs r.inside (spots x source.context r.s.group)) (s.entries_are ∙ entries_are) ∙
      ap (λ c. first_root es r.s r.cs r.inside (spots es c r.s.group)) s.context_is

  pub found-some : (root : Root) → FindsRoot source lines (Some root) → Found rows es r source root
  found-some root f =
      let i = some-root source r.s r.cs r.inside _ root (f r.s r.cs r.inside nothing plan) in
      record { rooted = i.0; first = sym same_first ∙ i.1; is = i.2 }

  pub found-none : FindsRoot source lines None → first_root es r.s r.cs r.inside (spots es root_context r.s.group) ≡ None
  found-none f = sym same_first ∙ none-root source r.s r.cs r.inside _ (f r.s r.cs r.inside nothing plan)

  -- the line of the root, as its source sees it
  pub root-line : (root : Root) → (f : Found rows es r source root) → IsLineOf root.source.rows.now root.line.now root.inside.now r.cs r.inside
  root-line root f = let P : List Row → Type 0 = λ x. IsLineOf x root.line.now root.inside.now r.cs r.inside in subst P (sym f.is.rows_are) f.is.line_is

  pub same_calls : (root : Root) → (f : Found rows es r source root)
      → root_calls root.source.entries.now root.line.now.step r.cs r.inside root.held root.source.context ≡ root_calls es r.s r.cs r.inside f.rooted.held
      f.rooted.context
  same_calls root f =
      ap (λ x. root_calls x root.line.now.step r.cs r.inside root.held root.source.context) (f.is.entries_are ∙ (s.entries_are ∙ entries_are))
      ∙ (ap (λ x. root_calls es x r.cs r.inside root.held root.source.context) f.is.step_is
      ∙ (ap (λ x. root_calls es r.s r.cs r.inside x root.source.context) f.is.held_is ∙ ap (root_calls es r.s r.cs r.inside f.rooted.held) f.is.context_is))

-- ---- what is written

abbrev Law : Type 0
Law = (declarations : List Declaration) (document : Forest) → appended_by_all Fresh (map encoded (calls_of declarations document)) ≡ encode_utf8_all
    (canonical_text declarations document)

text-is : (rows : List Row) (es : List Entry) (calls : List Call) → Law → map encoded (calls_of (declarations_for rows) (document_of rows es)) ≡ calls ++
    call_close ∷ []
    → appended_by_all Fresh calls ++ (0xA ∷ []) ≡ encode_utf8_all (document_text rows es)
unfolding document_text
text-is rows es calls law e =
    sym (appended_by_all-append Fresh calls (call_close ∷ [])) ∙ (ap (appended_by_all Fresh) (sym e) ∙ law (declarations_for rows) (document_of rows es))

no-text : (rows : List Row) (es : List Entry) (r : OneRoot rows) → first_root es r.s r.cs r.inside (spots es root_context r.s.group) ≡ None →
    [] ≡ encode_utf8_all (document_text rows es)
unfolding document_text
no-text rows es r e = ap (λ x. encode_utf8_all (canonical_text (declarations_for rows) x)) (sym (no-document rows es r e))

pub nothing-written : (rows : List Row) (es : List Entry) (r : OneRoot rows) (out : SinkView) →
    first_root es r.s r.cs r.inside (spots es root_context r.s.group) ≡ None
    → WritesAll (encode_utf8_all (document_text rows es)) out out
nothing-written rows es r out e = let P : List ℕ → Type 0 = λ x. WritesAll x out out in subst P (no-text rows es r e) (WritesAll-nil out)

module _ (rows : List Row) (es : List Entry) (r : OneRoot rows) (rooted : Rooted)
    (first : first_root es r.s r.cs r.inside (spots es root_context r.s.group) ≡ Some rooted) (law : Law)
    (calls : List Call) (calls_are : calls ≡ root_calls es r.s r.cs r.inside rooted.held rooted.context) (pen : PenState) (fresh : pen ≡ Fresh) where
  whole-text : appended_by_all pen calls ++ (0xA ∷ []) ≡ encode_utf8_all (document_text rows es)
  whole-text =
      ap (λ x. appended_by_all x calls ++ (0xA ∷ [])) fresh
      ∙ text-is rows es calls law (document-calls rows es r rooted first ∙ ap (λ x. x ++ call_close ∷ []) (sym calls_are))

  pub root-broke : {T E : Type 0} (result : Result T E) (before after : SinkView) → Broke (writing pen) before calls after → IsErr result →
      Writes result (encode_utf8_all (document_text rows es)) before after
  root-broke result before after b i =
      let P : List ℕ → Type 0 = λ x. Writes result x before after in
      subst P whole-text (Writes-at_err result _ _ _ i (WritesFront-more (appended_by_all pen calls) (0xA ∷ []) before after b))

  pub root-written : {T E : Type 0} (result : Result T E) (v : WriterView) (before between after : SinkView) → Made (writing pen) before calls v between →
      Writes result (0xA ∷ []) between after
      → Writes result (encode_utf8_all (document_text rows es)) before after
  root-written result v before between after m c =
      let P : List ℕ → Type 0 = λ x. Writes result x before after in
      subst P whole-text (Writes-append result (appended_by_all pen calls) (0xA ∷ []) before between after m.sink c)
