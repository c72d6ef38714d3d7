-- A row that joins a table is plain in it, so it is covered, and the table's rows all are.
use Rattle.std.proofs.Common.{◌≡◌, ◌<◌, true, false, not, ◌||◌, List, [], ◌∷◌, ◌++◌, length, Option, Some, None, All, refl, ap, ◌∙◌}
use Rattle.std.specs.Prelude.{◌==◌, is_some, is_none}
use Rattle.std.specs.Cmp.Lexicographic.{pointwise}
use Rattle.std.proofs.lemmas.Bool.{false≢true, eq-eqb}
use Rattle.term_table.specs.declared.groups.Group.{Group}
use Rattle.term_table.specs.declared.terms.Term.{Term}
use Rattle.term_table.specs.Groups.{same_group}
use Rattle.term_table.specs.SemanticModel.{same_term}
use Rattle.bind_rows.specs.declared.rows.Content.{Content}
use Rattle.bind_rows.specs.declared.rows.Content.TheVariants as contents
use Rattle.bind_rows.specs.declared.rows.Form.{Form}
use Rattle.bind_rows.specs.declared.rows.Form.TheVariants as forms
use Rattle.bind_rows.specs.declared.rows.Row.{Row}
use Rattle.bind_rows.specs.declared.rows.Step.{Step}
use Rattle.bind_rows.specs.Added as added
use Rattle.bind_table.specs.Lines.{plan_of}
use Rattle.bind_table.specs.WellFormed as formed
use Rattle.bind_meaning.specs.Picks.{has_any_term}
use Rattle.bind_meaning.specs.Values.{form_for}
use Rattle.binding_laws.specs.Apart.{Known, unknown}
use Rattle.binding_laws.specs.Plain.{groups_of, listed, is_one, is_element, is_whole, is_by_value, stands_nowhere_else, has_content, is_plain_there}
use Rattle.binding_laws.specs.Plain.{is_plain_with, is_plain_in, is_plain_by}
use Rattle.binding_laws.specs.Covered.{unpaired_terms, is_covered}
use Rattle.binding_laws.proofs.ListLemmas.{append-nil}
use Rattle.carrying_laws.proofs.Disjuncts.{and-true, or-first, or-second}
use Rattle.carrying_laws.proofs.ModelLemmas.{all-each}
use Rattle.extension_laws.specs.Joins.{Joins}
use Rattle.extension_laws.specs.Open.{are_covered}
use Rattle.extension_laws.proofs.AloneLemmas.{form-typed, form-kept}
use Rattle.extension_laws.proofs.CoverLemmas.{covered-stays}
use Rattle.extension_laws.proofs.JoinLemmas.{IsAddedRow, is, stands-apart, ends-alone}
use Rattle.extension_laws.proofs.ListLemmas.{or-mono, all-more}

listed-same : (o : Option Group) → listed o ≡ formed.listed o
listed-same None = refl
listed-same (Some g) = refl

groups-step : (o : Option Group) (path : List Step) → groups_of path ≡ formed.groups_of path
    → elim o [ None ↦ groups_of path | Some group ↦ group ∷ groups_of path ] ≡ formed.listed o ++ formed.groups_of path
groups-step None path e = e
groups-step (Some g) path e = ap (λ l. g ∷ l) e

groups-same : (path : List Step) → groups_of path ≡ formed.groups_of path
groups-same [] = refl
groups-same (s ∷ path) = groups-step s.group path (groups-same path)

whole-form : (form : Form) → added.is_typed form ≡ true → is_whole form ≡ true
whole-form (forms.Typed l) h = refl
whole-form forms.TypedPlainDate h = refl
whole-form forms.Model h = refl
whole-form forms.PlainDate h = refl
whole-form forms.DueDateTypeCode h = absurd (false≢true h)
whole-form forms.CodedNote h = absurd (false≢true h)

pub term-itself : (t : Term) → same_term t t ≡ true
term-itself t = and-true (t.number == t.number) (t.part == t.part) (eq-eqb t.number t.number refl) (eq-eqb t.part t.part refl)

module _ (rows : List Row) (row : Row) (joins : Joins rows row) where
  own : IsAddedRow row
  own = is rows row joins

  pub through : pointwise same_group (groups_of row.path) (listed row.outer ++ listed row.inner) ≡ true
  through =
      (λ i. pointwise same_group (groups-same row.path i)
      ((ap (λ o. listed row.outer ++ listed o) own.inner ∙ (append-nil (listed row.outer) ∙ listed-same row.outer)) i)) ∙ joins.through

  pub content-own : has_content joins.term row.content ≡ true
  content-own = ap (has_content joins.term) joins.content ∙ term-itself joins.term

  typed-there : added.is_typed (form_for row.form joins.term) ≡ true
  typed-there = ap added.is_typed (form-kept rows row joins) ∙ form-typed rows row joins

  module _ (long : All (λ (r : Row). 0 < length r.path) rows) where
    pub plain-there : is_plain_there (plan_of (rows ++ row ∷ [])) row joins.term ≡ true
    plain-there =
        and-true _ _ (ap is_one (ends-alone rows row joins long))
        (and-true _ _ (ap is_element own.leaf)
        (and-true _ _ content-own
        (and-true _ _ (ap is_by_value own.written)
        (and-true _ _ through
        (and-true _ _ (or-second (is_some row.outer) (is_none row.inner) (ap is_none own.inner))
        (or-first (added.is_typed (form_for row.form joins.term)) (stands_nowhere_else joins.term row.outer row.inner) typed-there))))))

    pub plain-own : (known : Known) → is_plain_with known (plan_of (rows ++ row ∷ [])) row joins.term ≡ true
    plain-own known =
        and-true _ _ (stands-apart rows row joins long known)
        (and-true _ _ (whole-form (form_for row.form joins.term) typed-there) plain-there)

    pub plain-by : is_plain_by (plan_of (rows ++ row ∷ [])) row ≡ true
    plain-by =
        ap (λ (c : Content). elim c [ (contents.Term t) ↦ is_plain_in (plan_of (rows ++ row ∷ [])) row t | (contents.Constant text) ↦ false ]) joins.content
        ∙ plain-own unknown

    pub covered-more : unpaired_terms (plan_of rows) rows ≡ [] → are_covered rows ≡ true → are_covered (rows ++ row ∷ []) ≡ true
    covered-more paired h =
        all-more (λ (r : Row). not (has_any_term r) || is_covered (rows ++ row ∷ []) r) rows row
        (λ r a. or-mono (not (has_any_term r)) (is_covered rows r) (not (has_any_term r)) (is_covered (rows ++ row ∷ []) r) (λ e. e)
        (covered-stays rows row joins long paired r a)
        (all-each (λ (x : Row). not (has_any_term x) || is_covered rows x) rows h r a))
        (or-second (not (has_any_term row)) (is_covered (rows ++ row ∷ []) row) (or-first (is_plain_by (plan_of (rows ++ row ∷ [])) row) _ plain-by))
