-- What is computed of the rows alone is as it was where a row joins them.
use Rattle.std.proofs.Common.{◌≡◌, ℕ, Bool, true, false, not, ◌&&◌, List, [], ◌∷◌, ◌++◌, flat_map, map, Option, Some, None, refl, sym, ap, ◌∙◌, subst}
use Rattle.std.specs.Prelude.{is_some}
use Rattle.std.specs.List.{list_any}
use Rattle.std.specs.Cmp.Lexicographic.{pointwise}
use Rattle.std.proofs.lemmas.Bool.{false≢true}
use Rattle.term_table.specs.declared.groups.Group.{Group}
use Rattle.term_table.specs.declared.terms.Term.{Term}
use Rattle.term_table.specs.Rows.{is_base64, data_type_of}
use Rattle.term_table.specs.SemanticModel.{is_extension, same_term}
use Rattle.bind_rows.specs.declared.names.Leaf.{Leaf}
use Rattle.bind_rows.specs.declared.names.Leaf.TheVariants as leaves
use Rattle.bind_rows.specs.declared.guards.Guard.{Guard}
use Rattle.bind_rows.specs.declared.rows.Content.{Content}
use Rattle.bind_rows.specs.declared.rows.Content.TheVariants as contents
use Rattle.bind_rows.specs.declared.rows.Form.{Form}
use Rattle.bind_rows.specs.declared.rows.Form.TheVariants as forms
use Rattle.bind_rows.specs.declared.rows.Step.{Step}
use Rattle.bind_rows.specs.declared.rows.Row.{Row}
use Rattle.bind_rows.specs.declared.rows.Written.{Written}
use Rattle.bind_rows.specs.declared.rows.Written.TheVariants as written
use Rattle.bind_rows.specs.Same.{same_step}
use Rattle.bind_rows.specs.Added as added
use Rattle.bind_meaning.specs.Picks.{term_in, has_term}
use Rattle.bind_meaning.specs.Values.{subject_code, form_for}
use Rattle.binding_laws.specs.Apart.{is_called, is_unguarded, Together, is_of_group}
use Rattle.binding_laws.specs.Known.{is_trimmed, is_place_of, texts_of, texts_asked, is_presence_asked, unlike_of, is_main_of, together_by, together_of}
use Rattle.binding_laws.specs.Known.{at_attributes, known_of}
use Rattle.binding_laws.specs.Plain.{is_element, stands_nowhere_else}
use Rattle.binding_laws.specs.Covered.{accounting_terms_of, accounting_terms, total_terms_of, total_terms, beside_placeholder, is_coded, is_coded_row}
use Rattle.binding_laws.specs.Covered.{is_accounting_rule, is_total_rule}
use Rattle.binding_laws.proofs.ReachLemmas.{Among}
use Rattle.binding_laws.proofs.ListLemmas.{not-true}
use Rattle.carrying_laws.proofs.ModelLemmas.{all-each}
use Rattle.term_table.proofs.SeatLemmas.{same_term_is}
use Rattle.term_table.specs.declared.terms.DataType.{DataType}
use Rattle.extension_laws.specs.Joins.{Joins}
use Rattle.extension_laws.specs.Ways.{part, are_unguarded}
use Rattle.extension_laws.proofs.AddLemmas.{both, called-as-itself}
use Rattle.extension_laws.proofs.JoinLemmas.{IsAddedRow, is, own-parts}
use Rattle.extension_laws.proofs.ListLemmas.{any-same, flat-more}
use Rattle.bind_table.proofs.SameLemmas.{step-sound}

and-false : (a b : Bool) → b ≡ false → (a && b) ≡ false
and-false true b e = e
and-false false b e = refl

-- ---- a path that is parted by name is another one

pub part-other : (p q : List Step) → part p q ≡ true → pointwise same_step p q ≡ false
part-other [] q h = absurd (false≢true h)
part-other (s ∷ p) [] h = absurd (false≢true h)
part-other (s ∷ p) (t ∷ q) h = by (same_step s t) refl (part-other p q)
  where
    by : (b : Bool) → same_step s t ≡ b → (part p q ≡ true → pointwise same_step p q ≡ false) → pointwise same_step (s ∷ p) (t ∷ q) ≡ false
    by false e f = ap (λ b. b && pointwise same_step p q) e
    by true e f =
        let called : is_called s.name t.name ≡ true = subst (λ (x : Step). is_called s.name x.name ≡ true) (step-sound s t e) (called-as-itself s.name) in
        let w = both (same_step s t) (part p q) (ap (λ b. elim b [ true ↦ same_step s t && part p q | false ↦ true ]) (sym called) ∙ h) in
        ap (λ b. b && pointwise same_step p q) e ∙ f w.1

-- ---- no guard of it asks for anything

pub no-texts : (local : List ℕ) (path other : List Step) → are_unguarded path ≡ true → texts_asked local path other ≡ []
no-texts local [] other h = refl
no-texts local (s ∷ path) [] h = refl
no-texts local (s ∷ path) (v ∷ other) h =
    let w = both (is_unguarded s.guards) (are_unguarded path) h in
    by (is_called s.name v.name) (none s.guards w.0) (no-texts local path other w.1)
  where
    none : (guards : List Guard) → is_unguarded guards ≡ true
        → ◌≡◌ {A = List (List ℕ)} (flat_map (λ (guard : Guard). elim (is_place_of local other guard.place) [ true ↦ texts_of guard.test | false ↦ [] ]) guards)
        []
    none [] h = refl
    none (g ∷ guards) h = absurd (false≢true h)

    by : (b : Bool)
        → ◌≡◌ {A = List (List ℕ)} (flat_map (λ (guard : Guard). elim (is_place_of local other guard.place) [ true ↦ texts_of guard.test | false ↦ [] ])
        s.guards) []
        → texts_asked local path other ≡ []
        → ◌≡◌ {A = List (List ℕ)} (elim b [
          | true ↦ flat_map (λ (guard : Guard). elim (is_place_of local other guard.place) [ true ↦ texts_of guard.test | false ↦ [] ]) s.guards ++
              texts_asked local path other
          | false ↦ []
        ]) []
    by true e f = ap (λ l. l ++ texts_asked local path other) e ∙ f
    by false e f = refl

module _ (rows : List Row) (row : Row) (joins : Joins rows row) where
  own : IsAddedRow row
  own = is rows row joins

  -- ---- what is known

  unlike-same : (r : Row) (term : Term) (local : List ℕ) → unlike_of (rows ++ row ∷ []) r term local ≡ unlike_of rows r term local
  unlike-same r term local =
      flat-more (λ (other : Row). map (λ text. record { term = term; text = text }) (texts_asked local other.path r.path))
      (λ (other : Row). map (λ text. record { term = term; text = text }) (texts_asked local other.path r.path)) rows row (λ x a. refl)
      (ap (λ texts. map (λ text. record { term = term; text = text }) texts) (no-texts local row.path r.path own.free))

  not-main : (r : Row) (group : Group) (term : Term) → Among r rows → is_main_of r group row term ≡ false
  not-main r group term a =
      and-false (is_element row.leaf) _ (and-false (is_of_group group row) _
      (ap (λ b. b && stands_nowhere_else term (Some group) None) (part-other row.path r.path (own-parts rows row joins r a))))

  no-together : (r : Row) (group : Group) (part : Term) → Among r rows → together_by r group part row ≡ []
  no-together r group part a = by row.content
    where
      by : (c : Content) → ◌≡◌ {A = List Together} (elim c [
        | (contents.Term term) ↦ elim (is_main_of r group row term) [ true ↦ record { group = group; term = term; part = part } ∷ [] | false ↦ [] ]
        | (contents.Constant text) ↦ []
      ]) []
      by (contents.Term term) = ap (λ b. elim b [ true ↦ record { group = group; term = term; part = part } ∷ [] | false ↦ [] ]) (not-main r group term a)
      by (contents.Constant text) = refl

  together-rows : (r : Row) (group : Group) (part : Term) → Among r rows
      → flat_map (together_by r group part) (rows ++ row ∷ []) ≡ flat_map (together_by r group part) rows
  together-rows r group part a = flat-more (together_by r group part) (together_by r group part) rows row (λ x b. refl) (no-together r group part a)

  together-same : (r : Row) (part : Term) (local : List ℕ) → Among r rows → together_of (rows ++ row ∷ []) r part local ≡ together_of rows r part local
  together-same r part local a = λ i. elim r.outer [
    | None ↦ []
    | Some group ↦ elim (is_of_group group r && is_presence_asked local r.path) [ true ↦ together-rows r group part a i | false ↦ [] ]
  ]

  no-attribute-here : {X : Type 0} (f : Row → Term → List ℕ → List X) → at_attributes f row ≡ []
  no-attribute-here {X = X} f = by row.content row.leaf own.leaf
    where
      by : (c : Content) (l : Leaf) → l ≡ leaves.Element → ◌≡◌ {A = List X} (elim c [
        | (contents.Term term) ↦ elim l [
          | leaves.Element ↦ []
          | (leaves.Attribute local) ↦ elim (is_trimmed (data_type_of term)) [ true ↦ f row term local | false ↦ [] ]
        ]
        | (contents.Constant text) ↦ []
      ]) []
      by (contents.Term term) leaves.Element e = refl
      by (contents.Term term) (leaves.Attribute local) e = cc
      by (contents.Constant text) l e = refl

  attributes-same : {X : Type 0} (f g : Row → Term → List ℕ → List X) (r : Row) → ((term : Term) (local : List ℕ) → g r term local ≡ f r term local)
      → at_attributes g r ≡ at_attributes f r
  attributes-same f g r h = λ i. elim r.content [
    | (contents.Term term) ↦ elim r.leaf [
      | leaves.Element ↦ []
      | (leaves.Attribute local) ↦ elim (is_trimmed (data_type_of term)) [ true ↦ h term local i | false ↦ [] ]
    ]
    | (contents.Constant text) ↦ []
  ]

  unlike-all : flat_map (at_attributes (unlike_of (rows ++ row ∷ []))) (rows ++ row ∷ []) ≡ flat_map (at_attributes (unlike_of rows)) rows
  unlike-all =
      flat-more (at_attributes (unlike_of rows)) (at_attributes (unlike_of (rows ++ row ∷ []))) rows row
      (λ r a. attributes-same (unlike_of rows) (unlike_of (rows ++ row ∷ [])) r (λ term local. unlike-same r term local))
      (no-attribute-here (unlike_of (rows ++ row ∷ [])))

  together-all : flat_map (at_attributes (together_of (rows ++ row ∷ []))) (rows ++ row ∷ []) ≡ flat_map (at_attributes (together_of rows)) rows
  together-all =
      flat-more (at_attributes (together_of rows)) (at_attributes (together_of (rows ++ row ∷ []))) rows row
      (λ r a. attributes-same (together_of rows) (together_of (rows ++ row ∷ [])) r (λ term local. together-same r term local a))
      (no-attribute-here (together_of (rows ++ row ∷ [])))

  pub known-same : known_of (rows ++ row ∷ []) ≡ known_of rows
  known-same = λ i. record { gone = []; unlike = unlike-all i; together = together-all i }

  -- ---- lists of terms

  abbrev pub beside_of : Written → List Term
  beside_of w = elim w [ (written.OrPlaceholder placeholder) ↦ placeholder.beside ∷ [] | _ ↦ [] ]

  pub beside-same : flat_map beside_placeholder (rows ++ row ∷ []) ≡ flat_map beside_placeholder rows
  beside-same =
      flat-more beside_placeholder beside_placeholder rows row (λ x a. refl) (ap beside_of own.written)

  term-of-rule : (b : Bool) → b ≡ false
      → ◌≡◌ {A = List Term} (elim b [ true ↦ elim row.content [ (contents.Term term) ↦ term ∷ [] | (contents.Constant text) ↦ [] ] | false ↦ [] ]) []
  term-of-rule true e = absurd (false≢true (sym e))
  term-of-rule false e = refl

  pub no-accounting : accounting_terms_of row ≡ []
  no-accounting = term-of-rule (is_accounting_rule row.written) (ap is_accounting_rule own.written)

  pub accounting-same : accounting_terms (rows ++ row ∷ []) ≡ accounting_terms rows
  accounting-same = flat-more accounting_terms_of accounting_terms_of rows row (λ x a. refl) no-accounting

  pub total-same : total_terms (rows ++ row ∷ []) ≡ total_terms rows
  total-same = flat-more total_terms_of total_terms_of rows row (λ x a. refl) (term-of-rule (is_total_rule row.written) (ap is_total_rule own.written))

  -- ---- its term is none of the model, nor of another row

  pub not-modelled : (t : Term) → is_extension t ≡ false → has_term t row ≡ false
  not-modelled t e = by row.content own.extension
    where
      same : (b : Bool) (term : Term) → same_term term t ≡ b → is_extension term ≡ true → b ≡ false
      same false term h k = refl
      same true term h k = absurd (false≢true (sym e ∙ (ap is_extension (sym (same_term_is term t h)) ∙ k)))

      by : (c : Content) → added.adds_term c ≡ true → elim (term_in c) [ None ↦ false | Some u ↦ same_term u t ] ≡ false
      by (contents.Term term) k = same (same_term term t) term refl k
      by (contents.Constant text) k = refl

  pub subject-same : list_any (has_term subject_code) (rows ++ row ∷ []) ≡ list_any (has_term subject_code) rows
  subject-same = any-same (has_term subject_code) (has_term subject_code) rows row (λ x a. refl) (not-modelled subject_code refl)

  -- ---- its form

  typed-form : (o : Option DataType) → added.is_added_type o ≡ true → is_some o ≡ true
  typed-form None h = absurd (false≢true h)
  typed-form (Some l) h = refl

  pub form-typed : added.is_typed row.form ≡ true
  form-typed = typed-form (added.data_type_of_form row.form) own.typed

  -- a form of a type suits an added term
  suited : (form : Form) (term : Term) → added.is_added_type (added.data_type_of_form form) ≡ true → is_extension term ≡ true → form_for form term ≡ form
  suited (forms.Typed l) term h k = ap (λ (b : Bool). elim b [ true ↦ forms.Typed l | false ↦ forms.Model ]) (ap (λ b. b && not (is_base64 l)) k ∙ h)
  suited forms.TypedPlainDate term h k = ap (λ (b : Bool). elim b [ true ↦ forms.TypedPlainDate | false ↦ forms.Model ]) k
  suited forms.Model term h k = absurd (false≢true h)
  suited forms.PlainDate term h k = absurd (false≢true h)
  suited forms.DueDateTypeCode term h k = absurd (false≢true h)
  suited forms.CodedNote term h k = absurd (false≢true h)

  pub extension : is_extension joins.term ≡ true
  extension = ap added.adds_term (sym joins.content) ∙ own.extension

  pub form-kept : form_for row.form joins.term ≡ row.form
  form-kept = suited row.form joins.term own.typed extension

  not-coded : (form : Form) → added.is_typed form ≡ true → is_coded form ≡ false
  not-coded (forms.Typed l) h = refl
  not-coded forms.TypedPlainDate h = refl
  not-coded forms.Model h = refl
  not-coded forms.PlainDate h = refl
  not-coded forms.DueDateTypeCode h = refl
  not-coded forms.CodedNote h = absurd (false≢true h)

  pub uncoded : is_coded_row row ≡ false
  uncoded =
      ap (λ (c : Content). elim c [ (contents.Term term) ↦ is_coded (form_for row.form term) | (contents.Constant text) ↦ false ]) joins.content
      ∙ (ap is_coded form-kept ∙ not-coded row.form form-typed)

  -- another row has another term
  pub other-term : (r : Row) (t : Term) → Among r rows → r.content ≡ contents.Term t → same_term joins.term t ≡ false
  other-term r t a e = by (same_term joins.term t) refl
    where
      unlike : same_term t joins.term ≡ false
      unlike =
          ap (λ (c : Content). elim (term_in c) [ None ↦ false | Some u ↦ same_term u joins.term ]) (sym e)
          ∙ not-true (has_term joins.term r) (all-each (λ (other : Row). not (has_term joins.term other)) rows joins.alone r a)

      by : (b : Bool) → same_term joins.term t ≡ b → b ≡ false
      by false h = refl
      by true h =
          let same = same_term_is joins.term t h in
          absurd (false≢true (sym unlike ∙ subst (λ x. same_term x joins.term ≡ true) same (subst (λ x. same_term joins.term x ≡ true) (sym same) h)))
