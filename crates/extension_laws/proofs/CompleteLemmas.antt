-- A complete table stays so where a row joins it: each term of the model is written by the rows that wrote it.
use Rattle.std.proofs.Common.{◌≡◌, ◌<◌, Bool, true, false, not, ◌&&◌, ◌||◌, List, [], ◌∷◌, ◌++◌, length, filter, Option, Some, None, All, inl, inr, refl, sym}
use Rattle.std.proofs.Common.{ap, ◌∙◌}
use Rattle.std.specs.Prelude.{if◌then◌else◌}
use Rattle.std.specs.List.{list_all, list_any}
use Rattle.std.specs.Cmp.Lexicographic.{pointwise}
use Rattle.std.proofs.lemmas.Bool.{false≢true}
use Rattle.term_table.specs.declared.groups.Group.{Group}
use Rattle.term_table.specs.declared.terms.Term.{Term}
use Rattle.term_table.specs.declared.terms.TermRow.{TermRow}
use Rattle.term_table.specs.SemanticModel.{same_term, is_extension, terms}
use Rattle.term_table.specs.Contexts.{outer_group, inner_group}
use Rattle.bind_rows.specs.declared.rows.Content.{Content}
use Rattle.bind_rows.specs.declared.rows.Content.TheVariants as contents
use Rattle.bind_rows.specs.declared.rows.Form.{Form}
use Rattle.bind_rows.specs.declared.rows.Form.TheVariants as forms
use Rattle.bind_rows.specs.declared.rows.Row.{Row}
use Rattle.bind_rows.specs.declared.rows.Written.{Written}
use Rattle.bind_rows.specs.declared.rows.Written.TheVariants as written
use Rattle.bind_rows.specs.Added as added
use Rattle.bind_rows.specs.Same.{same_step}
use Rattle.bind_table.specs.Lines.{Plan, plan_of}
use Rattle.bind_meaning.specs.Picks.{term_in, has_term}
use Rattle.bind_meaning.specs.Trees.{either}
use Rattle.bind_meaning.specs.Values.{subject_code, form_for}
use Rattle.bind_carrying.specs.Carrying.{bt}
use Rattle.bind_carrying.specs.Tables.{document_type_of, is_ubl}
use Rattle.binding_laws.specs.Apart.{Known, unknown}
use Rattle.binding_laws.specs.Known.{known_of}
use Rattle.binding_laws.specs.Plain.{is_one, has_content, is_plain_in, is_plain_with, is_spread_in, is_spread_with}
use Rattle.binding_laws.specs.Covered.{is_filled_in, is_total_in, is_pair_in, is_noted_in, is_coded_row, accounting_terms, unpaired_terms, left_out}
use Rattle.binding_laws.proofs.ReachLemmas.{Among}
use Rattle.binding_laws.proofs.ListLemmas.{not-true}
use Rattle.carrying_laws.specs.Complete.{also, is_of, is_covered_for, is_writer, has_writer, stands_with, lets_beside, lets_all, is_if_iban, is_if_not_iban}
use Rattle.carrying_laws.specs.Complete.{is_if_no_scheme, is_as_modelled, is_main, is_beside, has_attribute, is_note_of, is_coder, has_coder}
use Rattle.carrying_laws.specs.Complete.{is_written_by_some, rows_with, is_written_in, writes_model, is_readable, reads_term, keeps_placeholder}
use Rattle.carrying_laws.specs.Complete.{is_kept_placeholder}
use Rattle.carrying_laws.specs.Complete.{keeps_known, keeps_notes, mistakes_none, is_plain_alone, adds_plainly, is_complete_in, is_complete}
use Rattle.binding_laws.specs.Faultless.{is_if_scheme}
use Rattle.carrying_laws.proofs.ModelLemmas.{all-each, each-all}
use Rattle.extension_laws.specs.Joins.{Joins}
use Rattle.extension_laws.proofs.AloneLemmas.{known-same, accounting-same, not-modelled, form-kept, form-typed, extension, other-term, uncoded}
use Rattle.extension_laws.proofs.CoverLemmas.{content-mono, plain-stays, spread-stays, filled-stays, total-stays, pair-in-stays, noted-stays, attribute-stays}
use Rattle.extension_laws.proofs.CoverLemmas.{spread-attribute-stays}
use Rattle.extension_laws.proofs.JoinLemmas.{is}
use Rattle.extension_laws.proofs.ListLemmas.{or-mono, and-mono, any-front, any-same, all-more}
use Rattle.extension_laws.proofs.PlainLemmas.{plain-own, content-own}

-- ---- tests that stop early

either-mono : (a c : Bool) (b d : Unit {0} → Bool) → (a ≡ true → c ≡ true) → (b tt ≡ true → d tt ≡ true) → either a b ≡ true → either c d ≡ true
either-mono true c b d f g h = ap (λ x. either x d) (f refl)
either-mono false true b d f g h = refl
either-mono false false b d f g h = g h

also-mono : (a c : Bool) (b d : Unit {0} → Bool) → (a ≡ true → c ≡ true) → (b tt ≡ true → d tt ≡ true) → also a b ≡ true → also c d ≡ true
also-mono true c b d f g h = ap (λ x. also x d) (f refl) ∙ g h
also-mono false c b d f g h = absurd (false≢true h)

any-each : {X : Type 0} (p q : X → Bool) (xs : List X) → ((x : X) → Among x xs → p x ≡ true → q x ≡ true) → list_any p xs ≡ true → list_any q xs ≡ true
any-each p q [] f h = absurd (false≢true h)
any-each p q (x ∷ xs) f h = or-mono (p x) (list_any p xs) (q x) (list_any q xs) (f x (inl refl)) (any-each p q xs (λ y a. f y (inr a))) h

filter-among : {X : Type 0} (p : X → Bool) (x : X) (xs : List X) → Among x (filter p xs) → Among x xs
filter-among p x [] a = a
filter-among {X = X} p x (y ∷ xs) a = by (p y) a (filter-among p x xs)
  where
    by : (b : Bool) → Among x (if b then y ∷ filter p xs else filter p xs) → (Among x (filter p xs) → Among x xs) → Among x (y ∷ xs)
    by true (inl e) f = inl e
    by true (inr c) f = inr (f c)
    by false c f = inr (f c)

filter-past : {X : Type 0} (p : X → Bool) (xs : List X) (y : X) → p y ≡ false → filter p (xs ++ y ∷ []) ≡ filter p xs
filter-past p [] y e = ap (λ b. if b then y ∷ [] else []) e
filter-past p (x ∷ xs) y e = ap (λ l. if p x then x ∷ l else l) (filter-past p xs y e)

filter-only : {X : Type 0} (p : X → Bool) (xs : List X) (y : X) → ((x : X) → Among x xs → p x ≡ false) → p y ≡ true → filter p (xs ++ y ∷ []) ≡ y ∷ []
filter-only p [] y f e = ap (λ b. if b then y ∷ [] else []) e
filter-only p (x ∷ xs) y f e = ap (λ b. if b then x ∷ filter p (xs ++ y ∷ []) else filter p (xs ++ y ∷ [])) (f x (inl refl)) ∙
    filter-only p xs y (λ z a. f z (inr a)) e

-- no term of the model is an added one
model-terms : list_all (λ (r : TermRow). not (is_extension r.term)) terms ≡ true
unfolding terms
model-terms = refl

content-term : (t : Term) (c : Content) → has_content t c ≡ elim (term_in c) [ None ↦ false | Some u ↦ same_term u t ]
content-term t (contents.Term u) = refl
content-term t (contents.Constant text) = refl

module _ (rows : List Row) (row : Row) (joins : Joins rows row) (long : All (λ (r : Row). 0 < length r.path) rows)
    (paired : unpaired_terms (plan_of rows) rows ≡ []) (known : Known) (ubl : Bool) where
  abbrev all : List Row
  all = rows ++ row ∷ []

  abbrev now : Plan
  now = plan_of all

  abbrev was : Plan
  was = plan_of rows

  -- ---- at elements

  covered-for : (t : Term) (r : Row) → Among r rows → is_covered_for was known rows t r ≡ true → is_covered_for now known all t r ≡ true
  covered-for t r a =
      either-mono (is_plain_in was r t) (is_plain_in now r t) _ _ (λ e. plain-stays rows row joins long unknown r t a ∙ e)
      (either-mono (is_spread_in was r t) (is_spread_in now r t) _ _ (λ e. spread-stays rows row joins long unknown r t a ∙ e)
      (either-mono (is_filled_in was r t) (is_filled_in now r t) _ _ (λ e. filled-stays rows row joins long r t a ∙ e)
      (either-mono (is_total_in was rows r t) (is_total_in now all r t) _ _ (λ e. total-stays rows row joins long paired r t a ∙ e)
      (either-mono (is_pair_in was rows r t) (is_pair_in now all r t) _ _ (pair-in-stays rows row joins long r t a)
      (either-mono (is_plain_with known was r t) (is_plain_with known now r t) _ _ (λ e. plain-stays rows row joins long known r t a ∙ e)
      (either-mono (is_spread_with known was r t) (is_spread_with known now r t) (λ _. is_noted_in was rows r t) (λ _. is_noted_in now all r t)
      (λ e. spread-stays rows row joins long known r t a ∙ e)
      (λ e. noted-stays rows row joins long r t a ∙ e)))))))

  writer : (t : Term) (outer inner : Option Group) (lets : Row → Bool) (own : List Row) → ((r : Row) → Among r own → Among r rows)
      → has_writer was known rows t outer inner lets own ≡ true → has_writer now known all t outer inner lets own ≡ true
  writer t outer inner lets own among =
      any-each (is_writer was known rows t outer inner lets) (is_writer now known all t outer inner lets) own
      (λ r a. also-mono (lets r && is_of outer inner r) (lets r && is_of outer inner r) (λ _. is_covered_for was known rows t r)
      (λ _. is_covered_for now known all t r) (λ e. e) (covered-for t r (among r a)))

  -- ---- at attributes

  main-stays : (t : Term) (outer inner : Option Group) (r main : Row) (m : Term) → Among main rows
      → is_main now known ubl t outer inner r main m ≡ is_main was known ubl t outer inner r main m
  main-stays t outer inner r main m a = λ i.
      also (pointwise same_step r.path main.path) (λ _. also (is_of outer inner main && lets_beside t m main.written)
      (λ _. also (stands_with ubl t outer inner m) (λ _.
      either (attribute-stays rows row joins long unknown r t main m a i)
      (λ _. either (spread-attribute-stays rows row joins long r t main m a i) (λ _. attribute-stays rows row joins long known r t main m a i)))))

  attribute : (t : Term) (outer inner : Option Group) (own : List Row) → has_attribute was known rows ubl t outer inner own ≡ true
      → has_attribute now known all ubl t outer inner own ≡ true
  attribute t outer inner own =
      any-each (λ r. list_any (is_beside was known ubl t outer inner r) rows) (λ r. list_any (is_beside now known ubl t outer inner r) all) own
      (λ r a. any-front (is_beside was known ubl t outer inner r) (is_beside now known ubl t outer inner r) rows (row ∷ [])
      (λ main b. content-mono (is_main was known ubl t outer inner r main) (is_main now known ubl t outer inner r main)
      (λ m e. main-stays t outer inner r main m b ∙ e) main.content))

  -- ---- in front of notes

  coder : (t : Term) (outer inner : Option Group) → has_coder was rows ubl t outer inner ≡ true → has_coder now all ubl t outer inner ≡ true
  coder t outer inner =
      also-mono (same_term t subject_code) (same_term t subject_code) (λ _. list_any (is_coder was rows ubl t outer inner) rows)
      (λ _. list_any (is_coder now all ubl t outer inner) all) (λ e. e)
      (any-front (is_coder was rows ubl t outer inner) (is_coder now all ubl t outer inner) rows (row ∷ [])
      (λ r a. content-mono (is_note_of was rows ubl t outer inner r) (is_note_of now all ubl t outer inner r)
      (λ m e. (λ i. also (lets_all r.written && is_of outer inner r)
      (λ _. also (stands_with ubl t outer inner m) (λ _. noted-stays rows row joins long r m a i))) ∙ e) r.content))

  -- ---- each term of the model

  by-some : (t : Term) (outer inner : Option Group) (own : List Row) → ((r : Row) → Among r own → Among r rows)
      → is_written_by_some was known [] rows ubl t outer inner own ≡ true → is_written_by_some now known [] all ubl t outer inner own ≡ true
  by-some t outer inner own among =
      either-mono (has_writer was known rows t outer inner (λ r. lets_all r.written) own)
      (has_writer now known all t outer inner (λ r. lets_all r.written) own) _ _ (writer t outer inner (λ r. lets_all r.written) own among)
      (either-mono
      (also (has_writer was known rows t outer inner (λ r. is_if_iban r.written && is_as_modelled t r) own)
      (λ _. has_writer was known rows t outer inner (λ r. is_if_not_iban r.written && is_as_modelled t r) own))
      (also (has_writer now known all t outer inner (λ r. is_if_iban r.written && is_as_modelled t r) own)
      (λ _. has_writer now known all t outer inner (λ r. is_if_not_iban r.written && is_as_modelled t r) own)) _ _
      (also-mono (has_writer was known rows t outer inner (λ r. is_if_iban r.written && is_as_modelled t r) own)
      (has_writer now known all t outer inner (λ r. is_if_iban r.written && is_as_modelled t r) own)
      (λ _. has_writer was known rows t outer inner (λ r. is_if_not_iban r.written && is_as_modelled t r) own)
      (λ _. has_writer now known all t outer inner (λ r. is_if_not_iban r.written && is_as_modelled t r) own)
      (writer t outer inner (λ r. is_if_iban r.written && is_as_modelled t r) own among)
      (writer t outer inner (λ r. is_if_not_iban r.written && is_as_modelled t r) own among))
      (either-mono
      (also (has_writer was known rows t outer inner (λ r. is_if_scheme r.written) own)
      (λ _. has_writer was known rows t outer inner (λ r. is_if_no_scheme r.written) own))
      (also (has_writer now known all t outer inner (λ r. is_if_scheme r.written) own)
      (λ _. has_writer now known all t outer inner (λ r. is_if_no_scheme r.written) own)) _ _
      (also-mono (has_writer was known rows t outer inner (λ r. is_if_scheme r.written) own)
      (has_writer now known all t outer inner (λ r. is_if_scheme r.written) own)
      (λ _. has_writer was known rows t outer inner (λ r. is_if_no_scheme r.written) own)
      (λ _. has_writer now known all t outer inner (λ r. is_if_no_scheme r.written) own)
      (writer t outer inner (λ r. is_if_scheme r.written) own among) (writer t outer inner (λ r. is_if_no_scheme r.written) own among))
      (either-mono (has_attribute was known rows ubl t outer inner own) (has_attribute now known all ubl t outer inner own)
      (λ _. has_coder was rows ubl t outer inner) (λ _. has_coder now all ubl t outer inner)
      (attribute t outer inner own) (coder t outer inner))))

  model : writes_model was known [] rows ubl ≡ true → writes_model now known [] all ubl ≡ true
  model h = each-all (λ (r : TermRow). is_written_in now known [] all ubl r.term (outer_group r.group) (inner_group r.group)) terms (λ r a.
      let other = content-term r.term row.content ∙ not-modelled rows row joins r.term
      (not-true _ (all-each (λ (x : TermRow). not (is_extension x.term)) terms model-terms r a)) in
      ap (λ own. is_written_by_some now known [] all ubl r.term (outer_group r.group) (inner_group r.group) own)
      (filter-past (λ (x : Row). has_content r.term x.content) rows row other)
      ∙ by-some r.term (outer_group r.group) (inner_group r.group) (rows_with r.term rows)
      (λ x b. filter-among (λ (y : Row). has_content r.term y.content) x rows b)
      (all-each (λ (x : TermRow). is_written_in was known [] rows ubl x.term (outer_group x.group) (inner_group x.group)) terms h r a))

  -- ---- the rest

  typed-reads : (form : Form) (t : Term) → added.is_typed form ≡ true → is_extension t ≡ true → is_readable form t ≡ true
  typed-reads (forms.Typed l) t h k = k
  typed-reads forms.TypedPlainDate t h k = k
  typed-reads forms.Model t h k = refl
  typed-reads forms.PlainDate t h k = refl
  typed-reads forms.CodedNote t h k = refl
  typed-reads forms.DueDateTypeCode t h k = absurd (false≢true h)

  reads : list_all (reads_term []) rows ≡ true → list_all (reads_term []) all ≡ true
  reads h =
      all-more (reads_term []) rows row (all-each (reads_term []) rows h)
      (ap (λ (c : Content). elim c [ (contents.Term t) ↦ list_any (same_term t) [] || is_readable (form_for row.form t) t | (contents.Constant text) ↦ true ])
      joins.content
      ∙ (ap (λ form. is_readable form joins.term) (form-kept rows row joins) ∙
      typed-reads row.form joins.term (form-typed rows row joins) (extension rows row joins)))

  alone-stays : (r : Row) → Among r rows → is_plain_alone was rows r ≡ true → is_plain_alone now all r ≡ true
  alone-stays r a = by r.content refl
    where
      by : (c : Content) → r.content ≡ c
          → elim c [ (contents.Term t) ↦ also (is_plain_in was r t) (λ _. is_one (rows_with t rows)) | (contents.Constant text) ↦ false ] ≡ true
          → elim c [ (contents.Term t) ↦ also (is_plain_in now r t) (λ _. is_one (rows_with t all)) | (contents.Constant text) ↦ false ] ≡ true
      by (contents.Constant text) e h = absurd (false≢true h)
      by (contents.Term t) e h =
          let other = ap (has_content t) joins.content ∙ other-term rows row joins r t a e in
          also-mono (is_plain_in was r t) (is_plain_in now r t) (λ _. is_one (rows_with t rows)) (λ _. is_one (rows_with t all))
          (λ k. plain-stays rows row joins long unknown r t a ∙ k)
          (λ k. ap is_one (filter-past (λ (x : Row). has_content t x.content) rows row other) ∙ k) h

  own-alone : is_plain_alone now all row ≡ true
  own-alone =
      ap (λ (c : Content). elim c [ (contents.Term t) ↦ also (is_plain_in now row t) (λ _. is_one (rows_with t all)) | (contents.Constant text) ↦ false ])
      joins.content
      ∙ (ap (λ b. also b (λ _. is_one (rows_with joins.term all))) (plain-own rows row joins long unknown)
      ∙ ap is_one (filter-only (λ (x : Row). has_content joins.term x.content) rows row
      (λ x a. content-term joins.term x.content ∙ not-true (has_term joins.term x) (all-each (λ (o : Row). not (has_term joins.term o)) rows joins.alone x a))
      (content-own rows row joins)))

  adds : adds_plainly was rows ≡ true → adds_plainly now all ≡ true
  adds h =
      all-more (λ (r : Row). either (not (added.is_added r)) (λ _. is_plain_alone now all r)) rows row
      (λ r a. either-mono (not (added.is_added r)) (not (added.is_added r)) (λ _. is_plain_alone was rows r) (λ _. is_plain_alone now all r) (λ e. e)
      (alone-stays r a)
      (all-each (λ (x : Row). either (not (added.is_added x)) (λ _. is_plain_alone was rows x)) rows h r a))
      (either-mono false (not (added.is_added row)) (λ _. true) (λ _. is_plain_alone now all row) (λ e. absurd (false≢true e)) (λ e. own-alone) refl)

  keeps-own : keeps_placeholder ubl row ≡ true
  keeps-own =
      ap (λ (w : Written). elim w [
        | (written.OrPlaceholder placeholder) ↦ elim row.content [
          | (contents.Term t) ↦ is_kept_placeholder ubl t placeholder
          | (contents.Constant text) ↦ true
        ]
        | _ ↦ true
      ]) (is rows row joins).written

  mistakes : mistakes_none known rows ubl ≡ true → mistakes_none known all ubl ≡ true
  mistakes =
      and-mono (list_all (keeps_placeholder ubl) rows) _ (list_all (keeps_placeholder ubl) all) _
      (λ h. all-more (keeps_placeholder ubl) rows row (all-each (keeps_placeholder ubl) rows h) keeps-own)
      (and-mono (keeps_known known ubl) (keeps_notes rows ubl) (keeps_known known ubl) (keeps_notes all ubl) (λ e. e)
      (λ e. ap (λ b. ubl || not b) (any-same is_coded_row is_coded_row rows row (λ x a. refl) (uncoded rows row joins)) ∙ e))

  pub complete-in : is_complete_in was known [] rows ubl ≡ true → is_complete_in now known [] all ubl ≡ true
  complete-in =
      and-mono (writes_model was known [] rows ubl) _ (writes_model now known [] all ubl) _ model
      (and-mono (list_all (reads_term []) rows) _ (list_all (reads_term []) all) _ reads
      (and-mono (list_all (same_term (bt 111)) (accounting_terms rows)) _ (list_all (same_term (bt 111)) (accounting_terms all)) _
      (λ e. ap (list_all (same_term (bt 111))) (accounting-same rows row joins) ∙ e)
      (and-mono (adds_plainly was rows) (mistakes_none known rows ubl) (adds_plainly now all) (mistakes_none known all ubl) adds mistakes)))

pub complete-more : (rows : List Row) (row : Row) (joins : Joins rows row) → All (λ (r : Row). 0 < length r.path) rows → unpaired_terms (plan_of rows) rows ≡ []
    → left_out rows ≡ [] → left_out (rows ++ row ∷ []) ≡ [] → document_type_of (rows ++ row ∷ []) ≡ document_type_of rows → is_complete rows ≡ true
    → is_complete (rows ++ row ∷ []) ≡ true
complete-more rows row joins long paired left left_more document_type h =
    (λ i. is_complete_in (plan_of (rows ++ row ∷ [])) (known-same rows row joins i) (left_more i) (rows ++ row ∷ []) (is_ubl (document_type i)))
    ∙ complete-in rows row joins long paired (known_of rows) (is_ubl (document_type_of rows))
    ((λ i. is_complete_in (plan_of rows) (known_of rows) (sym left i) rows (is_ubl (document_type_of rows))) ∙ h)
