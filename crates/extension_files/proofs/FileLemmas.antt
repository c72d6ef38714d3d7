-- A file of extension terms, as `toml` holds it: the document, and its tables one by one.
use Rattle.std.proofs.Common.{◌≡◌, ℕ, Bool, true, false, List, [], ◌∷◌, ◌++◌, length, get_or, drop, ◌+◌, ◌<◌, ◌≤◌, Option, Some, None, Result, Ok, Err, IfOk}
use Rattle.std.proofs.Common.{IfErr, refl, sym, ap, ◌∙◌, append_assoc, append-nil, codes, if◌then◌else◌}
use Rattle.std.specs.Str.{chars}
use Rattle.std.specs.Option.{option_and_then}
use Rattle.std.proofs.lemmas.Result.{IfOk-weaker, IfErr-weaker}
use Rattle.toml.specs.Data.{Data, Items, no_items, item, Members, as_array}
use Rattle.toml.specs.View.{view, items_view}
use Rattle.toml.specs.declared.value.Value.{Value}
use Rattle.toml.proofs.Views.{items_view-drop}
use Rattle.std.proofs.lemmas.List.{drop_all, length-append}
use Rattle.code_lists.specs.CodeFiles.{document_of}
use Rattle.extension_files.specs.declared.terms.ExtTerm.{ExtTerm}
use Rattle.extension_files.specs.declared.fault.ExtFault.{ExtFault}
use Rattle.extension_files.specs.declared.fault.ExtFault.TheVariants.{NotToml, NotAnExtension, BadTerm, Memory}
use Rattle.code_lists.specs.Keys.{other_key}
use Rattle.extension_files.specs.ExtensionFiles.{value_term, before_terms, terms_from, are_tables, tables_in, term_tables, document_terms, file_terms}

-- terms, and those that come behind them
abbrev pub behind : List ExtTerm → Result (List ExtTerm) ExtFault → Result (List ExtTerm) ExtFault
behind terms (Ok more) = Ok (terms ++ more)
behind terms (Err fault) = Err fault

pub behind-none : (more : Result (List ExtTerm) ExtFault) → behind [] more ≡ more
behind-none (Ok more) = refl
behind-none (Err fault) = refl

behind-one : (terms : List ExtTerm) (term : ExtTerm) (more : Result (List ExtTerm) ExtFault) →
    behind terms (before_terms term more) ≡ behind (terms ++ term ∷ []) more
behind-one terms term (Ok more) = ap Ok (sym (append_assoc terms (term ∷ []) more))
behind-one terms term (Err fault) = refl

pub behind-end : (terms : List ExtTerm) → behind terms (Ok []) ≡ Ok terms
behind-end terms = ap Ok (append-nil terms)

module _ (before place : ℕ) (d : Data) (ds : Items) (terms : List ExtTerm) where
  abbrev pub rest_of : Option ExtTerm → Result (List ExtTerm) ExtFault
  rest_of o = elim o [ None ↦ Err (BadTerm place) | Some term ↦ before_terms term (terms_from term.number (place + 1) ds) ]

  pub table-term : (term : ExtTerm) → value_term before d ≡ Some term → behind terms (terms_from before place (item d ds)) ≡ behind (terms ++ term ∷ [])
      (terms_from term.number (place + 1) ds)
  table-term term h = ap (λ o. behind terms (rest_of o)) h ∙ behind-one terms term (terms_from term.number (place + 1) ds)

  pub table-bad : value_term before d ≡ None → behind terms (terms_from before place (item d ds)) ≡ Err (BadTerm place)
  table-bad h = ap (λ o. behind terms (rest_of o)) h

abbrev pub Terms : Type 0
Terms = Result (List ExtTerm) ExtFault

chars-term : chars (codes "term") ≡ codes "term"
unfolding chars
chars-term = refl

-- a document by its keys and its tables
module _ (document : Members) where
  abbrev judged : Option (List ℕ) → Option Items → Result (List ExtTerm) ExtFault
  judged key tables = elim key [
    | Some key ↦ Err (NotAnExtension (chars key))
    | None ↦ elim tables [ None ↦ Err (NotAnExtension (codes "term")) | Some tables ↦ terms_from 0 1 tables ]
  ]

  pub document-other : (key : List ℕ) → Some key ≡ other_key (codes "term" ∷ []) document → document_terms document ≡ Err (NotAnExtension (chars key))
  document-other key h = sym (ap (λ o. judged o (term_tables document)) h)

  module _ (alone : None ≡ other_key (codes "term" ∷ []) document) where
    pub document-none : None ≡ term_tables document → document_terms document ≡ Err (NotAnExtension (chars (codes "term")))
    document-none h = sym (ap (λ o. judged o (term_tables document)) alone) ∙ (sym (ap (judged None) h) ∙ ap (λ key. Err (NotAnExtension key)) (sym chars-term))

    pub document-tables : (tables : Items) → Some tables ≡ term_tables document → document_terms document ≡ terms_from 0 1 tables
    document-tables tables h = sym (ap (λ o. judged o (term_tables document)) alone) ∙ sym (ap (judged None) h)

-- what the tables give, or the key that offends
module _ (all : Terms) where
  pub terms-given : (other : Terms) (r : Terms) → all ≡ other → IfOk r (λ terms. other ≡ Ok terms) → IfOk r (λ terms. all ≡ Ok terms)
  terms-given other r h k = IfOk-weaker r _ _ (λ terms is. h ∙ is) k

  pub fault-given : (other : Terms) (r : Terms) → all ≡ other → IfErr r (λ fault. (fault ≡ Memory → ⊥) → other ≡ Err fault) →
      IfErr r (λ fault. (fault ≡ Memory → ⊥) → all ≡ Err fault)
  fault-given other r h k = IfErr-weaker r _ _ (λ fault is other. h ∙ is other) k

  pub key-given : (key own : List ℕ) → all ≡ Err (NotAnExtension (chars key)) → own ≡ chars key → all ≡ Err (NotAnExtension own)
  key-given key own h e = h ∙ ap (λ key. Err (NotAnExtension key)) (sym e)

-- the tables of an array
module _ (d : Data) where
  pub tables-no_array : None ≡ as_array d → None ≡ tables_in d
  tables-no_array h = ap (option_and_then (λ items. if are_tables items then Some items else None)) h

  module _ (items : Items) (there : Some items ≡ as_array d) where
    pub tables-some : true ≡ are_tables items → Some items ≡ tables_in d
    tables-some h = ap (λ b. if b then Some items else None) h ∙ ap (option_and_then (λ items. if are_tables items then Some items else None)) there

    pub tables-none : false ≡ are_tables items → None ≡ tables_in d
    tables-none h = ap (λ b. if b then Some items else None) h ∙ ap (option_and_then (λ items. if are_tables items then Some items else None)) there

-- a file by its document
abbrev read_of : Option Members → Result (List ExtTerm) ExtFault
read_of read = elim read [ None ↦ Err NotToml | Some document ↦ document_terms document ]

pub file-no_toml : (bytes : List ℕ) → document_of bytes ≡ None → file_terms bytes ≡ Err NotToml
file-no_toml bytes h = ap read_of h

pub file-document : (bytes : List ℕ) (document : Members) → document_of bytes ≡ Some document → file_terms bytes ≡ document_terms document
file-document bytes document h = ap read_of h

-- a turn of the walk over the tables
module _ (all : List Value) (i before : ℕ) (terms : List ExtTerm)
    (sofar : behind terms (terms_from before (length terms + 1) (items_view (drop i all))) ≡ terms_from 0 1 (items_view all)) where
  module _ (v : Value) (within : i < length all) (at : v ≡ get_or all i v) where
    whole : terms_from 0 1 (items_view all) ≡ behind terms (terms_from before (length terms + 1) (item (view v) (items_view (drop (i + 1) all))))
    whole =
        sym sofar
        ∙ ap (λ ds. behind terms (terms_from before (length terms + 1) ds))
        (items_view-drop all i v within ∙ ap (λ d. item (view d) (items_view (drop (i + 1) all))) (sym at))

    pub tables-turn : (term : ExtTerm) → Some term ≡ value_term before (view v)
        → behind (terms ++ term ∷ []) (terms_from term.number (length (terms ++ term ∷ []) + 1) (items_view (drop (i + 1) all))) ≡ terms_from 0 1
        (items_view all)
    tables-turn term h =
        ap (λ n. behind (terms ++ term ∷ []) (terms_from term.number (n + 1) (items_view (drop (i + 1) all)))) (length-append terms (term ∷ []))
        ∙ sym (whole ∙ table-term before (length terms + 1) (view v) (items_view (drop (i + 1) all)) terms term (sym h))

    pub tables-bad : None ≡ value_term before (view v) → terms_from 0 1 (items_view all) ≡ Err (BadTerm (length terms + 1))
    tables-bad h = whole ∙ table-bad before (length terms + 1) (view v) (items_view (drop (i + 1) all)) terms (sym h)

  pub tables-end : length all ≤ i → terms_from 0 1 (items_view all) ≡ Ok terms
  tables-end end =
      sym sofar ∙ (ap (λ vs. behind terms (terms_from before (length terms + 1) (items_view vs))) (drop_all i all end) ∙ behind-end terms)

pub ruleset documents = (terms-given, fault-given, key-given)

pub ruleset offences = (document-other, document-none, document-tables)

pub ruleset arrays = (tables-no_array, tables-some, tables-none)
