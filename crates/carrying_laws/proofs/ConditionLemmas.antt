-- What the conditions of carrying say of one entry, where none of them fails.
use Rattle.std.proofs.Common.{◌≡◌, Bool, true, false, not, ◌&&◌, ◌||◌, List, [], ◌∷◌, Option, Some, None, ◌⊎◌, inl, inr, refl, sym, ap, ◌∙◌}
use Rattle.std.specs.List.{list_any}
use Rattle.std.specs.Prelude.{find, is_some, is_none, option_map, Result, Ok, Err, if◌then◌else◌}
use Rattle.std.proofs.lemmas.Bool.{false≢true}
use Rattle.term_table.specs.declared.terms.Term.{Term}
use Rattle.term_table.specs.SemanticModel.{is_extension}
use Rattle.term_table.specs.Contexts.{root_context}
use Rattle.inv_terms.specs.declared.entries.Entry.{Entry}
use Rattle.inv_terms.specs.Listing.{value_in}
use Rattle.inv_terms.specs.Values.{spelled}
use Rattle.bind_rows.specs.declared.rows.Row.{Row}
use Rattle.bind_rows.specs.declared.tables.DocumentType.{DocumentType}
use Rattle.bind_rows.specs.Same.{choose}
use Rattle.bind_carrying.specs.declared.carrying.NotCarried.{NotCarried}
use Rattle.bind_carrying.specs.Tables.{document_type_of, is_ubl}
use Rattle.bind_carrying.specs.Carrying.{bt, is_bt, stands, main_term, lacks_main, stands_alone, marks_creditor, is_placeholder, is_bad_note, has_image}
use Rattle.bind_carrying.specs.Carrying.{has_bad_code, lacks_means, has_no_currency, is_other_type, same_text, fails, all_conditions, first_at, first_term}
use Rattle.bind_carrying.specs.Carrying.{told, first_failing, is_row_of, is_unplaced, first_unplaced, entries_fail, answer, is_too_large, entries_carried}
use Rattle.bind_carrying.specs.Carrying.{carrying}
use Rattle.binding_laws.proofs.ReachLemmas.{Among}

-- ---- no condition fails

none-is-no-some : {X : Type 0} (x : X) → ◌≡◌ {A = Option X} (Some x) None → ⊥
none-is-no-some x h = false≢true (sym (ap is_some h))

told-none : (condition : _) (o : Option Term) (others : Option NotCarried) → told condition o others ≡ None → (o ≡ None) × (others ≡ None)
told-none condition None others h = (refl, h)
told-none condition (Some term) others h = absurd (none-is-no-some _ h)

no-term : (o : Option Entry) → first_term o ≡ None → o ≡ None
no-term None h = refl
no-term (Some e) h = absurd (none-is-no-some _ h)

found-none : (p : Entry → Bool) (xs : List Entry) → find p xs ≡ None → (x : Entry) → Among x xs → p x ≡ false
found-none p [] h x a = absurd a
found-none p (y ∷ xs) h x a = go (λ k m. found-none p xs k x m) (p y) refl h a
  where
    go : (find p xs ≡ None → Among x xs → p x ≡ false) → (b : Bool) → p y ≡ b → (if b then Some y else find p xs) ≡ None → (y ≡ x) ⊎ Among x xs → p x ≡ false
    go later true e k m = absurd (none-is-no-some _ k)
    go later false e k (inl s) = ap p (sym s) ∙ e
    go later false e k (inr m) = later k m

keeps-all : (conditions : List _) (table : DocumentType) (es : List Entry) → first_failing conditions table es ≡ None → (condition : _)
    → Among condition conditions →
    (e : Entry) → Among e es → fails condition table es e ≡ false
keeps-all [] table es h condition c e a = absurd c
keeps-all (first ∷ conditions) table es h condition c e a =
    go (λ k m. keeps-all conditions table es k condition m e a) (told-none first (first_term (first_at first table es)) (first_failing conditions table es) h) c
  where
    go : (first_failing conditions table es ≡ None → Among condition conditions → fails condition table es e ≡ false) →
        (first_term (first_at first table es) ≡ None) × (first_failing conditions table es ≡ None)
        → (first ≡ condition) ⊎ Among condition conditions → fails condition table es e ≡ false
    go later w (inl s) = ap (λ k. fails k table es e) (sym s) ∙ found-none (fails first table es) es (no-term (first_at first table es) w.0) e a
    go later w (inr m) = later w.1 m

keeps : (rows : List Row) (es : List Entry) → entries_fail rows es ≡ None → (condition : _) → Among condition all_conditions → (e : Entry) → Among e es →
    fails condition (document_type_of rows) es e ≡ false
keeps rows es h condition c e a = keeps-all all_conditions (document_type_of rows) es h condition c e a

-- each by itself

pub part-kept : (rows : List Row) (es : List Entry) → entries_fail rows es ≡ None → (e : Entry) → Among e es → stands_alone (document_type_of rows) es e ≡ false
part-kept rows es h e a = let k = keeps rows es h _ (inl refl) e a in k

pub creditor-kept : (rows : List Row) (es : List Entry) → entries_fail rows es ≡ None → (e : Entry) → Among e es → marks_creditor (document_type_of rows) e
    ≡ false
creditor-kept rows es h e a = let k = keeps rows es h _ (inr (inl refl)) e a in k

pub placeholder-kept : (rows : List Row) (es : List Entry) → entries_fail rows es ≡ None → (e : Entry) → Among e es
    → is_placeholder (document_type_of rows) es e ≡ false
placeholder-kept rows es h e a = let k = keeps rows es h _ (inr (inr (inl refl))) e a in k

pub note-kept : (rows : List Row) (es : List Entry) → entries_fail rows es ≡ None → (e : Entry) → Among e es → is_bad_note (document_type_of rows) es e ≡ false
note-kept rows es h e a = let k = keeps rows es h _ (inr (inr (inr (inl refl)))) e a in k

pub code-kept : (rows : List Row) (es : List Entry) → entries_fail rows es ≡ None → (e : Entry) → Among e es → has_bad_code (document_type_of rows) e ≡ false
code-kept rows es h e a = let k = keeps rows es h _ (inr (inr (inr (inr (inl refl))))) e a in k

pub means-kept : (rows : List Row) (es : List Entry) → entries_fail rows es ≡ None → (e : Entry) → Among e es → lacks_means (document_type_of rows) es e ≡ false
means-kept rows es h e a = let k = keeps rows es h _ (inr (inr (inr (inr (inr (inl refl)))))) e a in k

pub currency-kept : (rows : List Row) (es : List Entry) → entries_fail rows es ≡ None → (e : Entry) → Among e es → has_no_currency es e ≡ false
currency-kept rows es h e a = let k = keeps rows es h _ (inr (inr (inr (inr (inr (inr (inl refl))))))) e a in k

-- ---- an invoice that is carried

answered : (fault : Option NotCarried) (large : Bool) (unplaced : Option NotCarried) → answer fault large unplaced ≡ Ok tt → (fault ≡ None) × (unplaced ≡ None)
answered None false None h = (refl, refl)
answered None false (Some fault) h = absurd (let z : ◌≡◌ {A = Result (Unit {0}) NotCarried} (Err fault) (Ok tt) = h in cc)
answered None true unplaced h = absurd (let z : ◌≡◌ {A = Result (Unit {0}) NotCarried} (Err (record { condition = 8; term = None })) (Ok tt) = h in cc)
answered (Some fault) large unplaced h = absurd (let z : ◌≡◌ {A = Result (Unit {0}) NotCarried} (Err fault) (Ok tt) = h in cc)

pub carried-keeps : (rows : List Row) (es : List Entry) → carrying rows es ≡ Ok tt → entries_fail rows es ≡ None
carried-keeps rows es h = (answered (entries_fail rows es) (is_too_large rows es) (first_unplaced rows es) h).0

-- so all but the size of its document is as it should be
pub carried-entries : (rows : List Row) (es : List Entry) → carrying rows es ≡ Ok tt → entries_carried rows es ≡ Ok tt
carried-entries rows es h =
    let w = answered (entries_fail rows es) (is_too_large rows es) (first_unplaced rows es) h in
    ap (λ fault. answer fault false (first_unplaced rows es)) w.0 ∙ ap (answer None false) w.1

pub entries-keep : (rows : List Row) (es : List Entry) → entries_carried rows es ≡ Ok tt → entries_fail rows es ≡ None
entries-keep rows es h = (answered (entries_fail rows es) false (first_unplaced rows es) h).0

-- ---- 9: each term is one of the semantic model, or the table has an added row of its context and type

pub row-kept : (rows : List Row) (es : List Entry) → entries_carried rows es ≡ Ok tt → (e : Entry) → Among e es → is_unplaced rows e ≡ false
row-kept rows es h e a = found-none (is_unplaced rows) es
    (no-fault _ (find (is_unplaced rows) es) (answered (entries_fail rows es) false (first_unplaced rows es) h).1) e a
  where
    no-fault : (f : Entry → NotCarried) (o : Option Entry) → option_map f o ≡ None → o ≡ None
    no-fault f None k = refl
    no-fault f (Some x) k = absurd (none-is-no-some _ k)

pub added-kept : (rows : List Row) (e : Entry) → is_unplaced rows e ≡ false → is_extension e.term ≡ true → list_any (is_row_of e) rows ≡ true
added-kept rows e h own = go (list_any (is_row_of e) rows) (sym (ap (λ b. choose b (λ _. not (list_any (is_row_of e) rows)) (λ _. false)) own) ∙ h)
  where
    go : (b : Bool) → not b ≡ false → b ≡ true
    go true k = refl
    go false k = absurd (false≢true (sym k))

-- ---- 1: the main term of a part stands beside it

not-none : {X : Type 0} (o : Option X) → is_none o ≡ false → is_some o ≡ true
not-none None h = absurd (false≢true (sym h))
not-none (Some x) h = refl

pub main-stands : (rows : List Row) (es : List Entry) → entries_fail rows es ≡ None → (e : Entry) → Among e es → (main : Term) →
    main_term (is_ubl (document_type_of rows)) e.term ≡ Some main → is_some (value_in es main e.context) ≡ true
main-stands rows es h e a main is =
    not-none (value_in es main e.context) (ap (lacks_main es e) (sym is) ∙ part-kept rows es h e a)

-- ---- 5: the code of BT-8 has an image

or-false : (a b : Bool) → (a || b) ≡ false → (a ≡ false) × (b ≡ false)
or-false true b h = absurd (false≢true (sym h))
or-false false b h = (refl, h)

and-not-false : (a b : Bool) → (a && not b) ≡ false → a ≡ true → b ≡ true
and-not-false true true h e = refl
and-not-false true false h e = absurd (false≢true (sym h))
and-not-false false b h e = absurd (false≢true e)

pub image-stands : (rows : List Row) (es : List Entry) → entries_fail rows es ≡ None → (e : Entry) → Among e es → is_bt 8 0 e.term ≡ true →
    has_image (spelled e.value) ≡ true
image-stands rows es h e a is =
    and-not-false (is_bt 8 0 e.term) (has_image (spelled e.value))
    (or-false (is_bt 3 0 e.term && is_other_type (document_type_of rows) (spelled e.value)) (is_bt 8 0 e.term && not (has_image (spelled e.value)))
    (code-kept rows es h e a)).1 is

-- ---- 7: a VAT total in accounting currency stands beside both currencies

pub and-false : (a b : Bool) → (a && b) ≡ false → a ≡ true → b ≡ false
and-false true b h e = h
and-false false b h e = absurd (false≢true e)

not-false : (a : Bool) → not a ≡ false → a ≡ true
not-false true h = refl
not-false false h = absurd (false≢true (sym h))

pub currencies-stand : (rows : List Row) (es : List Entry) → entries_fail rows es ≡ None → (e : Entry) → Among e es → is_bt 111 0 e.term ≡ true
    → (is_some (value_in es (bt 6) root_context) ≡ true) × (same_text (value_in es (bt 6) root_context) (value_in es (bt 5) root_context) ≡ false)
currencies-stand rows es h e a is =
    let w = or-false (not (stands es 6)) (same_text (value_in es (bt 6) root_context) (value_in es (bt 5) root_context))
    (and-false (is_bt 111 0 e.term) (not (stands es 6) || same_text (value_in es (bt 6) root_context) (value_in es (bt 5) root_context))
    (currency-kept rows es h e a) is) in
    (not-false (stands es 6) w.0, w.1)
