-- What a pick tells: something, of the row's term, or a note with its subject code.
use Rattle.std.proofs.Common.{◌≡◌, ℕ, Bool, true, false, not, ◌&&◌, List, [], ◌∷◌, Option, Some, None, refl, subst}
use Rattle.std.specs.Prelude.{◌==◌}
use Rattle.std.specs.List.{list_all, AllByRecursion}
use Rattle.std.proofs.lemmas.Bool.{eqb-true}
use Rattle.inv_base.specs.Tree.{Node}
use Rattle.term_table.specs.declared.terms.Term.{Term}
use Rattle.inv_terms.specs.declared.values.Value.{Value}
use Rattle.inv_terms.specs.Values.{is_blank, value_of}
use Rattle.bind_rows.specs.declared.rows.Form.{Form}
use Rattle.bind_rows.specs.declared.rows.Form.TheVariants as forms
use Rattle.bind_meaning.specs.Elements.{string_at}
use Rattle.bind_meaning.specs.Picks.{term_in}
use Rattle.bind_meaning.specs.Seats.{Placed}
use Rattle.bind_meaning.specs.Values.{ParsedValue, parsed, parsed_in, suits, is_term, by_type, plain_date, due_date_type, note, subject_code, coded, plain_note}
use Rattle.bind_meaning.specs.Values.{note_behind, note_of, is_subject_character}
use Rattle.bind_meaning.specs.Judging.{Told, told_by, parsed_by}
use Rattle.bind_meaning.specs.Terms.{told}
use Rattle.reading_laws.proofs.ListLemmas.{both, each-map, each-flat, each-any}

note-is : (term : Term) → is_term 22 term ≡ true → term ≡ note
note-is term h =
    let w = both (term.number == 22) (term.part == 0) h in
    λ i. record { number = eqb-true term.number 22 w.0 i; part = eqb-true term.part 0 w.1 i }

abbrev alone : Term → Option Value → List ParsedValue
alone term value = record { term = term; value = value } ∷ []

abbrev with_code : Option Value → Option Value → List ParsedValue
with_code text code = record { term = note; value = text } ∷ (record { term = subject_code; value = code } ∷ [])

-- What holds of a value of the term alone, and of a note with its code where the term is that of notes, holds of all
-- that is said.
module _ (P : List ParsedValue → Type 0) where
  choice : (b : Bool) (xs ys : List ParsedValue) → P xs → P ys → P (elim b [ true ↦ xs | false ↦ ys ])
  choice true xs ys h k = h
  choice false xs ys h k = k

  module _ (one : (value : Option Value) → P (alone note value)) (two : (text code : Option Value) → P (with_code text code)) where
    of-behind : (string : List ℕ) (first a b c last : ℕ) (text : List ℕ) → P (note_behind string first a b c last text)
    of-behind string first a b c last text =
        let plain = one (by_type note string) in
        choice ((first == 35) && (last == 35))
        (elim (list_all is_subject_character (a ∷ b ∷ c ∷ []) && not (is_blank text)) [ true ↦ coded (a ∷ b ∷ c ∷ []) text | false ↦ plain_note string ])
        (plain_note string)
        (choice (list_all is_subject_character (a ∷ b ∷ c ∷ []) && not (is_blank text)) (coded (a ∷ b ∷ c ∷ []) text) (plain_note string)
        (two (by_type note text) (by_type subject_code (a ∷ b ∷ c ∷ []))) plain) plain

    of-note : (string : List ℕ) → P (note_of string)
    of-note [] = one _
    of-note (first ∷ []) = one _
    of-note (first ∷ (a ∷ [])) = one _
    of-note (first ∷ (a ∷ (b ∷ []))) = one _
    of-note (first ∷ (a ∷ (b ∷ (c ∷ [])))) = one _
    of-note (first ∷ (a ∷ (b ∷ (c ∷ (last ∷ text))))) = of-behind (first ∷ (a ∷ (b ∷ (c ∷ (last ∷ text))))) first a b c last text

  module _ (term : Term) (one : (value : Option Value) → P (alone term value)) (two : term ≡ note → (text code : Option Value) → P (with_code text code)) where
    suited : (form : Form) (string : List ℕ) → suits form term ≡ true → P (parsed_in form term string)
    suited forms.Model string h = one (by_type term string)
    suited forms.PlainDate string h = one (plain_date string)
    suited forms.DueDateTypeCode string h = one (due_date_type string)
    suited forms.CodedNote string h = of-note (λ value. subst (λ x. P (alone x value)) (note-is term h) (one value)) (two (note-is term h)) string
    suited (forms.Typed data_type) string h = one (value_of data_type string)
    suited forms.TypedPlainDate string h = one (plain_date string)

    formed : (form : Form) (string : List ℕ) (b : Bool) → suits form term ≡ b → P (parsed_in (elim b [ true ↦ form | false ↦ forms.Model ]) term string)
    formed form string true h = suited form string h
    formed form string false h = suited forms.Model string refl

    pub of-parsed : (form : Form) (string : List ℕ) → P (parsed form term string)
    of-parsed form string = formed form string (suits form term) refl

-- ---- of all that is told

-- a property of what is told that holds of all that a pick says
pub of-told : (P : Told → Type 0) (Q : Placed → Type 0) (nodes : List Node)
    → ((p : Placed) (term : Term) → Q p → term_in p.pick.row.content ≡ Some term
    → AllByRecursion (λ s. P (record { placed = p; parsed = s })) (parsed p.pick.row.form term (string_at nodes p.pick.node)))
    → (ps : List Placed) → AllByRecursion Q ps → AllByRecursion P (told nodes ps)
of-told P Q nodes h ps all = each-flat P Q (told_by nodes)
    (λ p k. each-map P (λ s. record { placed = p; parsed = s }) (parsed_by nodes p) (go p k (term_in p.pick.row.content) refl)) ps all
  where
    go : (p : Placed) → Q p → (o : Option Term) → term_in p.pick.row.content ≡ o
        → AllByRecursion (λ s. P (record { placed = p; parsed = s })) (elim o [
          | None ↦ []
          | Some term ↦ parsed p.pick.row.form term (string_at nodes
              p.pick.node)
        ])
    go p k None e = tt
    go p k (Some term) e = h p term k e

pub of-placed : (Q : Placed → Type 0) (nodes : List Node) (ps : List Placed) → AllByRecursion Q ps → AllByRecursion (λ t. Q t.placed) (told nodes ps)
of-placed Q nodes ps all = of-told (λ t. Q t.placed) Q nodes
    (λ p term k e. each-any (λ s. Q p) (λ s. k) (parsed p.pick.row.form term (string_at nodes p.pick.node))) ps all
