-- No entry of an invoice that meets the conditions of carrying is taken for something else by a complete table.
use Rattle.std.proofs.Common.{◌≡◌, ℕ, Bool, true, false, not, ◌&&◌, ◌||◌, ◌==◌, List, [], ◌∷◌, Option, Some, None, ◌⊎◌, inl, inr, refl, sym, ap, ◌∙◌, subst}
use Rattle.std.specs.Prelude.{is_some, is_none, codes}
use Rattle.std.specs.List.{list_all, list_any}
use Rattle.std.specs.Str.{bytes_eq}
use Rattle.std.proofs.lemmas.Bool.{false≢true}
use Rattle.std.proofs.lemmas.Slice.Eq.{bytes_eq-Decides}
use Rattle.code_lists.specs.CodeFiles.{Lists}
use Rattle.term_table.specs.declared.contexts.Slot.{Slot}
use Rattle.term_table.specs.SemanticModel.{same_term, is_extension, terms}
use Rattle.term_table.specs.Contexts.{slot_group, same_groups, outer_group, inner_group, root_context}
use Rattle.term_table.proofs.SeatLemmas.{same_term_is}
use Rattle.inv_terms.specs.declared.entries.Entry.{Entry}
use Rattle.inv_terms.specs.Listing.{value_in, is_placed}
use Rattle.inv_terms.specs.Values.{is_blank, spelled}
use Rattle.inv_terms.specs.Whole.{IsValid}
use Rattle.bind_rows.specs.declared.rows.Content.{Content}
use Rattle.bind_rows.specs.declared.rows.Content.TheVariants as contents
use Rattle.bind_rows.specs.declared.rows.Placeholder.{Placeholder}
use Rattle.bind_rows.specs.declared.rows.Row.{Row}
use Rattle.bind_rows.specs.declared.rows.Written.{Written}
use Rattle.bind_rows.specs.declared.rows.Written.TheVariants as written
use Rattle.bind_table.specs.Lines.{Plan}
use Rattle.bind_meaning.specs.Picks.{term_in, has_term}
use Rattle.bind_meaning.specs.Values.{subject_code, note, is_subject_character}
use Rattle.bind_carrying.specs.Carrying as carried
use Rattle.bind_carrying.specs.Carrying.{bt, is_bt, stands, entries_fail}
use Rattle.bind_carrying.specs.Tables.{document_type_of, is_ubl}
use Rattle.binding_laws.specs.Apart.{Unlike, Together}
use Rattle.binding_laws.specs.Known.{known_of, is_other_value, has_parts, is_as_known}
use Rattle.binding_laws.specs.Plain.{stands_there}
use Rattle.binding_laws.specs.Covered as covered
use Rattle.binding_laws.specs.Covered.{is_joined, is_like_placeholder, is_coded_row, is_misread_note, is_bad_note, is_unmistaken}
use Rattle.binding_laws.proofs.PlainLemmas.{groups-are}
use Rattle.binding_laws.proofs.ReachLemmas.{Among}
use Rattle.binding_laws.proofs.ListLemmas.{both-true, not-true}
use Rattle.carrying_laws.specs.Complete.{stands_with, is_kept_placeholder, keeps_placeholder, is_kept_unlike, keeps_together_at, keeps_together, keeps_known}
use Rattle.carrying_laws.specs.Complete.{keeps_notes}
use Rattle.carrying_laws.specs.Complete.{mistakes_none}
use Rattle.carrying_laws.proofs.Disjuncts.{either-or, or-first, or-second, or-either, and-true}
use Rattle.carrying_laws.proofs.ConditionLemmas.{and-false, creditor-kept, placeholder-kept, note-kept}
use Rattle.carrying_laws.proofs.ModelLemmas.{all-each, each-all, IsModelled, modelled}
use Rattle.carrying_laws.proofs.WrittenLemmas.{main-here}

-- ---- truth values

any-none : {X : Type 0} (p : X → Bool) (xs : List X) → ((x : X) → Among x xs → p x ≡ false) → list_any p xs ≡ false
any-none p [] f = refl
any-none p (y ∷ xs) f = ap (λ b. b || list_any p xs) (f y (inl refl)) ∙ any-none p xs (λ x a. f x (inr a))

and-last : (a b : Bool) → b ≡ false → (a && b) ≡ false
and-last true b h = h
and-last false b h = refl

and-so : (a : Bool) → (a && true) ≡ a
and-so true = refl
and-so false = refl

-- ---- notes

subject-same : (text : List ℕ) → covered.is_subject text ≡ carried.is_subject text
subject-same [] = refl
subject-same (a ∷ []) = refl
subject-same (a ∷ (b ∷ [])) = refl
subject-same (a ∷ (b ∷ (c ∷ []))) = ap (λ x. is_subject_character a && (is_subject_character b && x)) (and-so (is_subject_character c))
subject-same (a ∷ (b ∷ (c ∷ (d ∷ text)))) = refl

coded-same : (text : List ℕ) → covered.is_coded_note text ≡ carried.is_coded_note text
coded-same [] = refl
coded-same (first ∷ []) = refl
coded-same (first ∷ (a ∷ [])) = refl
coded-same (first ∷ (a ∷ (b ∷ []))) = refl
coded-same (first ∷ (a ∷ (b ∷ (c ∷ [])))) = refl
coded-same (first ∷ (a ∷ (b ∷ (c ∷ (last ∷ text))))) = ap (λ x. (first == 35 && last == 35) && (x && not (is_blank text))) (subject-same (a ∷ b ∷ c ∷ []))

misread-same : (es : List Entry) (e : Entry) → covered.is_misread_note es e ≡ carried.is_misread_note es e
misread-same es e =
    ap (λ x. (same_term e.term subject_code && not x) ||
    (same_term e.term note && (is_none (value_in es subject_code e.context) && covered.is_coded_note (spelled e.value)))) (subject-same (spelled e.value))
    ∙ ap (λ x. (same_term e.term subject_code && not (carried.is_subject (spelled e.value))) ||
    (same_term e.term note && (is_none (value_in es subject_code e.context) && x))) (coded-same (spelled e.value))

-- ---- terms that stand in the invoice itself

no-slot : (o : Option Slot) → slot_group o ≡ None → o ≡ None
no-slot None h = refl
no-slot (Some s) h = absurd (false≢true (sym (ap is_some h)))

in-root : (e : Entry) → is_placed e ≡ true → stands_there e.term None None ≡ true → e.context ≡ root_context
in-root e p h =
    let w = groups-are e e.term None None refl p h in
    λ z. record { outer = (no-slot e.context.outer w.0) z; inner = (no-slot e.context.inner w.1) z }

module _ (plan : Plan) (rows : List Row) (es : List Entry) (keeps : entries_fail rows es ≡ None) (lists : Lists) (valid : IsValid es lists) (e : Entry)
    (known : Among e es) (placed : is_placed e ≡ true) where
  abbrev ubl : Bool
  ubl = is_ubl (document_type_of rows)

  -- ---- 3: placeholders

  stands-as : (placeholder : Placeholder) → same_term placeholder.beside (bt 14) ≡ true → e.context ≡ root_context →
      is_some (value_in es placeholder.beside e.context) ≡ stands es 14
  stands-as placeholder h root = ap (λ t. is_some (value_in es t e.context)) (same_term_is placeholder.beside (bt 14) h)
      ∙ ap (λ c. is_some (value_in es (bt 14) c)) root

  text-as : (placeholder : Placeholder) → bytes_eq placeholder.text (codes "NA") ≡ true → bytes_eq placeholder.text (spelled e.value)
      ≡ bytes_eq (codes "NA") (spelled e.value)
  text-as placeholder h = ap (λ text. bytes_eq text (spelled e.value)) ((bytes_eq-Decides placeholder.text (codes "NA")).0 h)

  unfilled : (placeholder : Placeholder) → is_kept_placeholder ubl e.term placeholder ≡ true →
      (bytes_eq placeholder.text (spelled e.value) && is_some (value_in es placeholder.beside e.context)) ≡ false
  unfilled placeholder h =
      let w = both-true ubl ((is_bt 13 0 e.term && (bytes_eq placeholder.text (codes "NA") && same_term placeholder.beside (bt 14))) &&
      stands_there e.term None None) h in
      let v = both-true (is_bt 13 0 e.term && (bytes_eq placeholder.text (codes "NA") && same_term placeholder.beside (bt 14))) (stands_there e.term None
      None) w.1 in
      let u = both-true (is_bt 13 0 e.term) (bytes_eq placeholder.text (codes "NA") && same_term placeholder.beside (bt 14)) v.0 in
      let t = both-true (bytes_eq placeholder.text (codes "NA")) (same_term placeholder.beside (bt 14)) u.1 in
      ap (λ x. x && is_some (value_in es placeholder.beside e.context)) (text-as placeholder t.0)
      ∙ (ap (λ x. bytes_eq (codes "NA") (spelled e.value) && x) (stands-as placeholder t.1 (in-root e placed v.1))
      ∙ and-false (is_bt 13 0 e.term) (bytes_eq (codes "NA") (spelled e.value) && stands es 14)
      (and-false ubl (is_bt 13 0 e.term && (bytes_eq (codes "NA") (spelled e.value) && stands es 14)) (placeholder-kept rows es keeps e known) w.0) u.0)

  own-placeholder : (row : Row) (placeholder : Placeholder) (content : Content) → row.content ≡ content →
      (elim content [ (contents.Term term) ↦ is_kept_placeholder ubl term placeholder | (contents.Constant text) ↦ true ]) ≡ true
      → (has_term e.term row && (bytes_eq placeholder.text (spelled e.value) && is_some (value_in es placeholder.beside e.context))) ≡ false
  own-placeholder row placeholder (contents.Constant text) is h =
      ap (λ (x : Content). (elim (term_in x) [ None ↦ false | Some t ↦ same_term t e.term ]) &&
      (bytes_eq placeholder.text (spelled e.value) && is_some (value_in es placeholder.beside e.context))) is
  own-placeholder row placeholder (contents.Term term) is h =
      ap (λ (x : Content). (elim (term_in x) [ None ↦ false | Some t ↦ same_term t e.term ]) &&
      (bytes_eq placeholder.text (spelled e.value) && is_some (value_in es placeholder.beside e.context))) is
      ∙ go (same_term term e.term) refl
    where
      go : (b : Bool) → same_term term e.term ≡ b → (b && (bytes_eq placeholder.text (spelled e.value) && is_some (value_in es placeholder.beside e.context)))
          ≡ false
      go false same = refl
      go true same = unfilled placeholder (subst (λ t. is_kept_placeholder ubl t placeholder ≡ true) (same_term_is term e.term same) h)

  by-rule : (row : Row) (rule : Written) →
      (elim rule [
        | (written.OrPlaceholder placeholder) ↦ elim row.content [
          | (contents.Term term) ↦ is_kept_placeholder ubl term placeholder
          | (contents.Constant text)
              ↦ true
        ]
        | _ ↦ true
      ]) ≡ true
      → (elim rule [
        | (written.OrPlaceholder placeholder) ↦ is_joined plan rows row &&
            (has_term e.term row && (bytes_eq placeholder.text (spelled e.value) && is_some (value_in es placeholder.beside e.context)))
        | _ ↦ false
      ]) ≡ false
  by-rule row written.Always h = refl
  by-rule row written.Never h = refl
  by-rule row written.IfIban h = refl
  by-rule row written.IfNotIban h = refl
  by-rule row written.IfScheme h = refl
  by-rule row written.IfNoScheme h = refl
  by-rule row (written.OrPlaceholder placeholder) h = and-last (is_joined plan rows row) _ (own-placeholder row placeholder row.content refl h)
  by-rule row written.VatTotal h = refl
  by-rule row written.AccountingVatTotal h = refl

  no-placeholder : (row : Row) → keeps_placeholder ubl row ≡ true → is_like_placeholder plan rows es e row ≡ false
  no-placeholder row h = by-rule row row.written h

  -- ---- 2: texts that are no values

  unlike : (u : Unlike) → is_kept_unlike ubl u ≡ true → not (same_term e.term u.term && bytes_eq u.text (spelled e.value)) ≡ true
  unlike u h = go (same_term e.term u.term) (bytes_eq u.text (spelled e.value)) refl refl
    where
      go : (a b : Bool) → same_term e.term u.term ≡ a → bytes_eq u.text (spelled e.value) ≡ b → not (a && b) ≡ true
      go false b same is = refl
      go true false same is = refl
      go true true same is =
          let w = both-true ubl ((is_bt 29 1 u.term || is_bt 60 1 u.term) && bytes_eq u.text (codes "SEPA")) h in
          let v = both-true (is_bt 29 1 u.term || is_bt 60 1 u.term) (bytes_eq u.text (codes "SEPA")) w.1 in
          let term : (is_bt 29 1 e.term || is_bt 60 1 e.term) ≡ true = ap (λ t. is_bt 29 1 t || is_bt 60 1 t) (same_term_is e.term u.term same) ∙ v.0 in
          let text : bytes_eq (codes "SEPA") (spelled e.value) ≡ true =
          ap (λ t. bytes_eq t (spelled e.value)) (sym ((bytes_eq-Decides u.text (codes "SEPA")).0 v.1)) ∙ is in
          absurd (false≢true (sym (and-false (is_bt 29 1 e.term || is_bt 60 1 e.term) (bytes_eq (codes "SEPA") (spelled e.value))
          (and-false ubl ((is_bt 29 1 e.term || is_bt 60 1 e.term) && bytes_eq (codes "SEPA") (spelled e.value)) (creditor-kept rows es keeps e known) w.0)
          term) ∙ text))

  -- ---- terms that stand together

  part : (x : Together) → keeps_together ubl x ≡ true → (not (same_term e.term x.term && same_groups (slot_group e.context.outer) (Some x.group)) ||
      is_some (value_in es x.part e.context)) ≡ true
  part x h = by (is_extension e.term) refl (both-true (not (is_extension x.term)) (list_all (keeps_together_at ubl x) terms) h)
    where
      -- no added term is asked for others
      added : is_extension e.term ≡ true → not (is_extension x.term) ≡ true → (b : Bool) → same_term e.term x.term ≡ b
          → (not (same_term e.term x.term && same_groups (slot_group e.context.outer) (Some x.group)) || is_some (value_in es x.part e.context)) ≡ true
      added ext own false same = ap (λ b. not (b && same_groups (slot_group e.context.outer) (Some x.group)) || is_some (value_in es x.part e.context)) same
      added ext own true same = absurd (false≢true (sym (not-true (is_extension x.term) own) ∙ (ap is_extension (sym (same_term_is e.term x.term same)) ∙ ext)))

      go : is_extension e.term ≡ false → (m : IsModelled e)
          → (not (same_term m.row.term x.term && same_groups (outer_group m.row.group) (Some x.group)) ≡ true) ⊎
          (stands_with ubl m.row.term (outer_group m.row.group) (inner_group m.row.group) x.part ≡ true)
          → (not (same_term e.term x.term && same_groups (slot_group e.context.outer) (Some x.group)) || is_some (value_in es x.part e.context)) ≡ true
      go own m (inl n) =
          or-first (not (same_term e.term x.term && same_groups (slot_group e.context.outer) (Some x.group))) _
          (ap (λ t. not (same_term t x.term && same_groups (slot_group e.context.outer) (Some x.group))) (sym m.term_is)
          ∙ (ap (λ o. not (same_term m.row.term x.term && same_groups o (Some x.group))) m.outer ∙ n))
      go own m (inr s) =
          or-second (not (same_term e.term x.term && same_groups (slot_group e.context.outer) (Some x.group))) _
          (main-here plan rows es e known own keeps lists valid x.part
          (ap (λ t. stands_with ubl t (slot_group e.context.outer) (slot_group e.context.inner) x.part) (sym m.term_is)
          ∙ (ap (λ o. stands_with ubl m.row.term o (slot_group e.context.inner) x.part) m.outer
          ∙ (ap (λ o. stands_with ubl m.row.term (outer_group m.row.group) o x.part) m.inner ∙ s))))

      by : (b : Bool) → is_extension e.term ≡ b → (not (is_extension x.term) ≡ true) × (list_all (keeps_together_at ubl x) terms ≡ true)
          → (not (same_term e.term x.term && same_groups (slot_group e.context.outer) (Some x.group)) || is_some (value_in es x.part e.context)) ≡ true
      by true ext w = added ext w.0 (same_term e.term x.term) refl
      by false own w =
          let m = modelled e own placed in
          go own m (either-or (not (same_term m.row.term x.term && same_groups (outer_group m.row.group) (Some x.group)))
          (λ _. stands_with ubl m.row.term (outer_group m.row.group) (inner_group m.row.group) x.part)
          (all-each (keeps_together_at ubl x) terms w.1 m.row m.known))

  as-known : keeps_known (known_of rows) ubl ≡ true → is_as_known (known_of rows) es e ≡ true
  as-known h =
      let w = both-true (list_all (is_kept_unlike ubl) (known_of rows).unlike) (list_all (keeps_together ubl) (known_of rows).together) h in
      and-true (is_other_value (known_of rows) e) (has_parts (known_of rows) es e)
      (each-all (λ (u : Unlike). not (same_term e.term u.term && bytes_eq u.text (spelled e.value))) (known_of rows).unlike
      (λ u a. unlike u (all-each (is_kept_unlike ubl) (known_of rows).unlike w.0 u a)))
      (each-all (λ (x : Together). not (same_term e.term x.term && same_groups (slot_group e.context.outer) (Some x.group)) ||
      is_some (value_in es x.part e.context)) (known_of rows).together
      (λ x a. part x (all-each (keeps_together ubl) (known_of rows).together w.1 x a)))

  -- ---- 4: notes

  no-note : keeps_notes rows ubl ≡ true → is_bad_note rows es e ≡ false
  no-note h = go (or-either ubl (not (list_any is_coded_row rows)) h)
    where
      go : (ubl ≡ true) ⊎ (not (list_any is_coded_row rows) ≡ true) → is_bad_note rows es e ≡ false
      go (inl u) = and-last (list_any is_coded_row rows) (is_misread_note es e)
          (misread-same es e ∙ and-false ubl (carried.is_misread_note es e) (note-kept rows es keeps e known) u)
      go (inr n) = ap (λ b. b && is_misread_note es e) (not-true _ n)

  pub unmistaken : mistakes_none (known_of rows) rows ubl ≡ true → is_unmistaken plan rows es e ≡ true
  unmistaken h =
      let w = both-true (list_all (keeps_placeholder ubl) rows) (keeps_known (known_of rows) ubl && keeps_notes rows ubl) h in
      let v = both-true (keeps_known (known_of rows) ubl) (keeps_notes rows ubl) w.1 in
      and-true (not (list_any (is_like_placeholder plan rows es e) rows)) (is_as_known (known_of rows) es e && not (is_bad_note rows es e))
      (ap not (any-none (is_like_placeholder plan rows es e) rows (λ row a. no-placeholder row (all-each (keeps_placeholder ubl) rows w.0 row a))))
      (and-true (is_as_known (known_of rows) es e) (not (is_bad_note rows es e)) (as-known v.0) (ap not (no-note v.1)))
