-- Nothing is written of a line whose rows have terms alone that don't stand in the invoice.
use Rattle.std.proofs.Common.{◌≡◌, ℕ, Bool, true, false, not, ◌&&◌, ◌||◌, List, [], ◌∷◌, Option, Some, None, refl, sym, ap, ◌∙◌}
use Rattle.std.specs.Prelude.{find, is_some, option_map}
use Rattle.std.specs.List.{list_all, list_any}
use Rattle.std.proofs.lemmas.Bool.{false≢true}
use Rattle.term_table.specs.declared.terms.Term.{Term}
use Rattle.term_table.specs.declared.contexts.Context.{Context}
use Rattle.term_table.specs.Contexts.{same_context}
use Rattle.term_table.specs.SemanticModel.{same_term}
use Rattle.term_table.proofs.SeatLemmas.{same_term_is}
use Rattle.inv_terms.specs.declared.values.Value.{Value}
use Rattle.inv_terms.specs.declared.entries.Entry.{Entry}
use Rattle.inv_terms.specs.Listing.{value_in, is_at}
use Rattle.bind_rows.specs.declared.rows.Content.{Content}
use Rattle.bind_rows.specs.declared.rows.Content.TheVariants as contents
use Rattle.bind_rows.specs.declared.rows.Step.{Step}
use Rattle.bind_rows.specs.declared.rows.Row.{Row}
use Rattle.bind_rows.specs.declared.rows.Written.{Written}
use Rattle.bind_rows.specs.declared.rows.Written.TheVariants as written
use Rattle.bind_table.specs.Lines.{Cell, Plan, nothing, a_line}
use Rattle.bind_meaning.specs.Values.{form_for}
use Rattle.bind_meaning.specs.Writing.{context_for, formed, if_so, if_due, filled, value_for, term_text, row_text}
use Rattle.bind_meaning.specs.Trees.{spots, either, cells_hold, holds, line_holds, is_emitted}
use Rattle.binding_laws.specs.Apart.{is_constantly, is_holder, holds_none, is_gone, are_gone, is_unwritten}
use Rattle.binding_laws.proofs.ListLemmas.{both-true, not-true}
use Rattle.binding_laws.proofs.TakenLemmas.{none-for-none}

any-false : {X : Type 0} (p : X → Bool) (xs : List X) → ((x : X) → p x ≡ false) → list_any p xs ≡ false
any-false p [] f = refl
any-false p (x ∷ xs) f = ap (λ b. b || list_any p xs) (f x) ∙ any-false p xs f

-- no term is on an empty list
pub none-of-none : (es : List Entry) → holds_none [] es ≡ true
none-of-none [] = refl
none-of-none (e ∷ es) = none-of-none es

-- a term of these has no value
pub gone-value : (gone : List Term) (es : List Entry) (term : Term) (c : Context) → holds_none gone es ≡ true → list_any (same_term term) gone ≡ true →
    value_in es term c ≡ None
gone-value gone es term c unheld h = ap (option_map (λ (e : Entry). e.value)) (go es unheld)
  where
    other : (e : Entry) → list_any (same_term e.term) gone ≡ false → (b : Bool) → same_term e.term term ≡ b → is_at term c e ≡ false
    other e k true s = absurd (false≢true (sym k ∙ (ap (λ t. list_any (same_term t) gone) (same_term_is e.term term s) ∙ h)))
    other e k false s = ap (λ b. b && same_context e.context c) s

    go : (xs : List Entry) → holds_none gone xs ≡ true → find (is_at term c) xs ≡ None
    go [] k = refl
    go (e ∷ xs) k =
        let w = both-true (not (list_any (same_term e.term) gone)) (holds_none gone xs) k in
        rw (other e (not-true (list_any (same_term e.term) gone) w.0) (same_term e.term term) refl) (go xs w.1)

pub gone-row : (gone : List Term) (es : List Entry) (row : Row) (c : Context) → holds_none gone es ≡ true → is_gone gone row ≡ true → row_text row es c ≡ None
gone-row gone es row c unheld h = by-content row.content h
  where
    none : (rule : Written) (term : Term) (d : Context) → list_any (same_term term) gone ≡ true → filled rule es d ≡ None
        → ◌≡◌ {A = Option (List ℕ)} (elim (value_for row es term d) [
          | None ↦ filled rule es d
          | Some value ↦ if_due rule es term d (formed (form_for row.form term) es d value)
        ]) None
    none rule term d k unfilled =
        ap (λ o. elim o [ None ↦ filled rule es d | Some value ↦ if_due rule es term d (formed (form_for row.form term) es d value) ])
        (none-for-none row es term d (gone-value gone es term d unheld k)) ∙ unfilled

    never : (o : Option Value) → ◌≡◌ {A = Option (List ℕ)} (elim o [ None ↦ None | Some value ↦ None ]) None
    never None = refl
    never (Some v) = refl

    by-rule : (rule : Written) (term : Term) (d : Context) → (elim rule [
      | written.Never ↦ true
      | (written.OrPlaceholder placeholder) ↦ list_any (same_term term) gone && list_any (same_term placeholder.beside) gone
      | _ ↦ list_any (same_term term) gone
    ]) ≡ true
        → ◌≡◌ {A = Option (List ℕ)} (elim (value_for row es term d) [
          | None ↦ filled rule es d
          | Some value ↦ if_due rule es term d (formed (form_for row.form term) es d value)
        ]) None
    by-rule written.Always term d k = none written.Always term d k refl
    by-rule written.Never term d k = never (value_for row es term d)
    by-rule written.IfIban term d k = none written.IfIban term d k refl
    by-rule written.IfNotIban term d k = none written.IfNotIban term d k refl
    by-rule written.IfScheme term d k = none written.IfScheme term d k refl
    by-rule written.IfNoScheme term d k = none written.IfNoScheme term d k refl
    by-rule (written.OrPlaceholder placeholder) term d k =
        let w = both-true (list_any (same_term term) gone) (list_any (same_term placeholder.beside) gone) k in
        none (written.OrPlaceholder placeholder) term d w.0 (ap (λ o. if_so (is_some o) placeholder.text) (gone-value gone es placeholder.beside d unheld w.1))
    by-rule written.VatTotal term d k = none written.VatTotal term d k refl
    by-rule written.AccountingVatTotal term d k = none written.AccountingVatTotal term d k refl

    by-content : (content : Content) → (elim content [
      | (contents.Term term) ↦ elim row.written [
        | written.Never ↦ true
        | (written.OrPlaceholder placeholder) ↦ list_any (same_term term) gone && list_any (same_term placeholder.beside) gone
        | _ ↦ list_any (same_term term) gone
      ]
      | (contents.Constant text) ↦ true
    ]) ≡ true
        → ◌≡◌ {A = Option (List ℕ)} (elim content [ (contents.Term term) ↦ term_text row es term (context_for row c) | (contents.Constant text) ↦ None ]) None
    by-content (contents.Term term) k = by-rule row.written term (context_for row c) k
    by-content (contents.Constant text) k = refl

pub gone-cells : (gone : List Term) (es : List Entry) (cells : List Cell) (c : Context) → holds_none gone es ≡ true →
    list_all (λ (cell : Cell). is_gone gone cell.row) cells ≡ true → cells_hold es cells c ≡ false
gone-cells gone es [] c unheld h = refl
gone-cells gone es (cell ∷ cells) c unheld h =
    let w = both-true (is_gone gone cell.row) (list_all (λ (x : Cell). is_gone gone x.row) cells) h in
    ap (λ o. is_some o || cells_hold es cells c) (gone-row gone es cell.row c unheld w.0) ∙ gone-cells gone es cells c unheld w.1

neither : (a b : Bool) → a ≡ false → b ≡ false → either a (λ _. b) ≡ false
neither true b e f = e
neither false b e f = f

pub gone-plan : (gone : List Term) (es : List Entry) (plan : Plan) (c : Context) → holds_none gone es ≡ true → are_gone gone plan ≡ true →
    holds es plan c ≡ false
gone-plan gone es nothing c unheld h = refl
gone-plan gone es (a_line t cells inside rest) c unheld h =
    let w = both-true (list_all (λ (cell : Cell). is_gone gone cell.row) cells) (are_gone gone inside && are_gone gone rest) h in
    let v = both-true (are_gone gone inside) (are_gone gone rest) w.1 in
    neither (list_any (λ d. either (cells_hold es cells d) (λ _. holds es inside d)) (spots es c t.group)) (holds es rest c)
    (any-false (λ d. either (cells_hold es cells d) (λ _. holds es inside d)) (spots es c t.group)
    (λ d. neither (cells_hold es cells d) (holds es inside d) (gone-cells gone es cells d unheld w.0) (gone-plan gone es inside d unheld v.0)))
    (gone-plan gone es rest c unheld v.1)

-- the line isn't written
pub never-written : (gone : List Term) (es : List Entry) (t : Step) (cells : List Cell) (inside : Plan) (held : Bool) (d : Context) → holds_none gone es ≡ true
    → is_unwritten gone t cells inside ≡ true
    → is_emitted es t cells inside held d ≡ true → ⊥
never-written gone es t cells inside held d unheld h e =
    let w = both-true (is_holder t cells inside) _ h in
    let v = both-true (list_all (λ (cell : Cell). is_gone gone cell.row) cells) (are_gone gone inside) w.1 in
    let u = both-true (not t.always) (not (is_constantly cells inside)) w.0 in
    go (line_holds es cells inside d) (neither (cells_hold es cells d) (holds es inside d) (gone-cells gone es cells d unheld v.0)
    (gone-plan gone es inside d unheld v.1))
    t.always (not-true t.always u.0) (is_constantly cells inside) (not-true (is_constantly cells inside) u.1) e
  where
    go : (a : Bool) → a ≡ false → (b : Bool) → b ≡ false → (k : Bool) → k ≡ false → either a (λ _. b || (held && k)) ≡ true → ⊥
    go true x b y k z m = false≢true (sym x)
    go false x true y k z m = false≢true (sym y)
    go false x false y true z m = false≢true (sym z)
    go false x false y false z m = nothing-due held m
      where
        nothing-due : (held : Bool) → (held && false) ≡ true → ⊥
        nothing-due true n = false≢true n
        nothing-due false n = false≢true n
