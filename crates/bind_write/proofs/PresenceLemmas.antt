-- A term that can't stand among entries has no value there.
use Rattle.std.proofs.Common.{◌≡◌, ◌&&◌, Bool, true, false, List, [], ◌∷◌, Option, Some, None, refl, ap, sym, ◌∙◌}
use Rattle.std.specs.Prelude.{find, map, option_map, option_and_then}
use Rattle.std.proofs.lemmas.Bool.{false≢true}
use Rattle.std.proofs.lemmas.List.Elements.{All-nil, All-cons, All-head, All-tail}
use Rattle.term_table.specs.declared.terms.Term.{Term}
use Rattle.term_table.specs.declared.contexts.Context.{Context}
use Rattle.term_table.specs.declared.contexts.Seat.{Seat}
use Rattle.term_table.specs.Contexts.{same_context}
use Rattle.inv_terms.specs.declared.entries.Entry.{Entry}
use Rattle.inv_terms.specs.declared.values.Value.{Value}
use Rattle.inv_terms.specs.declared.presence.Presence.{Presence}
use Rattle.inv_terms.specs.Presences.{may_have, AreKnown, HasAny}
use Rattle.inv_terms.specs.Listing.{seat_of, is_at, value_in}
use Rattle.inv_terms.proofs.PresenceLemmas.{other}
use Rattle.bind_rows.specs.declared.rows.Row.{Row}
use Rattle.bind_rows.specs.declared.rows.Written.{Written}
use Rattle.bind_rows.specs.declared.rows.Written.TheVariants as written
use Rattle.bind_rows.specs.Added.{is_typed}
use Rattle.bind_meaning.specs.Values.{form_for}
use Rattle.bind_meaning.specs.Writing.{formed, if_due, filled, has_slots, of_form, term_text}
use Rattle.bind_write.specs.Sources.{HasSameValues}
use Rattle.bind_write.specs.Holding.{has_placeholder}

-- ---- what is kept of entries

pub known-any : (presence : Presence) → HasAny presence → (es : List Entry) → AreKnown presence (map seat_of es)
known-any presence any [] = All-nil (λ (s : Seat). may_have presence s.term ≡ true)
known-any presence any (e ∷ es) =
    All-cons (λ (s : Seat). may_have presence s.term ≡ true) (seat_of e) (map seat_of es) (any e.term) (known-any presence any es)

-- ---- what isn't known doesn't stand there

-- an entry of another number isn't of the term
not_at : (presence : Presence) (term : Term) (c : Context) (e : Entry) → may_have presence term ≡ false → may_have presence e.term ≡ true →
    is_at term c e ≡ false
not_at presence term c e none has = ap (λ b. b && same_context e.context c) (other presence term (seat_of e) none has)

found-none : (presence : Presence) (term : Term) (c : Context) → may_have presence term ≡ false → (es : List Entry) → AreKnown presence (map seat_of es) →
    find (is_at term c) es ≡ None
found-none presence term c none [] known = refl
found-none presence term c none (e ∷ es) known =
    rw (not_at presence term c e none (All-head (λ (s : Seat). may_have presence s.term ≡ true) (seat_of e) (map seat_of es) known))
    (found-none presence term c none es (All-tail (λ (s : Seat). may_have presence s.term ≡ true) (seat_of e) (map seat_of es) known))

pub no-value : (presence : Presence) (term : Term) (c : Context) → may_have presence term ≡ false → (es : List Entry) → AreKnown presence (map seat_of es) →
    value_in es term c ≡ None
no-value presence term c none es known = ap (option_map (λ (e : Entry). e.value)) (found-none presence term c none es known)

-- nothing is written then

no-placeholder : (w : Written) (es : List Entry) (c : Context) → has_placeholder w ≡ false → filled w es c ≡ None
no-placeholder written.Always es c h = refl
no-placeholder written.Never es c h = refl
no-placeholder written.IfIban es c h = refl
no-placeholder written.IfNotIban es c h = refl
no-placeholder written.IfScheme es c h = refl
no-placeholder written.IfNoScheme es c h = refl
no-placeholder (written.OrPlaceholder placeholder) es c h = absurd (false≢true (sym h))
no-placeholder written.VatTotal es c h = refl
no-placeholder written.AccountingVatTotal es c h = refl

untyped : (typed slots : Bool) (of : Value → Option Value) (o : Option Value) → o ≡ None
    → ◌≡◌ {A = Option Value} (elim typed [ true ↦ elim slots [ true ↦ option_and_then of o | false ↦ None ] | false ↦ o ]) None
untyped true true of o e = ap (option_and_then of) e
untyped true false of o e = refl
untyped false slots of o e = e

pub no-text : (row : Row) (es : List Entry) (term : Term) (c : Context) → value_in es term c ≡ None → has_placeholder row.written ≡ false →
    term_text row es term c ≡ None
no-text row es term c none plain =
    ap (λ o. elim o [ None ↦ filled row.written es c | Some value ↦ if_due row.written es term c (formed (form_for row.form term) es c value) ])
    (untyped (is_typed (form_for row.form term)) (has_slots row c) (of_form (form_for row.form term)) (value_in es term c) none)
    ∙ no-placeholder row.written es c plain

-- the presence is that of a run which has the values of all entries in the context
pub absent : (row : Row) (es run : List Entry) (presence : Presence) (term : Term) (c : Context) → AreKnown presence (map seat_of run) → HasSameValues es run c
    → may_have presence term ≡ false → has_placeholder row.written ≡ false → term_text row es term c ≡ None
absent row es run presence term c known same none plain = no-text row es term c (sym (same term) ∙ no-value presence term c none run known) plain
