-- Two seats that no test tells apart are one.
use Rattle.std.proofs.Common.{◌≡◌, Bool, true, false, refl, ap, ◌∙◌, arith}
use Rattle.std.proofs.lemmas.Bool.{false≢true}
use Rattle.std.proofs.lemmas.Bool.Decides.{nat_tests}
use Rattle.term_table.specs.declared.terms.Term.{Term}
use Rattle.term_table.specs.declared.contexts.Seat.{Seat}
use Rattle.term_table.specs.declared.contexts.Context.{Context}
use Rattle.term_table.specs.SemanticModel.{same_term}
use Rattle.term_table.specs.Contexts.{same_context}
use Rattle.term_table.proofs.SeatLemmas.{same_term_is}
use Rattle.inv_terms.proofs.PushLemmas.{same_slot_itself}
use Rattle.inv_terms.proofs.ContextLemmas.{context_is}
use Rattle.bind_meaning.specs.Judging.{Told, is_of_seat, seat_of}

-- Both are one seat.
abbrev pub is_seat : Seat → Seat → Bool
is_seat a b = elim (same_term a.term b.term) [ true ↦ same_context a.context b.context | false ↦ false ]

both-true : (a b : Bool) → (elim a [ true ↦ b | false ↦ false ]) ≡ true → (a ≡ true) × (b ≡ true)
both-true true b h = (refl, h)
both-true false b h = absurd (false≢true h)

pub seat-is : (a b : Seat) → is_seat a b ≡ true → a ≡ b
seat-is a b h =
    let k = both-true (same_term a.term b.term) (same_context a.context b.context) h in
    let term = same_term_is a.term b.term k.0 in
    let context = context_is a.context b.context k.1 in
    λ i. record { term = term i; context = context i }

term-itself : (a : Term) → same_term a a ≡ true
term-itself a = grind (arith, nat_tests)

context-itself : (a : Context) → same_context a a ≡ true
context-itself a = rw (same_slot_itself a.outer, same_slot_itself a.inner) refl

pub seat-itself : (a : Seat) → is_seat a a ≡ true
seat-itself a = ap (λ x. elim x [ true ↦ same_context a.context a.context | false ↦ false ]) (term-itself a.term) ∙ context-itself a.context

pub told-seat : (a b : Told) → is_of_seat a b ≡ true → seat_of a ≡ seat_of b
told-seat a b h = seat-is (seat_of a) (seat_of b) h

pub seat-told : (a b : Told) → seat_of a ≡ seat_of b → is_of_seat a b ≡ true
seat-told a b e = ap (λ s. is_seat s (seat_of b)) e ∙ seat-itself (seat_of b)
