-- Which terms may stand among seats, by their numbers.
use Rattle.std.specs.Prelude.{◌≡◌, ℕ, ◌%◌, ◌==◌, Bool, true, List, get_or}
use Rattle.std.specs.List.{All, list_any}
use Rattle.term_table.specs.declared.terms.Term.{Term}
use Rattle.term_table.specs.declared.contexts.Seat.{Seat}
use Rattle.inv_terms.specs.declared.presence.Presence.{Presence}

abbrev pub place_of : Term → ℕ
place_of term = term.number % 128

abbrev pub may_have : Presence → Term → Bool
may_have presence term = get_or presence.numbers (place_of term) true

-- Each seat has a term that may stand there.
abbrev pub AreKnown : Presence → List Seat → Type 0
AreKnown presence seats = All (λ (s : Seat). may_have presence s.term ≡ true) seats

-- A seat has a term whose number falls together with this one's.
abbrev pub has_number_of : Term → List Seat → Bool
has_number_of term seats = list_any (λ (s : Seat). place_of s.term == place_of term) seats

abbrev pub HasAny : Presence → Type 0
HasAny presence = (term : Term) → may_have presence term ≡ true
