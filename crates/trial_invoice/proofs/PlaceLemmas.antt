-- Where the terms of the generated invoice stand in the order of the semantic model.
use Rattle.std.proofs.Common.{◌≡◌, ℕ, suc, ◌<◌, true, List, [], ◌∷◌, Some, refl, arith}
use Rattle.std.specs.Ordering.{nat_cmp}
use Rattle.std.specs.declared.cmp.Ordering.TheVariants.{Less, Equal}
use Rattle.std.proofs.lemmas.Bool.Decides.{nat_tests}
use Rattle.term_table.specs.declared.groups.Group.TheVariants as groups
use Rattle.term_table.specs.declared.contexts.Seat.{Seat}
use Rattle.term_table.specs.declared.terms.DataType.TheVariants as data_types
use Rattle.term_table.specs.declared.terms.Term.{Term}
use Rattle.term_table.specs.SemanticModel.{terms, extension_rows, listing_rows}
use Rattle.term_table.specs.Groups.{parent_of, occurrence_of}
use Rattle.term_table.specs.Rows.{HasType, modelled}
use Rattle.term_table.specs.Places.{first_row, seat_place, precedes}
use Rattle.trial_invoice.specs.Generated.{occurrence}

abbrev pub bt : ℕ → Term
bt number = record { number = number; part = 0 }

-- a term in the line of a number
abbrev pub in_line : ℕ → ℕ → Seat
in_line i number = record { term = bt number; context = occurrence groups.InvoiceLine i }

-- the place of a row in a line, and that of the last entry before the lines
abbrev pub line_place : ℕ → ℕ → List ℕ
line_place i row = 141 ∷ (i ∷ (row ∷ (0 ∷ (row ∷ []))))

abbrev pub head_place : List ℕ
head_place = 129 ∷ (1 ∷ (132 ∷ (0 ∷ (132 ∷ []))))

-- ---- the terms of a line

pub place-126 : (i : ℕ) → seat_place (in_line i 126) ≡ Some (line_place i 141)
unfolding terms extension_rows listing_rows parent_of occurrence_of first_row
place-126 i = refl

pub place-129 : (i : ℕ) → seat_place (in_line i 129) ≡ Some (line_place i 145)
unfolding terms extension_rows listing_rows parent_of occurrence_of first_row
place-129 i = refl

pub place-130 : (i : ℕ) → seat_place (in_line i 130) ≡ Some (line_place i 146)
unfolding terms extension_rows listing_rows parent_of occurrence_of first_row
place-130 i = refl

pub place-131 : (i : ℕ) → seat_place (in_line i 131) ≡ Some (line_place i 147)
unfolding terms extension_rows listing_rows parent_of occurrence_of first_row
place-131 i = refl

pub place-146 : (i : ℕ) → seat_place (in_line i 146) ≡ Some (line_place i 162)
unfolding terms extension_rows listing_rows parent_of occurrence_of first_row
place-146 i = refl

pub place-151 : (i : ℕ) → seat_place (in_line i 151) ≡ Some (line_place i 167)
unfolding terms extension_rows listing_rows parent_of occurrence_of first_row
place-151 i = refl

pub place-152 : (i : ℕ) → seat_place (in_line i 152) ≡ Some (line_place i 168)
unfolding terms extension_rows listing_rows parent_of occurrence_of first_row
place-152 i = refl

pub place-153 : (i : ℕ) → seat_place (in_line i 153) ≡ Some (line_place i 169)
unfolding terms extension_rows listing_rows parent_of occurrence_of first_row
place-153 i = refl

-- ---- their order

cmp-same : (n : ℕ) → nat_cmp n n ≡ Equal
cmp-same n = grind (arith, nat_tests)

cmp-next : (n : ℕ) → nat_cmp n (suc n) ≡ Less
cmp-next n = grind (arith, nat_tests)

cmp-below : (m n : ℕ) → m < n → nat_cmp m n ≡ Less
cmp-below m n h = grind (arith, nat_tests)

-- in one line, by rows
pub later : (i row other : ℕ) → row < other → precedes (line_place i row) (line_place i other) ≡ true
later i row other h = rw (cmp-same i, cmp-below row other h) refl

-- the line of the next number
pub next : (i row other : ℕ) → precedes (line_place i row) (line_place (suc i) other) ≡ true
next i row other = rw (cmp-next i) refl

-- ---- the types of the terms

pub type-1 : HasType (bt 1) data_types.I
unfolding terms
type-1 = modelled refl

pub type-2 : HasType (bt 2) data_types.D
unfolding terms
type-2 = modelled refl

pub type-3 : HasType (bt 3) data_types.C
unfolding terms
type-3 = modelled refl

pub type-5 : HasType (bt 5) data_types.C
unfolding terms
type-5 = modelled refl

pub type-24 : HasType (bt 24) data_types.I
unfolding terms
type-24 = modelled refl

pub type-27 : HasType (bt 27) data_types.T
unfolding terms
type-27 = modelled refl

pub type-40 : HasType (bt 40) data_types.C
unfolding terms
type-40 = modelled refl

pub type-44 : HasType (bt 44) data_types.T
unfolding terms
type-44 = modelled refl

pub type-55 : HasType (bt 55) data_types.C
unfolding terms
type-55 = modelled refl

pub type-106 : HasType (bt 106) data_types.A
unfolding terms
type-106 = modelled refl

pub type-109 : HasType (bt 109) data_types.A
unfolding terms
type-109 = modelled refl

pub type-110 : HasType (bt 110) data_types.A
unfolding terms
type-110 = modelled refl

pub type-112 : HasType (bt 112) data_types.A
unfolding terms
type-112 = modelled refl

pub type-115 : HasType (bt 115) data_types.A
unfolding terms
type-115 = modelled refl

pub type-116 : HasType (bt 116) data_types.A
unfolding terms
type-116 = modelled refl

pub type-117 : HasType (bt 117) data_types.A
unfolding terms
type-117 = modelled refl

pub type-118 : HasType (bt 118) data_types.C
unfolding terms
type-118 = modelled refl

pub type-119 : HasType (bt 119) data_types.P
unfolding terms
type-119 = modelled refl

pub type-126 : HasType (bt 126) data_types.I
unfolding terms
type-126 = modelled refl

pub type-129 : HasType (bt 129) data_types.Q
unfolding terms
type-129 = modelled refl

pub type-130 : HasType (bt 130) data_types.C
unfolding terms
type-130 = modelled refl

pub type-131 : HasType (bt 131) data_types.A
unfolding terms
type-131 = modelled refl

pub type-146 : HasType (bt 146) data_types.A
unfolding terms
type-146 = modelled refl

pub type-151 : HasType (bt 151) data_types.C
unfolding terms
type-151 = modelled refl

pub type-152 : HasType (bt 152) data_types.P
unfolding terms
type-152 = modelled refl

pub type-153 : HasType (bt 153) data_types.T
unfolding terms
type-153 = modelled refl
