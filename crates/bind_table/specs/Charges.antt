-- Allowances and charges as both syntaxes list them, of the document and of lines (EN 16931-1, BG-20, BG-21, BG-27 and BG-28):
-- what the elements of a syntax are for that is its own.
use Prim.Native.String.{String}
use Rattle.std.specs.Prelude.{ℕ, List, [], ◌∷◌}
use Rattle.term_table.specs.declared.groups.Group.{Group}
use Rattle.bind_rows.specs.declared.guards.Guard.{Guard}
use Rattle.bind_rows.specs.declared.guards.Test.{Test}
use Rattle.bind_table.specs.Listings.{Listing, ◌◂◌, each, given, one_of, none_of}

-- How a syntax writes an allowance or a charge.
pub record Charging : Type 0 where
  -- what the indicator is, by which the two are told apart
  pub indicator : Test → Guard
  -- the element around
  pub around : Listing → Listing
  -- the indicator, then amount, base amount, percentage, reason and reason code
  pub sums : String → ℕ → ℕ → ℕ → ℕ → ℕ → Listing
  -- VAT category code and rate, which those of the document have too
  pub taxed : ℕ → ℕ → Listing

abbrev pub allowance : Charging → Group → Listing → Listing
allowance s group inside = each group (given (s.indicator (none_of ("true" ∷ "1" ∷ []))) (s.around inside))

abbrev pub charge : Charging → Group → Listing → Listing
charge s group inside = each group (given (s.indicator (one_of ("true" ∷ "1" ∷ []))) (s.around inside))

abbrev pub document_allowance : Charging → ℕ → ℕ → ℕ → ℕ → ℕ → ℕ → ℕ → Group → Listing
document_allowance s a b p c r t k group = allowance s group (s.sums "false" a b p t k ◂ s.taxed c r)

abbrev pub document_charge : Charging → ℕ → ℕ → ℕ → ℕ → ℕ → ℕ → ℕ → Group → Listing
document_charge s a b p c r t k group = charge s group (s.sums "true" a b p t k ◂ s.taxed c r)

abbrev pub line_allowance : Charging → ℕ → ℕ → ℕ → ℕ → ℕ → Group → Listing
line_allowance s a b p t k group = allowance s group (s.sums "false" a b p t k)

abbrev pub line_charge : Charging → ℕ → ℕ → ℕ → ℕ → ℕ → Group → Listing
line_charge s a b p t k group = charge s group (s.sums "true" a b p t k)
