-- What private functions add up. No public clause cites it.
use Rattle.std.specs.Prelude.{◌≡◌, ℕ, Bool, true, false, List, [], ◌∷◌, ◌++◌, ℤ, pos, Option, Some, None, Ok, String, chars, bytes_eq, if◌then◌else◌}
use Rattle.std.specs.Str.{IsUtf8}
use Rattle.std.specs.Global.{Global}
use Rattle.std.specs.BTreeMap.{BTreeMap, get_by_text}
use Rattle.inv_decimal.specs.Number.{IsDecimal}
use Rattle.inv_decimal.specs.Arithmetic.{sum_of}
use Rattle.inv_decimal.specs.WrittenNumber.{decimal_text}
use Rattle.term_table.specs.declared.groups.Group.TheVariants as groups
use Rattle.term_table.specs.declared.contexts.Context.{Context}
use Rattle.inv_terms.specs.declared.entries.Entry.{Entry}
use Rattle.inv_terms.specs.Listing.{index_in, last_outer}
use Rattle.inv_totals.specs.declared.sums.Part.{Part}
use Rattle.inv_totals.specs.declared.sums.Part.TheVariants as parts
use Rattle.inv_totals.specs.declared.sums.CategoryTerms.{CategoryTerms}
use Rattle.inv_totals.specs.declared.sums.Sums.{Sums}
use Rattle.inv_totals.specs.declared.adding.Tally.{Tally}
use Rattle.inv_totals.specs.Numbers.{Number, then_, plus, minus}
use Rattle.inv_totals.specs.Totals.{VatCategory, category_at, entry_amount, is_in, is_of, sum_over, sum_where}

-- ---- sums

abbrev pub part_by : Bool → Bool → Bool → Option Part
part_by true is_allowance is_charge = Some parts.Lines
part_by false true is_charge = Some parts.Allowances
part_by false false true = Some parts.Charges
part_by false false false = None

abbrev pub part_of : Entry → Option Part
part_of e = part_by (is_of 131 e) (is_of 92 e) (is_of 99 e)

abbrev pub category_terms : Part → CategoryTerms
category_terms parts.Lines = record { code = 151; rate = 152 }
category_terms parts.Allowances = record { code = 95; rate = 96 }
category_terms parts.Charges = record { code = 102; rate = 103 }

abbrev pub no_sums : Sums
no_sums = record { lines = Ok (pos 0); allowances = Ok (pos 0); charges = Ok (pos 0) }

abbrev pub added : Number → ℤ → Number
added sum x = then_ sum (λ s. sum_of s x)

abbrev pub with_amount : Sums → Part → ℤ → Sums
with_amount sums parts.Lines x = record { lines = added sums.lines x; allowances = sums.allowances; charges = sums.charges }
with_amount sums parts.Allowances x = record { lines = sums.lines; allowances = added sums.allowances x; charges = sums.charges }
with_amount sums parts.Charges x = record { lines = sums.lines; allowances = sums.allowances; charges = added sums.charges x }

abbrev pub with_part : Sums → Option Part → ℤ → Sums
with_part sums None x = sums
with_part sums (Some part) x = with_amount sums part x

abbrev pub with_tax : Number → Entry → Number
with_tax taxes e = if is_of 117 e then added taxes (entry_amount e) else taxes

abbrev pub taxable_of : Sums → Number
taxable_of sums = plus (minus sums.lines sums.allowances) sums.charges

-- the sums of the entries that pass: of all, and of those of a category
abbrev pub sums_by : (Entry → Bool) → (Entry → Bool) → (Entry → Bool) → List Entry → Sums
sums_by line allowance charge es = record { lines = sum_where line es; allowances = sum_where allowance es; charges = sum_where charge es }

abbrev pub all_sums : List Entry → Sums
all_sums es = sums_by (is_of 131) (is_of 92) (is_of 99) es

abbrev pub sums_in : List Entry → VatCategory → List Entry → Sums
sums_in whole category es = sums_by (is_in whole 131 151 152 category) (is_in whole 92 95 96 category) (is_in whole 99 102 103 category) es

-- ---- VAT categories as texts

abbrev pub rate_text : Option ℤ → List ℕ
rate_text None = []
rate_text (Some rate) = decimal_text rate

abbrev pub code_text : Option (List ℕ) → List ℕ
code_text None = []
code_text (Some code) = 0x20 ∷ code

abbrev pub key_text : VatCategory → List ℕ
key_text category = rate_text category.rate ++ (0x20 ∷ code_text category.code)

abbrev pub IsRate : Option ℤ → Type 0
IsRate None = Unit {0}
IsRate (Some rate) = IsDecimal rate

-- The bytes are the text of the category.
pub record IsKey (bytes : List ℕ) (category : VatCategory) : Type 0 where
  pub utf8 : IsUtf8 bytes
  pub spells : chars bytes ≡ key_text category
  pub rate : IsRate category.rate

-- ---- sums by their texts

abbrev pub or_none : Option Sums → Sums
or_none None = no_sums
or_none (Some sums) = sums

abbrev pub sums_under : BTreeMap (String Global) Sums → List ℕ → Sums
sums_under categories key = or_none (get_by_text categories key)

-- The amount was added to the sums under the key, and the others stay.
abbrev pub AddsUnder : List ℕ → Part → ℤ → BTreeMap (String Global) Sums → BTreeMap (String Global) Sums → Type 0
AddsUnder key part x old new =
    (text : List ℕ) → sums_under new text ≡ (if bytes_eq key text then with_amount (sums_under old text) part x else sums_under old text)

-- ---- the tally

abbrev pub breakdown_of : Context → ℕ
breakdown_of context = index_in groups.VatBreakdown context.outer

-- It is the tally of some entries of the whole.
pub record Tallies (whole es : List Entry) (tally : Tally) : Type 0 where
  pub sums : tally.sums ≡ all_sums es
  pub taxes : tally.taxes ≡ sum_over 117 es
  pub breakdowns : tally.breakdowns ≡ last_outer es groups.VatBreakdown
  pub each : (key : List ℕ) (category : VatCategory) → IsKey key category → sums_under tally.categories key ≡ sums_in whole category es

-- What an entry adds to a part was added.
pub record AddsPart (whole : List Entry) (e : Entry) (part : Part) (old new : Tally) : Type 0 where
  pub sums : new.sums ≡ with_amount old.sums part (entry_amount e)
  pub taxes : new.taxes ≡ old.taxes
  pub breakdowns : new.breakdowns ≡ old.breakdowns
  pub key : List ℕ
  pub is_key : IsKey key (category_at whole (category_terms part).code (category_terms part).rate e.context)
  pub under : AddsUnder key part (entry_amount e) old.categories new.categories
