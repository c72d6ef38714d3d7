-- What stands before the lines is an invoice by itself.
use Rattle.std.proofs.Common.{ℕ, ◌*◌, ◌^◌, ◌<◌, List, [], ◌∷◌, ◌++◌, refl, arith}
use Rattle.std.specs.Prelude.{codes}
use Rattle.std.specs.List.{All}
use Rattle.std.proofs.lemmas.List.Elements.{All-nil, All-cons, All-append}
use Rattle.inv_base.specs.Characters.{is_char, is_white_space}
use Rattle.inv_decimal.specs.WrittenDay.{read_dashed_day, day_from}
use Rattle.term_table.specs.declared.groups.Group.TheVariants as groups
use Rattle.term_table.specs.declared.terms.DataType.TheVariants as data_types
use Rattle.term_table.specs.SemanticModel.{terms, extension_rows, listing_rows}
use Rattle.term_table.specs.Groups.{parent_of, occurrence_of}
use Rattle.term_table.specs.Places.{first_row}
use Rattle.inv_terms.specs.declared.values.Value.TheVariants as values
use Rattle.inv_terms.specs.declared.entries.Entry.{Entry}
use Rattle.inv_terms.specs.Values.{value_of}
use Rattle.inv_terms.specs.Listing.{Fits}
use Rattle.trial_invoice.specs.Generated.{entry, occurrence, rate, beginning, parties, totals, breakdown, head}
use Rattle.trial_invoice.proofs.PlaceLemmas as t
use Rattle.trial_invoice.proofs.PlaceLemmas.{bt, head_place}
use Rattle.trial_invoice.proofs.ValueLemmas.{ReadsBack, fits-amount, fits-rate}
use Rattle.trial_invoice.proofs.ListingLemmas.{EndsAt}

abbrev pub FitsIts : Entry → Type 0
FitsIts e = Fits e.term e.value

-- each of them fits
abbrev pub AllFit : List Entry → Type 0
AllFit [] = Unit {0}
AllFit (e ∷ es) = FitsIts e × AllFit es

pub all-fit : (es : List Entry) → AllFit es → All FitsIts es
all-fit [] h = All-nil FitsIts
all-fit (e ∷ es) h = All-cons FitsIts e es h.0 (all-fit es h.1)

fits-1 : Fits (bt 1) (values.Identifier (codes "T"))
unfolding value_of is_char is_white_space
fits-1 = record { data_type = data_types.I; text = codes "T"; typed = t.type-1; read = refl }

fits-2 : Fits (bt 2) (values.Date (record { year = 2024; month = 1; day = 1 }))
unfolding value_of is_char is_white_space read_dashed_day day_from
fits-2 = record { data_type = data_types.D; text = codes "2024-01-01"; typed = t.type-2; read = refl }

fits-3 : Fits (bt 3) (values.Code (codes "380"))
unfolding value_of is_char is_white_space
fits-3 = record { data_type = data_types.C; text = codes "380"; typed = t.type-3; read = refl }

fits-5 : Fits (bt 5) (values.Code (codes "EUR"))
unfolding value_of is_char is_white_space
fits-5 = record { data_type = data_types.C; text = codes "EUR"; typed = t.type-5; read = refl }

fits-24 : Fits (bt 24) (values.Identifier (codes "urn:cen.eu:en16931:2017"))
unfolding value_of is_char is_white_space
fits-24 = record { data_type = data_types.I; text = codes "urn:cen.eu:en16931:2017"; typed = t.type-24; read = refl }

fits-27 : Fits (bt 27) (values.Text (codes "S"))
unfolding value_of is_char is_white_space
fits-27 = record { data_type = data_types.T; text = codes "S"; typed = t.type-27; read = refl }

fits-40 : Fits (bt 40) (values.Code (codes "DE"))
unfolding value_of is_char is_white_space
fits-40 = record { data_type = data_types.C; text = codes "DE"; typed = t.type-40; read = refl }

fits-44 : Fits (bt 44) (values.Text (codes "B"))
unfolding value_of is_char is_white_space
fits-44 = record { data_type = data_types.T; text = codes "B"; typed = t.type-44; read = refl }

fits-55 : Fits (bt 55) (values.Code (codes "FR"))
unfolding value_of is_char is_white_space
fits-55 = record { data_type = data_types.C; text = codes "FR"; typed = t.type-55; read = refl }

fits-118 : Fits (bt 118) (values.Code (codes "S"))
unfolding value_of is_char is_white_space
fits-118 = record { data_type = data_types.C; text = codes "S"; typed = t.type-118; read = refl }

beginning-fits : AllFit beginning
beginning-fits = (fits-1, (fits-2, (fits-3, (fits-5, tt))))

parties-fit : AllFit parties
parties-fit = (fits-24, (fits-27, (fits-40, (fits-44, (fits-55, tt)))))

totals-fit : ReadsBack → (sum : ℕ) → sum < 10 ^ 12 → AllFit (totals sum)
totals-fit law sum h =
    let whole : 100 * sum < 10 ^ 18 = omega arith in
    let tax : 20 * sum < 10 ^ 18 = omega arith in
    let both : 120 * sum < 10 ^ 18 = omega arith in (
      fits-amount law (bt 106) _ t.type-106 whole,
      (
        fits-amount law (bt 109) _ t.type-109 whole,
        (fits-amount law (bt 110) _ t.type-110 tax, (fits-amount law (bt 112) _ t.type-112 both, (fits-amount law (bt 115) _ t.type-115 both, tt))),
      ),
    )

breakdown-fits : ReadsBack → (sum : ℕ) → sum < 10 ^ 12 → AllFit (breakdown sum)
breakdown-fits law sum h =
    let whole : 100 * sum < 10 ^ 18 = omega arith in
    let tax : 20 * sum < 10 ^ 18 = omega arith in
    (fits-amount law (bt 116) _ t.type-116 whole, (fits-amount law (bt 117) _ t.type-117 tax, (fits-118, (fits-rate (bt 119) t.type-119, tt))))

head-fits : ReadsBack → (sum : ℕ) → sum < 10 ^ 12 → All FitsIts (head sum)
head-fits law sum h =
    All-append FitsIts beginning (parties ++ (totals sum ++ breakdown sum)) (all-fit beginning beginning-fits)
    (All-append FitsIts parties (totals sum ++ breakdown sum) (all-fit parties parties-fit)
    (All-append FitsIts (totals sum) (breakdown sum) (all-fit (totals sum) (totals-fit law sum h)) (all-fit (breakdown sum) (breakdown-fits law sum h))))

pub head-ends : ReadsBack → (sum : ℕ) → sum < 10 ^ 12 → EndsAt (head sum) head_place 0
unfolding terms extension_rows listing_rows parent_of occurrence_of first_row
head-ends law sum h = record {
  invoice = record { placed = refl; fit = head-fits law sum h; listed = refl; numbered = refl };
  last = entry (occurrence groups.VatBreakdown 1) 119 rate;
  last_is = refl;
  placed = refl;
  numbered = refl;
}
