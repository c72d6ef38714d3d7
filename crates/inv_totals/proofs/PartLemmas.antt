-- What an entry more adds to the sums.
use Rattle.std.proofs.Common.{◌≡◌, ℕ, Bool, true, false, List, [], ◌∷◌, ◌++◌, refl, ap, ◌∙◌, Option, Some, None, arith}
use Rattle.std.specs.Prelude.{◌&&◌, ◌==◌}
use Rattle.std.proofs.lemmas.Bool.Decides.{nat_tests}
use Rattle.inv_terms.specs.declared.entries.Entry.{Entry}
use Rattle.inv_totals.specs.declared.sums.Part.{Part}
use Rattle.inv_totals.specs.declared.sums.Part.TheVariants as parts
use Rattle.inv_totals.specs.Totals.{VatCategory, category_at, entry_amount, is_in, is_of, same_category}
use Rattle.inv_totals.specs.Adding.{part_by, part_of, category_terms, with_part, sums_by, all_sums, sums_in}
use Rattle.inv_totals.proofs.SumLemmas.{sum_where-more}

abbrev pub is_lines : Option Part → Bool
is_lines None = false
is_lines (Some parts.Lines) = true
is_lines (Some parts.Allowances) = false
is_lines (Some parts.Charges) = false

abbrev pub is_allowances : Option Part → Bool
is_allowances None = false
is_allowances (Some parts.Lines) = false
is_allowances (Some parts.Allowances) = true
is_allowances (Some parts.Charges) = false

abbrev pub is_charges : Option Part → Bool
is_charges None = false
is_charges (Some parts.Lines) = false
is_charges (Some parts.Allowances) = false
is_charges (Some parts.Charges) = true

-- Which of three tests hold.
pub record Which (line allowance charge : Bool) (part : Option Part) : Type 0 where
  pub lines : line ≡ is_lines part
  pub allowances : allowance ≡ is_allowances part
  pub charges : charge ≡ is_charges part

which_of : (line allowance charge : Bool) → (line ≡ true → allowance ≡ false) → (line ≡ true → charge ≡ false) → (allowance ≡ true → charge ≡ false)
    → Which line allowance charge (part_by line allowance charge)
which_of true allowance charge p q r = record { lines = refl; allowances = p refl; charges = q refl }
which_of false true charge p q r = record { lines = refl; allowances = refl; charges = r refl }
which_of false false true p q r = record { lines = refl; allowances = refl; charges = refl }
which_of false false false p q r = record { lines = refl; allowances = refl; charges = refl }

apart : (n p a b : ℕ) → (a ≡ b → ⊥) → ((n == a) && (p == 0)) ≡ true → ((n == b) && (p == 0)) ≡ false
apart n p a b other is = grind (arith, nat_tests)

pub which : (e : Entry) → Which (is_of 131 e) (is_of 92 e) (is_of 99 e) (part_of e)
which e = which_of (is_of 131 e) (is_of 92 e) (is_of 99 e)
    (apart e.term.number e.term.part 131 92 (λ h. omega arith)) (apart e.term.number e.term.part 131 99 (λ h. omega arith))
    (apart e.term.number e.term.part 92 99 (λ h. omega arith))

-- an entry more, by what it adds to
pub sums_by-more : (line allowance charge : Entry → Bool) (es : List Entry) (e : Entry) (part : Option Part) → Which (line e) (allowance e) (charge e) part
    → sums_by line allowance charge (es ++ e ∷ []) ≡ with_part (sums_by line allowance charge es) part (entry_amount e)
sums_by-more line allowance charge es e None w = λ i. record {
  lines = sum_where-more line es e false w.lines i;
  allowances = sum_where-more allowance es e false w.allowances i;
  charges = sum_where-more charge es e false w.charges i;
}
sums_by-more line allowance charge es e (Some parts.Lines) w = λ i. record {
  lines = sum_where-more line es e true w.lines i;
  allowances = sum_where-more allowance es e false w.allowances i;
  charges = sum_where-more charge es e false w.charges i;
}
sums_by-more line allowance charge es e (Some parts.Allowances) w = λ i. record {
  lines = sum_where-more line es e false w.lines i;
  allowances = sum_where-more allowance es e true w.allowances i;
  charges = sum_where-more charge es e false w.charges i;
}
sums_by-more line allowance charge es e (Some parts.Charges) w = λ i. record {
  lines = sum_where-more line es e false w.lines i;
  allowances = sum_where-more allowance es e false w.allowances i;
  charges = sum_where-more charge es e true w.charges i;
}

pub all_sums-more : (es : List Entry) (e : Entry) → all_sums (es ++ e ∷ []) ≡ with_part (all_sums es) (part_of e) (entry_amount e)
all_sums-more es e = sums_by-more (is_of 131) (is_of 92) (is_of 99) es e (part_of e) (which e)

-- the part, if the entry is of the category
abbrev pub kept : Bool → Part → Option Part
kept true part = Some part
kept false part = None

abbrev category_of : List Entry → Entry → Part → VatCategory
category_of whole e part = category_at whole (category_terms part).code (category_terms part).rate e.context

both : (a b c : Bool) → a ≡ c → (a && b) ≡ (c && b)
both a b c is = ap (λ x. x && b) is

which_in : (whole : List Entry) (category : VatCategory) (e : Entry) (part : Part) (same : Bool) → Which (is_of 131 e) (is_of 92 e) (is_of 99 e) (Some part)
    → same_category (category_of whole e part) category ≡ same
    → Which (is_in whole 131 151 152 category e) (is_in whole 92 95 96 category e) (is_in whole 99 102 103 category e) (kept same part)
which_in whole category e parts.Lines true w is = record {
  lines = both _ _ _ w.lines ∙ is;
  allowances = both _ _ _ w.allowances;
  charges = both _ _ _ w.charges;
}
which_in whole category e parts.Lines false w is = record {
  lines = both _ _ _ w.lines ∙ is;
  allowances = both _ _ _ w.allowances;
  charges = both _ _ _ w.charges;
}
which_in whole category e parts.Allowances true w is = record {
  lines = both _ _ _ w.lines;
  allowances = both _ _ _ w.allowances ∙ is;
  charges = both _ _ _ w.charges;
}
which_in whole category e parts.Allowances false w is = record {
  lines = both _ _ _ w.lines;
  allowances = both _ _ _ w.allowances ∙ is;
  charges = both _ _ _ w.charges;
}
which_in whole category e parts.Charges true w is = record {
  lines = both _ _ _ w.lines;
  allowances = both _ _ _ w.allowances;
  charges = both _ _ _ w.charges ∙ is;
}
which_in whole category e parts.Charges false w is = record {
  lines = both _ _ _ w.lines;
  allowances = both _ _ _ w.allowances;
  charges = both _ _ _ w.charges ∙ is;
}

-- an entry that adds to a part, in a category
pub sums_in-more : (whole es : List Entry) (category : VatCategory) (e : Entry) (part : Part) (same : Bool) → part_of e ≡ Some part
    → same_category (category_of whole e part) category ≡ same
    → sums_in whole category (es ++ e ∷ []) ≡ with_part (sums_in whole category es) (kept same part) (entry_amount e)
sums_in-more whole es category e part same of is =
    sums_by-more (is_in whole 131 151 152 category) (is_in whole 92 95 96 category) (is_in whole 99 102 103 category) es e (kept same part)
    (which_in whole category e part same (let w : Which (is_of 131 e) (is_of 92 e) (is_of 99 e) (Some part) = rw of at (which e) in w) is)

-- an entry that adds to none
pub sums_in-same : (whole es : List Entry) (category : VatCategory) (e : Entry) → part_of e ≡ None → sums_in whole category
    (es ++ e ∷ []) ≡ sums_in whole category es
sums_in-same whole es category e none =
    let w : Which (is_of 131 e) (is_of 92 e) (is_of 99 e) None = rw none at (which e) in
    sums_by-more (is_in whole 131 151 152 category) (is_in whole 92 95 96 category) (is_in whole 99 102 103 category) es e None
    (record { lines = both _ _ _ w.lines; allowances = both _ _ _ w.allowances; charges = both _ _ _ w.charges })
