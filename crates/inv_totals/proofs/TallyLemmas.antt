-- The tally with an entry more.
use Rattle.std.proofs.Common.{◌≡◌, ℕ, Bool, true, false, List, [], ◌∷◌, ◌++◌, refl, sym, ap, subst, ◌∙◌, Some, None, cond, max, map, ℤ}
use Rattle.std.specs.Prelude.{fold, bytes_eq, String, Result, Ok, Err, OnOk, if◌then◌else◌}
use Rattle.std.specs.Global.{Global}
use Rattle.std.specs.BTreeMap.{BTreeMap, get_by_text, UpdatesBy}
use Rattle.std.specs.Cmp.Lexicographic.{slice_cmp}
use Rattle.std.specs.Ordering.{nat_cmp}
use Rattle.std.specs.String.{string_cmp, string_bytes}
use Rattle.std.proofs.lemmas.List.{map-append}
use Rattle.std.proofs.lemmas.List.Sums.{fold-append}
use Rattle.std.proofs.lemmas.Map.Text.{btree_map_updates_text}
use Rattle.std.proofs.lemmas.Slice.Eq.{bytes_eq-Decides}
use Rattle.term_table.specs.declared.groups.Group.TheVariants as groups
use Rattle.inv_terms.specs.declared.entries.Entry.{Entry}
use Rattle.inv_terms.specs.Listing.{index_in, last_outer}
use Rattle.inv_totals.specs.declared.sums.Part.{Part}
use Rattle.inv_totals.specs.declared.sums.Sums.{Sums}
use Rattle.inv_totals.specs.declared.adding.Tally.{Tally}
use Rattle.inv_totals.specs.Totals.{VatCategory, category_at, entry_amount, is_of, same_category, sum_over}
use Rattle.inv_totals.specs.Adding.{part_of, category_terms, with_amount, with_part, with_tax, all_sums, sums_in, IsKey, or_none, sums_under, AddsUnder}
use Rattle.inv_totals.specs.Adding.{breakdown_of, Tallies, AddsPart}
use Rattle.inv_totals.proofs.SumLemmas.{sum_where-more}
use Rattle.inv_totals.proofs.PartLemmas.{all_sums-more, sums_in-more, sums_in-same, kept}
use Rattle.inv_totals.proofs.KeyLemmas.{same_key}

-- ---- sums under a text

-- What a change of the map at a text shows, where the new sums are the old ones with an amount more.
pub adds_under : (key : List ℕ) (old new : BTreeMap (String Global) Sums) (sums : Sums) (part : Part) (x : ℤ)
    → UpdatesBy string_cmp (λ (k : String Global). slice_cmp nat_cmp key (string_bytes k)) old new (Some sums)
    → sums ≡ with_amount (sums_under old key) part x → AddsUnder key part x old new
adds_under key old new sums part x updates is = λ text. ap or_none (btree_map_updates_text key old new (Some sums) updates text)
    ∙ by text (bytes_eq key text) refl
  where
    by : (text : List ℕ) (b : Bool) → bytes_eq key text ≡ b → or_none (cond b (Some sums) (get_by_text old text))
        ≡ (if b then with_amount (sums_under old text) part x else sums_under old text)
    by text true e = is ∙ ap (λ t. with_amount (sums_under old t) part x) ((bytes_eq-Decides key text).0 e)
    by text false e = refl

-- The same, where the text is one of its own.
pub adds_new : (key : List ℕ) (text : String Global) (old new : BTreeMap (String Global) Sums) (sums : Sums) (part : Part) (x : ℤ) → string_bytes text ≡ key
    → UpdatesBy string_cmp (λ (k : String Global). slice_cmp nat_cmp (string_bytes text) (string_bytes k)) old new (Some sums)
    → sums ≡ with_amount (sums_under old key) part x → AddsUnder key part x old new
adds_new key text old new sums part x same updates is =
    subst (λ k. AddsUnder k part x old new) same
    (adds_under (string_bytes text) old new sums part x updates (is ∙ ap (λ k. with_amount (sums_under old k) part x) (sym same)))

-- ---- an entry more

taxes-more : (es : List Entry) (e : Entry) → sum_over 117 (es ++ e ∷ []) ≡ with_tax (sum_over 117 es) e
taxes-more es e = sum_where-more (is_of 117) es e (is_of 117 e) refl

breakdowns-more : (es : List Entry) (e : Entry) → last_outer (es ++ e ∷ []) groups.VatBreakdown
    ≡ max (last_outer es groups.VatBreakdown) (breakdown_of e.context)
breakdowns-more es e =
    ap (fold max 0) (map-append (λ (x : Entry). index_in groups.VatBreakdown x.context.outer) es (e ∷ []))
    ∙ fold-append max 0 (map (λ (x : Entry). index_in groups.VatBreakdown x.context.outer) es) (index_in groups.VatBreakdown e.context.outer ∷ [])

-- what is counted of any entry
pub record Counts (e : Entry) (old mid : Tally) : Type 0 where
  pub sums : mid.sums ≡ old.sums
  pub categories : mid.categories ≡ old.categories
  pub taxes : mid.taxes ≡ with_tax old.taxes e
  pub breakdowns : mid.breakdowns ≡ max old.breakdowns (breakdown_of e.context)

module _ (whole es : List Entry) (e : Entry) (old mid : Tally) (so_far : Tallies whole es old) (counts : Counts e old mid) where
  taxes : mid.taxes ≡ sum_over 117 (es ++ e ∷ [])
  taxes = counts.taxes ∙ (ap (λ t. with_tax t e) so_far.taxes ∙ sym (taxes-more es e))

  breakdowns : mid.breakdowns ≡ last_outer (es ++ e ∷ []) groups.VatBreakdown
  breakdowns = counts.breakdowns ∙ (ap (λ n. max n (breakdown_of e.context)) so_far.breakdowns ∙ sym (breakdowns-more es e))

  before : (key : List ℕ) (category : VatCategory) → IsKey key category → sums_under mid.categories key ≡ sums_in whole category es
  before key category is = ap (λ m. sums_under m key) counts.categories ∙ so_far.each key category is

  -- one that adds to no part
  pub counted : part_of e ≡ None → Tallies whole (es ++ e ∷ []) mid
  counted none = record {
    sums = counts.sums ∙ (so_far.sums ∙ (ap (λ p. with_part (all_sums es) p (entry_amount e)) (sym none) ∙ sym (all_sums-more es e)));
    taxes = taxes;
    breakdowns = breakdowns;
    each = λ key category is. before key category is ∙ sym (sums_in-same whole es category e none);
  }

  -- one that adds to a part
  module _ (new : Tally) (part : Part) (of : part_of e ≡ Some part) (adds : AddsPart whole e part mid new) where
    with_kept : (same : Bool) (sums : Sums) → (if same then with_amount sums part (entry_amount e) else sums) ≡ with_part sums (kept same part) (entry_amount e)
    with_kept true sums = refl
    with_kept false sums = refl

    each : (key : List ℕ) (category : VatCategory) → IsKey key category → sums_under new.categories key ≡ sums_in whole category (es ++ e ∷ [])
    each key category is =
        let same = same_category (category_at whole (category_terms part).code (category_terms part).rate e.context) category in
        adds.under key
        ∙ (ap (λ b. if b then with_amount (sums_under mid.categories key) part (entry_amount e) else sums_under mid.categories key)
        (same_key adds.key key _ category adds.is_key is)
        ∙ (ap (λ s. if same then with_amount s part (entry_amount e) else s) (before key category is)
        ∙ (with_kept same (sums_in whole category es) ∙ sym (sums_in-more whole es category e part same of refl))))

    tallied : Tallies whole (es ++ e ∷ []) new
    tallied = record {
      sums = adds.sums ∙ (ap (λ s. with_amount s part (entry_amount e)) (counts.sums ∙ so_far.sums)
          ∙ (ap (λ p. with_part (all_sums es) p (entry_amount e)) (sym of) ∙ sym (all_sums-more es e)));
      taxes = adds.taxes ∙ taxes;
      breakdowns = adds.breakdowns ∙ breakdowns;
      each = each;
    }

  pub added_part : {E : Type 0} (result : Result (Unit {0}) E) (new : Tally) (part : Part) → part_of e ≡ Some part → OnOk result (AddsPart whole e part mid new)
      → OnOk result (Tallies whole (es ++ e ∷ []) new)
  added_part (Ok done) new part of adds = tallied new part of adds
  added_part (Err fault) new part of adds = tt
