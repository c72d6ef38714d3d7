-- What the built-in rules find in a document whose lines are numbered and have their net amounts: nothing but the last line.
use Rattle.std.proofs.Common.{◌≡◌, ℕ, zero, suc, ◌+◌, ◌*◌, ◌^◌, ◌<◌, ◌≤◌, min, Bool, true, false, cond, List, [], ◌∷◌, ◌++◌, length, map, filter, flat_map}
use Rattle.std.proofs.Common.{None, Ok, pos, ℤ, refl, sym, ap, ◌∙◌, subst, arith}
use Rattle.std.specs.Prelude.{nat_lt, if◌then◌else◌, codes}
use Rattle.std.specs.List.{count_by}
use Rattle.std.specs.Ordering.{int_cmp, is_eq}
use Rattle.std.proofs.lemmas.Bool.Decides.{nat_tests}
use Rattle.std.proofs.lemmas.List.Sums.{sum_by-append}
use Rattle.inv_base.specs.Counts.{last_count}
use Rattle.inv_base.specs.Tree.{Node}
use Rattle.node_arena.specs.Moves.{tree_node, is_child}
use Rattle.inv_decimal.specs.Number.{unit}
use Rattle.inv_decimal.specs.Arithmetic.{product_of}
use Rattle.xpath_meaning.specs.Reading.{read_number}
use Rattle.xpath_meaning.specs.Meaning.{mean, at_top, truth_of}
use Rattle.xpath_meaning.specs.Patterns.{matches}
use Rattle.schematron_findings.specs.declared.finding.Line.{Line}
use Rattle.schematron_findings.specs.declared.finding.Line.TheVariants as l
use Rattle.svrl_report.specs.Plain.{is_failed, is_reported, is_error, is_minor, tally_of}
use Rattle.bind_meaning.specs.Elements.{both}
use Rattle.schematron_run.specs.Judging.{by_rule, by_first, findings, told_of, lines_told}
use Rattle.binding_laws.proofs.TreeLemmas.{Each, each-weaker}
use Rattle.trial_laws.proofs.Numbered.{AreNumbered}
use Rattle.trial_laws.proofs.Finding.{children, is_called, StandsWell, matches-each, all-value}
use Rattle.trial_laws.proofs.Tests.{SaysOnce, net-test, count-test}
use Rattle.trial_laws.proofs.Lines.{number, AreLines}
use Rattle.trial_laws.specs.Rules.{in_basic, in_aggregate, line_name, all_lines, assert_test, report_test, the_assert, the_report, the_rule, the_rules}

-- ---- one line

-- An element has the number of a line, its net amount, its quantity and its price, as texts that are read as these numbers.
pub record IsLine (nodes : List Node) (i n : ℕ) : Type 0 where
  pub own : (tree_node nodes n).number ≡ n
  pub number_text : List ℕ
  pub number : SaysOnce nodes n (in_basic (codes "ID")) number_text
  pub number_read : read_number number_text ≡ Ok (pos (i * unit))
  pub net_text : List ℕ
  pub net : SaysOnce nodes n (in_basic (codes "LineExtensionAmount")) net_text
  pub quantity_text : List ℕ
  pub quantity : SaysOnce nodes n (in_basic (codes "InvoicedQuantity")) quantity_text
  pub price_node : Node
  pub price_own : (tree_node nodes price_node.number).number ≡ price_node.number
  pub price_only : filter (both (is_child n) (is_called (in_aggregate (codes "Price")))) nodes ≡ price_node ∷ []
  pub price_text : List ℕ
  pub price : SaysOnce nodes price_node.number (in_basic (codes "PriceAmount")) price_text
  pub a : ℤ
  pub b : ℤ
  pub z : ℤ
  pub net_read : read_number net_text ≡ Ok z
  pub quantity_read : read_number quantity_text ≡ Ok a
  pub price_read : read_number price_text ≡ Ok b
  pub product : product_of a b ≡ Ok z

-- ---- counts

-- So many reports are told, no failed assertion and no error.
abbrev pub Tells : ℕ → List Line → Type 0
Tells k ls = (count_by is_failed ls ≡ 0) × (count_by is_reported ls ≡ k) × (count_by is_error ls ≡ 0) × (count_by is_minor ls ≡ 0)

count-append : (p : Line → Bool) (xs ys : List Line) → count_by p (xs ++ ys) ≡ count_by p xs + count_by p ys
count-append p xs ys = sum_by-append (λ x. cond (p x) 1 0) xs ys

tells-append : (j k : ℕ) (xs ys : List Line) → Tells j xs → Tells k ys → Tells (j + k) (xs ++ ys)
tells-append j k xs ys h w = (
  count-append is_failed xs ys ∙ omega (arith, h.0, w.0),
  count-append is_reported xs ys ∙ omega (arith, h.1, w.1),
  count-append is_error xs ys ∙ omega (arith, h.2, w.2),
  count-append is_minor xs ys ∙ omega (arith, h.3, w.3),
)

tallied : (ls : List Line) → Tells 1 ls → tally_of ls ≡ record { failed = 0; reported = 1; errors = 0; minor = 0 }
tallied ls h = λ i. record {
  failed = min (h.0 i) last_count;
  reported = min (h.1 i) last_count;
  errors = min (h.2 i) last_count;
  minor =
      min (h.3 i) last_count;
}

-- ---- all nodes

-- what is found at nodes that pass a test is found at their numbers
chosen : (p : Node → Bool) (g : Node → List Line) (h : ℕ → List Line) (xs : List Node) → Each (λ x. g x ≡ elim (p x) [ true ↦ h x.number | false ↦ [] ]) xs
    → flat_map g xs ≡ flat_map h (map number (filter p xs))
chosen p g h [] e = refl
chosen p g h (x ∷ xs) e = ap (λ l. l ++ flat_map g xs) e.0 ∙ (ap (λ l. elim (p x) [ true ↦ h x.number | false ↦ [] ] ++ l) (chosen p g h xs e.1) ∙ go (p x))
  where
    go : (b : Bool) → elim b [ true ↦ h x.number | false ↦ [] ] ++
        flat_map h (map number (filter p xs)) ≡ flat_map h (map number (if b then x ∷ filter p xs else filter p xs))
    go true = refl
    go false = refl

module _ (m : ℕ) (nodes : List Node) (numbered : AreNumbered 0 m nodes) (stands : Each (StandsWell nodes line_name) nodes) (count : ℕ) (few : count < 10 ^ 18)
    (long : length (filter (is_called line_name) nodes) ≡ count) (same : (z : ℤ) → is_eq (int_cmp z z) ≡ true)
    (differs : (i j : ℕ) → i < j → is_eq (int_cmp (pos (i * unit)) (pos (j * unit))) ≡ false) where
  abbrev at_line : ℕ → List Line
  at_line n = by_rule nodes [] n 0 the_rule

  few-lines : nat_lt count unit ≡ true
  few-lines = grind (arith, nat_tests)

  asserted : (i n : ℕ) → IsLine nodes i n → truth_of (mean nodes assert_test (at_top n [])) ≡ Ok true
  asserted i n is =
      net-test m nodes numbered n is.own (at_top n []) 1 1 (in_basic (codes "LineExtensionAmount")) (in_basic (codes "InvoicedQuantity"))
      (in_aggregate (codes "Price")) (in_basic (codes "PriceAmount"))
      is.net_text is.quantity_text is.price_text is.a is.b is.z is.net is.quantity is.price_node is.price_own is.price_only is.price is.net_read
      is.quantity_read is.price_read is.product (same is.z)

  reported : (i n : ℕ) → IsLine nodes i n → truth_of (mean nodes report_test (at_top n [])) ≡ Ok (is_eq (int_cmp (pos (i * unit)) (pos (count * unit))))
  reported i n is =
      count-test m nodes numbered n is.own (at_top n []) 1 1 (in_basic (codes "ID")) is.number_text (pos (i * unit)) all_lines
      (filter (is_called line_name) nodes) count is.number is.number_read
      (all-value m nodes numbered line_name stands (at_top n []) n 1 1) long few-lines

  -- what the rule tells at a line, by whether the number is the count
  abbrev told_at : ℕ → Bool → List Line
  told_at n b = l.Fired n 0 the_rule.context.text ∷ (lines_told nodes n [] the_assert None ++
      (lines_told nodes n [] the_report (told_of the_report.kind (Ok b)) ++ []))

  line-told : (i n : ℕ) (b : Bool) → IsLine nodes i n → is_eq (int_cmp (pos (i * unit)) (pos (count * unit))) ≡ b → at_line n ≡ told_at n b
  line-told i n b is e =
      λ j. l.Fired n 0 the_rule.context.text ∷ (lines_told nodes n [] the_assert (told_of the_assert.kind (asserted i n is j)) ++
      (lines_told nodes n [] the_report (told_of the_report.kind ((reported i n is ∙ ap Ok e) j)) ++ []))

  last-tells : (n : ℕ) → IsLine nodes count n → Tells 1 (at_line n)
  last-tells n is = subst (λ (ls : List Line). Tells 1 ls) (sym (line-told count n true is (same (pos (count * unit))))) (refl, refl, refl, refl)

  other-tells : (i n : ℕ) → i < count → IsLine nodes i n → Tells 0 (at_line n)
  other-tells i n less is = subst (λ (ls : List Line). Tells 0 ls) (sym (line-told i n false is (differs i count less))) (refl, refl, refl, refl)

  all-tell : (k a : ℕ) (ns : List ℕ) → AreLines (IsLine nodes) a (suc k) ns → a + k ≡ count → Tells 1 (flat_map at_line ns)
  all-tell k a [] are e = absurd are
  all-tell zero a (n ∷ []) are e =
      let last : IsLine nodes count n = subst (λ j. IsLine nodes j n) (let z : a ≡ count = omega (arith, e) in z) are.0 in
      tells-append 1 0 (at_line n) [] (last-tells n last) (refl, refl, refl, refl)
  all-tell zero a (n ∷ (o ∷ ns)) are e = absurd are.1
  all-tell (suc k) a (n ∷ ns) are e =
      tells-append 0 1 (at_line n) (flat_map at_line ns) (other-tells a n (omega (arith, e)) are.0) (all-tell k (a + 1) ns are.1 (omega (arith, e)))

  judged-each : Each (λ x. by_first nodes [] x 0 (the_rule ∷ []) ≡ elim (is_called line_name x) [ true ↦ at_line x.number | false ↦ [] ]) nodes
  judged-each =
      each-weaker (λ x. matches nodes [] (children line_name) x ≡ is_called line_name x)
      (λ x. by_first nodes [] x 0 (the_rule ∷ []) ≡ elim (is_called line_name x) [ true ↦ at_line x.number | false ↦ [] ])
      nodes (λ x e. ap (λ b. elim b [ true ↦ at_line x.number | false ↦ [] ]) e) (matches-each m nodes numbered line_name stands [])

  -- The rules find the last line, and nothing else.
  pub found-once : 1 ≤ count → AreLines (IsLine nodes) 1 count (map number (filter (is_called line_name) nodes))
      → tally_of (findings the_rules (record { phase = None; patterns = 0 ∷ [] }) nodes) ≡ record { failed = 0; reported = 1; errors = 0; minor = 0 }
  found-once some are = tallied (findings the_rules (record { phase = None; patterns = 0 ∷ [] }) nodes) (tells count some refl are)
    where
      behind : (k : ℕ) → k ≡ count → AreLines (IsLine nodes) 1 k (map number (filter (is_called line_name) nodes)) → 1 ≤ k →
          Tells 1 (flat_map at_line (map number (filter (is_called line_name) nodes)))
      behind zero e w h = absurd (omega (arith, h))
      behind (suc k) e w h = all-tell k 1 (map number (filter (is_called line_name) nodes)) w (omega (arith, e))

      tells : (k : ℕ) → 1 ≤ k → k ≡ count → AreLines (IsLine nodes) 1 k (map number (filter (is_called line_name) nodes)) →
          Tells 1 (findings the_rules (record { phase = None; patterns = 0 ∷ [] }) nodes)
      tells k h e w =
          let at_nodes : List Line = flat_map (λ (x : Node). by_first nodes [] x 0 (the_rule ∷ [])) nodes in
          let inner : Tells 1 at_nodes = subst (λ (ls : List Line). Tells 1 ls)
          (sym (chosen (is_called line_name) (λ x. by_first nodes [] x 0 (the_rule ∷ [])) at_line nodes judged-each)) (behind k e w h) in
          tells-append 1 0 (l.Pattern None ∷ at_nodes) [] (tells-append 0 1 (l.Pattern None ∷ []) at_nodes (refl, refl, refl, refl) inner)
          (refl, refl, refl, refl)
