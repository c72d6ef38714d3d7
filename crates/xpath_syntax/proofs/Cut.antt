-- What the parser keeps of an expression is the expression, as long as it has at most 256 levels.
use Rattle.std.proofs.Common.{◌≡◌, ℕ, suc, Bool, true, false, ◌&&◌, ◌+◌, ◌≤◌, ◌<◌, List, [], ◌∷◌, ◌++◌, Option, Some, None, max, nat_lt, nat_le, refl, sym, ap}
use Rattle.std.proofs.Common.{◌∙◌, arith, le-leb, leb-true, leb-false, ltb-true, ltb-false}
use Rattle.std.proofs.lemmas.Bool.{lt-leb}
use Rattle.xpath_grammar.specs.declared.expr.Expr.{Expr}
use Rattle.xpath_grammar.specs.declared.expr.Expr.TheVariants as e
use Rattle.xpath_grammar.specs.declared.expr.Label.{Label}
use Rattle.xpath_grammar.specs.declared.expr.Form.{Form}
use Rattle.xpath_grammar.specs.declared.pattern.PatternKind.{PatternKind}
use Rattle.xpath_grammar.specs.declared.pattern.PatternKind.TheVariants as k
use Rattle.xpath_grammar.specs.Grammar as g
use Rattle.xpath_grammar.specs.Machine as m
use Rattle.xpath_grammar.specs.Patterns as pa
use Rattle.xpath_grammar.specs.View.{expressions}
use Rattle.xpath_syntax.specs.declared.value.Kept.{Kept}
use Rattle.xpath_syntax.specs.declared.value.Value.{Value}
use Rattle.xpath_syntax.specs.declared.value.KeptParts.{KeptParts}
use Rattle.xpath_syntax.specs.declared.value.Parts.{Parts}
use Rattle.xpath_syntax.specs.Values.{values, kept_with, kept_node, first_of, node_value, no_parts}

abbrev pub kept_if : {X : Type 0} → Bool → X → Option X
kept_if true x = Some x
kept_if false x = None

abbrev expression : g.Tree → Expr
expression x = m.value_of expressions x

-- what is kept of an expression
abbrev pub kept_of : g.Tree → Option Kept
kept_of x = kept_if (nat_le (g.level x) 256) (record { expression = expression x; level = g.level x })

abbrev pub whole : g.Tree → Value
whole x = record { kept = kept_of x; kind = pa.kind_of x }

kept_all : Option KeptParts → g.Parts → Option KeptParts
kept_all kept g.none = kept
kept_all kept (g.more label x parts) = kept_all (kept_with kept label (kept_of x)) parts

first_all : Option PatternKind → g.Parts → Option PatternKind
first_all first g.none = first
first_all first (g.more label x parts) = first_all (Some (first_of first (pa.kind_of x))) parts

combined : Parts → g.Parts → Parts
combined so_far parts = record {
  kept = kept_all so_far.kept parts;
  first = first_all so_far.first parts;
  steps = so_far.steps && pa.all_steps parts;
  paths =
      so_far.paths && pa.all_paths parts;
}

none_kept : (parts : g.Parts) → kept_all None parts ≡ None
unfolding kept_all
none_kept g.none = refl
none_kept (g.more label x parts) = none_kept parts

first_stays : (first : PatternKind) (parts : g.Parts) → first_all (Some first) parts ≡ Some first
unfolding first_all
first_stays first g.none = refl
first_stays first (g.more label x parts) = first_stays first parts

first_is : (parts : g.Parts) → first_of (first_all None parts) k.Other ≡ pa.first_kind parts
unfolding first_all pa.kind_of
first_is g.none = refl
first_is (g.more label x parts) = ap (λ f. first_of f k.Other) (first_stays (pa.kind_of x) parts)

and_assoc : (a b c : Bool) → (a && b) && c ≡ a && (b && c)
and_assoc true b c = refl
and_assoc false b c = refl

max_none : (n : ℕ) → n ≡ max n 0
max_none n = omega arith

max_of_three : (a b c : ℕ) → max (max a b) c ≡ max a (max b c)
max_of_three a b c = omega arith

one_more : (n : ℕ) → max 0 n + 1 ≡ suc n
one_more n = omega arith

same_le : (a b : ℕ) → a ≤ 256 → nat_le b 256 ≡ nat_le (max a b) 256
same_le a b h = by (nat_le b 256) refl where
  by : (c : Bool) → nat_le b 256 ≡ c → c ≡ nat_le (max a b) 256
  by true e = sym (le-leb (max a b) 256 (let l : b ≤ 256 = leb-true b 256 e in omega arith))
  by false e = sym (lt-leb (max a b) 256 (let l : 256 < b = leb-false b 256 e in omega arith))

too_deep : (a b : ℕ) → 256 < a → nat_le (max a b) 256 ≡ false
too_deep a b h = lt-leb (max a b) 256 (omega arith)

and-true : (b : Bool) → (b && true) ≡ b
and-true true = refl
and-true false = refl

all_kept : (parts : g.Parts) (so_far : List (Label × Expr)) (deepest : ℕ) → deepest ≤ 256
    → kept_all (Some (record { parts = so_far; deepest = deepest })) parts ≡ kept_if (nat_le (g.deepest parts) 256)
    (record { parts = m.values_of expressions parts so_far; deepest = max deepest (g.deepest parts) })
unfolding kept_all g.level m.value_of
all_kept g.none so_far deepest h = ap (λ d. Some (record { parts = so_far; deepest = d })) (max_none deepest)
all_kept (g.more label x parts) so_far deepest h = by (nat_le (g.level x) 256) refl
    (all_kept parts (so_far ++ (label, expression x) ∷ []) (max deepest (g.level x))) where
      Goal : Option Kept → Type 0
      Goal kept = kept_all (kept_with (Some (record { parts = so_far; deepest = deepest })) label kept) parts
          ≡ kept_if (nat_le (max (g.level x) (g.deepest parts)) 256)
          (record { parts = m.values_of expressions parts (so_far ++ (label, expression x) ∷ []); deepest = max deepest (max (g.level x) (g.deepest parts)) })

      by : (b : Bool) → nat_le (g.level x) 256 ≡ b
          → (max deepest (g.level x) ≤ 256 → kept_all (Some (record { parts = so_far ++ (label, expression x) ∷ []; deepest = max deepest (g.level x) })) parts
          ≡ kept_if (nat_le (g.deepest parts) 256) (record {
            parts = m.values_of expressions parts (so_far ++ (label, expression x) ∷ []);
            deepest =
                max (max deepest (g.level x)) (g.deepest parts);
          }))
          → Goal (kept_if b (record { expression = expression x; level = g.level x }))
      by true e ih = let small : g.level x ≤ 256 = leb-true (g.level x) 256 e in let fits : max deepest (g.level x) ≤ 256 = omega arith in
          ih fits ∙ ap (λ b. kept_if b (record {
            parts = m.values_of expressions parts (so_far ++ (label, expression x) ∷ []);
            deepest =
                max (max deepest (g.level x)) (g.deepest parts);
          })) (same_le (g.level x) (g.deepest parts) small)
          ∙ ap (λ d. kept_if (nat_le (max (g.level x) (g.deepest parts)) 256)
          (record { parts = m.values_of expressions parts (so_far ++ (label, expression x) ∷ []); deepest = d }))
          (max_of_three deepest (g.level x) (g.deepest parts))
      by false e ih = none_kept parts ∙
          sym (ap (λ b. kept_if b (record {
            parts = m.values_of expressions parts (so_far ++ (label, expression x) ∷ []);
            deepest =
                max deepest (max (g.level x) (g.deepest parts));
          }))
          (too_deep (g.level x) (g.deepest parts) (leb-false (g.level x) 256 e)))

node_kept : (form : Form) (parts : g.Parts) → kept_node form (kept_all (Some (record { parts = []; deepest = 0 })) parts) ≡ kept_of (g.node form parts)
unfolding g.level m.value_of
node_kept form parts = ap (kept_node form) (all_kept parts [] 0 (omega arith)) ∙ by (nat_le (g.deepest parts) 256) refl where
  made : ℕ → Kept
  made level = record { expression = e.Node form (m.values_of expressions parts []); level = level }

  node_if : Bool → Option Kept
  node_if b = elim b [ true ↦ Some (made (max 0 (g.deepest parts) + 1)) | false ↦ None ]

  by : (b : Bool) → nat_le (g.deepest parts) 256 ≡ b →
      kept_node form (kept_if b (record { parts = m.values_of expressions parts []; deepest = max 0 (g.deepest parts) })) ≡ kept_if
      (nat_le (suc (g.deepest parts)) 256) (made (suc (g.deepest parts)))
  by true e = inside (nat_lt (max 0 (g.deepest parts)) 256) refl where
    inside : (c : Bool) → nat_lt (max 0 (g.deepest parts)) 256 ≡ c →
        elim c as (λ _. Option Kept) [ true ↦ Some (made (max 0 (g.deepest parts) + 1)) | false ↦ None ] ≡ kept_if (nat_le (suc (g.deepest parts)) 256)
        (made (suc (g.deepest parts)))
    inside true q = ap (λ l. Some (made l)) (one_more (g.deepest parts)) ∙
        sym (ap (λ c. kept_if c (made (suc (g.deepest parts))))
        (le-leb (suc (g.deepest parts)) 256 (let l : max 0 (g.deepest parts) < 256 = ltb-true (max 0 (g.deepest parts)) 256 q in omega arith)))
    inside false q = sym (ap (λ c. kept_if c (made (suc (g.deepest parts))))
        (lt-leb (suc (g.deepest parts)) 256 (let l : 256 ≤ max 0 (g.deepest parts) = ltb-false (max 0 (g.deepest parts)) 256 q in omega arith)))
  by false e = sym (ap (λ c. kept_if c (made (suc (g.deepest parts))))
      (lt-leb (suc (g.deepest parts)) 256 (let l : 256 < g.deepest parts = leb-false (g.deepest parts) 256 e in omega arith)))

mutual
  unfolding g.level m.value_of pa.kind_of kept_all first_all combined

  pub whole-is : (x : g.Tree) → m.value_of values x ≡ whole x
  whole-is (g.leaf x) = refl
  whole-is (g.node form parts) = ap (node_value form) (combined-is parts no_parts)
      ∙ ap (λ kept. record { kept = kept; kind = pa.node_kind form (first_of (first_all None parts) k.Other) (pa.all_steps parts) (pa.all_paths parts) })
      (node_kept form parts)
      ∙ ap (λ first. record { kept = kept_of (g.node form parts); kind = pa.node_kind form first (pa.all_steps parts) (pa.all_paths parts) }) (first_is parts)

  combined-is : (parts : g.Parts) (so_far : Parts) → m.values_of values parts so_far ≡ combined so_far parts
  combined-is g.none so_far = ap (λ b. record { kept = so_far.kept; first = so_far.first; steps = b; paths = so_far.paths }) (sym (and-true so_far.steps)) ∙
      ap (λ b. record { kept = so_far.kept; first = so_far.first; steps = so_far.steps && true; paths = b }) (sym (and-true so_far.paths))
  combined-is (g.more label x parts) so_far = ap (λ v. m.values_of values parts (values.and_then so_far label v)) (whole-is x)
      ∙ combined-is parts (values.and_then so_far label (whole x))
      ∙ ap (λ b. record {
        kept = kept_all (kept_with so_far.kept label (kept_of x)) parts;
        first =
            first_all (Some (first_of so_far.first (pa.kind_of x))) parts;
        steps = b;
        paths = (so_far.paths && (pa.is_path (pa.kind_of x) && pa.is_bar label)) &&
            pa.all_paths parts;
      })
      (and_assoc so_far.steps (pa.is_step (pa.kind_of x)) (pa.all_steps parts))
      ∙ ap (λ b. record {
        kept = kept_all (kept_with so_far.kept label (kept_of x)) parts;
        first =
            first_all (Some (first_of so_far.first (pa.kind_of x))) parts;
        steps = so_far.steps && (pa.is_step (pa.kind_of x) && pa.all_steps parts);
        paths = b;
      })
      (and_assoc so_far.paths (pa.is_path (pa.kind_of x) && pa.is_bar label) (pa.all_paths parts) ∙
      ap (λ c. so_far.paths && c) (and_assoc (pa.is_path (pa.kind_of x)) (pa.is_bar label) (pa.all_paths parts)))
