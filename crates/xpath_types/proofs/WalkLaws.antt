-- The walk leaves what the definitions of kinds, refusals and parts say.
use Rattle.std.proofs.Common.{◌≡◌, ℕ, ◌+◌, Bool, true, false, ◌||◌, ◌&&◌, not, List, [], ◌∷◌, ◌++◌, length, map, refl, sym, ap, ◌∙◌, arith, append_assoc}
use Rattle.std.proofs.Common.{append-nil, length-append, if◌then◌else◌, slice_set, add-zero}
use Rattle.std.proofs.lemmas.List.{map-append}
use Rattle.std.proofs.Math.Seq.{set-append_seam}
use Rattle.xpath_grammar.specs.Grammar as g
use Rattle.xpath_grammar.specs.Grammar.{Tree, Parts}
use Rattle.xpath_grammar.specs.declared.expr.Leaf.{Leaf}
use Rattle.xpath_grammar.specs.declared.expr.Form.{Form}
use Rattle.xpath_grammar.specs.declared.expr.Label.{Label}
use Rattle.xpath_grammar.specs.declared.expr.Label.TheVariants as k
use Rattle.xpath_types.specs.declared.fault.TypeKind.{TypeKind}
use Rattle.xpath_types.specs.declared.facts.Facts.{Facts}
use Rattle.xpath_types.specs.declared.kinds.Kinds.{Kinds}
use Rattle.xpath_types.specs.declared.part.Part.{Part}
use Rattle.xpath_types.specs.declared.refusals.Refusal.{Refusal}
use Rattle.xpath_types.specs.declared.uses.Uses.{Uses}
use Rattle.xpath_types.specs.declared.walk.Walked.{Walked}
use Rattle.xpath_types.specs.Kinds.{no_kinds, all_kinds}
use Rattle.xpath_types.specs.Scopes.{Declared}
use Rattle.xpath_types.specs.Refusals.{first_of}
use Rattle.xpath_types.specs.Judging as j
use Rattle.xpath_types.specs.Judging.{own_refusals, Environment, Judged, Operands, judged, operands, labels, is_empty, standing_at, concluded, inside, behind}
use Rattle.xpath_types.specs.Judging.{focus_inside, focus_behind, variables_behind, is_last, is_sure_error, operand_refusals, form_refusals, form_kinds}
use Rattle.xpath_types.specs.Parts.{placed, placed_inside, facts, uses, uses_of_parts, joined, has_outer_focus, leaf_uses, uses_any, is_document_alone}
use Rattle.xpath_types.specs.Walking.{Seen, environment, facts_of, leaf_facts, part_of, lower, gathered, unknown, leaf_walked, node_begun, seen_begun}
use Rattle.xpath_types.specs.Walking.{part_ended, seen_ended, node_facts, node_ended, kinds_concluded, walked, walked_parts}
use Rattle.xpath_types.proofs.RefusalLemmas.{first-append, not-empty-append, still-empty}
use Rattle.xpath_types.proofs.KindLaws.{gathered_all, kinds-gathered, joined-assoc, joined-none}
use Rattle.xpath_types.proofs.FreeLaws.{lowest, lowest_in_parts, names_of, leaf-lowest, names-behind, free-within, lower-assoc, lower-none}

abbrev Bound : Type 0
Bound = List (List ℕ × Kinds)

-- What the walk leaves of an expression, and of parts of one behind those so far

abbrev pub told_facts : Declared → Kinds → Bound → ℕ → Tree → Facts
told_facts declared focus bound token x = record {
  kinds = (judged (environment declared focus bound) token x).kinds;
  refused = not (is_empty (judged (environment declared focus bound) token x).refusals);
  uses = uses declared x;
  lowest = lowest (names_of bound) x;
}

abbrev pub told : Declared → Kinds → Bound → ℕ → Seen → Tree → Walked × Seen
told declared focus bound token s x = (
  record { facts = told_facts declared focus bound token x; end = token + length (g.written x) },
  record {
    parts = s.parts ++ map facts (placed (environment declared focus bound) token x);
    first = first_of s.first (judged (environment declared focus bound) token x).refusals;
  },
)

abbrev parts_facts : Declared → Form → Kinds → Bound → Bool → Facts → ℕ → Parts → Facts
parts_facts declared form focus bound first so_far at parts = record {
  kinds = gathered_all form first so_far.kinds (operands (environment declared focus bound) form at parts).kinds;
  refused = so_far.refused || not (is_empty (operands (environment declared focus bound) form at parts).refusals);
  uses = joined so_far.uses (uses_of_parts declared form parts);
  lowest = lower so_far.lowest (lowest_in_parts (names_of bound) parts);
}

abbrev parts_told : Declared → Form → Kinds → Bound → Bool → Walked → Seen → Parts → Walked × Seen
parts_told declared form focus bound first so_far s parts = (
  record { facts = parts_facts declared form focus bound first so_far.facts so_far.end parts; end = so_far.end + length (g.parts_written parts) },
  record {
    parts = s.parts ++ map facts (placed_inside (environment declared focus bound) form so_far.end parts);
    first = first_of s.first (operands (environment declared focus bound) form so_far.end parts).refusals;
  },
)

-- Small laws

or-assoc : (a b c : Bool) → ((a || b) || c) ≡ (a || (b || c))
or-assoc true b c = refl
or-assoc false b c = refl

or-false : (a : Bool) → (a || false) ≡ a
or-false true = refl
or-false false = refl

all-refused : (kinds : Kinds) (refusals : List Refusal) → (if not (is_empty refusals) then all_kinds else kinds) ≡ (concluded kinds refusals).kinds
all-refused kinds [] = refl
all-refused kinds (refusal ∷ refusals) = refl

sure-told : (sure : Bool) (token : ℕ) → not (is_empty (j.sure_refusals token sure)) ≡ sure
sure-told true token = refl
sure-told false token = refl

-- The part itself

part-told : (declared : Declared) (focus : Kinds) (bound : Bound) (token : ℕ) (x : Tree)
    → part_of (told_facts declared focus bound token x) focus (length bound) ≡ facts
    (record { environment = environment declared focus bound; token = token; part = x })
part-told declared focus bound token x = ap (λ free. record {
  kinds = (judged (environment declared focus bound) token x).kinds;
  uses_focus = uses_any (uses declared x);
  uses_position = (uses declared x).position;
  depends_on_document_alone = not free && is_document_alone focus (uses declared x);
}) (sym (free-within bound x))

-- Expressions without parts

leaf-told : (declared : Declared) (focus : Kinds) (bound : Bound) (token : ℕ) (x : Leaf) →
    leaf_facts declared bound focus x ≡ told_facts declared focus bound token (g.leaf x)
unfolding judged uses lowest
leaf-told declared focus bound token x =
    let env : Environment = environment declared focus bound in
    (λ i. facts_of (j.leaf_kinds env x) (still-empty token (j.leaf_refusals env x) i) (leaf_uses declared x) (leaf-lowest bound x i))
    ∙ ap (λ kinds. record {
      kinds = kinds;
      refused = not (is_empty (standing_at token (j.leaf_refusals env x)));
      uses = leaf_uses declared x;
      lowest =
          lowest (names_of bound) (g.leaf x);
    })
    (all-refused (j.leaf_kinds env x) (standing_at token (j.leaf_refusals env x)))

leaf-walked : (declared : Declared) (focus : Kinds) (bound : Bound) (token : ℕ) (s : Seen) (x : Leaf) →
    leaf_walked declared focus bound token s x ≡ told declared focus bound token s (g.leaf x)
unfolding judged placed g.written
leaf-walked declared focus bound token s x =
    let e = leaf-told declared focus bound token x in
    (λ i. (
      record { facts = e i; end = token + length (g.leaf_tokens x) },
      record {
        parts = s.parts ++ part_of (e i) focus (length bound) ∷ [];
        first =
            first_of s.first (standing_at token (j.leaf_refusals (environment declared focus bound) x));
      },
    ))
    ∙ ap (λ part. (
      record { facts = told_facts declared focus bound token (g.leaf x); end = token + length (g.leaf_tokens x) },
      record { parts = s.parts ++ part ∷ []; first = first_of s.first (standing_at token (j.leaf_refusals (environment declared focus bound) x)) },
    ))
    (part-told declared focus bound token (g.leaf x))

-- Expressions with parts

operand-labels : (parts : Parts) (env : Environment) (form : Form) (at : ℕ) → map (λ part. part.0) (operands env form at parts).kinds ≡ labels parts
unfolding operands
operand-labels g.none env form at = refl
operand-labels (g.more label x parts) env form at = ap (λ labels. label ∷ labels) (operand-labels parts _ form _)

node-told : (declared : Declared) (focus : Kinds) (bound : Bound) (token : ℕ) (form : Form) (parts : Parts)
    → node_facts declared form (labels parts) (parts_facts declared form focus bound true (node_begun declared token form parts).facts token parts) ≡ told_facts
    declared focus bound token (g.node form parts)
unfolding judged uses lowest
node-told declared focus bound token form parts =
    let env : Environment = environment declared focus bound in
    let inner : Operands = operands env form token parts in
    let refusals : List Refusal = own_refusals declared token form parts ++ inner.refusals in
    let kinds : kinds_concluded declared form (labels parts) (gathered_all form true no_kinds inner.kinds) ≡ form_kinds declared form inner.kinds =
    ap (λ labels. kinds_concluded declared form labels (gathered_all form true no_kinds inner.kinds)) (sym (operand-labels parts env form token)) ∙
    kinds-gathered declared form inner.kinds in
    let refused : (not (is_empty (own_refusals declared token form parts)) || not (is_empty inner.refusals)) ≡ not (is_empty refusals) =
    sym (not-empty-append (own_refusals declared token form parts) inner.refusals) in
    (λ i. facts_of (kinds i) (refused i) (uses declared (g.node form parts)) (lowest (names_of bound) (g.node form parts)))
    ∙ ap (λ kinds. record {
      kinds = kinds;
      refused = not (is_empty refusals);
      uses = uses declared (g.node form parts);
      lowest =
          lowest (names_of bound) (g.node form parts);
    })
    (all-refused (form_kinds declared form inner.kinds) refusals)

-- the part put in its place
put : (front behind : List Part) (part : Part) → slice_set ((front ++ unknown ∷ []) ++ behind) (length front) part ≡ front ++ part ∷ behind
put front behind part = ap (λ parts. slice_set parts (length front) part) (append_assoc front (unknown ∷ []) behind) ∙ set-append_seam front unknown behind part

node-walked : (declared : Declared) (focus : Kinds) (bound : Bound) (token : ℕ) (s : Seen) (form : Form) (parts : Parts)
    → node_ended declared focus (length bound) (length s.parts) form (labels parts)
    (parts_told declared form focus bound true (node_begun declared token form parts) (seen_begun declared token form parts s) parts)
    ≡ told declared focus bound token s (g.node form parts)
unfolding judged placed g.written
node-walked declared focus bound token s form parts =
    let env : Environment = environment declared focus bound in
    let inner : List Part = map facts (placed_inside env form token parts) in
    let e = node-told declared focus bound token form parts in
    let end : (token + length (g.parts_written parts)) + length (g.closing form) ≡ token + length (g.parts_written parts ++ g.closing form) =
    omega (arith, length-append (g.parts_written parts) (g.closing form)) in
    let first : first_of (first_of s.first (own_refusals declared token form parts)) (operands env form token parts).refusals
    ≡ first_of s.first (own_refusals declared token form parts ++ (operands env form token parts).refusals) =
    sym (first-append s.first (own_refusals declared token form parts) (operands env form token parts).refusals) in
    let own : part_of (node_facts declared form (labels parts)
    (parts_facts declared form focus bound true (node_begun declared token form parts).facts token parts)) focus (length bound)
    ≡ facts (record { environment = env; token = token; part = g.node form parts }) =
    ap (λ facts. part_of facts focus (length bound)) e ∙ part-told declared focus bound token (g.node form parts) in
    let all : slice_set ((s.parts ++ unknown ∷ []) ++ inner) (length s.parts)
    (part_of (node_facts declared form (labels parts) (parts_facts declared form focus bound true (node_begun declared token form parts).facts token parts))
    focus (length bound))
    ≡ s.parts ++ facts (record { environment = env; token = token; part = g.node form parts }) ∷ inner =
    ap (λ part. slice_set ((s.parts ++ unknown ∷ []) ++ inner) (length s.parts) part) own ∙
    put s.parts inner (facts (record { environment = env; token = token; part = g.node form parts })) in
    λ i. (record { facts = e i; end = end i }, record { parts = all i; first = first i })

-- Parts

outer_behind : (label : Label) (kinds : Kinds) (bound outer : Bound) → variables_behind label kinds bound ++
    outer ≡ variables_behind label kinds (bound ++ outer)
outer_behind k.First kinds bound outer = refl
outer_behind (k.Link operator) kinds bound outer = refl
outer_behind k.Comma kinds bound outer = refl
outer_behind (k.Binding lead name) kinds bound outer = refl
outer_behind k.Condition kinds bound outer = refl
outer_behind k.Then kinds bound outer = refl
outer_behind (k.Signed operators) kinds bound outer = refl
outer_behind k.Predicate kinds bound outer = refl
outer_behind k.Again kinds bound outer = refl
outer_behind k.Opened kinds bound outer = refl
outer_behind (k.Calling name) kinds bound outer = refl

environment-behind : (declared : Declared) (form : Form) (label : Label) (kinds focus : Kinds) (bound : Bound)
    → environment declared (focus_behind form label kinds focus) (variables_behind label kinds bound) ≡ behind form label kinds
    (environment declared focus bound)
environment-behind declared form label kinds focus bound =
    ap (λ variables. record { focus = focus_behind form label kinds focus; variables = variables; declared = declared })
    (outer_behind label kinds bound (map (λ name. (name, all_kinds)) declared.variables))

uses-more : (outer : Bool) (so_far part others : Uses) → joined (if outer then joined so_far part else so_far) others
    ≡ joined so_far (elim outer as (λ _. Uses) [ true ↦ joined part others | false ↦ others ])
uses-more true so_far part others = joined-assoc so_far part others
uses-more false so_far part others = refl

none-told : (declared : Declared) (form : Form) (focus : Kinds) (bound : Bound) (first : Bool) (so_far : Walked) (s : Seen) →
    (so_far, s) ≡ parts_told declared form focus bound first so_far s g.none
unfolding operands uses_of_parts lowest_in_parts placed_inside g.parts_written
none-told declared form focus bound first so_far s = λ i. (
  record {
    facts = record {
      kinds = so_far.facts.kinds;
      refused = sym (or-false so_far.facts.refused) i;
      uses = sym (joined-none so_far.facts.uses) i;
      lowest = sym (lower-none so_far.facts.lowest) i;
    };
    end = sym (add-zero so_far.end) i;
  },
  record { parts = sym (append-nil s.parts) i; first = s.first },
)

module _ (declared : Declared) (form : Form) (focus : Kinds) (bound : Bound) (first : Bool) (so_far : Walked) (s : Seen) (label : Label) (x : Tree)
    (parts : Parts) where
  abbrev start : ℕ
  start = so_far.end + length (g.label_tokens label)

  abbrev within : Environment
  within = environment declared (focus_inside form label focus) bound

  abbrev part : Judged
  part = judged within start x

  abbrev past : Environment
  past = behind form label part.kinds (environment declared focus bound)

  abbrev ahead : Environment
  ahead = environment declared (focus_behind form label part.kinds focus) (variables_behind label part.kinds bound)

  abbrev after : ℕ
  after = start + length (g.written x)

  abbrev sure : Bool
  sure = is_sure_error form (is_last parts) part.kinds

  -- what is told of the other parts, behind this one
  abbrev rest : Walked × Seen
  rest = parts_told declared form (focus_behind form label part.kinds focus) (variables_behind label part.kinds bound) false
      (part_ended form label first (is_last parts) so_far (told declared (focus_inside form label focus) bound start s x).0)
      (seen_ended form (is_last parts) start part.kinds (told declared (focus_inside form label focus) bound start s x).1) parts

  same : ahead ≡ past
  same = environment-behind declared form label part.kinds focus bound

  refused-more : ((so_far.facts.refused || (not (is_empty part.refusals) || sure)) || not (is_empty (operands ahead form after parts).refusals))
      ≡ (so_far.facts.refused ||
      not (is_empty (part.refusals ++ (operand_refusals form (is_last parts) start part.kinds ++ (operands past form after parts).refusals))))
  refused-more = or-assoc so_far.facts.refused (not (is_empty part.refusals) || sure) (not (is_empty (operands ahead form after parts).refusals))
      ∙ ap (λ b. so_far.facts.refused || b) (or-assoc (not (is_empty part.refusals)) sure (not (is_empty (operands ahead form after parts).refusals))
      ∙ ((λ i. not (is_empty part.refusals) || (sym (sure-told sure start) i || not (is_empty (operands (same i) form after parts).refusals)))
      ∙ (ap (λ b. not (is_empty part.refusals) || b)
      (sym (not-empty-append (operand_refusals form (is_last parts) start part.kinds) (operands past form after parts).refusals))
      ∙ sym (not-empty-append part.refusals (operand_refusals form (is_last parts) start part.kinds ++ (operands past form after parts).refusals)))))

  lowest-more : lower (lower so_far.facts.lowest (lowest (names_of bound) x)) (lowest_in_parts (names_of (variables_behind label part.kinds bound)) parts)
      ≡ lower so_far.facts.lowest (lowest_in_parts (names_of bound) (g.more label x parts))
  unfolding lowest_in_parts
  lowest-more = ap (λ names. lower (lower so_far.facts.lowest (lowest (names_of bound) x)) (lowest_in_parts names parts)) (names-behind label part.kinds bound)
      ∙ lower-assoc so_far.facts.lowest (lowest (names_of bound) x) _

  end-more : after + length (g.parts_written parts) ≡ so_far.end + length (g.parts_written (g.more label x parts))
  unfolding g.parts_written
  end-more = omega (arith, length-append (g.label_tokens label) (g.written x ++ g.parts_written parts), length-append (g.written x) (g.parts_written parts))

  parts-more : (s.parts ++ map facts (placed within start x)) ++ map facts (placed_inside ahead form after parts)
      ≡ s.parts ++ map facts (placed within start x ++ placed_inside past form after parts)
  parts-more = append_assoc s.parts (map facts (placed within start x)) (map facts (placed_inside ahead form after parts))
      ∙ (ap (λ env. s.parts ++ (map facts (placed within start x) ++ map facts (placed_inside env form after parts))) same
      ∙ ap (λ parts. s.parts ++ parts) (sym (map-append facts (placed within start x) (placed_inside past form after parts))))

  first-more : first_of (first_of (first_of s.first part.refusals) (operand_refusals form (is_last parts) start part.kinds))
      (operands ahead form after parts).refusals
      ≡ first_of s.first (part.refusals ++ (operand_refusals form (is_last parts) start part.kinds ++ (operands past form after parts).refusals))
  first-more = ap (λ env. first_of (first_of (first_of s.first part.refusals) (operand_refusals form (is_last parts) start part.kinds))
      (operands env form after parts).refusals) same
      ∙ (sym (first-append (first_of s.first part.refusals) (operand_refusals form (is_last parts) start part.kinds) (operands past form after parts).refusals)
      ∙ sym (first-append s.first part.refusals (operand_refusals form (is_last parts) start part.kinds ++ (operands past form after parts).refusals)))

  more-told : rest ≡ parts_told declared form focus bound first so_far s (g.more label x parts)
  unfolding operands uses_of_parts placed_inside
  more-told = λ i. (
    record {
      facts = record {
        kinds = gathered_all form false (gathered form label first so_far.facts.kinds part.kinds) (operands (same i) form after parts).kinds;
        refused = refused-more i;
        uses = uses-more (has_outer_focus form label) so_far.facts.uses (uses declared x) (uses_of_parts declared form parts) i;
        lowest = lowest-more i;
      };
      end = end-more i;
    },
    record { parts = parts-more i; first = first-more i },
  )

mutual
  unfolding walked walked_parts

  pub walked-told : (declared : Declared) (focus : Kinds) (bound : Bound) (token : ℕ) (s : Seen) (x : Tree) →
      walked declared focus bound token s x ≡ told declared focus bound token s x
  walked-told declared focus bound token s (g.leaf x) = leaf-walked declared focus bound token s x
  walked-told declared focus bound token s (g.node form parts) =
      ap (node_ended declared focus (length bound) (length s.parts) form (labels parts))
      (parts-told declared form focus bound true (node_begun declared token form parts) (seen_begun declared token form parts s) parts)
      ∙ node-walked declared focus bound token s form parts

  parts-told : (declared : Declared) (form : Form) (focus : Kinds) (bound : Bound) (first : Bool) (so_far : Walked) (s : Seen) (parts : Parts)
      → walked_parts declared form focus bound first so_far s parts ≡ parts_told declared form focus bound first so_far s parts
  parts-told declared form focus bound first so_far s g.none = none-told declared form focus bound first so_far s
  parts-told declared form focus bound first so_far s (g.more label x parts) =
      ap (λ (part : Walked × Seen). walked_parts declared form (focus_behind form label part.0.facts.kinds focus)
      (variables_behind label part.0.facts.kinds bound) false
      (part_ended form label first (is_last parts) so_far part.0)
      (seen_ended form (is_last parts) (so_far.end + length (g.label_tokens label)) part.0.facts.kinds part.1) parts)
      (walked-told declared (focus_inside form label focus) bound (so_far.end + length (g.label_tokens label)) s x)
      ∙ (parts-told declared form _ _ false _ _ parts ∙ more-told declared form focus bound first so_far s label x parts)
