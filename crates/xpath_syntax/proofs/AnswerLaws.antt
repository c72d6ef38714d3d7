-- The answers of parsing, by the grammar.
use Rattle.std.proofs.Common.{◌≡◌, ℕ, ◌<◌, ◌≤◌, Bool, true, false, nat_lt, List, Option, Some, None, Result, Ok, Err, refl, sym, ap, subst, ◌∙◌, ltb-true}
use Rattle.std.proofs.Common.{ltb-false}
use Rattle.std.proofs.Math.Logic.{◌↔◌}
use Rattle.std.proofs.lemmas.Bool.{lt-ltb, le-ltb}
use Rattle.xpath_tokens.specs.declared.token.Token.{Token}
use Rattle.xpath_tokens.specs.declared.token.SyntaxFault.{SyntaxFault}
use Rattle.xpath_tokens.specs.declared.token.SyntaxFault.TheVariants as f
use Rattle.xpath_tokens.specs.Tokens.{tokens_of}
use Rattle.xpath_grammar.specs.Grammar.{Tree, Spells, Grammatical, level}
use Rattle.xpath_grammar.specs.Machine.{tree_of}
use Rattle.xpath_grammar.specs.Patterns.{IsPattern, is_pattern}
use Rattle.xpath_syntax.specs.Answers.{answer_of, pattern_answer_of, answer_of_tree, answer_of_pattern_tree, within_levels}

abbrev answered : (Option Tree → Result Tree SyntaxFault) → Result (List Token) SyntaxFault → Result Tree SyntaxFault
answered by told = elim told [ Err fault ↦ Err fault | Ok tokens ↦ by (tree_of tokens) ]

-- by the tokens

pub answer_refused : (text : List ℕ) (fault : SyntaxFault) → tokens_of text ≡ Err fault → answer_of text ≡ Err fault
answer_refused text fault e = ap (answered answer_of_tree) e

pub pattern_refused : (text : List ℕ) (fault : SyntaxFault) → tokens_of text ≡ Err fault → pattern_answer_of text ≡ Err fault
pattern_refused text fault e = ap (answered answer_of_pattern_tree) e

-- levels

abbrev chosen : Bool → Tree → Result Tree SyntaxFault
chosen b x = elim b [ true ↦ Err f.TooDeep | false ↦ Ok x ]

within_few : (x : Tree) → level x ≤ 256 → within_levels x ≡ Ok x
within_few x h = ap (λ b. chosen b x) (le-ltb 256 (level x) h)

within_many : (x : Tree) → 256 < level x → within_levels x ≡ Err f.TooDeep
within_many x h = ap (λ b. chosen b x) (lt-ltb 256 (level x) h)

is_few : (x y : Tree) → within_levels x ≡ Ok y → (x ≡ y) × (level x ≤ 256)
is_few x y e = by (nat_lt 256 (level x)) refl e where
  by : (b : Bool) → nat_lt 256 (level x) ≡ b → chosen b x ≡ Ok y → (x ≡ y) × (level x ≤ 256)
  by true t h = cc
  by false t h = (cc, ltb-false 256 (level x) t)

is_many : (x : Tree) → within_levels x ≡ Err f.TooDeep → 256 < level x
is_many x e = by (nat_lt 256 (level x)) refl e where
  by : (b : Bool) → nat_lt 256 (level x) ≡ b → chosen b x ≡ Err f.TooDeep → 256 < level x
  by true t h = ltb-true 256 (level x) t
  by false t h = cc

never_syntax : (x : Tree) → within_levels x ≡ Err f.Syntax → ⊥
never_syntax x e = by (nat_lt 256 (level x)) e where
  by : (b : Bool) → chosen b x ≡ Err f.Syntax → ⊥
  by true h = cc
  by false h = cc

-- expressions

module _ (reads : (tokens : List Token) (x : Tree) → ((tree_of tokens ≡ Some x) ↔ Spells tokens x)) (text : List ℕ) (tokens : List Token)
    (told : tokens_of text ≡ Ok tokens) where
  is : answer_of text ≡ answer_of_tree (tree_of tokens)
  is = ap (answered answer_of_tree) told

  spelled : (x : Tree) → Spells tokens x → answer_of text ≡ within_levels x
  spelled x s = is ∙ ap answer_of_tree ((reads tokens x).1 s)

  pub answer_found : (x : Tree) → ((answer_of text ≡ Ok x) ↔ Spells tokens x × (level x ≤ 256))
  answer_found x = (λ e. by (tree_of tokens) refl (sym is ∙ e), λ s. spelled x s.0 ∙ within_few x s.1) where
    by : (found : Option Tree) → tree_of tokens ≡ found → answer_of_tree found ≡ Ok x → Spells tokens x × (level x ≤ 256)
    by None t h = cc
    by (Some y) t h = let few = is_few y x h in
        ((reads tokens x).0 (t ∙ ap Some few.0), subst (λ z. level z ≤ 256) few.0 few.1)

  pub answer_too_deep : (answer_of text ≡ Err f.TooDeep) ↔ (x : Tree) × Spells tokens x × (256 < level x)
  answer_too_deep = (λ e. by (tree_of tokens) refl (sym is ∙ e), λ s. spelled s.0 s.1 ∙ within_many s.0 s.2) where
    by : (found : Option Tree) → tree_of tokens ≡ found → answer_of_tree found ≡ Err f.TooDeep → (x : Tree) × Spells tokens x × (256 < level x)
    by None t h = cc
    by (Some y) t h = (y, (reads tokens y).0 t, is_many y h)

  pub answer_syntax : (answer_of text ≡ Err f.Syntax) ↔ ((x : Tree) → Spells tokens x → ⊥)
  answer_syntax = (λ e x s. never_syntax x (sym (spelled x s) ∙ e), λ none. is ∙ by (tree_of tokens) refl none) where
    by : (found : Option Tree) → tree_of tokens ≡ found → ((x : Tree) → Spells tokens x → ⊥) → answer_of_tree found ≡ Err f.Syntax
    by None t none = refl
    by (Some y) t none = absurd (none y ((reads tokens y).0 t))

-- patterns

module _ (reads : (tokens : List Token) (x : Tree) → ((tree_of tokens ≡ Some x) ↔ Spells tokens x))
    (patterns : (tokens : List Token) (x : Tree) → (IsPattern tokens x ↔ Spells tokens x × (is_pattern x ≡ true)))
    (text : List ℕ) (tokens : List Token) (told : tokens_of text ≡ Ok tokens) where
  pattern_is : pattern_answer_of text ≡ answer_of_pattern_tree (tree_of tokens)
  pattern_is = ap (answered answer_of_pattern_tree) told

  abbrev chosen_pattern : Bool → Tree → Result Tree SyntaxFault
  chosen_pattern b x = elim b [ true ↦ within_levels x | false ↦ Err f.Syntax ]

  spelled_pattern : (x : Tree) → IsPattern tokens x → pattern_answer_of text ≡ within_levels x
  spelled_pattern x s = let known = (patterns tokens x).0 s in
      pattern_is ∙ (ap answer_of_pattern_tree ((reads tokens x).1 known.0) ∙ ap (λ b. chosen_pattern b x) known.1)

  pub pattern_found : (x : Tree) → ((pattern_answer_of text ≡ Ok x) ↔ IsPattern tokens x × (level x ≤ 256))
  pattern_found x = (λ e. by (tree_of tokens) refl (sym pattern_is ∙ e), λ s. spelled_pattern x s.0 ∙ within_few x s.1) where
    at : (y : Tree) (b : Bool) → is_pattern y ≡ b → tree_of tokens ≡ Some y → chosen_pattern b y ≡ Ok x → IsPattern tokens x × (level x ≤ 256)
    at y true p t h = let few = is_few y x h in
        ((patterns tokens x).1 ((reads tokens x).0 (t ∙ ap Some few.0), sym (ap is_pattern few.0) ∙ p), subst (λ z. level z ≤ 256) few.0 few.1)
    at y false p t h = cc

    by : (found : Option Tree) → tree_of tokens ≡ found → answer_of_pattern_tree found ≡ Ok x → IsPattern tokens x × (level x ≤ 256)
    by None t h = cc
    by (Some y) t h = at y (is_pattern y) refl t h

  pub pattern_too_deep : (pattern_answer_of text ≡ Err f.TooDeep) ↔ (x : Tree) × IsPattern tokens x × (256 < level x)
  pattern_too_deep = (λ e. by (tree_of tokens) refl (sym pattern_is ∙ e), λ s. spelled_pattern s.0 s.1 ∙ within_many s.0 s.2) where
    at : (y : Tree) (b : Bool) → is_pattern y ≡ b → tree_of tokens ≡ Some y → chosen_pattern b y ≡ Err f.TooDeep → (x : Tree) × IsPattern tokens x ×
        (256 < level x)
    at y true p t h = (y, (patterns tokens y).1 ((reads tokens y).0 t, p), is_many y h)
    at y false p t h = cc

    by : (found : Option Tree) → tree_of tokens ≡ found → answer_of_pattern_tree found ≡ Err f.TooDeep → (x : Tree) × IsPattern tokens x × (256 < level x)
    by None t h = cc
    by (Some y) t h = at y (is_pattern y) refl t h

  pub pattern_syntax : (pattern_answer_of text ≡ Err f.Syntax) ↔ ((x : Tree) → IsPattern tokens x → ⊥)
  pattern_syntax = (λ e x s. never_syntax x (sym (spelled_pattern x s) ∙ e), λ none. pattern_is ∙ by (tree_of tokens) refl none) where
    at : (y : Tree) (b : Bool) → is_pattern y ≡ b → tree_of tokens ≡ Some y → ((x : Tree) → IsPattern tokens x → ⊥) → chosen_pattern b y ≡ Err f.Syntax
    at y true p t none = absurd (none y ((patterns tokens y).1 ((reads tokens y).0 t, p)))
    at y false p t none = refl

    by : (found : Option Tree) → tree_of tokens ≡ found → ((x : Tree) → IsPattern tokens x → ⊥) → answer_of_pattern_tree found ≡ Err f.Syntax
    by None t none = refl
    by (Some y) t none = at y (is_pattern y) refl t none

-- each part stands where it may

pub answer_grammatical : (reads : (tokens : List Token) (x : Tree) → ((tree_of tokens ≡ Some x) ↔ Spells tokens x)) (text : List ℕ) (x : Tree) →
    answer_of text ≡ Ok x → Grammatical x
answer_grammatical reads text x e = by (tokens_of text) refl e where
  by : (told : Result (List Token) SyntaxFault) → tokens_of text ≡ told → answered answer_of_tree told ≡ Ok x → Grammatical x
  by (Err fault) t h = cc
  by (Ok tokens) t h = ((answer_found reads text tokens t x).0 (is reads text tokens t ∙ h)).0.grammatical

pub pattern_grammatical : (reads : (tokens : List Token) (x : Tree) → ((tree_of tokens ≡ Some x) ↔ Spells tokens x))
    (patterns : (tokens : List Token) (x : Tree) → (IsPattern tokens x ↔ Spells tokens x × (is_pattern x ≡ true))) (text : List ℕ) (x : Tree) →
    pattern_answer_of text ≡ Ok x → Grammatical x
pattern_grammatical reads patterns text x e = by (tokens_of text) refl e where
  by : (told : Result (List Token) SyntaxFault) → tokens_of text ≡ told → answered answer_of_pattern_tree told ≡ Ok x → Grammatical x
  by (Err fault) t h = cc
  by (Ok tokens) t h = ((patterns tokens x).0 ((pattern_found reads patterns text tokens t x).0 (pattern_is reads patterns text tokens t ∙ h)).0).0.grammatical
