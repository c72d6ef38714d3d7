-- What is known of a text by the part that it is read as.
use Rattle.std.proofs.Common.{◌≡◌, ℕ, ◌≤◌, Bool, true, List, ◌++◌, Option, Some, None, refl, sym, ap, subst, ◌∙◌}
use Rattle.std.specs.Prelude.{min}
use Rattle.xsd_pattern.specs.declared.token.Class.{Class}
use Rattle.xsd_pattern.specs.declared.token.Token.{Token}
use Rattle.xsd_pattern.specs.declared.parts.Part.{Part}
use Rattle.xsd_pattern.specs.Classes.{has}
use Rattle.xsd_pattern.specs.Cuts.{Cut}
use Rattle.xsd_pattern.specs.Grammar.{Re, Branch, Piece, Atom, Top, written}
use Rattle.xsd_pattern.specs.Grammar as g
use Rattle.xsd_pattern.specs.Spelling.{Spells, SpelledTokens}
use Rattle.xsd_pattern.specs.Lexing.{tokens_of}
use Rattle.xsd_pattern.specs.Finding.{Parted, InRe, InBranch, InAtom, FindsLine, Finds}
use Rattle.xsd_pattern.specs.Machine as m
use Rattle.xsd_pattern.specs.Matching.{sizes, size, size_of, size_by_tokens, cores, core_by_tokens}
use Rattle.xsd_pattern.specs.Steps.{has_at}
use Rattle.xsd_pattern.specs.States.{placed_from}
use Rattle.xsd_pattern.specs.Parts.{parts, repeated_part, followed, line_part, open_part}
use Rattle.xsd_pattern.specs.Compiling.{part_of, part_by_tokens, part_of_text}
use Rattle.xsd_pattern.proofs.Trees.{trees, tree_of, of_maybe}
use Rattle.xsd_pattern.proofs.Sound.{all-read, spelled}
use Rattle.xsd_pattern.proofs.Folded.{read-folded}
use Rattle.xsd_pattern.proofs.Lexed.{tokens-lexed}
use Rattle.xsd_pattern.proofs.Spelled.{tokens-spelled}
use Rattle.xsd_pattern.proofs.Standing.{Stands, StandsIf, followed_if, either_if, repeated_if, nothing_if, one_if, open_if, Open, map_stands}
use Rattle.xsd_pattern.proofs.Sizes.{top-size}
use Rattle.xsd_pattern.proofs.PlacedLaws.{class_at, read-through, tree_through, has-through, finds-to, finds-back, tokens-back}

-- ---- parts stand for trees

module _ (hasC : Option ℕ → ℕ → Bool) (any : (c : ℕ) → hasC None c ≡ true) where
  mutual
    re_if : (x : Re (Option ℕ)) → StandsIf hasC (m.of_re parts x) (InRe hasC x)
    re_if (g.only b) = branch_if b
    re_if (g.or x b) = either_if hasC (m.of_re parts x) (m.of_branch parts b) (InRe hasC x) (InBranch hasC b) (re_if x) (branch_if b)

    branch_if : (b : Branch (Option ℕ)) → StandsIf hasC (m.of_branch parts b) (InBranch hasC b)
    branch_if g.none = nothing_if hasC
    branch_if (g.then b (g.once a)) = followed_if hasC (m.of_branch parts b) (m.of_atom parts a) (InBranch hasC b) (InAtom hasC a) (branch_if b) (atom_if a)
    branch_if (g.then b (g.many a q)) = followed_if hasC (m.of_branch parts b) (repeated_part q (m.of_atom parts a)) (InBranch hasC b) (Parted q
        (InAtom hasC a))
        (branch_if b) (repeated_if hasC q (m.of_atom parts a) (InAtom hasC a) (atom_if a))

    atom_if : (a : Atom (Option ℕ)) → StandsIf hasC (m.of_atom parts a) (InAtom hasC a)
    atom_if (g.one place) = one_if hasC place
    atom_if (g.group x) = re_if x

  line_if : (s : Bool) (b : Branch (Option ℕ)) (e : Bool) → StandsIf hasC (line_part s (m.of_branch parts b) e) (FindsLine hasC s b e)
  line_if s b e l =
      let st = followed_if hasC (open_part s) (followed (m.of_branch parts b) (open_part e)) (Open hasC s) (Cut (InBranch hasC b) (Open hasC e))
      (open_if hasC any s)
      (followed_if hasC (m.of_branch parts b) (open_part e) (InBranch hasC b) (Open hasC e) (branch_if b) (open_if hasC any e)) l in
      map_stands hasC (line_part s (m.of_branch parts b) e) (Cut (Open hasC s) (Cut (InBranch hasC b) (Open hasC e))) (FindsLine hasC s b e) st
      (λ t h. (h.before, _, h.cut, h.at_begin, (h.found, h.after, refl, h.in_branch, h.at_end)))
      (λ t (before, rest, d, h, (found, after, k, u, v)). record {
        before = before;
        found = found;
        after = after;
        cut = d ∙ ap (λ w. before
            ++ w) k;
        in_branch = u;
        at_begin = h;
        at_end = v;
      })

  top_if : (p : Top (Option ℕ)) → StandsIf hasC (m.of_top parts p) (Finds hasC p)
  top_if (g.line s b e) = line_if s b e
  top_if (g.lines p s b e) = either_if hasC (m.of_top parts p) (line_part s (m.of_branch parts b) e) (Finds hasC p) (FindsLine hasC s b e) (top_if p)
      (line_if s b e)

-- ---- a text

some_eq : {A : Type 0} (a b : A) → Some a ≡ Some b → a ≡ b
some_eq a b e = cc

-- the tree of what a text spells
tree-spelled : (text : List ℕ) (p : Top Class) → Spells text p → tokens_of text ≡ Some (written p)
tree-spelled text p h = tokens-lexed (written p) text h

pub one-reading : (text : List ℕ) (p q : Top Class) → Spells text p → Spells text q → p ≡ q
one-reading text p q h k =
    let e : written p ≡ written q = some_eq (written p) (written q) (sym (tree-spelled text p h) ∙ tree-spelled text q k) in
    some_eq p q (sym (all-read p) ∙ (ap tree_of e ∙ all-read q))

pub size-spelled : (text : List ℕ) (p : Top Class) → Spells text p → size_of text ≡ Some (size p)
size-spelled text p h = ap size_by_tokens (tree-spelled text p h) ∙ (read-folded sizes (written p) ∙ ap (of_maybe (m.of_top sizes)) (all-read p))

pub core-spelled : (text : List ℕ) (p : Top Class) → Spells text p → core_by_tokens (tokens_of text) ≡ Some (m.of_top cores p)
core-spelled text p h = ap core_by_tokens (tree-spelled text p h) ∙ (read-folded cores (written p) ∙ ap (of_maybe (m.of_top cores)) (all-read p))

-- the part that tokens are read as, by their tree
pub record Known (text : List ℕ) (tokens : List (Token Class)) (p : Part) : Type 0 where
  pub pattern : Top Class
  pub spells : Spells text pattern
  pub size_is : p.size ≡ min (size pattern) 2001
  pub stands : p.size ≤ 2000 → Stands (has_at tokens) p (Finds has pattern)

abbrev Trees : List (Token Class) → Option (Top (Option ℕ)) → Type 0
Trees tokens o = tree_of (placed_from 0 tokens) ≡ o

tree-through : (tokens : List (Token Class)) → tree_of tokens ≡ of_maybe (m.of_top (tree_through has (class_at tokens))) (tree_of (placed_from 0 tokens))
tree-through tokens = sym (ap tree_of (tokens-back tokens)) ∙ (read-through trees (class_at tokens) (placed_from 0 tokens)
    ∙ read-folded (tree_through has (class_at tokens)) (placed_from 0 tokens))

pub size-through : (tokens : List (Token Class)) → m.read sizes tokens ≡ of_maybe (m.of_top sizes) (tree_of (placed_from 0 tokens))
size-through tokens = sym (ap (m.read sizes) (tokens-back tokens)) ∙ (read-through sizes (class_at tokens) (placed_from 0 tokens)
    ∙ read-folded sizes (placed_from 0 tokens))

known_at : (text : List ℕ) (tokens : List (Token Class)) (p : Part) (raw : Top (Option ℕ)) → tokens_of text ≡ Some tokens → Trees tokens (Some raw)
    → p ≡ m.of_top parts raw → Known text tokens p
known_at text tokens p raw e t d =
    let pattern = m.of_top (tree_through has (class_at tokens)) raw in
    let tree : tree_of tokens ≡ Some pattern = tree-through tokens ∙ ap (of_maybe (m.of_top (tree_through has (class_at tokens)))) t in
    let spells : Spells text pattern = subst (λ ts. SpelledTokens ts text) (spelled tokens pattern tree) (tokens-spelled text tokens e) in
    let sized : Some (size pattern) ≡ Some (m.of_top sizes raw) = sym (size-spelled text pattern spells) ∙ (ap size_by_tokens e ∙ (size-through tokens
    ∙ ap (of_maybe (m.of_top sizes)) t)) in
    record {
      pattern = pattern;
      spells = spells;
      size_is = ap (λ (q : Part). q.size) d ∙ (top-size raw ∙ ap (λ n. min n 2001) (sym (some_eq (size pattern) (m.of_top sizes raw) sized)));
      stands = λ l. subst (λ (q : Part). Stands (has_at tokens) q (Finds has pattern)) (sym d)
          (map_stands (has_at tokens) (m.of_top parts raw) (Finds (has_at tokens) raw) (Finds has pattern) (top_if (has_at tokens) (λ c. refl) raw (subst (λ
          (q : Part). q.size ≤ 2000) d l))
          (λ u h. subst (λ (g' : Option ℕ → ℕ → Bool). Finds g' raw u) (has-through tokens) (finds-to has (class_at tokens) raw u h))
          (λ u h. finds-back has (class_at tokens) raw u (subst (λ (g' : Option ℕ → ℕ → Bool). Finds g' raw u) (sym (has-through tokens)) h)));
    }

known_by : (text : List ℕ) (tokens : List (Token Class)) (p : Part) (o : Option (Top (Option ℕ))) → tokens_of text ≡ Some tokens → Trees tokens o
    → of_maybe (m.of_top parts) o ≡ Some p → Known text tokens p
known_by text tokens p None e t d = cc
known_by text tokens p (Some raw) e t d = known_at text tokens p raw e t (sym (some_eq (m.of_top parts raw) p d))

pub known : (text : List ℕ) (tokens : List (Token Class)) (p : Part) → tokens_of text ≡ Some tokens → part_of tokens ≡ Some p → Known text tokens p
known text tokens p e d = known_by text tokens p (tree_of (placed_from 0 tokens)) e refl (sym (read-folded parts (placed_from 0 tokens)) ∙ d)

no_part : (tokens : List (Token Class)) (p : Top Class) (o : Option (Top (Option ℕ))) → Trees tokens o → tree_of tokens ≡ Some p → part_of tokens ≡ None → ⊥
no_part tokens p None t e d =
    let wrong : None ≡ Some p = sym (ap (of_maybe (m.of_top (tree_through has (class_at tokens)))) t) ∙ (sym (tree-through tokens) ∙ e) in cc
no_part tokens p (Some raw) t e d =
    let wrong : Some (m.of_top parts raw) ≡ None = sym (ap (of_maybe (m.of_top parts)) t) ∙ (sym (read-folded parts (placed_from 0 tokens)) ∙ d) in cc

-- where a text spells a pattern there is a part
pub part-spelled : (text : List ℕ) (p : Top Class) → Spells text p → part_of_text text ≡ None → ⊥
part-spelled text p h e = no_part (written p) p (tree_of (placed_from 0 (written p))) refl (all-read p) (sym (ap part_by_tokens (tree-spelled text p h)) ∙ e)
