-- The parts of an expression stand at their places, and have fewer levels than what holds them.
use Rattle.std.proofs.Common.{◌≡◌, ℕ, suc, ◌+◌, ◌≤◌, ◌<◌, List, [], ◌++◌, length, max, All, refl, sym, ap, ◌∙◌, subst, arith, append_assoc, append-nil}
use Rattle.std.proofs.Common.{length-append, le_refl}
use Rattle.std.proofs.lemmas.List.Elements.{All-nil, All-cons, All-append, All-weaker}
use Rattle.xpath_tokens.specs.declared.token.Token.{Token}
use Rattle.xpath_grammar.specs.Grammar as g
use Rattle.xpath_grammar.specs.Grammar.{Leaf, Form, Label, Tree, Parts}
use Rattle.xpath_grammar.specs.Places.{parts_from, inner_parts, StandsAt}

regroup : (f l w p b : List Token) → f ++ ((l ++ (w ++ p)) ++ b) ≡ (f ++ l) ++ (w ++ (p ++ b))
regroup f l w p b = simp append_assoc refl

regroup_more : (f l w p b : List Token) → f ++ ((l ++ (w ++ p)) ++ b) ≡ ((f ++ l) ++ w) ++ (p ++ b)
regroup_more f l w p b = simp append_assoc refl

AllStand : List Token → List (ℕ × Tree) → Type 0
AllStand tokens parts = All (StandsAt tokens) parts

mutual
  unfolding g.written parts_from AllStand

  stand : (x : Tree) (front behind : List Token) (at : ℕ) → length front ≡ at → AllStand (front ++ (g.written x ++ behind)) (parts_from at x)
  stand (g.leaf x) front behind at e = All-cons (StandsAt _) (at, g.leaf x) [] (record { before = front; behind = behind; text = refl; place = e })
      (All-nil (StandsAt _))
  stand (g.node form parts) front behind at e = All-cons (StandsAt _) (at, g.node form parts) (inner_parts at parts)
      (record { before = front; behind = behind; text = refl; place = e })
      (subst (λ l. AllStand (front ++ l) (inner_parts at parts)) (sym (append_assoc (g.parts_written parts) (g.closing form) behind))
      (stand_inner parts front (g.closing form ++ behind) at e))

  stand_inner : (parts : Parts) (front behind : List Token) (at : ℕ) → length front ≡ at →
      AllStand (front ++ (g.parts_written parts ++ behind)) (inner_parts at parts)
  stand_inner g.none front behind at e = All-nil (StandsAt _)
  stand_inner (g.more label x parts) front behind at e = All-append (StandsAt _) (parts_from (at + length (g.label_tokens label)) x)
      (inner_parts (at + length (g.label_tokens label) + length (g.written x)) parts)
      (subst (λ l. AllStand l (parts_from (at + length (g.label_tokens label)) x))
      (sym (regroup front (g.label_tokens label) (g.written x) (g.parts_written parts) behind))
      (stand x (front ++ g.label_tokens label) (g.parts_written parts ++ behind) (at + length (g.label_tokens label))
      (length-append front (g.label_tokens label) ∙ ap (λ n. n + length (g.label_tokens label)) e)))
      (subst (λ l. AllStand l (inner_parts (at + length (g.label_tokens label) + length (g.written x)) parts))
      (sym (regroup_more front (g.label_tokens label) (g.written x) (g.parts_written parts) behind))
      (stand_inner parts ((front ++ g.label_tokens label) ++ g.written x) behind (at + length (g.label_tokens label) + length (g.written x))
      (length-append (front ++ g.label_tokens label) (g.written x) ∙
      ap (λ n. n + length (g.written x)) (length-append front (g.label_tokens label) ∙ ap (λ n. n + length (g.label_tokens label)) e))))

pub parts_stand : (x : Tree) → All (StandsAt (g.written x)) (parts_from 0 x)
unfolding AllStand
parts_stand x = subst (λ l. AllStand l (parts_from 0 x)) (append-nil (g.written x)) (stand x [] [] 0 refl)

-- levels

abbrev Within : ℕ → ℕ × Tree → Type 0
Within most part = g.level part.1 ≤ most

mutual
  unfolding g.level parts_from

  within : (x : Tree) (at : ℕ) → All (Within (g.level x)) (parts_from at x)
  within (g.leaf x) at = All-cons (Within 1) (at, g.leaf x) [] (le_refl 1) (All-nil (Within 1))
  within (g.node form parts) at = All-cons (Within (suc (g.deepest parts))) (at, g.node form parts) (inner_parts at parts) (le_refl (suc (g.deepest parts)))
      (All-weaker (Within (g.deepest parts)) (Within (suc (g.deepest parts))) (λ part h. omega arith) (inner_parts at parts) (within_inner parts at))

  pub within_inner : (parts : Parts) (at : ℕ) → All (Within (g.deepest parts)) (inner_parts at parts)
  within_inner g.none at = All-nil (Within 0)
  within_inner (g.more label x parts) at = All-append (Within (max (g.level x) (g.deepest parts))) (parts_from (at + length (g.label_tokens label)) x)
      (inner_parts (at + length (g.label_tokens label) + length (g.written x)) parts)
      (All-weaker (Within (g.level x)) (Within (max (g.level x) (g.deepest parts))) (λ part h. omega arith) (parts_from (at + length (g.label_tokens label)) x)
      (within x (at + length (g.label_tokens label))))
      (All-weaker (Within (g.deepest parts)) (Within (max (g.level x) (g.deepest parts))) (λ part h. omega arith)
      (inner_parts (at + length (g.label_tokens label) + length (g.written x)) parts)
      (within_inner parts (at + length (g.label_tokens label) + length (g.written x))))

pub parts_below : (form : Form) (parts : Parts) → All (λ part. g.level part.1 < g.level (g.node form parts)) (inner_parts 0 parts)
unfolding g.level
parts_below form parts = All-weaker (Within (g.deepest parts)) (λ part. g.level part.1 < suc (g.deepest parts)) (λ part h. omega arith) (inner_parts 0 parts)
    (within_inner parts 0)
