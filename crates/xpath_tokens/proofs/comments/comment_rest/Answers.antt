use Rattle.std.proofs.Common.{◌≡◌, ℕ, ◌+◌, ◌-◌, ◌≤◌, true, false, ◌&&◌, eqb, List, [], drop, sym, ap, ◌∙◌, arith, rules}
use Rattle.std.proofs.lemmas.List.{drop_all}
use Rattle.xpath_tokens.specs.Words.{comment_rest}
use Rattle.xpath_tokens.proofs.Walks.{goes_on}
use Rattle.xpath_tokens.proofs.CommentLaws.{rest_behind, rest-begin, rest-none, rest-opens, rest-closes, rest-ends, rest-other}
use Rattle.xpath_tokens.proofs.comments.comment_rest.Invariants.{Known}
use Rattle.xpath_tokens.proofs.comments.comment_rest.Goals as goal
use Rattle.xpath_tokens.proofs.comments.comment_rest.Goals.{then-begins_comment, else-begins_comment+then-ends_comment+else-outer-eq0}
use Rattle.xpath_tokens.proofs.comments.comment_rest.Goals.{else-begins_comment+else-ends_comment}

pub characters-init : goal.characters-init
characters-init c = record { same = rest-begin c.args.text.now; within = omega arith }

pub returns-then-outer-eq0-clause-exact : goal.returns-then-outer-eq0-clause-exact
returns-then-outer-eq0-clause-exact c =
    let begins : (eqb c.characters.before 40 && eqb c.index-text-i.result 58) ≡ false = search rules in
    let ends : (eqb c.characters.before 58 && eqb c.index-text-i.result 41) ≡ true = search rules in
    rest-ends c.characters.i c.characters.outer c.characters.before c.index-text-i.result (drop (c.characters.i + 1) c.args.text.now)
    (drop c.characters.i c.args.text.now) _
    (goes_on c.args.text.now c.characters.i _ (omega arith) c.index-text-i.is) begins ends c.if-outer-eq0.true c.characters.invariant.same

pub returns-clause-exact : goal.returns-clause-exact
returns-clause-exact c =
    let past : drop c.characters.i c.args.text.now ≡ [] = drop_all c.characters.i c.args.text.now (omega arith) in
    sym (rest-none c.characters.i c.characters.outer c.characters.before) ∙ ap (rest_behind c.characters.i c.characters.outer c.characters.before) (sym past) ∙
    c.characters.invariant.same

moved : (text : List ℕ) (i outer before new_outer new_before : ℕ) → new_outer ≡ outer → new_before ≡ before →
    rest_behind (i + 1) outer before (drop (i + 1) text) ≡ comment_rest 0 0 text → outer ≤ i + 1
    → Known text new_outer new_before (i + 1)
moved text i outer before new_outer new_before e f same within = record {
  same = ap (λ n. rest_behind (i + 1) n new_before (drop (i + 1) text)) e ∙ ap (λ n. rest_behind (i + 1) outer n (drop (i + 1) text)) f ∙ same;
  within = omega arith;
}

pub characters-preserved : goal.characters-preserved
characters-preserved c =
    let next = goes_on c.args.text.now c.characters.i c.index-text-i.result (omega arith) c.index-text-i.is in
    elim c.if-begins_comment.branch [
      | then-begins_comment w ↦
          let begins : (eqb c.characters.before 40 && eqb c.index-text-i.result 58) ≡ true = search rules in
          moved c.args.text.now c.characters.i (c.characters.outer + 1) 0 _ _ w.outer-is w.before-is
          (rest-opens c.characters.i c.characters.outer c.characters.before c.index-text-i.result (drop (c.characters.i + 1) c.args.text.now)
          (drop c.characters.i c.args.text.now) _ next begins c.characters.invariant.same) (omega arith)
      | else-begins_comment+then-ends_comment+else-outer-eq0 w ↦
          let begins : (eqb c.characters.before 40 && eqb c.index-text-i.result 58) ≡ false = search rules in
          let ends : (eqb c.characters.before 58 && eqb c.index-text-i.result 41) ≡ true = search rules in
          moved c.args.text.now c.characters.i (c.characters.outer - 1) 0 _ _ w.outer-is w.before-is
          (rest-closes c.characters.i c.characters.outer c.characters.before c.index-text-i.result (drop (c.characters.i + 1) c.args.text.now)
          (drop c.characters.i c.args.text.now) _ next begins ends w.if-outer-eq0.false c.characters.invariant.same) (omega arith)
      | else-begins_comment+else-ends_comment w ↦
          let begins : (eqb c.characters.before 40 && eqb c.index-text-i.result 58) ≡ false = search rules in
          let ends : (eqb c.characters.before 58 && eqb c.index-text-i.result 41) ≡ false = search rules in
          moved c.args.text.now c.characters.i c.characters.outer c.index-text-i.result _ _ w.outer-is w.before-is
          (rest-other c.characters.i c.characters.outer c.characters.before c.index-text-i.result (drop (c.characters.i + 1) c.args.text.now)
          (drop c.characters.i c.args.text.now) _ next begins ends c.characters.invariant.same) (omega arith)
    ]
