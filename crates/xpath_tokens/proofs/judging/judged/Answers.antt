use Rattle.std.proofs.Common.{◌≡◌, ℕ, suc, ◌+◌, ◌<◌, List, Bor, Some, None, ◌∷◌, ◌++◌, [], length, drop, map, get_or, sym, ap, ◌∙◌, arith}
use Rattle.std.proofs.Math.Seq.{drop-cons}
use Rattle.std.proofs.lemmas.List.{drop_all}
use Rattle.xpath_tokens.specs.Tokens.{token_of, first_of, judged}
use Rattle.xpath_tokens.proofs.JudgingLaws.{with_tokens, token-step, lacking-step, no-words}
use Rattle.xpath_tokens.proofs.judging.judged.Goals as goal

-- the word at i and those behind it
next_word : (words : List (Bor (List ℕ))) (i : ℕ) (d : Bor (List ℕ)) → i < length words
    → map (λ word. word.now) (drop i words) ≡ (get_or words i d).now ∷ map (λ word. word.now) (drop (i + 1) words)
next_word words i d h = ap (map (λ word. word.now)) (drop-cons words i d h)
    ∙ (let k : suc i ≡ i + 1 = omega arith in ap (λ n. (get_or words i d).now ∷ map (λ word. word.now) (drop n words)) k)

pub returns-in-None : goal.returns-in-None
returns-in-None c =
    let none : None ≡ token_of c.words.place _ (first_of (map (λ word. word.now) (drop (c.words.i + 1) c.args.words.now)))
    = sym c.in-None.is ∙ c.in_ok-token.ensures ∙ ap (token_of c.words.place _) c.next_of.ensures in
    lacking-step c.words.tokens.items c.words.place c.words.i _ (map (λ word. word.now) (drop (c.words.i + 1) c.args.words.now))
    (map (λ word. word.now) (drop c.words.i c.args.words.now)) _
    (next_word c.args.words.now c.words.i _ (omega arith)) none c.words.invariant.same

pub words-preserved : goal.words-preserved
words-preserved c =
    let some : Some c.in-Some.token ≡ token_of c.words.place _ (first_of (map (λ word. word.now) (drop (c.words.i + 1) c.args.words.now)))
    = sym c.in-Some.is ∙ c.in_ok-token.ensures ∙ ap (token_of c.words.place _) c.next_of.ensures in
    let known = token-step c.words.tokens.items c.words.place c.words.i _ (map (λ word. word.now) (drop (c.words.i + 1) c.args.words.now))
    (map (λ word. word.now) (drop c.words.i c.args.words.now)) c.in-Some.token _
    (next_word c.args.words.now c.words.i _ (omega arith)) some c.words.invariant.same in
    record {
      same = ap (λ items. with_tokens items (judged c.place_behind-place.result (c.words.i + 1)
          (map (λ word. word.now) (drop (c.words.i + 1) c.args.words.now)))) c.in_ok-push-in-Some.ensures.items
          ∙ ap (λ place. with_tokens (c.words.tokens.items ++ c.in-Some.token ∷ [])
          (judged place (c.words.i + 1) (map (λ word. word.now) (drop (c.words.i + 1) c.args.words.now)))) c.place_behind-place.ensures
          ∙ known;
    }

pub returns : goal.returns
returns c = no-words c.words.tokens.items c.words.place c.words.i (map (λ word. word.now) (drop c.words.i c.args.words.now)) _
    (ap (map (λ word. word.now)) (drop_all c.words.i c.args.words.now (omega arith))) c.words.invariant.same
