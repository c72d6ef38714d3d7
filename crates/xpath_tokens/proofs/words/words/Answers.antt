use Rattle.std.proofs.Common.{◌≡◌, ℕ, ◌+◌, ◌<◌, ◌≤◌, List, [], ◌∷◌, ◌++◌, Ok, Err, length, take, drop, map, sym, ap, ◌∙◌, arith, rules, subst}
use Rattle.std.proofs.lemmas.List.{drop_all, length-drop, drop-drop, append-nil, map-append, length-append}
use Rattle.xpath_tokens.specs.Longest.{longest_length}
use Rattle.xpath_tokens.specs.Words.{is_word, separator_length, with_word, words_from}
use Rattle.xpath_tokens.proofs.WordsLaws.{with_words, with_words-push, after-separator, after-word, no-word, no-text}
use Rattle.xpath_tokens.proofs.words.words.Invariants.{Known}
use Rattle.xpath_tokens.proofs.words.words.Goals as goal

separated : (text : List ℕ) (found : List (List ℕ)) (place n : ℕ) → Known text found place → place < length text → 0 < n → n + place ≤ length text →
    n ≡ separator_length (drop place text) → Known text found (place + n)
separated text found place n known h some within e = record {
  within = omega arith;
  fewer = omega (arith, known.fewer);
  same = ap (with_words found) (sym (after-separator place n (drop place text) some (omega (arith, length-drop place text)) (sym e) ∙
      ap (words_from (place + n) 0) (drop-drop n place text))) ∙ known.same;
}

pub places-preserved-then-separator-gt0 : goal.places-preserved-then-separator-gt0
places-preserved-then-separator-gt0 c = separated c.args.text.now
    (map (λ word. word.now) c.places.words.items) c.places.place c.separator_length-separator.result c.places.invariant (omega arith) (omega arith)
    (omega (arith, c.separator_length-separator.ensures.within, c.split_at.ensures.back_len))
    (c.separator_length-separator.ensures.exact ∙ ap separator_length c.split_at.ensures.back)

none_there : (text : List ℕ) (found : List (List ℕ)) (place : ℕ) → Known text found place → place < length text → 0 ≡ separator_length (drop place text) →
    0 ≡ longest_length is_word (drop place text) → words_from 0 0 text ≡ Err place
none_there text found place known h e f = sym known.same ∙
    ap (with_words found) (no-word place (drop place text) (omega (arith, length-drop place text)) (sym e) (sym f))

pub returns-then-length-eq0-clause-exact : goal.returns-then-length-eq0-clause-exact
returns-then-length-eq0-clause-exact c =
    let separator : c.separator_length-separator.result ≡ 0 = omega arith in
    none_there c.args.text.now (map (λ word. word.now) c.places.words.items) c.places.place c.places.invariant (omega arith)
    (sym separator ∙ c.separator_length-separator.ensures.exact ∙ ap separator_length c.split_at.ensures.back)
    (sym c.if-length-eq0.true ∙ c.word_length-length.ensures.exact ∙ ap (longest_length is_word) c.split_at.ensures.back)

worded : (text : List ℕ) (found : List (List ℕ)) (place n : ℕ) → Known text found place → place < length text → 0 < n → n + place ≤ length text →
    0 ≡ separator_length (drop place text) → n ≡ longest_length is_word (drop place text)
    → Known text (found ++ take n (drop place text) ∷ []) (place + n)
worded text found place n known h some within e f = record {
  within = omega arith;
  fewer = omega (arith, known.fewer, length-append found (take n (drop place text) ∷ []));
  same = with_words-push found (take n (drop place text)) _
      ∙ ap (with_words found) (sym (after-word place n (drop place text) some (omega (arith, length-drop place text)) (sym e) (sym f) ∙
      ap (λ rest. with_word (take n (drop place text)) (words_from (place + n) 0 rest)) (drop-drop n place text)))
      ∙ known.same;
}

pub places-preserved : goal.places-preserved
places-preserved c =
    let separator : c.separator_length-separator.result ≡ 0 = omega arith in
    let known = worded c.args.text.now (map (λ word. word.now) c.places.words.items) c.places.place c.word_length-length.result c.places.invariant (omega arith)
    (omega arith)
    (omega (arith, c.word_length-length.ensures.within, c.split_at.ensures.back_len))
    (sym separator ∙ c.separator_length-separator.ensures.exact ∙ ap separator_length c.split_at.ensures.back)
    (c.word_length-length.ensures.exact ∙ ap (longest_length is_word) c.split_at.ensures.back) in
    let items : c.push.new.self.items ≡ c.places.words.items ++ c.split_at-else-separator-gt0.result.0 ∷ [] = search rules in
    let word : c.split_at-else-separator-gt0.result.0.now ≡ take c.word_length-length.result (drop c.places.place c.args.text.now) =
    c.split_at-else-separator-gt0.ensures.front ∙ ap (take c.word_length-length.result) c.split_at.ensures.back in
    let all : map (λ w. w.now) c.push.new.self.items ≡ map (λ w. w.now) c.places.words.items ++
    take c.word_length-length.result (drop c.places.place c.args.text.now) ∷ []
    = ap (map (λ w. w.now)) items ∙ map-append (λ w. w.now) c.places.words.items (c.split_at-else-separator-gt0.result.0 ∷ []) ∙
    ap (λ w. map (λ w. w.now) c.places.words.items ++ w ∷ []) word in
    subst (λ found. Known c.args.text.now found (c.places.place + c.word_length-length.result)) (sym all) known

all_read : (text : List ℕ) (found : List (List ℕ)) (place : ℕ) → Known text found place → length text ≤ place → words_from 0 0 text ≡ Ok found
all_read text found place known h = sym known.same ∙ ap (λ rest. with_words found (words_from place 0 rest)) (drop_all place text h) ∙
    ap (with_words found) (no-text place) ∙ ap Ok (append-nil found)

pub returns-clause-exact : goal.returns-clause-exact
returns-clause-exact c = all_read c.args.text.now (map (λ word. word.now) c.places.words.items) c.places.place c.places.invariant (omega arith)
