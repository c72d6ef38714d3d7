use Rattle.std.proofs.Common.{◌≡◌, true, false, map, subst, rules}
use Rattle.std.specs.List.{list_any}
use Rattle.std.proofs.lemmas.Result.{err_from_is_err_and}
use Rattle.xpath_tokens.specs.declared.token.Place.TheVariants as p
use Rattle.xpath_tokens.specs.Tokens.{is_wide, judged}
use Rattle.xpath_tokens.specs.Scanning.{Judges}
use Rattle.xpath_tokens.proofs.AnswerLaws.{wide-answer, judged-answer, cut-answer}
use Rattle.xpath_tokens.proofs.answer.Goals as goal

pub returns-in_err-words : goal.returns-in_err-words
returns-in_err-words c =
    let q = err_from_is_err_and c.from_residual.result c.from_residual.ensures.1 in
    rw (q.1, q.2) (cut-answer c.args.characters.now c.in_err-words.field-0.0 c.in_err-words.ensures.exact)

pub returns-then-has_wide : goal.returns-then-has_wide
returns-then-has_wide c =
    let wide : list_any is_wide (map (λ word. word.now) c.in_ok-words.words.items) ≡ true = search rules in
    wide-answer c.args.characters.now (map (λ word. word.now) c.in_ok-words.words.items) c.in_ok-words.ensures.exact wide

pub returns : goal.returns
returns c =
    let narrow : list_any is_wide (map (λ word. word.now) c.in_ok-words.words.items) ≡ false = search rules in
    judged-answer c.args.characters.now (map (λ word. word.now) c.in_ok-words.words.items) c.judged.result c.in_ok-words.ensures.exact narrow
    (subst (λ items. Judges c.judged.result (judged p.Operand 0 (map (λ word. word.now) items))) c.as_slice-2.ensures.value c.judged.ensures)
