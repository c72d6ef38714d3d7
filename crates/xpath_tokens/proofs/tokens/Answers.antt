use Rattle.std.proofs.Common.{◌≡◌, true, false, ltb, length, ap, ◌∙◌, subst, arith, rules}
use Rattle.std.specs.Str.{chars}
use Rattle.std.proofs.lemmas.Str.{chars_from_encodes}
use Rattle.xpath_tokens.specs.Tokens.{answer_of_characters, Answers}
use Rattle.xpath_tokens.proofs.AnswerLaws.{long-answer, short-answer}
use Rattle.xpath_tokens.proofs.tokens.Goals as goal

pub returns-then-text-gt-MOST_BYTES : goal.returns-then-text-gt-MOST_BYTES
returns-then-text-gt-MOST_BYTES c = long-answer c.args.text.now (let e : ltb 65536 (length c.args.text.now) ≡ true = search arith in e)

pub returns : goal.returns
returns c =
    let short : ltb 65536 (length c.args.text.now) ≡ false = search arith in
    let characters : c.as_slice.result.now ≡ chars c.args.text.now = search (rules, chars_from_encodes) in
    subst (λ answer. Answers c.answer.result answer) (ap answer_of_characters characters ∙ short-answer c.args.text.now short) c.answer.ensures
