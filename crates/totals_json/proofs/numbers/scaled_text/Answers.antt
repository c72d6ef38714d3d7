use Rattle.std.proofs.Common.{◌≡◌, List, ℕ, take, ◌++◌, length, sym, ap, ◌∙◌, subst, arith}
use Rattle.std.specs.Str.{IsAscii}
use Rattle.std.proofs.lemmas.Grind.{common_steps}
use Rattle.inv_decimal.specs.WrittenNumber.{scaled_text}
use Rattle.totals_json.proofs.numbers.scaled_text.Goals as goal

take-front : (xs ys : List ℕ) (n : ℕ) → n ≡ length xs → take n (xs ++ ys) ≡ xs
take-front xs ys n h = grind (arith, common_steps)

pub ascii_text-requires : goal.ascii_text-requires
ascii_text-requires c =
    let text : take c.print-len.result c.print-len.new.buf ≡ scaled_text c.args.number.now = ap (take c.print-len.result) c.print-len.ensures.text ∙
    take-front _ _ _ c.print-len.ensures.len in
    subst IsAscii (sym text) (c.printed_texts_are_ascii.ensures.scaled _ c.print-len.ensures.in_range)

pub returns : goal.returns
returns c =
    let text : take c.print-len.result c.print-len.new.buf ≡ scaled_text c.args.number.now = ap (take c.print-len.result) c.print-len.ensures.text ∙
    take-front _ _ _ c.print-len.ensures.len in
    c.ascii_text.ensures.characters ∙ text
