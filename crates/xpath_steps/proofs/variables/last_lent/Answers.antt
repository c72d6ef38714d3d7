use Rattle.std.proofs.Common.{◌∙◌, ◌-◌, ap, sym, chars, arith}
use Rattle.std.specs.Str.{bytes_eq}
use Rattle.xpath_steps.proofs.VariableLemmas.{found_last}
use Rattle.xpath_steps.proofs.variables.last_lent.Goals as goal

pub returns-then-is_same_text : goal.returns-then-is_same_text
returns-then-is_same_text c =
    c.lend.ensures
    ∙ found_last (chars c.args.name.now) c.args.variables.now c.variables.left (c.variables.left - 1) c.index-variables-left.result c.variables.invariant.within
    (omega arith) c.index-variables-left.is c.variables.invariant.none
    (ap (bytes_eq (chars c.args.name.now)) (sym c.as_str.ensures) ∙ (sym c.is_same_text.ensures ∙ c.if-is_same_text.true))
