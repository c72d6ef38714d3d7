use Rattle.std.proofs.Common.{◌∙◌, sym}
use Rattle.xpath_parts.specs.Named.{form}
use Rattle.xpath_parts.proofs.NamedLemmas.{focus_yes, focus_no, other_is}
use Rattle.xpath_parts.proofs.named.is_focus.Goals as goal

pub returns-then-is_other-clause-form : goal.returns-then-is_other-clause-form
returns-then-is_other-clause-form c = c.is_item_alone.ensures.form ∙ sym (focus_yes c.args.part.now.0 (form c.args.part.now.1) (sym c.if-is_other.ensures))

pub returns-then-is_other-clause-part : goal.returns-then-is_other-clause-part
returns-then-is_other-clause-part c = λ h. λ j. (other_is c.args.part.now.0 (sym c.if-is_other.ensures) j, c.is_item_alone.ensures.item h j)

pub returns-else-is_other-clause-form : goal.returns-else-is_other-clause-form
returns-else-is_other-clause-form c = sym (focus_no c.args.part.now.0 (form c.args.part.now.1) (sym c.if-is_other.ensures))
