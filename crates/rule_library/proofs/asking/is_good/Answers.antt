use Rattle.inv_base.proofs.TextLemmas.{encode-chars}
use Rattle.rule_library.proofs.asking.is_good.Goals as goal

pub returns-then-href-le-LONGEST-clause-text : goal.returns-then-href-le-LONGEST-clause-text
returns-then-href-le-LONGEST-clause-text c = encode-chars c.args.href.now c.utf8.href

pub returns-else-href-le-LONGEST-clause-text : goal.returns-else-href-le-LONGEST-clause-text
returns-else-href-le-LONGEST-clause-text c = encode-chars c.args.href.now c.utf8.href
