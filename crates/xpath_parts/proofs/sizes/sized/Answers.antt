use Rattle.xpath_parts.proofs.GivesLemmas.{gives-within}
use Rattle.xpath_parts.proofs.SizeLemmas.{sized-within}
use Rattle.xpath_parts.proofs.sizes.sized.Goals as goal

pub returns-in-Items-clause-within : goal.returns-in-Items-clause-within
returns-in-Items-clause-within c = λ count. gives-within count c.told.result _ c.told.ensures (sized-within count c.args.sizing c.in-Items.items.now)
