use Rattle.std.proofs.Common.{sym, subst}
use Rattle.xml_tokens.specs.Searching.{Fits}
use Rattle.xml_tokens.proofs.SearchingLemmas.{fresh-fits}
use Rattle.xml_tests.proofs.xml_tokens_cases.at_once.Goals as goal

pub what_begins-requires : goal.what_begins-requires
what_begins-requires c = subst (λ s. Fits s c.args.bytes.now) (sym c.new-search.ensures) (fresh-fits c.args.bytes.now)
