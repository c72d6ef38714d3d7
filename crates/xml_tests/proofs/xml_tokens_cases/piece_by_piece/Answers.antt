use Rattle.std.proofs.Common.{sym, subst, []}
use Rattle.xml_tokens.specs.Searching.{Fits}
use Rattle.xml_tokens.proofs.SearchingLemmas.{fresh-fits}
use Rattle.xml_tests.proofs.xml_tokens_cases.piece_by_piece.Goals as goal

pub ends-init : goal.ends-init
ends-init c = subst (λ s. Fits s []) (sym c.new-search.ensures) (fresh-fits [])
