use Rattle.inv_terms.proofs.PresenceLemmas.{any-of_all}
use Rattle.inv_terms.specs.Presences.{place_of}
use Rattle.inv_terms.proofs.presence.Presence.of_any.Goals as goal

pub returns : goal.returns
returns c = record { any = λ term. any-of_all 128 (place_of term) }
