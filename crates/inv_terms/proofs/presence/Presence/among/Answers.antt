use Rattle.std.proofs.Common.{arith}
use Rattle.inv_terms.specs.Presences.{place_of}
use Rattle.inv_terms.proofs.PresenceLemmas.{none-of_all}
use Rattle.inv_terms.proofs.presence.Presence.among.Goals as goal

pub seats-init : goal.seats-init
seats-init g c = λ term. none-of_all 128 (place_of term) (omega arith)
