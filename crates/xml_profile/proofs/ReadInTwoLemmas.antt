-- Reading in two pieces is reading in one, wherever the bytes are cut.
use Rattle.std.proofs.Common.{◌≡◌, ℕ, ◌≤◌, Bool, false, List, ◌++◌, length}
use Rattle.xml_state.specs.declared.limits.Limits.{Limits}
use Rattle.xml_state.specs.States.{State}
use Rattle.xml_profile.specs.TokenByToken.{read}
use Rattle.xml_tokens.proofs.BeginningLemmas.{beginning-stays}
use Rattle.xml_tokens.proofs.WithinLemmas.{beginning-within}
use Rattle.xml_profile.proofs.ReadCutLemmas.{going_on, read-cut}

pub read-in-two : (e : Bool) (limits : Limits) (a b : List ℕ) (s : State) (place k : ℕ) → k ≤ length a →
    read e limits s place k (a ++ b) ≡ going_on e limits (read false limits s place k a) b
read-in-two = read-cut beginning-stays beginning-within
