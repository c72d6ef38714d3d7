use Rattle.std.proofs.Common.{◌≡◌, drop}
use Rattle.bind_meaning.specs.Elements.{is_one_of}
use Rattle.bind_meaning.specs.Said.{sepa}
use Rattle.bind_said.proofs.schemes.is_sepa_among.Given as goal

abbrev pub invariant-texts : goal.invariant-texts
invariant-texts l = is_one_of (drop l.text-index l.texts) sepa ≡ is_one_of l.texts sepa
