use Rattle.std.proofs.Common.{◌≡◌, arith, rules, false, get_or}
use Rattle.xml_tokens.specs.References.{is_reference_byte}
use Rattle.xml_tokens.proofs.SpellingLemmas.{body-full, body-stop}
use Rattle.xml_tokens.proofs.references.body_length.Goals as goal
use Rattle.xml_tokens.proofs.references.body_length.Goals.{then-i-eq-GREATEST_REFERENCE-via-then-i-eq-GREATEST_REFERENCE}
use Rattle.xml_tokens.proofs.references.body_length.Goals.{then-i-eq-GREATEST_REFERENCE-via-else-i-eq-GREATEST_REFERENCE+then-not-is_reference_byte}

pub returns-then-i-eq-GREATEST_REFERENCE-clause-exact : goal.returns-then-i-eq-GREATEST_REFERENCE-clause-exact
returns-then-i-eq-GREATEST_REFERENCE-clause-exact c =
    elim c.then-i-eq-GREATEST_REFERENCE.branch [
      | then-i-eq-GREATEST_REFERENCE-via-then-i-eq-GREATEST_REFERENCE w ↦ body-full c.args.bytes.now 12 c.bytes.i (omega arith) c.bytes.invariant
      | then-i-eq-GREATEST_REFERENCE-via-else-i-eq-GREATEST_REFERENCE+then-not-is_reference_byte w ↦
          let e : is_reference_byte (get_or c.args.bytes.now c.bytes.i 0) ≡ false = search rules in
          body-stop c.args.bytes.now 12 c.bytes.i (omega arith) e c.bytes.invariant
    ]
