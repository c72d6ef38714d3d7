use Rattle.std.proofs.Common.{ap, sym, ◌∙◌}
use lib.Utf8.{encodes}
use Rattle.xml_write.specs.declared.pen.PenState.TheVariants.{Fresh}
use Rattle.xml_write.specs.Calls.{calls_of}
use Rattle.xml_write.proofs.CallsLemmas.{calls_of-append, calls_of-allowed}
use Rattle.xml_write.proofs.EncodingLemmas.{encodes-appended_by_all}
use Rattle.xml_write.proofs.laws.calls_append_canonical_text.Goals as goal

pub returns-clause-characters : goal.returns-clause-characters
returns-clause-characters c = calls_of-append

pub returns-clause-bytes : goal.returns-clause-bytes
returns-clause-bytes c =
    λ declarations document. sym (encodes-appended_by_all Fresh (calls_of declarations document)) ∙ ap encodes (calls_of-append declarations document)

pub returns-clause-allowed : goal.returns-clause-allowed
returns-clause-allowed c = calls_of-allowed
