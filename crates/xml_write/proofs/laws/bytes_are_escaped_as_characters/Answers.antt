use Rattle.std.proofs.Common.{sym}
use Rattle.xml_write.specs.Escapes.{in_text, in_value}
use Rattle.inv_base.proofs.EscapeLemmas.{flat_map-encodes}
use Rattle.xml_write.proofs.EncodingLemmas.{encodes-appended_by, encodes-qualified, encodes-declaring_name, in_text-IsAsciiEscape, in_value-IsAsciiEscape}
use Rattle.xml_write.proofs.laws.bytes_are_escaped_as_characters.Goals as goal

pub returns-clause-calls : goal.returns-clause-calls
returns-clause-calls c = λ state call. sym (encodes-appended_by state call)

pub returns-clause-texts : goal.returns-clause-texts
returns-clause-texts c = flat_map-encodes in_text in_text-IsAsciiEscape

pub returns-clause-values : goal.returns-clause-values
returns-clause-values c = flat_map-encodes in_value in_value-IsAsciiEscape

pub returns-clause-names : goal.returns-clause-names
returns-clause-names c = λ prefix local. sym (encodes-qualified prefix local)

pub returns-clause-declaring_names : goal.returns-clause-declaring_names
returns-clause-declaring_names c = λ prefix. sym (encodes-declaring_name prefix)
