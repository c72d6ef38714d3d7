use Rattle.std.proofs.Common.{ap, sym, ◌∙◌}
use Rattle.std.specs.Str.{chars}
use Rattle.std.proofs.lemmas.Str.{chars-nil}
use Rattle.xml_state.specs.Namespaces.{uri_of, first_bindings}
use Rattle.xml_state.proofs.ScopeLemmas.{unknown-uri}
use Rattle.xml_state.proofs.scopes.known_uri.Goals as goal

pub returns-in-xml : goal.returns-in-xml
unfolding chars
returns-in-xml c = ap (uri_of first_bindings) (sym c.in-xml.is)

pub returns-in_default : goal.returns-in_default
returns-in_default c = chars-nil ∙ unknown-uri c.args.prefix.now c.in_default.not-xml
