use Rattle.std.specs.Str.{chars}
use Rattle.xml_state.proofs.tags.is_xml_uri.Goals as goal

pub returns : goal.returns
unfolding chars lib.Utf8.encode
returns c = c.is_same_text.ensures
