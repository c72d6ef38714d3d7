use Rattle.std.proofs.lemmas.Str.{chars-nil}
use Rattle.xpath_values.proofs.pushing.no_characters.Goals as goal

pub returns : goal.returns
returns c = chars-nil
