use Rattle.std.proofs.Common.{sym, ap, ◌∙◌}
use Rattle.xml_tokens.specs.Beginnings.{good}
use Rattle.xml_profile.proofs.cursor.Cursor.take_plain.Goals as goal

pub take-turn-requires-clause-begins : goal.take-turn-requires-clause-begins
take-turn-requires-clause-begins g c = c.requires.begins ∙ ap (λ token. good token c.args.tag.len) (sym c.token-token.ensures)
