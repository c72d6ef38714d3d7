use Rattle.std.proofs.Common.{sym, ◌∙◌}
use Rattle.schematron_texts.proofs.MessageLemmas.{message-white, message-plain}
use Rattle.schematron_texts.proofs.messages.push_character.Goals as goal

pub returns-then-is_white_space : goal.returns-then-is_white_space
returns-then-is_white_space c = λ told e. message-white _ _ _ c.args.c (sym c.is_white_space.ensures ∙ c.if-is_white_space.true) told e

pub returns : goal.returns
returns c = λ told e. message-plain _ _ _ _ c.args.c (sym c.is_white_space.ensures ∙ c.if-is_white_space.false) c.in_ok-push_spaced.ensures told e
