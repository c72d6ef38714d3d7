use Rattle.std.proofs.Common.{◌∙◌}
use Rattle.bind_run.proofs.NameLemmas.{is-word}
use Rattle.bind_run.proofs.roots.is_word.Goals as goal

pub returns : goal.returns
returns c = c.eq.ensures ∙ is-word c.args.word.now c.args.text.now c.requires c.utf8.text
