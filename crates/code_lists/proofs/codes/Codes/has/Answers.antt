use Rattle.code_lists.proofs.CodeLemmas.{found_text}
use Rattle.code_lists.proofs.codes.Codes.has.Goals as goal

pub returns : goal.returns
returns c = found_text c.args.code.now c.utf8.code _ _ _ c.self.view_is c.contains.ensures
