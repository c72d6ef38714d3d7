use Rattle.code_lists.proofs.CodeLemmas.{added_text}
use Rattle.code_lists.proofs.codes.Codes.add.Goals as goal

pub returns : goal.returns
returns c = added_text c.args.code.now c.utf8.code _ _ _ _ c.self.view_is c.in_ok-from_str.ensures.ok c.in_ok-insert.ensures.keys
