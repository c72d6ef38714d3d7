use Rattle.std.proofs.Common.{◌≡◌, [], fold, map, chars, refl, ap, ◌∙◌}
use Rattle.std.proofs.lemmas.Result.{IfOk-weaker}
use Rattle.code_lists.specs.Codes.{with_code}
use Rattle.code_lists.specs.CodeFiles.{category_codes}
use Rattle.code_lists.proofs.CodeLemmas.{chars_of_ascii}
use Rattle.code_lists.proofs.lists.categories.Goals as goal

known : fold with_code [] (map chars category_codes) ≡ category_codes
known = ap (fold with_code []) (chars_of_ascii category_codes refl)

pub returns : goal.returns
returns c = IfOk-weaker c.of.result _ _ (λ found same. same ∙ known) c.of.ensures
