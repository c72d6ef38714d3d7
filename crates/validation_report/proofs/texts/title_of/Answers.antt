use Rattle.std.proofs.Common.{◌∙◌, ap, sym}
use Rattle.std.proofs.lemmas.Result.{IfOk-weaker}
use Rattle.std.proofs.lemmas.Str.{chars-nil}
use Rattle.validation_report.specs.Told.{title}
use Rattle.validation_report.proofs.texts.title_of.Goals as goal

pub returns-in-Nothing : goal.returns-in-Nothing
returns-in-Nothing c =
    IfOk-weaker c.of-in-Nothing.result _ _ (λ text is. is ∙ (chars-nil ∙ ap title (sym c.in-Nothing.is))) c.of-in-Nothing.ensures
