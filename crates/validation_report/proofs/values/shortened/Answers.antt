use Rattle.std.proofs.Common.{◌≡◌, ◌∙◌, ◌++◌, IfOk, List, ℕ, codes, ap, subst, chars, string_bytes}
use Rattle.std.proofs.lemmas.Str.{IsUtf8-string_bytes}
use Rattle.validation_report.proofs.CharacterLemmas.{dotted}
use Rattle.validation_report.proofs.values.shortened.Goals as goal

pub returns : goal.returns
returns c =
    let front = c.in_ok-front.front in
    subst (λ (t : List ℕ). IfOk c.of.result (λ value. value ≡ t))
    (ap chars c.as_str.ensures.value
    ∙ (dotted (string_bytes front) _ (IsUtf8-string_bytes front) c.in_ok-push_str.ensures.bytes ∙ ap (λ t. t ++ codes "..") c.in_ok-front.ensures))
    c.of.ensures
