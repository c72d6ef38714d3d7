use Rattle.std.proofs.Common.{List, ℕ, Option, Bor, chars, option_map, ap, sym, ◌∙◌}
use Rattle.std.proofs.lemmas.Str.{chars-nil}
use Rattle.schematron_texts.specs.Replacing.{with_parameter}
use Rattle.schematron_faults.specs.Staying.{with_blank}
use Rattle.schematron_faults.proofs.SearchLemmas.{on_ok}
use Rattle.schematron_faults.proofs.texts.push_name.Goals as goal

pub returns-in-Some : goal.returns-in-Some
returns-in-Some c = on_ok c.push.result
    (λ h. h ∙ (ap (with_parameter c.args.blanks.now (chars c.in-Some.name.now)) chars-nil
    ∙ sym (ap (λ (o : Option (Bor (List ℕ))). with_blank c.args.blanks.now (option_map (λ (name : Bor (List ℕ)). chars name.now) o)) c.in-Some.is)))
    c.push.ensures.ok
