use Rattle.std.proofs.Common.{ℕ, Bool, List, Option, refl, ap, ◌∙◌}
use Rattle.std.specs.Prelude.{codes}
use Rattle.std.specs.List.{flat_map}
use Rattle.std.proofs.lemmas.Result.{on_ok_weaker}
use Rattle.bind_meaning.specs.Currencies.{currency_id}
use Rattle.bind_said.specs.Judged.{said_by_pick_named}
use Rattle.bind_said.specs.Marks.{mark_all}
use Rattle.bind_said.specs.Saying.{local_number}
use Rattle.bind_said.specs.declared.picked.JudgedNames.{JudgedNames}
use Rattle.bind_said.proofs.WordLemmas.{literal}
use Rattle.bind_said.proofs.picked.mark_picked.Goals as goal

pub returns : goal.returns
returns g c =
    let d = c.args.input.now.doc.now in
    let all : Option ℕ → Option ℕ → List Bool = λ currency format. mark_all c.args.marks.now.items
    (flat_map (said_by_pick_named d (record { currency = currency; format = format }) c.args.rows.now) c.args.picks.now) in
    on_ok_weaker c.mark_picks.result
    (λ e. e ∙ (ap (λ x. all x c.in_ok-attribute_number-2.field-0) (c.in_ok-attribute_number.ensures ∙ ap (local_number d) (literal currency_id refl))
    ∙ ap (all (local_number d currency_id)) (c.in_ok-attribute_number-2.ensures ∙ ap (local_number d) (literal (codes "format") refl))))
    c.mark_picks.ensures
