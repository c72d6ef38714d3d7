use Rattle.std.proofs.Common.{refl, ap, ◌∙◌}
use Rattle.std.specs.Prelude.{codes}
use Rattle.std.specs.List.{flat_map}
use Rattle.std.proofs.lemmas.Result.{on_ok_weaker}
use Rattle.bind_said.specs.Marks.{mark_all}
use Rattle.bind_said.specs.Saying.{local_number, said_by_scheme_named}
use Rattle.bind_said.proofs.WordLemmas.{literal}
use Rattle.bind_said.proofs.schemes.mark_schemes.Goals as goal

pub returns : goal.returns
returns g c =
    let d = c.args.input.now.doc.now in
    on_ok_weaker c.mark_at_rows.result
    (λ e. e ∙ ap (λ name. mark_all c.args.marks.now.items (flat_map (said_by_scheme_named d name) c.args.rows.now))
    (c.in_ok-number.ensures ∙ ap (local_number d) (literal (codes "schemeID") refl)))
    c.mark_at_rows.ensures
