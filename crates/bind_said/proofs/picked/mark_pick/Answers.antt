use Rattle.std.proofs.Common.{[], ◌∷◌, ap, sym, ◌∙◌}
use Rattle.std.specs.Prelude.{option_copied}
use Rattle.std.proofs.lemmas.Result.{on_ok_weaker}
use Rattle.bind_said.specs.Judged.{judged_at, judged_in}
use Rattle.bind_said.specs.Marks.{mark_all}
use Rattle.bind_said.proofs.MarkLemmas.{marked-more}
use Rattle.bind_said.proofs.picked.mark_pick.Goals as goal

pub returns-in-Some : goal.returns-in-Some
returns-in-Some g c =
    let d = c.args.input.now.doc.now in
    let n = c.args.pick.now.node in
    on_ok_weaker c.mark_judged.result
    (λ e. marked-more c.args.marks.now.items c.mark.new.marks.items c.mark_judged.new.marks.items (n ∷ [])
    (judged_at d c.args.names c.in-Some.row.now n) c.mark.ensures e
    ∙ ap (λ row. mark_all c.args.marks.now.items (n ∷ judged_in d c.args.names row n)) (sym (ap option_copied c.in-Some.is) ∙ c.row_of.ensures))
    c.mark_judged.ensures
