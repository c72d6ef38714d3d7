use Rattle.std.proofs.Common.{◌≡◌, [], ◌∷◌, ap, sym, ◌∙◌, arith}
use Rattle.inv_base.proofs.PrintingLemmas.{Prints-append, Prints-same}
use Rattle.json_text.specs.Layout.{new_line}
use Rattle.json_text.proofs.LayoutLemmas.{new_line-one_more, encode-new_line}
use Rattle.json_text.proofs.pen.put_new_line.Goals as goal

pub levels-preserved : goal.levels-preserved
levels-preserved g c = Prints-same _ _ _ _ _ _ (sym (new_line-one_more c.levels._level))
    (Prints-append (new_line c.levels._level) (0x20 ∷ 0x20 ∷ []) _ _ _ _ _ _ c.levels.invariant c.put-in-levels.ensures)

pub returns : goal.returns
returns g c =
    let all : c.levels._level ≡ c.args.depth = omega arith in
    Prints-same _ _ _ _ _ _ (ap new_line all ∙ sym (encode-new_line c.args.depth)) c.levels.invariant
