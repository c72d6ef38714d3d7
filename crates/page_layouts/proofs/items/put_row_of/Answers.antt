use Rattle.std.proofs.Common.{refl, sym, ◌∙◌}
use Rattle.page_layouts.proofs.ShowLemmas.{Shows-where}
use Rattle.page_layouts.proofs.items.put_row_of.Goals as goal

pub returns : goal.returns
returns g c = Shows-where _ _ _ _ _ c.open.new.pen _ _ _ _ (sym c.stands_of.ensures ∙ c.if-not-stands_of.false) c.open.ensures.prints c.open.ensures.begun
    c.put_row_of_text.ensures refl
