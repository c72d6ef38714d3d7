use Rattle.std.proofs.Common.{refl, sym, ◌∙◌}
use Rattle.page_layouts.proofs.ShowLemmas.{Shows-where}
use Rattle.page_layouts.proofs.items.put_row.Goals as goal

pub returns : goal.returns
returns g c = Shows-where _ _ _ _ _ c.open.new.pen _ _ _ _ (sym c.any_stands.ensures ∙ c.if-not-any_stands.false) c.open.ensures.prints c.open.ensures.begun
    c.put_row_text.ensures refl
