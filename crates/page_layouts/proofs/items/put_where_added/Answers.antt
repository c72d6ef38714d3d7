use Rattle.std.proofs.Common.{refl, sym, ◌∙◌}
use Rattle.page_layouts.proofs.ShowLemmas.{Shows-where}
use Rattle.page_layouts.proofs.items.put_where_added.Goals as goal

pub returns : goal.returns
returns g c = Shows-where _ _ _ _ _ c.open.new.pen _ _ _ _ (sym c.is_added.ensures ∙ c.if-not-is_added.false) c.open.ensures.prints c.open.ensures.begun
    c.put_added_row.ensures refl
