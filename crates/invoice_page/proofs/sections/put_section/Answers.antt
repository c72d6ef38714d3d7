use Rattle.page_layouts.proofs.ShowLemmas.{whole_section}
use Rattle.std.proofs.Common.{refl}
use Rattle.invoice_page.proofs.sections.put_section.Goals as goal

pub returns : goal.returns
returns g c = whole_section _ _ _ _ _ _ _ _ _ refl c.put_layout.ensures c.put_end.ensures
