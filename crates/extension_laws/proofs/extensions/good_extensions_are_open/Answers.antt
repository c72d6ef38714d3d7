use Rattle.bind_run.specs.Extensions.{terms_for}
use Rattle.bind_run.proofs.RoomLemmas.{rising, at-most-99}
use Rattle.extension_laws.proofs.extensions.good_extensions_are_open.Goals as goal

pub returns : goal.returns
returns c = λ terms good. record {
  open_each = λ table.
      c.extended_tables_are_open.ensures table (terms_for table terms) (at-most-99 table (terms_for table terms) (rising table terms good.fine))
      (c.good_extensions_join.ensures table terms good.fine (good.formed table));
  formed = good.formed;
}
