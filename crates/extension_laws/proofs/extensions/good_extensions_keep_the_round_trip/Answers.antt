use Rattle.bind_run.specs.Extensions.{rows_for, AreGood}
use Rattle.extension_laws.proofs.extensions.good_extensions_keep_the_round_trip.Goals as goal

pub returns : goal.returns
returns c = λ bytes terms syntax es lists read formed invoice valid carried.
    let good : AreGood terms = record { fine = c.file_terms_are_extensions.ensures bytes terms read; formed = formed } in
    c.round_trip.ensures.syntax (rows_for terms) syntax es lists (c.good_extensions_are_open.ensures terms good) invoice valid carried
