use Rattle.page_tables.proofs.Computed.{stand}
use Rattle.page_tables.proofs.laws.each_term_stands_once.Goals as goal

pub returns : goal.returns
returns c = stand
