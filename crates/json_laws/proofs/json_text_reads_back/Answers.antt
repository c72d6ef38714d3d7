use Rattle.json_laws.proofs.ReadingLemmas.{document-reads}
use Rattle.json_laws.proofs.json_text_reads_back.Goals as goal

pub returns : goal.returns
returns c = document-reads
