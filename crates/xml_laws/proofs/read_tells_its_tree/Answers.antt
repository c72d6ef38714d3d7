use Rattle.xml_laws.proofs.ReadLemmas.{read-as}
use Rattle.xml_laws.proofs.read_tells_its_tree.Goals as goal

pub returns : goal.returns
returns c = read-as
