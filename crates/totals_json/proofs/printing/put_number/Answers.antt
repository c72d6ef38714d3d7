use Rattle.std.proofs.Common.{ap, codes}
use Rattle.json_text.specs.Making.{text_member}
use Rattle.json_text.proofs.MakingLemmas.{Wrote-same}
use Rattle.totals_json.proofs.printing.put_number.Goals as goal

pub returns : goal.returns
returns g c = Wrote-same _ _ _ _ _ _ (ap (text_member (codes "computed")) c.number_text.ensures.text) c.text_member.ensures
