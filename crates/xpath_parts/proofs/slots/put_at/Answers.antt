use Rattle.std.proofs.Common.{Some, option_map}
use Rattle.std.proofs.lemmas.List.{map-set}
use Rattle.xpath_meaning.specs.Values.{value}
use Rattle.xpath_parts.proofs.slots.put_at.Goals as goal

pub returns-then-slot-kept : goal.returns-then-slot-kept
returns-then-slot-kept c = map-set (option_map value) c.args.kept.now c.args.slot (Some c.args.outcome)
