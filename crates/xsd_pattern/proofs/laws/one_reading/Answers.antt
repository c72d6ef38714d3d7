use Rattle.xsd_pattern.proofs.Readings.{one-reading}
use Rattle.xsd_pattern.proofs.laws.one_reading.Goals as goal

pub returns : goal.returns
returns c = one-reading
