use Rattle.std.proofs.Common.{length}
use Rattle.invoice_cli.proofs.options.+scan.Given as goal

abbrev pub decreases-scan : goal.decreases-scan
decreases-scan l = length l.words.now
