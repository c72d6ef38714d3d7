use Rattle.invoice_cli.proofs.TrialLemmas.{digits_above}
use Rattle.invoice_cli.proofs.words.digits_value.Goals as goal

pub returns-then-value-most : goal.returns-then-value-most
returns-then-value-most c =
    digits_above c.args.most c.digits.value c.digits.digit-index c.from.result c.args.digits.now c.digits-test.true c.digits.invariant.is c.from.ensures
    c.if-value-most.true
