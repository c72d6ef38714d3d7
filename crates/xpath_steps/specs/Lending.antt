-- Values that are lent where they lie.
use Rattle.std.specs.Prelude.{Ok, Err}
use Rattle.xpath_meaning.specs.Values.{Value}
use Rattle.xpath_steps.specs.declared.lending.Lent.{Lent}
use Rattle.xpath_steps.specs.declared.lending.Lent.TheVariants as l

abbrev pub lent_value : Lent → Value
lent_value (l.Items items) = Ok items.now
lent_value (l.Error error) = Err error
