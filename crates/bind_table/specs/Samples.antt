-- What contracts see of the code's samples.
use Rattle.bind_table.specs.Parting.{Sample, named, unnamed, absent}
use Rattle.bind_table.specs.declared.parting.Sample.{Sample as Lent}
use Rattle.bind_table.specs.declared.parting.Sample.TheVariants as lent

abbrev pub sample_of : Lent → Sample
sample_of (lent.Named text) = named text.now
sample_of lent.Unnamed = unnamed
sample_of lent.Absent = absent
