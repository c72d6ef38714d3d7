-- A line that was printed was taken, or a front of it.
use Rattle.std.proofs.Common.{ℕ, List, Bool, true, false, inl, inr}
use Rattle.inv_base.specs.Outside.{SinkView}
use Rattle.inv_base.specs.Printing.{Printed}
use Rattle.job_protocol.specs.Outside.{TakesOrFails}

pub takes_printed : (failed : Bool) (text : List ℕ) (a b : SinkView) → Printed failed text a b → TakesOrFails text a b
takes_printed true text a b printed = inr printed
takes_printed false text a b printed = inl printed
