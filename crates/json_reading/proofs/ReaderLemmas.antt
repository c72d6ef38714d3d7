-- Lemmas for the functions that read.
use Rattle.std.proofs.Common.{◌≡◌, ℕ, List, ◌∷◌, Result, Ok, Err, inl, sym, ◌∙◌, ap}
use Rattle.std.specs.Prelude.{OnOk}
use Rattle.std.specs.declared.alloc.AllocError.{AllocError}
use Rattle.json_reading.specs.declared.fault.JsonFault.{JsonFault}
use Rattle.json_reading.specs.Reading.{State}
use Rattle.json_reading.specs.Standing.{Follows, Becomes}

-- what a call that takes memory leaves, told as a fault
pub told_follows : {X : Type 0} (done : Result X AllocError) (answer : Result X JsonFault) (new wanted : State)
    → OnOk done (new ≡ wanted) → Becomes done answer → Follows answer new (Ok wanted)
told_follows (Ok x) (Ok y) new wanted h b = ap Ok (sym h)
told_follows (Ok x) (Err f) new wanted h b = absurd (b tt)
told_follows (Err e) (Ok y) new wanted h b = absurd (b tt)
told_follows (Err e) (Err f) new wanted h b = inl b
