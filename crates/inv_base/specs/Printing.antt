-- Printing one piece behind another, of which nothing more is printed behind a fault.
use Rattle.std.specs.Prelude.{ℕ, Bool, true, false, List, ◌++◌}
use Rattle.inv_base.specs.Outside.{SinkView}
use Rattle.inv_base.specs.Writing.{WritesAll, WritesFront}

-- The whole text was printed, or, where printing has failed, a front of it.
abbrev pub Printed : Bool → List ℕ → SinkView → SinkView → Type 0
Printed true text from to = WritesFront text from to
Printed false text from to = WritesAll text from to

-- The piece was printed behind any text that was printed before.
abbrev pub Prints : List ℕ → Bool → Bool → SinkView → SinkView → Type 0
Prints piece failed_before failed_after from to =
    (text : List ℕ) (start : SinkView) → Printed failed_before text start from → Printed failed_after (text ++ piece) start to
