-- What files of the system and outputs show as a shelf and a sink, and the bytes that they know of themselves, if any.
use Rattle.std.specs.Prelude.{◌≡◌, ℕ, Bool, List, [], codes, bytes_eq, Option, Some, None, IsSome, Result, Ok, IsErr}
use Rattle.inv_base.specs.declared.outside.Failed.{Failed}
use Rattle.inv_base.specs.Outside.{ShelfView, SinkView}
use Rattle.invoice_cli.specs.declared.adapters.FileShelf.{FileShelf}
use Rattle.invoice_cli.specs.declared.adapters.Input.{Input}
use Rattle.invoice_cli.specs.declared.adapters.Input.TheVariants.{File, Standard}
use Rattle.invoice_cli.specs.declared.adapters.OutputSink.{OutputSink}

-- Files of the system tell no content as a shelf.
abbrev pub shelf_of : {R I F D : Type 0} → FileShelf R I F D → ShelfView
shelf_of shelf = record { held = None; left = None; faults = shelf.faults; opens = shelf.opens }

-- the bytes that a file or standard input has left, where it says so
abbrev pub source_left : {F I : Type 0} → (F → Option (List ℕ)) → (I → Option (List ℕ)) → Input F I → Option (List ℕ)
source_left file standard (File f) = file f
source_left file standard (Standard i) = standard i

-- the same of what is open, and none where nothing is
abbrev pub left_of : {F I : Type 0} → (F → Option (List ℕ)) → (I → Option (List ℕ)) → Option (Input F I) → Option (List ℕ)
left_of file standard None = Some []
left_of file standard (Some input) = source_left file standard input

abbrev pub input_left : {R I F D : Type 0} → (F → Option (List ℕ)) → (I → Option (List ℕ)) → FileShelf R I F D → Option (List ℕ)
input_left file standard shelf = left_of file standard shelf.input

-- Something is open.
abbrev pub IsOpen : {R I F D : Type 0} → FileShelf R I F D → Type 0
IsOpen shelf = IsSome shelf.input

-- The name stands for standard input.
abbrev pub is_standard : List ℕ → Bool
is_standard name = bytes_eq name (codes "-")

-- standard input, until it is opened
abbrev pub unused : {R I F D : Type 0} → FileShelf R I F D → Option I
unused shelf = shelf.unused

-- It is had where it wasn't before.
abbrev pub TakesSource : {F I : Type 0} → Option I → Result (Input F I) Failed → Option I → Type 0
TakesSource (Some i) result after = (result ≡ Ok (Standard i)) × (after ≡ None)
TakesSource None result after = IsErr result

-- Standard input is opened where it wasn't before, and then the bytes of the shelf are its own.
abbrev pub TakesStandard : {I : Type 0} → (I → Option (List ℕ)) → Option I → Result (Unit {0}) Failed → Option (List ℕ) → Option I → Type 0
TakesStandard standard (Some i) result left after = (result ≡ Ok tt) × (left ≡ standard i) × (after ≡ None)
TakesStandard standard None result left after = IsErr result

-- An output tells no content as a sink.
abbrev pub sink_of : {W : Type 0} → OutputSink W → SinkView
sink_of sink = record { told = None; faults = sink.faults }

-- the output behind the sink
abbrev pub output_of : {W : Type 0} → OutputSink W → W
output_of sink = sink.output
