-- A sink behind which bytes are held back: they count as taken.
use Rattle.std.specs.Prelude.{ℕ, List}
use Rattle.inv_base.specs.Outside.{SinkView, appended}

abbrev pub with_held : SinkView → List ℕ → SinkView
with_held sink held = record { told = appended held sink.told; faults = sink.faults }
