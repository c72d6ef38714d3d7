-- What calls of a writer leave, be it a pen, which writes a document, or a gauge, which measures it: of the writer and of the sink
-- that it is given.
use Rattle.std.specs.Prelude.{◌≡◌, List, Result, MatchResult}
use Rattle.inv_base.specs.Outside.{SinkView}
use Rattle.inv_base.specs.Writing.{WritesAll, WritesFront}
use Rattle.xml_write.specs.declared.pen.PenState.{PenState}
use Rattle.xml_write.specs.declared.gauge.Gauge.{Gauge}
use Rattle.xml_write.specs.Calls.{Call, appended_by_all, behind_all}
use Rattle.xml_write.specs.Sizes.{gauged_by_all}

-- a pen by its state, or a gauge
pub data WriterView : Type 0 where
  writing : PenState → WriterView
  measuring : Gauge → WriterView

-- how far a pen is that was given the same calls
abbrev pub state_of : WriterView → PenState
state_of (writing state) = state
state_of (measuring gauge) = gauge.state

-- the writer behind calls in a row
abbrev pub writer_behind : WriterView → List Call → WriterView
writer_behind (writing state) calls = writing (behind_all state calls)
writer_behind (measuring gauge) calls = measuring (gauged_by_all gauge calls)

-- The sink took what the calls append. A gauge leaves it as it is.
abbrev pub Wrote : WriterView → SinkView → List Call → SinkView → Type 0
Wrote (writing state) before calls after = WritesAll (appended_by_all state calls) before after
Wrote (measuring gauge) before calls after = after ≡ before

-- The sink took a front of it, and then failed. A gauge never fails.
abbrev pub Broke : WriterView → SinkView → List Call → SinkView → Type 0
Broke (writing state) before calls after = WritesFront (appended_by_all state calls) before after
Broke (measuring gauge) before calls after = ⊥

-- The calls, in order, lead from the one writer and sink to the other.
pub record Made (w : WriterView) (before : SinkView) (calls : List Call) (v : WriterView) (after : SinkView) : Type 0 where
  pub writer : v ≡ writer_behind w calls
  pub sink : Wrote w before calls after

-- What answered Ok made the calls, and what failed broke off among them.
abbrev pub Makes : {T E : Type 0} → Result T E → WriterView → SinkView → List Call → WriterView → SinkView → Type 0
Makes result w before calls v after = MatchResult result (λ _. Made w before calls v after) (λ _. Broke w before calls after)
