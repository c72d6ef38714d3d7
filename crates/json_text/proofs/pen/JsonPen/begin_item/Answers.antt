use Rattle.std.proofs.Common.{ap}
use Rattle.json_text.specs.declared.state.JsonState.{JsonState}
use Rattle.json_text.proofs.MadeLemmas.{Made-one}
use Rattle.json_text.proofs.pen.JsonPen.begin_item.Goals as goal

pub returns : goal.returns
returns g c = record {
  made = Made-one _ _ _ _ _ c.begin.ensures.prints c.begin.ensures.state;
  depth = ap (λ (state : JsonState). state.depth) c.begin.ensures.state;
}
