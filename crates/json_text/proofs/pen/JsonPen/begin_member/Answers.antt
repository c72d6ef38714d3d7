use Rattle.std.proofs.Common.{[], ◌∷◌, ◌+◌, ap, ◌∙◌}
use Rattle.std.proofs.lemmas.Str.{chars-IsAscii}
use Rattle.json_text.specs.declared.state.JsonState.{JsonState}
use Rattle.json_text.specs.Calls.{call_name, call_begin}
use Rattle.json_text.proofs.MadeLemmas.{Made-one, Made-append, Made-same}
use Rattle.json_text.proofs.pen.JsonPen.begin_member.Goals as goal

pub returns : goal.returns
returns g c = record {
  made = Made-same _ _ _ _ _ _ (ap (λ name. call_name name ∷ call_begin c.args.kind ∷ []) (chars-IsAscii c.args.name.now c.requires.name))
      (Made-append (_ ∷ []) (_ ∷ []) _ _ _ _ _ _ (Made-one _ _ _ _ _ c.name.ensures.prints c.name.ensures.state)
      (Made-one _ _ _ _ _ c.begin.ensures.prints c.begin.ensures.state));
  depth = ap (λ (state : JsonState). state.depth) c.begin.ensures.state ∙ ap (λ (state : JsonState). state.depth + 1) c.name.ensures.state;
}
