use Rattle.std.proofs.Common.{[], ◌∷◌, ap}
use Rattle.std.proofs.lemmas.Str.{chars-IsAscii}
use Rattle.json_text.specs.Calls.{call_name, call_number}
use Rattle.json_text.proofs.MadeLemmas.{Made-one, Made-append, Made-same}
use Rattle.json_text.proofs.pen.JsonPen.number_member.Goals as goal

pub returns : goal.returns
returns g c = record {
  made = Made-same _ _ _ _ _ _ (ap (λ name. call_name name ∷ call_number c.args.value ∷ []) (chars-IsAscii c.args.name.now c.requires))
      (Made-append (_ ∷ []) (_ ∷ []) _ _ _ _ _ _ (Made-one _ _ _ _ _ c.name.ensures.prints c.name.ensures.state)
      (Made-one _ _ _ _ _ c.number.ensures.prints c.number.ensures.state));
  depth = search;
}
