-- What a pen did.
use Rattle.std.specs.Prelude.{◌≡◌, ℕ, ◌+◌, List, [], ◌∷◌, ◌++◌, Option, encode_utf8_all}
use Rattle.inv_base.specs.Outside.{SinkView}
use Rattle.inv_base.specs.Printing.{Prints}
use Rattle.json_text.specs.declared.pen.JsonPen.{JsonPen}
use Rattle.json_text.specs.declared.state.Container.{Container}
use Rattle.json_text.specs.Json.{Json}
use Rattle.json_text.specs.Calls.{Call, call_begin, name_calls, calls_of, appended_by_all, behind_all}

-- The pen made the calls.
pub record Made (calls : List Call) (before after : JsonPen) (from to : SinkView) : Type 0 where
  pub prints : Prints (encode_utf8_all (appended_by_all before.state calls)) before.printer.failed after.printer.failed from to
  pub state : after.state ≡ behind_all before.state calls

-- It wrote the values side by side, and is as deep as before.
pub record Wrote (values : Json) (before after : JsonPen) (from to : SinkView) : Type 0 where
  pub made : Made (calls_of values) before after from to
  pub depth : after.state.depth ≡ before.state.depth

-- It began an array or object, with its name where it is a member, and is inside it.
pub record Began (name : Option (List ℕ)) (kind : Container) (before after : JsonPen) (from to : SinkView) : Type 0 where
  pub made : Made (name_calls name ++ call_begin kind ∷ []) before after from to
  pub depth : after.state.depth ≡ before.state.depth + 1
