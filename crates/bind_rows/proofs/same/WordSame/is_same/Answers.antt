use Rattle.std.proofs.Common.{ap, chars, ◌∙◌}
use Rattle.std.specs.Str.{bytes_eq}
use Rattle.bind_rows.proofs.same.WordSame.is_same.Goals as goal

pub returns : goal.returns
returns c = c.is_same_text.ensures ∙ (ap (λ x. bytes_eq x (chars c.as_str-2.result.now)) c.as_str.ensures ∙ ap (bytes_eq c.args.self.now) c.as_str-2.ensures)
