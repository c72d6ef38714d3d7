use Rattle.std.proofs.Common.{◌≡◌, ◌+◌, Some, slice_get, unwrap_or, sym, ap, ◌∙◌, chars, rules}
use Rattle.xpath_types.specs.Kinds.{no_kinds}
use Rattle.xpath_types.specs.Variables.{innermost}
use Rattle.xpath_types.proofs.VariableLemmas.{reading-is, reading_of}
use Rattle.xpath_types.proofs.variables.Variables.reading.Goals as goal

pub returns-in-None : goal.returns-in-None
returns-in-None c = ap (reading_of c.self.inside.kinds.items) c.in-None.ensures.exact
    ∙ (sym (reading-is c.self.inside.kinds.items (chars c.args.name.now) c.self.inside.names) ∙ ap (innermost (chars c.args.name.now)) c.self.view_is)

pub returns-in-Some : goal.returns-in-Some
returns-in-Some c =
    let kinds : c.kinds_at-kinds.result ≡ unwrap_or (slice_get c.self.inside.kinds.items c.in-Some.height) no_kinds = search rules in
    ap (λ kinds. Some (record { height = c.in-Some.height + 1; kinds = kinds })) kinds ∙ (ap (reading_of c.self.inside.kinds.items) c.in-Some.ensures.exact
    ∙ (sym (reading-is c.self.inside.kinds.items (chars c.args.name.now) c.self.inside.names) ∙ ap (innermost (chars c.args.name.now)) c.self.view_is))
