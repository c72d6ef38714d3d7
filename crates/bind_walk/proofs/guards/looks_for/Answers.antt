use Rattle.std.proofs.Common.{ap, sym, ◌∙◌, chars}
use Rattle.std.specs.Prelude.{not}
use Rattle.inv_terms.specs.Values.{trimmed}
use Rattle.bind_walk.specs.Found.{looks_for}
use Rattle.bind_walk.proofs.TrimLemmas.{blank-trimmed}
use Rattle.bind_walk.proofs.guards.looks_for.Goals as goal

pub returns-in-Present : goal.returns-in-Present
returns-in-Present c =
    ap not (c.is_blank.ensures ∙ sym (blank-trimmed (chars c.args.string.now)))
    ∙ ap (λ t. looks_for t (trimmed (chars c.args.string.now))) (sym c.in-Present.is)

pub returns-in-Absent : goal.returns-in-Absent
returns-in-Absent c =
    ap not (c.is_blank-in-Absent.ensures ∙ sym (blank-trimmed (chars c.args.string.now)))
    ∙ ap (λ t. looks_for t (trimmed (chars c.args.string.now))) (sym c.in-Absent.is)
