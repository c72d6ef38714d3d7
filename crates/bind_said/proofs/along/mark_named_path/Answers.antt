use Rattle.std.proofs.Common.{chars, ap, sym, ◌∙◌}
use Rattle.bind_said.specs.Marks.{mark_all}
use Rattle.bind_said.proofs.MarkLemmas.{marked-none}
use Rattle.bind_said.proofs.SayLemmas.{without-names}
use Rattle.bind_said.proofs.along.mark_named_path.Goals as goal

pub returns-then-not-are_named : goal.returns-then-not-are_named
returns-then-not-are_named g c =
    marked-none c.args.marks.now.items
    ∙ ap (mark_all c.args.marks.now.items) (sym (without-names c.args.input.now.doc.now (chars c.args.text.now) c.args.leaf c.args.path.now 0
    (sym c.are_named.ensures ∙ c.if-not-are_named.true)))
