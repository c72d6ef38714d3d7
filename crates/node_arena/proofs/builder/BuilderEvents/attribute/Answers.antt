use Rattle.std.proofs.Common.{subst}
use Rattle.std.specs.Str.{chars}
use Rattle.xml_events.specs.Events.{has_attribute}
use Rattle.node_arena.specs.Document.{Builds}
use Rattle.node_arena.proofs.BuiltLemmas.{takes-builds}
use Rattle.node_arena.proofs.builder.BuilderEvents.attribute.Goals as goal

pub returns : goal.returns
returns c =
    takes-builds c.attribute_lent.result _ _ _
    (subst (λ value. Builds c.attribute_lent.result (has_attribute c.args.name (chars value)) c.args.self.now c.attribute_lent.new.self) c.in_ok-value.ensures
    c.attribute_lent.ensures)
