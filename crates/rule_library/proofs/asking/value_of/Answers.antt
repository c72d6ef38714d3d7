use Rattle.std.proofs.Common.{List, Some, ◌+◌, drop, sym, ap, ◌∙◌}
use Rattle.std.specs.Str.{chars}
use Rattle.inv_base.specs.Tree.{Name}
use Rattle.xml_events.specs.Events.{name_at}
use Rattle.node_arena.specs.Document.{Placed, node_at}
use Rattle.rule_library.specs.Asked.{Given, given_at, is_plain, value_of}
use Rattle.rule_library.proofs.AskLemmas.{value-found, value-passed}
use Rattle.rule_library.proofs.asking.value_of.Goals as goal

pub returns-then-is_plain : goal.returns-then-is_plain
returns-then-is_plain c =
    let doc = c.args.doc.now in
    let local = chars c.args.local.now in
    let at = c.in-Some.given in
    let value = (node_at doc.nodes at.node).text in
    let given : Given = record { name = name_at doc.names at.name; value = value } in
    let plain = sym (c.is_plain.ensures value ∙ ap (λ (names : List Name). is_plain local (record { name = name_at names at.name; value = value }))
    c.names.ensures) ∙ c.if-is_plain.true in
    ap Some c.text.ensures
    ∙ (sym (value-found local given (given_at doc.names (drop (at.node + 1) doc.nodes)) plain) ∙
    (sym (ap (value_of local) c.in-Some.ensures.is) ∙ c.attributes.invariant.same))

pub attributes-preserved : goal.attributes-preserved
attributes-preserved c =
    let doc = c.args.doc.now in
    let local = chars c.args.local.now in
    let at = c.in-Some.given in
    let value = (node_at doc.nodes at.node).text in
    let given : Given = record { name = name_at doc.names at.name; value = value } in
    let other = sym (c.is_plain.ensures value ∙ ap (λ (names : List Name). is_plain local (record { name = name_at names at.name; value = value }))
    c.names.ensures) ∙ c.if-is_plain.false in
    record {
      within = c.next_of-at-in-Some.ensures.within;
      same = ap (λ (nodes : List Placed). value_of local (given_at doc.names nodes)) c.next_of-at-in-Some.ensures.rest
          ∙ (sym (value-passed local given (given_at doc.names (drop (at.node + 1) doc.nodes)) other) ∙
          (sym (ap (value_of local) c.in-Some.ensures.is) ∙ c.attributes.invariant.same));
    }
