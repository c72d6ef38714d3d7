use Rattle.std.proofs.Common.{List, ◌+◌, drop, option_map, refl, ap, ◌∙◌}
use Rattle.std.specs.Prelude.{codes, ◌&&◌}
use Rattle.inv_base.specs.Tree.{Name}
use Rattle.xml_events.specs.Events.{name_at}
use Rattle.node_arena.specs.Document.{node_at}
use Rattle.rule_library.specs.Asked.{is_schematron, takes_roots, takes_insides, value_of, given_at}
use Rattle.rule_library.specs.Walk.{parent_name}
use Rattle.rule_library.proofs.AskLemmas.{literal, asks_root, asks_inside, asks_nothing}
use Rattle.rule_library.proofs.asking.request_by.Goals as goal

pub returns-then-is_replaced : goal.returns-then-is_replaced
returns-then-is_replaced c =
    let doc = c.args.doc.now in
    let given = given_at doc.names (drop (c.args.n + 1) doc.nodes) in
    let include = c.is_schematron.ensures ∙ (λ i. is_schematron (literal (codes "include") refl i) (name_at (c.names-names.ensures i) c.args.id)) in
    let roots = c.takes_roots.ensures ∙ (ap (λ (names : List Name). takes_roots (option_map (name_at names) c.parent_name.result)) c.names-names.ensures ∙
    ap takes_roots c.parent_name.ensures.name) in
    asks_root (parent_name doc (node_at doc.nodes c.args.n)) (name_at doc.names c.args.id) given _ _ _ c.if-is_replaced.true (λ i. include i && roots i)
    (c.value_of.ensures ∙ ap (λ local. value_of local given) (literal (codes "href") refl)) c.included.ensures

pub returns-then-is_filled : goal.returns-then-is_filled
returns-then-is_filled c =
    let doc = c.args.doc.now in
    let given = given_at doc.names (drop (c.args.n + 1) doc.nodes) in
    let include = c.is_schematron.ensures ∙ (λ i. is_schematron (literal (codes "include") refl i) (name_at (c.names-names.ensures i) c.args.id)) in
    let roots = c.takes_roots.ensures ∙ (ap (λ (names : List Name). takes_roots (option_map (name_at names) c.parent_name.result)) c.names-names.ensures ∙
    ap takes_roots c.parent_name.ensures.name) in
    let extends = c.is_schematron-2.ensures ∙ (λ i. is_schematron (literal (codes "extends") refl i) (name_at (c.names-names.ensures i) c.args.id)) in
    let insides = c.takes_insides.ensures ∙ (ap (λ (names : List Name). takes_insides (option_map (name_at names) c.parent_name-2.result)) c.names-names.ensures
    ∙ ap takes_insides c.parent_name-2.ensures.name) in
    asks_inside (parent_name doc (node_at doc.nodes c.args.n)) (name_at doc.names c.args.id) given _ _ _ _ _ c.if-is_replaced.false
    (λ i. include i && roots i) c.if-is_filled.true (λ i. extends i && insides i)
    (c.value_of-then-is_filled.ensures ∙ ap (λ local. value_of local given) (literal (codes "rule") refl))
    (c.value_of-then-is_filled-2.ensures ∙ ap (λ local. value_of local given) (literal (codes "href") refl)) c.extended.ensures

pub returns : goal.returns
returns c =
    let doc = c.args.doc.now in
    let given = given_at doc.names (drop (c.args.n + 1) doc.nodes) in
    let include = c.is_schematron.ensures ∙ (λ i. is_schematron (literal (codes "include") refl i) (name_at (c.names-names.ensures i) c.args.id)) in
    let roots = c.takes_roots.ensures ∙ (ap (λ (names : List Name). takes_roots (option_map (name_at names) c.parent_name.result)) c.names-names.ensures ∙
    ap takes_roots c.parent_name.ensures.name) in
    let extends = c.is_schematron-2.ensures ∙ (λ i. is_schematron (literal (codes "extends") refl i) (name_at (c.names-names.ensures i) c.args.id)) in
    let insides = c.takes_insides.ensures ∙ (ap (λ (names : List Name). takes_insides (option_map (name_at names) c.parent_name-2.result)) c.names-names.ensures
    ∙ ap takes_insides c.parent_name-2.ensures.name) in
    asks_nothing (parent_name doc (node_at doc.nodes c.args.n)) (name_at doc.names c.args.id) given _ _ c.if-is_replaced.false
    (λ i. include i && roots i) c.if-is_filled.false (λ i. extends i && insides i)
