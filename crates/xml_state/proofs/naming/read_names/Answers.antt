use Rattle.std.proofs.Common.{ap, map, sym, ◌∙◌}
use Rattle.xml_tokens.specs.Seen.{seen_attribute, seen_tag}
use Rattle.xml_state.specs.StartTags.{is_duplicated}
use Rattle.xml_state.proofs.NamingLemmas.{duplicate-answered, names-told}
use Rattle.xml_state.proofs.naming.read_names.Goals as goal

pub returns-then-branch : goal.returns-then-branch
returns-then-branch c =
    let declared = c.in_ok-declare.ensures in
    let numbered = c.in_ok-number_tag.ensures in
    duplicate-answered _ _ _ (seen_tag c.args.tag.now) _ _ (ap (map seen_attribute) c.deref.ensures.value) declared.open declared.bound declared.names
    (sym c.if-has_undeclared_prefix.ensures) numbered.names numbered.numbers
    (ap (is_duplicated (seen_tag c.args.tag.now)) (sym c.deref-2.ensures.value) ∙ (sym c.in_ok-is_duplicated.ensures ∙ c.if-branch.true))

pub returns : goal.returns
returns c =
    let declared = c.in_ok-declare.ensures in
    let numbered = c.in_ok-number_tag.ensures in
    names-told _ _ _ (seen_tag c.args.tag.now) _ _ (ap (map seen_attribute) c.deref.ensures.value) declared.open declared.bound declared.names
    (sym c.if-has_undeclared_prefix.ensures) numbered.names numbered.numbers
    (ap (is_duplicated (seen_tag c.args.tag.now)) (sym c.deref-2.ensures.value) ∙ (sym c.in_ok-is_duplicated.ensures ∙ c.if-branch.false))
