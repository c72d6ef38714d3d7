use Rattle.std.proofs.Common.{ap, map, refl}
use Rattle.std.proofs.lemmas.Result.{err_from_is_err_and}
use Rattle.xml_tokens.specs.Seen.{seen_attribute, seen_tag}
use Rattle.xml_state.proofs.TellingLemmas.{tag_started, tag_front, tag_attributes_told, front-still, told-one, told-all}
use Rattle.xml_state.proofs.telling.tell_tag.Goals as goal

pub returns-in_err-tell_attributes : goal.returns-in_err-tell_attributes
returns-in_err-tell_attributes g c =
    let p = err_from_is_err_and c.from_residual-in_err-tell_attributes.result c.from_residual-in_err-tell_attributes.ensures.1 in
    rw p.1 (tag_front _ c.in-Some.others.now (seen_tag c.args.tag.now) _ _ _ _ (ap (map seen_attribute) c.deref.ensures.value)
    (tag_started _ _ c.in-Some.element.now (seen_tag c.args.tag.now) c.args.place.byte _ _ c.in-Some.ensures.cases.0 c.in_ok-start.ensures)
    c.in_err-tell_attributes.ensures)

pub returns-in_err-end : goal.returns-in_err-end
returns-in_err-end g c =
    let p = err_from_is_err_and c.from_residual-in_err-end.result c.from_residual-in_err-end.ensures.1 in
    rw p.1 (front-still _ _ _ _ _ (tag_attributes_told _ c.in-Some.others.now (seen_tag c.args.tag.now) _ _ _ _
    (ap (map seen_attribute) c.deref.ensures.value) c.if-tag.true
    (tag_started _ _ c.in-Some.element.now (seen_tag c.args.tag.now) c.args.place.byte _ _ c.in-Some.ensures.cases.0 c.in_ok-start.ensures)
    c.in_ok-tell_attributes.ensures)
    c.in_err-end.ensures)

pub returns-in_ok-end : goal.returns-in_ok-end
returns-in_ok-end g c =
    told-all _ _ _ (g.E.Events.taken c.end.new.self) refl
    (told-one _ _ _ _ _ (g.E.Events.taken c.end.new.self)
    (tag_attributes_told _ c.in-Some.others.now (seen_tag c.args.tag.now) _ _ _ _ (ap (map seen_attribute) c.deref.ensures.value) c.if-tag.true
    (tag_started _ _ c.in-Some.element.now (seen_tag c.args.tag.now) c.args.place.byte _ _ c.in-Some.ensures.cases.0 c.in_ok-start.ensures)
    c.in_ok-tell_attributes.ensures)
    c.in_ok-end.ensures)
