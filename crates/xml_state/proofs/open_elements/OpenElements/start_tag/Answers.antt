use Rattle.std.proofs.Common.{rules, ◌≡◌, ◌+◌, ap, sym, subst, ◌∙◌, length}
use Rattle.xml_tokens.specs.Seen.{seen_tag}
use Rattle.xml_tokens.specs.Faults.{first_cause}
use Rattle.xml_state.specs.Admission.{early_causes}
use Rattle.xml_events.specs.Events.{TakesAll}
use Rattle.xml_state.specs.StartTags.{tag_events}
use Rattle.xml_state.specs.States.{State}
use Rattle.xml_state.specs.Taking.{TakesFront}
use Rattle.xml_state.proofs.OpenElementsLemmas.{nothing_told}
use Rattle.xml_state.proofs.StartLemmas.{early_refused, names_refused, late_refused, late_fault, start_of_memory, start_told, started_state, names-answered}
use Rattle.xml_state.proofs.StartLemmas.{is-prepared, still-open}
use Rattle.xml_state.proofs.open_elements.OpenElements.start_tag.Goals as goal

pub returns-in-Some : goal.returns-in-Some
returns-in-Some g c = early_refused _ _ (seen_tag c.args.tag.now) c.args.place.byte _ _ (sym c.in-Some.ensures)

pub returns-in-Err : goal.returns-in-Err
returns-in-Err g c = nothing_told _ _ _ _ _ _ (λ events taken. taken)

pub returns-in-Some-fault : goal.returns-in-Some-fault
returns-in-Some-fault g c =
    let answered = names-answered c.args.self.now (seen_tag c.args.tag.now) _ _ _ _ (ap (λ (s : State). s.open_elements) c.self.view_is)
    (ap (λ (s : State). s.names) c.self.view_is) c.in-Ok.ensures in
    names_refused _ _ (seen_tag c.args.tag.now) c.args.place.byte _ _
    (sym {b = first_cause (early_causes c.args.limits.now c.args.self.now (seen_tag c.args.tag.now))} c.in_default.ensures) (answered ∙ c.in-Some-fault.is)

pub returns-in-Some-late_kind : goal.returns-in-Some-late_kind
returns-in-Some-late_kind g c =
    let counted : c.self.inside.nodes + c.len.result ≡ c.args.self.now.nodes + length c.read_names.new.numbers.items =
    ap (λ n. n + c.len.result) (ap (λ (s : State). s.nodes) c.self.view_is) ∙ ap (λ n. c.args.self.now.nodes + n) (search rules) in
    let p = is-prepared c.args.self.now (seen_tag c.args.tag.now) _ _ _ _ (ap (λ (s : State). s.open_elements) c.self.view_is)
    (ap (λ (s : State). s.names) c.self.view_is) c.in-Ok.ensures _ c.in_default.ensures c.in_default-fault.is in
    let still = still-open c.args.self.now (seen_tag c.args.tag.now) _ _ _ _ (ap (λ (s : State). s.open_elements) c.self.view_is)
    (ap (λ (s : State). s.names) c.self.view_is) c.in-Ok.ensures in
    late_refused _ _ (seen_tag c.args.tag.now) _ _ _ p _ _ c.args.place.byte _ _ still counted (sym c.in-Some-late_kind.ensures)

pub returns-in-Err-tell_and_open : goal.returns-in-Err-tell_and_open
returns-in-Err-tell_and_open g c =
    let counted : c.self.inside.nodes + c.len.result ≡ c.args.self.now.nodes + length c.read_names.new.numbers.items =
    ap (λ n. n + c.len.result) (ap (λ (s : State). s.nodes) c.self.view_is) ∙ ap (λ n. c.args.self.now.nodes + n) (search rules) in
    let p = is-prepared c.args.self.now (seen_tag c.args.tag.now) _ _ _ _ (ap (λ (s : State). s.open_elements) c.self.view_is)
    (ap (λ (s : State). s.names) c.self.view_is) c.in-Ok.ensures _ c.in_default.ensures c.in_default-fault.is in
    let still = still-open c.args.self.now (seen_tag c.args.tag.now) _ _ _ _ (ap (λ (s : State). s.open_elements) c.self.view_is)
    (ap (λ (s : State). s.names) c.self.view_is) c.in-Ok.ensures in
    start_of_memory _ _ (seen_tag c.args.tag.now) _ _ _ p c.args.place.byte _ _ (late_fault _ _ (seen_tag c.args.tag.now) _ _ _ p _ _ still counted ∙
    sym c.in_default-late_kind.ensures)
    (subst (λ x. TakesFront (tag_events x (seen_tag c.args.tag.now) c.args.place.byte) (g.E.Events.taken c.args.events.now)
    (g.E.Events.taken c.tell_and_open.new.events)) c.deref.ensures.value
    c.in-Err-tell_and_open.ensures.told)

pub returns : goal.returns
returns g c =
    let counted : c.self.inside.nodes + c.len.result ≡ c.args.self.now.nodes + length c.read_names.new.numbers.items =
    ap (λ n. n + c.len.result) (ap (λ (s : State). s.nodes) c.self.view_is) ∙ ap (λ n. c.args.self.now.nodes + n) (search rules) in
    let again : c.self.inside.nodes + c.len-2.result ≡ c.args.self.now.nodes + length c.read_names.new.numbers.items =
    ap (λ n. n + c.len-2.result) (ap (λ (s : State). s.nodes) c.self.view_is) ∙ ap (λ n. c.args.self.now.nodes + n) (search rules) in
    let p = is-prepared c.args.self.now (seen_tag c.args.tag.now) _ _ _ _ (ap (λ (s : State). s.open_elements) c.self.view_is)
    (ap (λ (s : State). s.names) c.self.view_is) c.in-Ok.ensures _ c.in_default.ensures c.in_default-fault.is in
    let still = still-open c.args.self.now (seen_tag c.args.tag.now) _ _ _ _ (ap (λ (s : State). s.open_elements) c.self.view_is)
    (ap (λ (s : State). s.names) c.self.view_is) c.in-Ok.ensures in
    start_told _ _ (seen_tag c.args.tag.now) _ _ _ p _ c.args.place.byte _ _ (late_fault _ _ (seen_tag c.args.tag.now) _ _ _ p _ _ still counted ∙
    sym c.in_default-late_kind.ensures)
    (started_state _ _ (seen_tag c.args.tag.now) _ _ _ p _ _ _ _ still c.in-Ok-tell_and_open.ensures.open c.in-Ok-tell_and_open.ensures.names again)
    (subst (λ x. TakesAll (tag_events x (seen_tag c.args.tag.now) c.args.place.byte) (g.E.Events.taken c.args.events.now)
    (g.E.Events.taken c.tell_and_open.new.events)) c.deref.ensures.value
    c.in-Ok-tell_and_open.ensures.told)
