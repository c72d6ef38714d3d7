use Rattle.std.proofs.Common.{List, ◌∙◌, ap, codes}
use Rattle.inv_base.specs.Tree.{Name}
use Rattle.xml_events.specs.Events.{name_at}
use Rattle.node_locations.proofs.PutLemmas.{HasFront-more, HasFront-append, Puts-append, Puts-at_err}
use Rattle.node_locations.proofs.texts.push_name_test.Goals as goal

pub returns-in_err-push_plain : goal.returns-in_err-push_plain
returns-in_err-push_plain c =
    rw c.in-Some.is (Puts-at_err _ _ _ _ c.from_residual.ensures.0 (HasFront-more (codes "*:") _ _ _ c.in_err-push_plain.ensures))

pub returns-in_err-push_text : goal.returns-in_err-push_text
returns-in_err-push_text c =
    let local = c.local.ensures ∙ ap (λ (names : List Name). (name_at names c.in-Some.id).local) c.names.ensures in
    rw c.in-Some.is (rw (← local)
    (Puts-at_err _ _ _ _ c.from_residual-in_err-push_text.ensures.0
    (HasFront-append (codes "*:") _ _ _ _ c.in_ok-push_plain.ensures (HasFront-more _ _ _ _ c.in_err-push_text.ensures))))

pub returns-in_err-push_plain-2 : goal.returns-in_err-push_plain-2
returns-in_err-push_plain-2 c =
    let local = c.local.ensures ∙ ap (λ (names : List Name). (name_at names c.in-Some.id).local) c.names.ensures in
    rw c.in-Some.is (rw (← local)
    (Puts-at_err _ _ _ _ c.from_residual-in_err-push_plain-2.ensures.0
    (HasFront-append (codes "*:") _ _ _ _ c.in_ok-push_plain.ensures
    (HasFront-append _ _ _ _ _ c.in_ok-push_text.ensures
    (HasFront-more (codes "[namespace-uri()='") _ _ _ c.in_err-push_plain-2.ensures)))))

pub returns-in_err-push_doubled : goal.returns-in_err-push_doubled
returns-in_err-push_doubled c =
    let local = c.local.ensures ∙ ap (λ (names : List Name). (name_at names c.in-Some.id).local) c.names.ensures in
    let uri = c.uri.ensures ∙ ap (λ (names : List Name). (name_at names c.in-Some.id).uri) c.names-2.ensures in
    rw c.in-Some.is (rw (← local, ← uri)
    (Puts-at_err _ _ _ _ c.from_residual-in_err-push_doubled.ensures.0
    (HasFront-append (codes "*:") _ _ _ _ c.in_ok-push_plain.ensures
    (HasFront-append _ _ _ _ _ c.in_ok-push_text.ensures
    (HasFront-append (codes "[namespace-uri()='") _ _ _ _ c.in_ok-push_plain-2.ensures
    (HasFront-more _ _ _ _ c.in_err-push_doubled.ensures))))))

pub returns : goal.returns
returns c =
    let local = c.local.ensures ∙ ap (λ (names : List Name). (name_at names c.in-Some.id).local) c.names.ensures in
    let uri = c.uri.ensures ∙ ap (λ (names : List Name). (name_at names c.in-Some.id).uri) c.names-2.ensures in
    rw c.in-Some.is (rw (← local, ← uri)
    (Puts-append _ (codes "*:") _ _ _ _ c.in_ok-push_plain.ensures
    (Puts-append _ _ _ _ _ _ c.in_ok-push_text.ensures
    (Puts-append _ (codes "[namespace-uri()='") _ _ _ _ c.in_ok-push_plain-2.ensures
    (Puts-append _ _ _ _ _ _ c.in_ok-push_doubled.ensures c.push_plain-3.ensures)))))
