use Rattle.std.proofs.Common.{◌≡◌, ◌-◌, length, take, rules, ap, sym, ◌∙◌}
use Rattle.std.specs.Prelude.{slice_get}
use Rattle.std.proofs.lemmas.Bool.{false≢true, eqb-true, eq-eqb}
use Rattle.bind_walk.proofs.PassLemmas.{coming_begin, coming_more, near_some, near_here}
use Rattle.bind_walk.proofs.passed.come_out.Goals as goal

pub way-init : goal.way-init
way-init c = coming_begin _ _ _ _ _ c.requires

pub returns-then-eq : goal.returns-then-eq
returns-then-eq c roots near =
    let long : c.len.result ≡ length c.way.reached.spans.items = search rules in
    near_here _ _ roots _ _ _ c.in-Some.last _ (c.way.invariant.all roots near)
    (sym c.in-Some.is ∙ (c.innermost.ensures ∙ ap (λ ws. slice_get ws (length ws - 1)) c.as_slice.ensures.value))
    (eqb-true _ _ (sym c.eq.ensures ∙ c.if-eq.true)) (ap (λ n. record { from = c.in-Some.last.from; to = n }) long)

pub way-preserved : goal.way-preserved
way-preserved c =
    coming_more _ _ c.names_lead_through.ensures _ _ _ _ _ c.in-Some.last _ _ c.way.invariant
    (sym c.in-Some.is ∙ (c.innermost.ensures ∙ ap (λ ws. slice_get ws (length ws - 1)) c.as_slice.ensures.value))
    (λ same. false≢true (sym (sym c.eq.ensures ∙ c.if-eq.false) ∙ eq-eqb _ _ same))
    (c.pop.ensures.rest ∙ ap (λ n. take (n - 1) c.way.reached.way.items) (sym c.as_slice.ensures.len
    ∙ ap length c.as_slice.ensures.value)) c.truncate.ensures.items

pub unreachable-requires : goal.unreachable-requires
unreachable-requires c =
    near_some _ _ _ _ _ c.way.invariant.some
    (sym c.in_default.is ∙ (c.innermost.ensures ∙ ap (λ ws. slice_get ws (length ws - 1)) c.as_slice.ensures.value))
