use Rattle.std.proofs.Common.{refl, sym, subst, ◌∙◌}
use Rattle.job_protocol.specs.declared.status.Status.TheVariants as statuses
use Rattle.document_jobs.specs.Checks.{IsRefusalBy}
use Rattle.document_jobs.proofs.checks.refuse_rules.Goals as goal

pub returns-then-is_memory : goal.returns-then-is_memory
returns-then-is_memory g c =
    subst (λ b. IsRefusalBy b c.args.name.now c.args.library.now c.args.fault.now statuses.Memory (g.E.Sink.view c.args.err.now) (g.E.Sink.view c.args.err.now))
    (sym c.if-is_memory.true ∙ c.is_memory.ensures) (refl, refl)

pub returns : goal.returns
returns g c =
    subst (λ b. IsRefusalBy b c.args.name.now c.args.library.now c.args.fault.now statuses.RulesRefused (g.E.Sink.view c.args.err.now)
    (g.E.Sink.view c.tell_at_home.new.err))
    (sym c.if-is_memory.false ∙ c.is_memory.ensures) (refl, c.tell_at_home.ensures)
