use Rattle.std.proofs.Common.{refl, sym, subst, ◌∙◌}
use Rattle.job_protocol.specs.declared.status.Status.TheVariants as statuses
use Rattle.job_protocol.specs.Libraries.{IsRefusedFile}
use Rattle.job_protocol.proofs.libraries.refuse_file.Goals as goal

pub returns-then-is_unread : goal.returns-then-is_unread
returns-then-is_unread g c =
    subst (λ b. IsRefusedFile b (record { kind = c.args.kind; file = c.args.file.now; place = c.args.place.byte }) statuses.ReadFault
    (g.E.Sink.view c.args.err.now) (g.E.Sink.view c.tell_read_fault.new.err))
    (sym c.if-is_unread.true ∙ c.is_unread.ensures) (refl, c.tell_read_fault.ensures)

pub returns : goal.returns
returns g c =
    subst (λ b. IsRefusedFile b (record { kind = c.args.kind; file = c.args.file.now; place = c.args.place.byte }) statuses.RulesRefused
    (g.E.Sink.view c.args.err.now) (g.E.Sink.view c.tell_load_fault.new.err))
    (sym c.if-is_unread.false ∙ c.is_unread.ensures) (refl, c.tell_load_fault.ensures)
