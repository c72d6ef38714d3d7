use Rattle.std.proofs.Common.{ap, ◌∙◌}
use Rattle.invoice_data.specs.Told.{both, faulty}
use Rattle.invoice_data.proofs.ToldLemmas.{put}
use Rattle.invoice_data.proofs.telling.Telling.put_faulty.Goals as goal

pub returns : goal.returns
returns c =
    put (record { founds = c.self.inside.founds.items; faults = c.self.inside.faults.items }) (faulty c.args.found c.args.fault) _ _ c.in_ok-push.ensures.items
    c.in_ok-push-2.ensures.items ∙ ap (λ t. both t (faulty c.args.found c.args.fault)) c.self.view_is
