use Rattle.std.proofs.Common.{append-nil, sym, ap, ◌∙◌}
use Rattle.invoice_data.specs.Told.{both, one_fault}
use Rattle.invoice_data.proofs.ToldLemmas.{put}
use Rattle.invoice_data.proofs.telling.Telling.put_fault.Goals as goal

pub returns : goal.returns
returns c =
    put (record { founds = c.self.inside.founds.items; faults = c.self.inside.faults.items }) (one_fault c.args.fault) _ _ (sym (append-nil _))
    c.in_ok-push.ensures.items ∙ ap (λ t. both t (one_fault c.args.fault)) c.self.view_is
