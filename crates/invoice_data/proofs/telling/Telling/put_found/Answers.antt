use Rattle.std.proofs.Common.{append-nil, sym, ap, ◌∙◌}
use Rattle.invoice_data.specs.Told.{both, one_found}
use Rattle.invoice_data.proofs.ToldLemmas.{put}
use Rattle.invoice_data.proofs.telling.Telling.put_found.Goals as goal

pub returns : goal.returns
returns c =
    put (record { founds = c.self.inside.founds.items; faults = c.self.inside.faults.items }) (one_found c.args.found) _ _ c.in_ok-push.ensures.items
    (sym (append-nil _)) ∙ ap (λ t. both t (one_found c.args.found)) c.self.view_is
