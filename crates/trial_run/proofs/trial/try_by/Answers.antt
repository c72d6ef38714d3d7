use Rattle.std.proofs.Common.{length, refl, ap, ◌∙◌}
use Rattle.bind_meaning.specs.declared.tables.Syntax.TheVariants as syntaxes
use Rattle.svrl_report.specs.Plain.{tally_of}
use Rattle.trial_run.specs.Memory.{written, terms_read}
use Rattle.trial_run.specs.Trials.{trial_findings, trial_of}
use Rattle.trial_run.proofs.TrialLemmas.{trial-made}
use Rattle.trial_run.proofs.trial.try_by.Goals as goal

pub returns : goal.returns
returns g c =
    let first = c.in_ok-first.first.invoice in
    let cii = written syntaxes.Cii first in
    trial-made c.args.lines c.count.result c.in_ok-invoice.invoice first (terms_read cii) c.in_ok-ubl.ubl.bytes cii
    c.in_ok-last.last.total c.in_ok-last.last.same_terms (length c.bytes-2.result.now) c.in_ok-last.last.bytes c.in_ok-first.first.tally
    c.in_ok-invoice.ensures c.in_ok-ubl.ensures
    (c.in_ok-first.ensures.invoice ∙ ap terms_read c.bytes.ensures)
    refl refl
    c.in_ok-last.ensures.total c.in_ok-last.ensures.same_terms
    (ap length c.bytes-2.ensures)
    c.in_ok-last.ensures.bytes
    (c.in_ok-first.ensures.tally ∙ ap (λ bytes. tally_of (trial_findings bytes)) c.bytes.ensures)
    ∙ ap (trial_of c.args.lines) c.count.ensures
