use Rattle.std.proofs.Common.{◌≡◌, None, sym, ap, ◌∙◌}
use Rattle.inv_terms.specs.Listing.{refusal}
use Rattle.inv_terms.proofs.InvoiceLemmas.{invoice-append}
use Rattle.inv_terms.proofs.invoice.Invoice.push.Goals as goal

pub invariant_of-self : goal.invariant_of-self
invariant_of-self c =
    let none : refusal c.self.inside.entries.items c.args.e ≡ None =
    sym (c.why_refused.ensures ∙ ap (λ es. refusal es c.args.e) c.deref.ensures.value) ∙ c.in-None.is in
    rw c.in-Ok.ensures.items (invoice-append _ c.args.e c.self.invariant none c.requires)

pub returns-in-Ok-clause-invoice : goal.returns-in-Ok-clause-invoice
returns-in-Ok-clause-invoice c =
    let none : refusal c.self.inside.entries.items c.args.e ≡ None =
    sym (c.why_refused.ensures ∙ ap (λ es. refusal es c.args.e) c.deref.ensures.value) ∙ c.in-None.is in
    rw c.in-Ok.ensures.items (invoice-append _ c.args.e c.self.invariant none c.requires)
