use Rattle.std.proofs.Common.{take, refl, ap}
use Rattle.term_table.specs.Contexts.{root_context}
use Rattle.inv_terms.specs.declared.values.Value.TheVariants as values
use Rattle.trial_invoice.specs.Generated.{beginning}
use Rattle.trial_invoice.proofs.PutLemmas.{on-ok, put-none, put-more, put-all}
use Rattle.trial_invoice.proofs.head.put_beginning.Goals as goal

pub returns : goal.returns
returns c =
    let es = c.args.entries.now.items in
    let put1 = put-all es (take 0 beginning) _ _ _ (put-none es) c.in_ok-put_identifier.ensures in
    let put2 = put-more es (take 1 beginning) c.put_identifier.new.entries.items c.put.new.entries.items root_context root_context 2
    (values.Date c.issue_day.result) (values.Date (record { year = 2024; month = 1; day = 1 })) put1 c.in_ok-put.ensures refl
    (ap values.Date c.issue_day.ensures) in
    let put3 = put-all es (take 2 beginning) _ _ _ put2 c.in_ok-put_code.ensures in
    on-ok c.put_code-2.result (λ last. put-all es (take 3 beginning) _ _ _ put3 last) c.put_code-2.ensures
