-- A trial's numbers are those of the definition.
use Rattle.std.proofs.Common.{◌≡◌, ℕ, Bool, List, length, Option, ap, ◌∙◌}
use Rattle.inv_terms.specs.declared.entries.Entry.{Entry}
use Rattle.bind_meaning.specs.declared.tables.Syntax.TheVariants as syntaxes
use Rattle.svrl_report.specs.declared.tally.Tally.{Tally}
use Rattle.svrl_report.specs.Plain.{tally_of}
use Rattle.trial_invoice.specs.Generated.{trial_entries}
use Rattle.trial_run.specs.declared.trial.Trial.{Trial}
use Rattle.trial_run.specs.Memory.{written, terms_read}
use Rattle.trial_run.specs.Trials.{ubl_text, terms_of_ubl, cii_text, terms_of_cii, total_in, same_terms, trial_findings, trial_of}

pub trial-made : (lines steps : ℕ) (es first last : List Entry) (ubl cii : List ℕ) (total : Option (List ℕ)) (same : Bool) (ubl_bytes cii_bytes : ℕ)
    (tally : Tally)
    → es ≡ trial_entries lines → ubl ≡ written syntaxes.Ubl es → first ≡ terms_read ubl → cii ≡ written syntaxes.Cii first → last ≡ terms_read cii
    → total ≡ total_in last → same ≡ same_terms es first last → ubl_bytes ≡ length ubl → cii_bytes ≡ length cii → tally ≡ tally_of (trial_findings ubl)
    → let trial : Trial = record {
      lines = lines;
      total = total;
      same_terms = same;
      ubl_bytes = ubl_bytes;
      cii_bytes = cii_bytes;
      tally = tally;
      steps =
          steps;
    } in
    trial ≡ trial_of lines steps
unfolding trial_of
trial-made lines steps es first last ubl cii total same ubl_bytes cii_bytes tally e u f c l t s ub cb y =
    let ubl_is : ubl ≡ ubl_text lines = u ∙ ap (written syntaxes.Ubl) e in
    let first_is : first ≡ terms_of_ubl lines = f ∙ ap terms_read ubl_is in
    let cii_is : cii ≡ cii_text lines = c ∙ ap (written syntaxes.Cii) first_is in
    let last_is : last ≡ terms_of_cii lines = l ∙ ap terms_read cii_is in
    let total_is : total ≡ total_in (terms_of_cii lines) = t ∙ ap total_in last_is in
    let same_is : same ≡ same_terms (trial_entries lines) (terms_of_ubl lines) (terms_of_cii lines) = s ∙ (λ i. same_terms (e i) (first_is i) (last_is i)) in
    let ubl_size : ubl_bytes ≡ length (ubl_text lines) = ub ∙ ap length ubl_is in
    let cii_size : cii_bytes ≡ length (cii_text lines) = cb ∙ ap length cii_is in
    let tally_is : tally ≡ tally_of (trial_findings (ubl_text lines)) = y ∙ ap (λ bytes. tally_of (trial_findings bytes)) ubl_is in
    λ i. record { lines = lines; total = total_is i; same_terms = same_is i; ubl_bytes = ubl_size i; cii_bytes = cii_size i; tally = tally_is i; steps = steps }
