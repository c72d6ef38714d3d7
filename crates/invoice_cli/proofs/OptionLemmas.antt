-- One option, and what follows by it.
use Rattle.std.proofs.Common.{◌≡◌, ℕ, ◌+◌, Bool, true, false, List, [], ◌∷◌, Option, Some, None, ap, ◌∙◌, if◌then◌else◌}
use Rattle.invoice_cli.specs.declared.options.Optioned.{Optioned}
use Rattle.invoice_cli.specs.declared.options.Switch.{Switch}
use Rattle.invoice_cli.specs.Job.{Job, Options, offered, takes_value, with_flag, with_value, or_bad, bad_word, last_word, optioned}

module _ (command : Optioned) (further : Options → ℕ → List (List ℕ) → Job) (given : Options) (number : ℕ) (word : List ℕ) (switch : Switch) where
  -- what follows by an option, where more words stand behind it
  abbrev by_switch : List ℕ → List (List ℕ) → Switch → Bool → Job
  by_switch value words s b = elim b [
    | false ↦ optioned command further (with_flag given s) (number + 1) (value ∷ words)
    | true ↦ or_bad (number + 1) (λ more. optioned command further more (number + 2) words) (with_value given s value)
  ]

  abbrev by_offer : List ℕ → List (List ℕ) → Option Switch → Job
  by_offer value words o = elim o [
    | None ↦ further given number (word ∷ (value ∷ words))
    | (Some s) ↦ by_switch value words s (takes_value s)
  ]

  -- an option that takes the value behind it
  pub optioned-on : (more : Options) (value : List ℕ) (words : List (List ℕ)) → offered command given word ≡ Some switch → takes_value switch ≡ true
      → with_value given switch value ≡ Some more
      → optioned command further given number (word ∷ (value ∷ words)) ≡ optioned command further more (number + 2) words
  optioned-on more value words is_offered takes is_more =
      ap (by_offer value words) is_offered ∙ (ap (by_switch value words switch) takes
      ∙ ap (or_bad (number + 1) (λ m. optioned command further m (number + 2) words)) is_more)

  -- an option that stands alone
  pub optioned-alone : (words : List (List ℕ)) → offered command given word ≡ Some switch → takes_value switch ≡ false
      → optioned command further given number (word ∷ words) ≡ optioned command further (with_flag given switch) (number + 1) words
  optioned-alone [] is_offered alone =
      ap (last_word further given number word) is_offered
      ∙ ap (λ b. if b then bad_word (number + 1) else further (with_flag given switch) (number + 1) []) alone
  optioned-alone (value ∷ words) is_offered alone =
      ap (by_offer value words) is_offered ∙ ap (by_switch value words switch) alone

  -- an option without the value that it takes
  pub optioned-valueless : offered command given word ≡ Some switch → takes_value switch ≡ true
      → optioned command further given number (word ∷ []) ≡ bad_word (number + 1)
  optioned-valueless is_offered takes =
      ap (last_word further given number word) is_offered
      ∙ ap (λ b. if b then bad_word (number + 1) else further (with_flag given switch) (number + 1) []) takes
