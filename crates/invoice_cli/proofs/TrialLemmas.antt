-- Trials: how many lines the words may ask for.
use Rattle.std.proofs.Common.{◌≡◌, ℕ, ◌+◌, ◌*◌, ◌-◌, ◌<◌, ◌≤◌, Bool, true, false, List, [], ◌∷◌, Option, Some, None, if◌then◌else◌, nat_le, length, drop}
use Rattle.std.proofs.Common.{get_or, refl, sym, subst, ap, ◌∙◌, arith}
use Rattle.std.proofs.lemmas.List.{at_drop_more}
use Rattle.std.specs.Prelude.{bytes_eq, codes, nat_eq}
use Rattle.bind_meaning.specs.declared.tables.Syntax.{Syntax}
use Rattle.invoice_cli.specs.declared.options.Optioned.{Optioned}
use Rattle.invoice_cli.specs.declared.options.Optioned.TheVariants as commands
use Rattle.invoice_cli.specs.declared.options.Switch.{Switch}
use Rattle.invoice_cli.specs.Job.{Job, outline, show, totals, view, convert, convert_whole, check, validate, extract, query, trial, help, version, bad_word, Options}
use Rattle.invoice_cli.specs.Job.{none_given}
use Rattle.invoice_cli.specs.Job.{is_option, with_no_more, last_operand, offered, takes_value, with_flag, with_value, or_bad, last_word, optioned, sources}
use Rattle.invoice_cli.specs.Job.{format_of, report_format, show_of, totals_of, view_of, convert_of, check_of, validate_of, is_digit, digits_value, at_most}
use Rattle.invoice_cli.specs.Job.{number_up_to}
use Rattle.invoice_cli.specs.Job.{by_number, extract_of}
use Rattle.invoice_cli.specs.Job.{conversion, most_lines, try_of, query_of, job}
use Rattle.invoice_jobs.specs.Sources.{Sources}

-- ---- numbers

-- The digits of a number never make it less.
digits-more : (most n : ℕ) (digits : List ℕ) → most < n → at_most most (digits_value n digits) ≡ None
digits-more most n [] more = above (nat_le n most) refl where
  above : (b : Bool) → nat_le n most ≡ b → (if b then Some n else None) ≡ None
  above true e = grind (arith, more, e)
  above false e = refl
digits-more most n (digit ∷ digits) more = behind (is_digit digit) (digits-more most (10 * n + (digit - 48)) digits (omega (arith, more))) where
  behind : (b : Bool) → at_most most (digits_value (10 * n + (digit - 48)) digits) ≡ None →
      at_most most (if b then digits_value (10 * n + (digit - 48)) digits else None) ≡ None
  behind true rest = rest
  behind false rest = refl

-- So digits whose front is above the most already make none.
pub digits_above : (most v i x : ℕ) (digits : List ℕ) → i < length digits → digits_value v (drop i digits) ≡ digits_value 0 digits → x ≡ get_or digits i 0 - 48
    → most < 10 * v + x → None ≡ at_most most (digits_value 0 digits)
digits_above most v i x digits within is next more =
    sym (ap (at_most most) (sym is ∙ at_drop_more (digits_value v) digits i 0 within) ∙ behind (is_digit (get_or digits i 0))) where
      behind : (b : Bool) → at_most most (if b then digits_value (10 * v + (get_or digits i 0 - 48)) (drop (i + 1) digits) else None) ≡ None
      behind true = digits-more most (10 * v + (get_or digits i 0 - 48)) (drop (i + 1) digits) (subst (λ y. most < 10 * v + y) next more)
      behind false = refl

-- ---- lines

-- A trial has few lines.
abbrev HasFew : Job → Type 0
HasFew (trial lines) = lines ≤ most_lines
HasFew _ = Unit {0}

few-if : (b : Bool) (x y : Job) → HasFew x → HasFew y → HasFew (if b then x else y)
few-if true x y fx fy = fx
few-if false x y fx fy = fy

few-no_more : (number : ℕ) (j : Job) (words : List (List ℕ)) → HasFew j → HasFew (with_no_more number j words)
few-no_more number j [] few = few
few-no_more number j (word ∷ words) few = tt

few-operand : (make : List ℕ → Job) (number : ℕ) (words : List (List ℕ)) → ((word : List ℕ) → HasFew (make word)) → HasFew (last_operand make number words)
few-operand make number [] few = tt
few-operand make number (word ∷ words) few =
    few-if (is_option word) (bad_word number) (with_no_more (number + 1) (make word) words) tt (few-no_more (number + 1) (make word) words (few word))

few-number : (further : ℕ → Job) (number : Option ℕ) → ((n : ℕ) → HasFew (further n)) → HasFew (by_number further number)
few-number further None few = tt
few-number further (Some n) few = few n

-- ---- options

module _ (command : Optioned) (further : Options → ℕ → List (List ℕ) → Job) (few : (given : Options) (number : ℕ) (words : List (List ℕ)) →
    HasFew (further given number words)) where
  few-or_bad : (number : ℕ) (next : Options → Job) (given : Option Options) → ((more : Options) → HasFew (next more)) → HasFew (or_bad number next given)
  few-or_bad number next None go = tt
  few-or_bad number next (Some more) go = go more

  few-last : (given : Options) (number : ℕ) (word : List ℕ) (switch : Option Switch) → HasFew (last_word further given number word switch)
  few-last given number word None = few given number (word ∷ [])
  few-last given number word (Some switch) =
      few-if (takes_value switch) (bad_word (number + 1)) (further (with_flag given switch) (number + 1) []) tt
      (few (with_flag given switch) (number + 1) [])

  by_switch : (given : Options) (number : ℕ) (value : List ℕ) (words : List (List ℕ)) (switch : Switch) (b : Bool)
      → HasFew (optioned command further (with_flag given switch) (number + 1) (value ∷ words))
      → ((more : Options) → HasFew (optioned command further more (number + 2) words))
      → HasFew (elim b [
        | false ↦ optioned command further (with_flag given switch) (number + 1) (value ∷ words)
        | true ↦ or_bad (number + 1) (λ more. optioned command further more (number + 2) words) (with_value given switch value)
      ])
  by_switch given number value words switch false alone valued = alone
  by_switch given number value words switch true alone valued =
      few-or_bad (number + 1) (λ more. optioned command further more (number + 2) words) (with_value given switch value) valued

  by_offer : (given : Options) (number : ℕ) (word value : List ℕ) (words : List (List ℕ)) (o : Option Switch)
      → ((switch : Switch) → HasFew (optioned command further (with_flag given switch) (number + 1) (value ∷ words)))
      → ((more : Options) → HasFew (optioned command further more (number + 2) words))
      → HasFew (elim o [
        | None ↦ further given number (word ∷ (value ∷ words))
        | (Some switch) ↦ elim (takes_value switch) [
          | false ↦ optioned command further (with_flag given switch) (number + 1) (value ∷ words)
          | true ↦ or_bad (number + 1) (λ more. optioned command further more (number + 2) words) (with_value given switch value)
        ]
      ])
  by_offer given number word value words None alone valued = few given number (word ∷ (value ∷ words))
  by_offer given number word value words (Some switch) alone valued = by_switch given number value words switch (takes_value switch) (alone switch) valued

  few-optioned : (given : Options) (number : ℕ) (words : List (List ℕ)) → HasFew (optioned command further given number words)
  few-optioned given number [] = few given number []
  few-optioned given number (word ∷ []) = few-last given number word (offered command given word)
  few-optioned given number (word ∷ (value ∷ words)) =
      by_offer given number word value words (offered command given word)
      (λ switch. few-optioned (with_flag given switch) (number + 1) (value ∷ words))
      (λ more. few-optioned more (number + 2) words)

-- ---- commands

few-conversion : (whole : Bool) (syntax : Syntax) (beside : Sources) (word : List ℕ) → HasFew (conversion whole syntax beside word)
few-conversion true syntax beside word = tt
few-conversion false syntax beside word = tt

few-convert : (given : Options) (number : ℕ) (words : List (List ℕ)) → HasFew (convert_of given number words)
few-convert given number words = by_target given.target where
  by_target : (target : Option Syntax) →
      HasFew (elim target [ None ↦ bad_word number | (Some syntax) ↦ last_operand (conversion given.whole syntax (sources given)) number words ])
  by_target None = tt
  by_target (Some syntax) = few-operand (conversion given.whole syntax (sources given)) number words (few-conversion given.whole syntax (sources given))

few-check : (given : Options) (number : ℕ) (words : List (List ℕ)) → HasFew (check_of given number words)
few-check given number words = by_rules given.rules where
  by_rules : (rules : List (List ℕ)) →
      HasFew (elim rules [
        | [] ↦ bad_word number
        | (file ∷ files) ↦ last_operand (check (report_format given.json given.svrl) given.phase (file ∷ files))
            number words
      ])
  by_rules [] = tt
  by_rules (file ∷ files) = few-operand (check (report_format given.json given.svrl) given.phase (file ∷ files)) number words (λ word. tt)

few-validate : (given : Options) (number : ℕ) (words : List (List ℕ)) → HasFew (validate_of given number words)
few-validate given number words = few-operand (validate (report_format given.json given.svrl) (sources given)) number words (λ word. tt)

few-extract : (words : List (List ℕ)) → HasFew (extract_of words)
few-extract [] = tt
few-extract (word ∷ words) =
    few-number (λ number. last_operand (extract number) 3 words) (number_up_to 9999 word) (λ number. few-operand (extract number) 3 words (λ w. tt))

few-query : (words : List (List ℕ)) → HasFew (query_of words)
few-query [] = tt
few-query (word ∷ words) = few-if (is_option word) (bad_word 2) (last_operand (query word) 3 words) tt (few-operand (query word) 3 words (λ w. tt))

few-most : (words : List (List ℕ)) (number : Option ℕ) → HasFew (by_number (λ lines. with_no_more 3 (trial lines) words) (at_most most_lines number))
few-most words None = tt
few-most words (Some lines) = by_test (nat_le lines most_lines) refl where
  by_test : (b : Bool) → nat_le lines most_lines ≡ b → HasFew (by_number (λ n. with_no_more 3 (trial n) words) (if b then Some lines else None))
  by_test false e = tt
  by_test true e = few-no_more 3 (trial lines) words (grind (arith, e))

few-try : (words : List (List ℕ)) → HasFew (try_of words)
few-try [] = tt
few-try ([] ∷ words) = tt
few-try ((digit ∷ digits) ∷ words) = by_test (nat_eq digit 48) where
  by_test : (b : Bool) → HasFew (by_number (λ lines. with_no_more 3 (trial lines) words)
      (if b then None else at_most most_lines (digits_value 0 (digit ∷ digits))))
  by_test true = tt
  by_test false = few-most words (digits_value 0 (digit ∷ digits))

few-job : (words : List (List ℕ)) → HasFew (job words)
few-job [] = tt
few-job (command ∷ words) =
    few-if (bytes_eq command (codes "outline")) _ _ (few-operand outline 2 words (λ word. tt))
    (few-if (bytes_eq command (codes "show")) _ _
    (few-optioned commands.Show show_of
    (λ given number ws. few-operand (show (format_of given.json) (sources given)) number ws (λ word. tt)) none_given 2 words)
    (few-if (bytes_eq command (codes "totals")) _ _
    (few-optioned commands.Totals totals_of (λ given number ws. few-operand (totals (format_of given.json)
    (sources given)) number ws (λ word. tt)) none_given 2 words)
    (few-if (bytes_eq command (codes "view")) _ _
    (few-optioned commands.View view_of (λ given number ws. few-operand (view (sources given)) number ws (λ word. tt)) none_given 2 words)
    (few-if (bytes_eq command (codes "convert")) _ _ (few-optioned commands.Convert convert_of few-convert none_given 2 words)
    (few-if (bytes_eq command (codes "check")) _ _ (few-optioned commands.Check check_of few-check none_given 2 words)
    (few-if (bytes_eq command (codes "validate")) _ _ (few-optioned commands.Validate validate_of few-validate none_given 2 words)
    (few-if (bytes_eq command (codes "extract")) _ _ (few-extract words)
    (few-if (bytes_eq command (codes "query")) _ _ (few-query words)
    (few-if (bytes_eq command (codes "try")) _ _ (few-try words)
    (few-if (bytes_eq command (codes "--help")) _ _ (few-no_more 2 help words tt)
    (few-if (bytes_eq command (codes "--version")) _ _ (few-no_more 2 version words tt) tt)))))))))))

-- A trial that the words ask for has at most so many lines.
pub lines_are_few : (words : List (List ℕ)) (lines : ℕ) → job words ≡ trial lines → lines ≤ most_lines
lines_are_few words lines is = subst HasFew is (few-job words)
