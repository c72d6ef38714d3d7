-- What the first of the entries have is what all have.
use Rattle.std.proofs.Common.{◌≡◌, ℕ, List, Option, Some, None, take, drop, ap, sym, ◌∙◌}
use Rattle.std.specs.Prelude.{find, option_map}
use Rattle.std.specs.Option.{option_or}
use Rattle.std.proofs.lemmas.List.{take-append-drop}
use Rattle.std.proofs.lemmas.List.Folds.{find-append}
use Rattle.term_table.specs.declared.terms.Term.{Term}
use Rattle.term_table.specs.declared.contexts.Context.{Context}
use Rattle.inv_terms.specs.declared.entries.Entry.{Entry}
use Rattle.inv_terms.specs.declared.values.Value.{Value}
use Rattle.inv_terms.specs.Listing.{is_at, value_in}

found_first : (v : Value) (first others : Option Entry) → Some v ≡ option_map (λ (e : Entry). e.value) first →
    Some v ≡ option_map (λ (e : Entry). e.value) (option_or first others)
found_first v None others e = cc
found_first v (Some x) others e = e

pub found_in_front : (es front : List Entry) (n : ℕ) (term : Term) (c : Context) (v : Value) → front ≡ take n es → Some v ≡ value_in front term c →
    Some v ≡ value_in es term c
found_in_front es front n term c v is found =
    found_first v (find (is_at term c) (take n es)) (find (is_at term c) (drop n es)) (found ∙ ap (λ x. value_in x term c) is)
    ∙ ap (option_map (λ (e : Entry). e.value)) (sym (find-append (is_at term c) (take n es) (drop n es)) ∙ ap (find (is_at term c)) (take-append-drop n es))
