-- Each `&` of an escaped text begins a reference.
use Rattle.std.proofs.Common.{◌≡◌, ℕ, true, List, [], ◌∷◌, refl, ap, sym, ◌∙◌}
use Rattle.std.specs.Prelude.{◌==◌, encode_utf8_all}
use Rattle.std.specs.List.{flat_map}
use Rattle.std.proofs.lemmas.Bool.{cond_both}
use Rattle.inv_base.proofs.EscapeLemmas.{flat_map-encodes}
use Rattle.page_values.specs.Escapes.{escaped_character, in_page}
use Rattle.page_laws.specs.Tags.{are_bare, each_begins_one, references, has_references_alone}
use Rattle.page_values.proofs.EscapeLemmas.{escaped-IsAsciiEscape}
use Rattle.page_laws.proofs.TagLemmas.{each-nothing, each-then, each-other}
use Rattle.page_laws.proofs.ValueLemmas.{Bare-in_page}

Refers : List ℕ → Type 0
Refers text = each_begins_one 0x26 references text ≡ true

escaped-refers : (c : ℕ) → Refers (escaped_character c)
unfolding Refers each_begins_one
escaped-refers c =
    cond_both (c == 0x26) _ _ Refers (λ _. refl) (λ other.
    cond_both (c == 0x3C) _ _ Refers (λ _. refl) (λ _.
    cond_both (c == 0x3E) _ _ Refers (λ _. refl) (λ _.
    cond_both (c == 0x22) _ _ Refers (λ _. refl) (λ _. each-other 0x26 references c [] other (each-nothing 0x26 references)))))

refers : (bytes : List ℕ) → Refers (flat_map escaped_character bytes)
unfolding Refers
refers [] = each-nothing 0x26 references
refers (b ∷ bytes) = each-then 0x26 references (escaped_character b) (flat_map escaped_character bytes) (escaped-refers b) (refers bytes)

pub value-references : (characters : List ℕ) → (are_bare (in_page characters) ≡ true) × (has_references_alone (in_page characters) ≡ true)
unfolding Refers has_references_alone
value-references characters = (
  Bare-in_page characters,
  ap has_references_alone (sym (flat_map-encodes escaped_character escaped-IsAsciiEscape characters)) ∙ refers (encode_utf8_all characters),
)
