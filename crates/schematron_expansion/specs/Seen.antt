-- What contracts see of what is put, and of patterns that are judged.
use Rattle.std.specs.Prelude.{◌≡◌, ℕ, true, false, nat_eq, List, [], ◌∷◌, ◌++◌, map, flat_map, fold, Option}
use Rattle.std.specs.List.{list_any}
use Rattle.schematron_entries.specs.declared.entry.Entry.{Entry}
use Rattle.schematron_entries.specs.Seen.{seen_entry}
use Rattle.schematron_meaning.specs.declared.attribute.Attribute.TheVariants as a
use Rattle.schematron_meaning.specs.Entries as meaning
use Rattle.schematron_meaning.specs.Lookup.{attribute}
use Rattle.schematron_meaning.specs.Expansion as spec
use Rattle.schematron_texts.specs.Replacing.{Parameter}
use Rattle.schematron_expansion.specs.declared.inclusions.Inclusion.{Inclusion}
use Rattle.schematron_expansion.specs.declared.instances.Instance.{Instance}

-- what is seen of entries that are lent
abbrev pub seen_things : {L : Type 0} → (L → Entry) → List L → List meaning.Entry
seen_things lent es = map (λ e. seen_entry (lent e)) es

-- what is seen of a let or an assertion in a rule
abbrev pub seen_put : Inclusion → spec.Inclusion
seen_put inclusion = record { stand = inclusion.stand; entry = seen_entry inclusion.entry.now }

-- what elements of a rule put, one after another
abbrev pub puts_of : spec.File → Option ℕ → List meaning.Entry → List spec.Inclusion
puts_of file stand es = flat_map (λ (e : meaning.Entry). spec.puts_by e.role file stand e) es

-- the parameters with those that some elements give
abbrev pub with_all : List Parameter → List meaning.Entry → List Parameter
with_all params es = fold (λ params (e : meaning.Entry). spec.with_given params (attribute a.Name e) (attribute a.Value e)) params es

-- what is seen of a pattern that is judged
abbrev pub seen_instance : Instance → spec.Instance
seen_instance x = record { pattern = seen_entry x.pattern.now; body = x.body; stand = x.stand; params = x.params }

-- of each entry the first, but for those of which one was told before
abbrev pub first_puts_behind : List ℕ → List spec.Inclusion → List spec.Inclusion
first_puts_behind told [] = []
first_puts_behind told (inclusion ∷ inclusions) = elim (list_any (nat_eq inclusion.entry.number) told) [
  | true ↦ first_puts_behind told inclusions
  | false ↦ inclusion ∷ first_puts_behind (inclusion.entry.number ∷ told) inclusions
]

-- of each entry the first
abbrev pub first_puts : List spec.Inclusion → List spec.Inclusion
first_puts inclusions = first_puts_behind [] inclusions

-- What was told and found becomes this by these puts: whatever follows them, of all the same comes first.
abbrev pub Tells : List ℕ → List spec.Inclusion → List ℕ → List spec.Inclusion → List spec.Inclusion → Type 0
Tells told found more longer inclusions = (rest : List spec.Inclusion) → longer ++ first_puts_behind more rest
    ≡ found ++ first_puts_behind told (inclusions ++ rest)
