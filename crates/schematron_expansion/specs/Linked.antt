-- What is looked up among the entries of a file.
use Rattle.std.specs.Prelude.{◌≡◌, ℕ, Bool, ◌&&◌, List, chars, encode_utf8_all, Option}
use Rattle.std.specs.List.{position_from}
use Rattle.schematron_graph.specs.declared.part.Part.{Part}
use Rattle.schematron_meaning.specs.declared.attribute.Attribute.TheVariants as a
use Rattle.schematron_meaning.specs.Entries.{Entry}
use Rattle.schematron_meaning.specs.Lookup.{says, is_abstract_pattern}
use Rattle.schematron_meaning.specs.Bodies.{bodies}
use Rattle.schematron_expansion.specs.Bodied.{AreRules, parents}
use Rattle.schematron_expansion.specs.Counted.{numbers}

-- The entry is an abstract pattern of that name.
abbrev pub is_pattern_named : List ℕ → Entry → Bool
is_pattern_named name e = is_abstract_pattern e.role && says a.Id name e

-- Of each text the place of the first abstract pattern that has it as its name is known.
abbrev pub ArePatterns : (List ℕ → Option ℕ) → List Entry → Type 0
ArePatterns names es = (id : List ℕ) → encode_utf8_all (chars id) ≡ id → names id ≡ position_from (is_pattern_named (chars id)) 0 es

-- All that is looked up is that of the entries.
pub record AreLinks (parented numbered nodes : List ℕ) (rules patterns : List ℕ → Option ℕ) (graph : List (List Part)) (es : List Entry) : Type 0 where
  pub parents_are : parented ≡ parents es
  pub numbers_are : numbered ≡ numbers es
  pub rules_are : AreRules nodes rules es
  pub patterns_are : ArePatterns patterns es
  pub bodies_are : graph ≡ bodies es
