-- How many patterns, rules and assertions there are, with those that are put where others are used, and where they pass
-- their limits.
use Rattle.std.specs.Prelude.{ℕ, ◌+◌, Bool, true, false, ◌&&◌, ◌||◌, nat_lt, nat_le, List, [], ◌∷◌, length, sum_by, count_by, Option, Some, None}
use Rattle.schematron_graph.specs.declared.part.Thing.{Thing}
use Rattle.schematron_graph.specs.Rules.{expansion}
use Rattle.schematron_meaning.specs.declared.role.Role.{Role}
use Rattle.schematron_meaning.specs.declared.role.Role.TheVariants as r
use Rattle.schematron_meaning.specs.Entries.{Entry}
use Rattle.schematron_meaning.specs.Lookup.{is_own_pattern, is_own_rule, inside, at_node}
use Rattle.schematron_meaning.specs.Bodies.{body_at, part_by}
use Rattle.schematron_meaning.specs.Expansion.{File, pattern_used}

abbrev pub most_patterns : ℕ
most_patterns = 2000

abbrev pub most_rules : ℕ
most_rules = 10000

abbrev pub most_assertions : ℕ
most_assertions = 20000

pub record Tally : Type 0 where
  pub patterns : ℕ
  pub rules : ℕ
  pub assertions : ℕ

abbrev pub no_tally : Tally
no_tally = record { patterns = 0; rules = 0; assertions = 0 }

abbrev pub added : Tally → Tally → Tally
added t u = record { patterns = t.patterns + u.patterns; rules = t.rules + u.rules; assertions = t.assertions + u.assertions }

-- how many assertions the rule at a node has, with those of the rules that it extends
abbrev pub assertions_of : File → ℕ → ℕ
assertions_of file n = count_by (λ (thing : Thing). thing.counts) (expansion file.bodies (body_at file.entries file.rules n))

-- how many an element of a rule puts there
abbrev pub assertions_by : File → Entry → ℕ
assertions_by file e = count_by (λ (thing : Thing). thing.counts) (expansion file.bodies (part_by e.role file.rules e))

-- The rule at the node stands for itself, in a pattern that does.
abbrev pub is_of_a_pattern : List Entry → List Entry → Bool
is_of_a_pattern es [] = false
is_of_a_pattern es (e ∷ others) = is_own_pattern e.role

abbrev pub is_counted_rule : List Entry → List Entry → Bool
is_counted_rule es [] = false
is_counted_rule es (e ∷ others) = is_own_rule e.role && is_of_a_pattern es (at_node es e.parent)

abbrev pub when : Bool → Tally → Tally
when true t = t
when false t = no_tally

abbrev pub used_tally : File → Option Entry → Tally
used_tally file None = record { patterns = 1; rules = 0; assertions = 0 }
used_tally file (Some body) =
    let rules : List Entry = inside is_own_rule file.entries body.number in
    record { patterns = 1; rules = length rules; assertions = sum_by (λ (rule : Entry). assertions_of file rule.number) rules }

abbrev pub item_tally : File → Entry → Tally
item_tally file e = when (is_counted_rule file.entries (at_node file.entries e.parent)) (record { patterns = 0; rules = 0; assertions = assertions_by file e })

abbrev pub tally_by : Role → File → Entry → Tally
tally_by r.Pattern file e = record { patterns = 1; rules = 0; assertions = 0 }
tally_by r.Use file e = used_tally file (pattern_used file.entries e)
tally_by r.Rule file e = when (is_of_a_pattern file.entries (at_node file.entries e.parent)) (record { patterns = 0; rules = 1; assertions = 0 })
tally_by r.Assert file e = item_tally file e
tally_by r.Report file e = item_tally file e
tally_by r.Extends file e = item_tally file e
tally_by _ file e = no_tally

-- What counts at an element: a pattern that is judged, a rule that is written in one, an assertion that is written in
-- such a rule; at an `extends` in such a rule all that it puts there, and at a pattern that uses another all of that
-- one. Abstract patterns and rules don't.
abbrev pub tally_of : File → Entry → Tally
tally_of file e = tally_by e.role file e

-- The number passes its limit here.
abbrev pub passes : ℕ → ℕ → ℕ → Bool
passes limit before after = nat_le before limit && nat_lt limit after

abbrev pub passes_any : Tally → Tally → Bool
passes_any before after = passes most_patterns before.patterns after.patterns ||
    (passes most_rules before.rules after.rules || passes most_assertions before.assertions after.assertions)
