-- Rule files whose contexts are patterns, as those of every file are that was compiled.
use Rattle.std.specs.Prelude.{◌≡◌, true}
use Rattle.std.specs.List.{All}
use Rattle.xpath_marks.specs.Shapes.{is_pattern}
use Rattle.schematron_meaning.specs.Rules.{Rule, Pattern, Rules}

-- The context of the rule has the shape of a pattern.
abbrev pub HasContext : Rule → Type 0
HasContext rule = is_pattern rule.context.expression ≡ true

abbrev pub HaveContexts : Pattern → Type 0
HaveContexts pattern = All HasContext pattern.rules

-- The contexts of all rules have the shape of patterns.
abbrev pub HasPatterns : Rules → Type 0
HasPatterns rules = All HaveContexts rules.patterns
