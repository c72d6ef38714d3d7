-- Sorts of entries that are asked for together.
use Rattle.std.specs.Prelude.{Bool}
use Rattle.schematron_meaning.specs.declared.role.Role.{Role}
use Rattle.schematron_meaning.specs.Lookup.{is_let, is_own_rule, is_item, is_part, is_parameter, is_active}
use Rattle.schematron_meaning.specs.Written.{is_let_or_rule}
use Rattle.schematron_expansion.specs.declared.file.Sort.{Sort}
use Rattle.schematron_expansion.specs.declared.file.Sort.TheVariants as s

-- which roles the entries of a sort have
abbrev pub test_of : Sort → Role → Bool
test_of s.Lets = is_let
test_of s.Rules = is_own_rule
test_of s.LetsAndRules = is_let_or_rule
test_of s.Items = is_item
test_of s.MessageParts = is_part
test_of s.Parameters = is_parameter
test_of s.Actives = is_active
