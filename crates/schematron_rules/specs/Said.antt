-- What is known of all rules.
use Rattle.std.specs.Prelude.{◌≡◌, ℕ, ◌<◌, ◌^◌, List, length, Some, Ok}
use Rattle.inv_base.specs.Tree.{Node}
use Rattle.schematron_meaning.specs.Rules as spec
use Rattle.schematron_meaning.specs.Rules.{rules_of}
use Rattle.schematron_meaning.specs.Phases.{Active, active_of}
use Rattle.schematron_rules.specs.declared.rules.Compiled.{Compiled}
use Rattle.schematron_rules.specs.Seen.{seen_compiled}

-- These are the rules of some file that has no fault.
pub record AreOfAFile (rules : spec.Rules) : Type 0 where
  pub nodes : List Node
  pub are : rules_of nodes ≡ Ok rules

-- Some file comes to this, and a number of 32 bits counts its phases.
pub record IsSaid (x : Compiled) : Type 0 where
  pub of_a_file : AreOfAFile (seen_compiled x)
  pub few : length x.phases < 2 ^ 32

-- What is active came from these rules: it is what they say is active by some name.
pub record CameFrom (rules : spec.Rules) (active : Active) : Type 0 where
  pub name : List ℕ
  pub is : active_of rules name ≡ Some active
