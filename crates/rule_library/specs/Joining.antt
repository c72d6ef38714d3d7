-- How nodes of files are joined into one document.
use Rattle.std.specs.Prelude.{ℕ, zero, suc, ◌+◌, ◌-◌, Bool, true, false, List, [], ◌∷◌, length, Option, Some, None, nat_lt, if◌then◌else◌}
use Rattle.inv_base.specs.Tree.{Name}
use Rattle.xml_events.specs.Events.{starts, has_attribute, has_text, ends}
use Rattle.xml_events.specs.Names.{number_of, with_name}
use Rattle.xml_state.specs.Sizes.{rule_limits}
use Rattle.node_arena.specs.Document.{Built, begun, after}
use Rattle.rule_library.specs.Readings.{Joined}
use Rattle.rule_library.specs.Asked.{Given}
use Rattle.rule_library.specs.declared.faults.LoadKind.{LoadKind}
use Rattle.rule_library.specs.declared.faults.LoadKind.TheVariants as kinds

abbrev pub nothing_joined : Joined
nothing_joined = record { built = begun; names = [] }

-- so many elements end
abbrev pub ended_times : ℕ → Built → Built
ended_times zero b = b
ended_times (suc n) b = ended_times n (after ends b)

-- Elements end until so many nodes are open.
abbrev pub closed_to : ℕ → Joined → Joined
closed_to n j = record { built = ended_times (length j.built.open_nodes - n) j.built; names = j.names }

-- An element begins; its name is numbered among those of all files.
abbrev pub with_start : Name → ℕ → Joined → Joined
with_start name place j = record { built = after (starts (number_of name j.names) place) j.built; names = with_name j.names name }

abbrev pub with_attribute : Given → Joined → Joined
with_attribute given j = record { built = after (has_attribute (number_of given.name j.names) given.value) j.built; names = with_name j.names given.name }

abbrev pub with_attributes : List Given → Joined → Joined
with_attributes [] j = j
with_attributes (given ∷ others) j = with_attributes others (with_attribute given j)

abbrev pub with_element : Name → List Given → ℕ → Joined → Joined
with_element name given place j = with_attributes given (with_start name place j)

abbrev pub with_text : List ℕ → ℕ → Joined → Joined
with_text characters place j = record { built = after (has_text characters place) j.built; names = j.names }

-- The limit of a rule file that the joined document passes, by what a part has put in: deeper elements, the document's
-- node beside them; more nodes; more names.
abbrev pub passed_limit : Bool → Joined → Option LoadKind
passed_limit false j = None
passed_limit true j =
    if nat_lt (rule_limits.depth + 1) (length j.built.open_nodes) then Some kinds.TooDeep
    else (if nat_lt rule_limits.nodes (length j.built.nodes) then Some kinds.TooManyNodes
    else (if nat_lt rule_limits.names (length j.names) then Some kinds.TooManyNames else None))
