-- What private functions do.
use Rattle.std.specs.Prelude.{ℕ, List, [], drop, Option, Some, None}
use Rattle.inv_base.specs.Tree.{Node}

-- the nodes from a next one on
abbrev pub from_next : List Node → Option ℕ → List Node
from_next nodes None = []
from_next nodes (Some n) = drop n nodes
