-- Kinds of items.
use Rattle.std.specs.Prelude.{Bool, true, false, ◌&&◌, ◌||◌, not, List, [], ◌∷◌}
pub use Rattle.xpath_types.specs.declared.kinds.Kinds.{Kinds}

abbrev pub no_kinds : Kinds
no_kinds = record { node = false; boolean = false; number = false; string = false; untyped = false; date = false }

abbrev pub all_kinds : Kinds
all_kinds = record { node = true; boolean = true; number = true; string = true; untyped = true; date = true }

abbrev pub nodes : Kinds
nodes = record no_kinds { node = true }

abbrev pub booleans : Kinds
booleans = record no_kinds { boolean = true }

abbrev pub numbers : Kinds
numbers = record no_kinds { number = true }

abbrev pub strings : Kinds
strings = record no_kinds { string = true }

abbrev pub dates : Kinds
dates = record no_kinds { date = true }

abbrev pub united : Kinds → Kinds → Kinds
united a b = record {
  node = a.node || b.node;
  boolean = a.boolean || b.boolean;
  number = a.number || b.number;
  string = a.string || b.string;
  untyped = a.untyped || b.untyped;
  date = a.date || b.date;
}

abbrev pub all_united : List Kinds → Kinds
all_united [] = no_kinds
all_united (kinds ∷ others) = united kinds (all_united others)

abbrev pub has_kinds : Kinds → Bool
has_kinds kinds = kinds.node || (kinds.boolean || (kinds.number || (kinds.string || (kinds.untyped || kinds.date))))

-- nodes are the only ones
abbrev pub is_nodes_alone : Kinds → Bool
is_nodes_alone kinds = kinds.node && not (kinds.boolean || (kinds.number || (kinds.string || (kinds.untyped || kinds.date))))

-- the kinds of items, each atomised
abbrev pub atomised : Kinds → Kinds
atomised kinds = record kinds { node = false; untyped = kinds.node || kinds.untyped }

-- the kinds of the least or the greatest of items of these kinds: of untyped ones as numbers
abbrev pub extreme : Kinds → Kinds
extreme kinds = record no_kinds { number = kinds.node || (kinds.untyped || kinds.number); string = kinds.string; date = kinds.date }

-- there are items, and each is refused where nodes are wanted
abbrev pub has_no_node : Kinds → Bool
has_no_node kinds = has_kinds kinds && not kinds.node

-- there are items, and each is refused where numbers are wanted
abbrev pub has_no_number : Kinds → Bool
has_no_number kinds = has_kinds kinds && not (kinds.node || (kinds.untyped || kinds.number))
