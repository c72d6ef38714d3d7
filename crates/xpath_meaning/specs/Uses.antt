-- What an expression uses of where it is evaluated.
use Rattle.std.specs.Prelude.{ℕ, Bool, true, false, ◌||◌, ◌≡◌, ◌≤◌, nat_lt, length}
use Rattle.xpath_grammar.specs.declared.functions.Function.{Function}
use Rattle.xpath_types.specs.Parts.{function_uses}
use Rattle.xpath_items.specs.declared.item.Item.TheVariants as i
use Rattle.xpath_meaning.specs.Expressions as x
use Rattle.xpath_meaning.specs.Expressions.{Exp, Exps}
use Rattle.xpath_meaning.specs.Steps.{root_of}
use Rattle.xpath_meaning.specs.Meaning.{Context, bound_at}

-- a position, the root, or the item in another way
pub record Uses : Type 0 where
  pub position : Bool
  pub root : Bool
  pub item : Bool

abbrev pub no_uses : Uses
no_uses = record { position = false; root = false; item = false }

abbrev pub joined : Uses → Uses → Uses
joined a b = record { position = a.position || b.position; root = a.root || b.root; item = a.item || b.item }

-- A call without arguments may use the focus.
abbrev pub called_uses : Function → Exps → Uses → Uses
called_uses function x.no_more uses = record {
  position = (function_uses function).position;
  root = (function_uses function).root;
  item =
      (function_uses function).item;
}
called_uses function (x.argument e arguments) uses = uses

abbrev mutual
  -- what it uses of its own focus: no predicate does, and no step behind the first, the root or the item of its own
  -- focus
  pub uses_of : Exp → Uses
  uses_of (x.text s) = no_uses
  uses_of (x.number z) = no_uses
  uses_of x.nothing = no_uses
  uses_of x.the_item = record no_uses { item = true }
  uses_of x.the_root = record no_uses { root = true }
  uses_of (x.variable height) = no_uses
  uses_of (x.outer name) = no_uses
  uses_of (x.axis_step axis test) = record no_uses { item = true }
  uses_of (x.filtered e predicate) = uses_of e
  uses_of (x.stepped e) = uses_of e
  uses_of (x.slash e step) = uses_of e
  uses_of (x.comma e f) = joined (uses_of e) (uses_of f)
  uses_of (x.both e f) = joined (uses_of e) (uses_of f)
  uses_of (x.either e f) = joined (uses_of e) (uses_of f)
  uses_of (x.operated operator e f) = joined (uses_of e) (uses_of f)
  uses_of (x.signed signs e) = uses_of e
  uses_of (x.chosen condition e f) = joined (uses_of condition) (joined (uses_of e) (uses_of f))
  uses_of (x.bound binder e body) = joined (uses_of e) (uses_of body)
  uses_of (x.cast word type optional e) = uses_of e
  uses_of (x.called function arguments) = called_uses function arguments (uses_of_arguments arguments)

  pub uses_of_arguments : Exps → Uses
  uses_of_arguments x.no_more = no_uses
  uses_of_arguments (x.argument e arguments) = joined (uses_of e) (uses_of_arguments arguments)

abbrev mutual
  -- it reads a variable that is declared outside, or bound among the first so many
  pub reads_outside : ℕ → Exp → Bool
  reads_outside depth (x.variable height) = nat_lt height depth
  reads_outside depth (x.outer name) = true
  reads_outside depth (x.filtered e predicate) = reads_outside depth e || reads_outside depth predicate
  reads_outside depth (x.stepped e) = reads_outside depth e
  reads_outside depth (x.slash e step) = reads_outside depth e || reads_outside depth step
  reads_outside depth (x.comma e f) = reads_outside depth e || reads_outside depth f
  reads_outside depth (x.both e f) = reads_outside depth e || reads_outside depth f
  reads_outside depth (x.either e f) = reads_outside depth e || reads_outside depth f
  reads_outside depth (x.operated operator e f) = reads_outside depth e || reads_outside depth f
  reads_outside depth (x.signed signs e) = reads_outside depth e
  reads_outside depth (x.chosen condition e f) = reads_outside depth condition || (reads_outside depth e || reads_outside depth f)
  reads_outside depth (x.bound binder e body) = reads_outside depth e || reads_outside depth body
  reads_outside depth (x.cast word type optional e) = reads_outside depth e
  reads_outside depth (x.called function arguments) = arguments_read_outside depth arguments
  reads_outside depth _ = false

  pub arguments_read_outside : ℕ → Exps → Bool
  arguments_read_outside depth x.no_more = false
  arguments_read_outside depth (x.argument e arguments) = reads_outside depth e || arguments_read_outside depth arguments

-- Two contexts are the same in what is used of them, but for variables that stand outside: those bound among the first
-- so many, and those that are declared.
pub record AreSameFor (uses : Uses) (depth : ℕ) (c d : Context) : Type 0 where
  pub position : uses.position ≡ true → c.focus.position ≡ d.focus.position
  pub last : uses.position ≡ true → c.focus.last ≡ d.focus.last
  pub root : uses.root ≡ true → root_of c.focus.item ≡ root_of d.focus.item
  pub item : uses.item ≡ true → c.focus.item ≡ d.focus.item
  pub count : length c.bound ≡ length d.bound
  pub bound : (height : ℕ) → depth ≤ height → bound_at height c.bound ≡ bound_at height d.bound

-- The focus is at a node, inside so many bound variables.
pub record IsAtNode (depth : ℕ) (c : Context) : Type 0 where
  pub node : ℕ
  pub item : c.focus.item ≡ i.Node node
  pub count : length c.bound ≡ depth
