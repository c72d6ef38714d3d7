-- Expressions whose names are resolved, one constructor for each sentence of their meaning.
use Rattle.std.specs.Prelude.{ℕ, Bool, List, ℤ}
use Rattle.inv_base.specs.Tree.{Name}
use Rattle.xpath_tokens.specs.declared.token.Operator.{Operator}
use Rattle.xpath_grammar.specs.declared.step.Axis.{Axis}
use Rattle.xpath_grammar.specs.declared.step.KindTest.{KindTest}
use Rattle.xpath_grammar.specs.declared.operators.CastWord.{CastWord}
use Rattle.xpath_grammar.specs.declared.operators.Binder.{Binder}
use Rattle.xpath_grammar.specs.declared.functions.Function.{Function}

-- what a step wants of the nodes on its axis: an expanded name, any name in a namespace, a local name in any, any name,
-- or a kind
pub data NodeTest : Type 0 where
  named : Name → NodeTest
  in_namespace : List ℕ → NodeTest
  with_local : List ℕ → NodeTest
  any_name : NodeTest
  of_kind : KindTest → NodeTest

mutual
  pub data Exp : Type 0 where
    -- a string, and a number in units of 10^-18
    text : List ℕ → Exp
    number : ℤ → Exp
    -- `()`, `.` and `/`
    nothing : Exp
    the_item : Exp
    the_root : Exp
    -- a variable that is bound inside so many others, and one of that name that is declared outside
    variable : ℕ → Exp
    outer : List ℕ → Exp
    -- the nodes on an axis that pass the test, in the order of the axis; what a predicate keeps of a list, in its
    -- order; and the nodes of such a list in document order
    axis_step : Axis → NodeTest → Exp
    filtered : Exp → Exp → Exp
    stepped : Exp → Exp
    -- `/` between two, `,`, `and`, `or`, and every other operator
    slash : Exp → Exp → Exp
    comma : Exp → Exp → Exp
    both : Exp → Exp → Exp
    either : Exp → Exp → Exp
    operated : Operator → Exp → Exp → Exp
    -- a row of signs, the outermost first
    signed : List Operator → Exp → Exp
    -- `if`, `for`, `some` and `every` with one variable, casts to the type of a function, and calls
    chosen : Exp → Exp → Exp → Exp
    bound : Binder → Exp → Exp → Exp
    cast : CastWord → Function → Bool → Exp → Exp
    called : Function → Exps → Exp

  -- arguments
  pub data Exps : Type 0 where
    no_more : Exps
    argument : Exp → Exps → Exps
