-- The grammar, production by production (XPath 2.0, appendix A.1). Where an expression of one rank may stand, so may one that binds
-- tighter: the ranks are those of the symbols below, from the loosest on.
use Rattle.std.specs.Prelude.{ℕ, suc, Bool, List, [], ◌∷◌, ◌++◌, Some, None, ◌≡◌, ◌≤◌, IsTrue, map}
use Rattle.std.specs.List.{list_all}
use Rattle.xpath_tokens.specs.declared.token.Operator.{Operator}
use Rattle.xpath_tokens.specs.declared.token.Operator.TheVariants as o
use Rattle.xpath_tokens.specs.declared.token.Keyword.TheVariants as k
use Rattle.xpath_tokens.specs.declared.token.Name.{Name}
use Rattle.xpath_tokens.specs.declared.token.Number.{Number}
use Rattle.xpath_tokens.specs.declared.token.Token.{Token}
use Rattle.xpath_tokens.specs.declared.token.Token.TheVariants as t
use Rattle.xpath_grammar.specs.declared.step.AxisForm.{AxisForm}
use Rattle.xpath_grammar.specs.declared.step.Test.{Test}
use Rattle.xpath_grammar.specs.declared.operators.Production.{Production}
use Rattle.xpath_grammar.specs.declared.operators.Production.TheVariants as p
use Rattle.xpath_grammar.specs.declared.operators.CastWord.{CastWord}
use Rattle.xpath_grammar.specs.declared.operators.Binder.{Binder}
use Rattle.xpath_grammar.specs.Grammar as g
use Rattle.xpath_grammar.specs.Grammar.{Tree, Parts, rank_of, rank_of_cast}

-- The symbols. Between `single` and `castable` stand those of the operators, as `rank_of` says: Or, And, Comparison, Range, Sum,
-- Product, Union, Intersection.
abbrev pub expr : ℕ
expr = 1

abbrev pub single : ℕ
single = 2

abbrev pub unary : ℕ
unary = 13

abbrev pub path : ℕ
path = 14

abbrev pub step : ℕ
step = 15

-- a primary expression, or a step without predicates
abbrev pub primary : ℕ
primary = 16

mutual
  -- The tokens are the symbol, and so the expression.
  pub data Is : ℕ → List Token → Tree → Type 0 where
    as_is : (loose tight : ℕ) (a : List Token) (x : Tree) → loose ≤ tight → Is tight a x → Is loose a x
    -- Primary ::= Literal | Number | "$" Name | "(" Expr? ")" | "." | Name "(" (Single ("," Single)*)? ")"
    a_literal : (s : List ℕ) → Is primary (t.Literal s ∷ []) (g.leaf (g.literal s))
    a_number : (n : Number) → Is primary (t.Number n ∷ []) (g.leaf (g.number n))
    a_variable : (name : Name) → IsTrue (g.is_full name) → Is primary (t.Dollar ∷ t.Name name ∷ []) (g.leaf (g.variable name))
    nothing : Is primary (t.LeftParenthesis ∷ t.RightParenthesis ∷ []) (g.leaf g.empty)
    in_parentheses : (a : List Token) (x : Tree) → Is expr a x →
        Is primary (t.LeftParenthesis ∷ (a ++ t.RightParenthesis ∷ [])) (g.node g.parens (g.more g.opened x g.none))
    the_context : Is primary (t.Dot ∷ []) (g.leaf g.context)
    a_call_of_none : (name : Name) → IsTrue (g.is_function name) →
        Is primary (t.Name name ∷ t.LeftParenthesis ∷ t.RightParenthesis ∷ []) (g.leaf (g.called name))
    a_call : (name : Name) (a b : List Token) (x : Tree) (xs : Parts) → IsTrue (g.is_function name) → Is single a x → Arguments b xs
        → Is primary (t.Name name ∷ t.LeftParenthesis ∷ (a ++ (b ++ t.RightParenthesis ∷ []))) (g.node g.call (g.more (g.calling name) x xs))
    -- Step ::= Primary Predicate* | Axis? Test Predicate* | ".." Predicate*
    a_step : (axis : AxisForm) (test : Test) → Is primary (g.axis_tokens axis ++ g.test_tokens test) (g.leaf (g.step axis test))
    the_parent : Is primary (t.DoubleDot ∷ []) (g.leaf g.parent)
    filtered : (a b c : List Token) (x y : Tree) (xs : Parts) → Is primary a x → Is expr b y → Predicates c xs
        → Is step (a ++ (t.LeftBracket ∷ (b ++ (t.RightBracket ∷ c)))) (g.node g.filter (g.more g.first x (g.more g.predicate y xs)))
    -- Path ::= "/" Relative? | "//" Relative | Relative
    the_root : Is path (t.Operator o.Slash ∷ []) (g.leaf g.root)
    from_root : (operator : Operator) (a b : List Token) (x : Tree) (xs : Parts) → g.production_of operator ≡ Some p.Path → Is step a x → Operands p.Path b xs
        → Is path (t.Operator operator ∷ (a ++ b)) (g.node (g.chain p.Path) (g.more (g.link operator) x xs))
    -- Unary ::= ("+" | "-")* Path
    with_signs : (sign : Operator) (signs : List Operator) (a : List Token) (x : Tree) → IsTrue (list_all g.is_sign (sign ∷ signs)) → Is path a x
        → Is unary (map t.Operator (sign ∷ signs) ++ a) (g.node g.signs (g.more (g.signed (sign ∷ signs)) x g.none))
    -- Cast ::= Unary ("cast" "as" Type "?"?)?, and likewise Castable over Cast
    a_cast : (word : CastWord) (type : Name) (optional : Bool) (a : List Token) (x : Tree) → IsTrue (g.is_full type) → Is (suc (rank_of_cast word)) a x
        → Is (rank_of_cast word) (a ++ (t.Operator (g.cast_operator word) ∷ t.Operator o.As ∷ t.Name type ∷ g.question optional))
        (g.node (g.cast word type optional) (g.more g.first x g.none))
    -- Expr ::= Single ("," Single)*, and likewise Or ::= And ("or" And)*, And, Sum, Product, Union, Intersection, and the relative
    -- path over steps; Comparison and Range with one operator at most
    a_chain : (production : Production) (label : g.Label) (a b c : List Token) (x y : Tree) (xs : Parts) → Is (suc (rank_of production)) a x →
        IsTrue (g.joins production label)
        → Is (suc (rank_of production)) b y → Operands production c xs → (IsTrue (g.is_single production) → xs ≡ g.none)
        → Is (rank_of production) (a ++ (g.label_tokens label ++ (b ++ c))) (g.node (g.chain production) (g.more g.first x (g.more label y xs)))
    -- Single ::= ("for" | "some" | "every") Binding ("," Binding)* ("return" | "satisfies") Single
    --          | "if" "(" Expr ")" "then" Single "else" Single | Or
    binds : (binder : Binder) (name : Name) (a b : List Token) (x : Tree) (xs : Parts) → IsTrue (g.is_full name) → Is single a x → Bindings binder b xs
        → Is single (t.Keyword (g.binder_keyword binder) ∷ t.Dollar ∷ t.Name name ∷ t.Operator o.In ∷ (a ++ b))
        (g.node (g.bound binder) (g.more (g.binding (Some binder) name) x xs))
    decides : (a b c : List Token) (x y z : Tree) → Is expr a x → Is single b y → Is single c z
        → Is single (t.Keyword k.If ∷ t.LeftParenthesis ∷ (a ++ (t.RightParenthesis ∷ t.Operator o.Then ∷ (b ++ (t.Operator o.Else ∷ c)))))
        (g.node g.conditional (g.more g.condition x (g.more g.then_ y (g.more (g.link o.Else) z g.none))))

  -- the operators of a production and their operands, behind the first operand
  pub data Operands : Production → List Token → Parts → Type 0 where
    no_operands : (production : Production) → Operands production [] g.none
    an_operand : (production : Production) (label : g.Label) (a b : List Token) (x : Tree) (xs : Parts) → IsTrue (g.joins production label) →
        Is (suc (rank_of production)) a x → Operands production b xs
        → Operands production (g.label_tokens label ++ (a ++ b)) (g.more label x xs)

  -- ("," Single)*
  pub data Arguments : List Token → Parts → Type 0 where
    no_arguments : Arguments [] g.none
    an_argument : (a b : List Token) (x : Tree) (xs : Parts) → Is single a x → Arguments b xs → Arguments (t.Comma ∷ (a ++ b)) (g.more g.comma x xs)

  -- ("[" Expr "]")* behind the first predicate
  pub data Predicates : List Token → Parts → Type 0 where
    no_predicates : Predicates [] g.none
    a_predicate : (a b : List Token) (x : Tree) (xs : Parts) → Is expr a x → Predicates b xs →
        Predicates (t.LeftBracket ∷ (a ++ (t.RightBracket ∷ b))) (g.more g.again x xs)

  -- ("," "$" Name "in" Single)* and then the word and the expression that the variables are for
  pub data Bindings : Binder → List Token → Parts → Type 0 where
    the_body : (binder : Binder) (word : Operator) (a : List Token) (x : Tree) → IsTrue (g.is_body_word binder word) → Is single a x →
        Bindings binder (t.Operator word ∷ a) (g.more (g.link word) x g.none)
    a_binding : (binder : Binder) (name : Name) (a b : List Token) (x : Tree) (xs : Parts) → IsTrue (g.is_full name) → Is single a x → Bindings binder b xs
        → Bindings binder (t.Comma ∷ t.Dollar ∷ t.Name name ∷ t.Operator o.In ∷ (a ++ b)) (g.more (g.binding None name) x xs)
