-- What the machine does with the tokens that lead to a part, and with those behind the last part.
use Rattle.std.proofs.Common.{◌≡◌, Bool, true, false, ◌≤◌, List, [], ◌∷◌, ◌++◌, Option, Some, None, IsTrue, refl, sym, ap, ◌∙◌, arith, lit≤, map, append_assoc}
use Rattle.std.proofs.Common.{append-nil, is_none}
use Rattle.std.proofs.lemmas.Bool.{and_parts, false≢true}
use Rattle.std.specs.List.{list_all}
use Rattle.xpath_tokens.specs.declared.token.Operator.{Operator}
use Rattle.xpath_tokens.specs.declared.token.Operator.TheVariants as o
use Rattle.xpath_tokens.specs.declared.token.Name.{Name}
use Rattle.xpath_tokens.specs.declared.token.Name.TheVariants as n
use Rattle.xpath_tokens.specs.declared.token.Token.{Token}
use Rattle.xpath_tokens.specs.declared.token.Token.TheVariants as t
use Rattle.xpath_grammar.specs.declared.step.AxisForm.{AxisForm}
use Rattle.xpath_grammar.specs.declared.step.AxisForm.TheVariants as w
use Rattle.xpath_grammar.specs.declared.step.KindTest.{KindTest}
use Rattle.xpath_grammar.specs.declared.step.KindTest.TheVariants as q
use Rattle.xpath_grammar.specs.declared.step.Axis.{Axis}
use Rattle.xpath_grammar.specs.declared.step.Axis.TheVariants as a
use Rattle.xpath_grammar.specs.declared.step.Test.{Test}
use Rattle.xpath_grammar.specs.declared.step.Test.TheVariants as e
use Rattle.xpath_grammar.specs.declared.operators.Production.TheVariants as p
use Rattle.xpath_grammar.specs.declared.operators.CastWord.TheVariants as c
use Rattle.xpath_grammar.specs.declared.operators.Binder.{Binder}
use Rattle.xpath_grammar.specs.declared.operators.Binder.TheVariants as b
use Rattle.xpath_grammar.specs.Grammar as g
use Rattle.xpath_grammar.specs.Grammar.{Leaf, Form, Label, Tree, Parts}
use Rattle.xpath_grammar.specs.Machine as m
use Rattle.xpath_grammar.specs.Machine.{Frame, Mode, State, open_, trees, at}
use Rattle.xpath_grammar.proofs.Facts.{rank_below_path}
use Rattle.xpath_grammar.proofs.Closing.{Stack, S, has_place, Ends, ends_have, ends_named, ends_named_on, ends_slash}

-- Running

abbrev pub run_from : List Token → Option S → Option Tree
run_from tokens found = elim found [ None ↦ None | Some next ↦ m.run trees tokens next ]

pub run-step : (token : Token) (tokens : List Token) (s : S) (next : Option S) → m.step trees token s ≡ next →
    m.run trees (token ∷ tokens) s ≡ run_from tokens next
unfolding m.run
run-step token tokens s next e = ap (run_from tokens) e

-- behind the tokens in front, the machine stands in a state behind the expression
pub record Reaches (tokens : List Token) (from : S) (rest : List Token) (x : Tree) (st : Stack) : Type 0 where
  pub state : S
  pub runs : m.run trees tokens from ≡ m.run trees rest state
  pub ends : Ends state x st

pub reaches_after : {tokens middle rest : List Token} {from between : S} {x : Tree} {st : Stack} → m.run trees tokens from ≡ m.run trees middle between
    → Reaches middle between rest x st → Reaches tokens from rest x st
reaches_after e r = record { state = r.state; runs = e ∙ r.runs; ends = r.ends }

pub given-is : {X : Type 0} (b : Bool) (x : X) → b ≡ true → m.given b x ≡ Some x
given-is b x e = ap (λ t. m.given t x) e

-- The first token of a step

pub record Begins (x : Tree) : Type 0 where
  pub token : Token
  pub rest : List Token
  pub text : g.written x ≡ token ∷ rest
  pub step : m.begins_step token ≡ true

first_leaf : (x : Leaf) → 16 ≤ g.rank_of_leaf x → Begins (g.leaf x)
unfolding g.written
first_leaf (g.literal s) h = record { token = t.Literal s; rest = []; text = refl; step = refl }
first_leaf (g.number x) h = record { token = t.Number x; rest = []; text = refl; step = refl }
first_leaf (g.variable name) h = record { token = t.Dollar; rest = t.Name name ∷ []; text = refl; step = refl }
first_leaf g.context h = record { token = t.Dot; rest = []; text = refl; step = refl }
first_leaf g.parent h = record { token = t.DoubleDot; rest = []; text = refl; step = refl }
first_leaf g.empty h = record { token = t.LeftParenthesis; rest = t.RightParenthesis ∷ []; text = refl; step = refl }
first_leaf g.root h = absurd (omega (arith, h))
first_leaf (g.called name) h = record { token = t.Name name; rest = t.LeftParenthesis ∷ t.RightParenthesis ∷ []; text = refl; step = refl }
first_leaf (g.step w.Unwritten (e.Name name)) h = record { token = t.Name name; rest = []; text = refl; step = refl }
first_leaf (g.step w.Unwritten e.Star) h = record { token = t.Star; rest = []; text = refl; step = refl }
first_leaf (g.step w.Unwritten (e.Kind kind)) h = record {
  token = t.Name (n.Plain (g.kind_word kind));
  rest = t.LeftParenthesis ∷ t.RightParenthesis ∷ [];
  text = refl;
  step = refl;
}
first_leaf (g.step w.At x) h = record { token = t.At; rest = g.test_tokens x; text = refl; step = refl }
first_leaf (g.step (w.Written axis) x) h = record {
  token = t.Name (n.Plain (g.axis_word axis));
  rest = t.DoubleColon ∷ g.test_tokens x;
  text = refl;
  step =
      refl;
}

first_primary : (x : Tree) → 16 ≤ g.rank x → g.Grammatical x → Begins x
unfolding g.written g.Grammatical
first_primary (g.leaf x) h ok = first_leaf x h
first_primary (g.node (g.chain production) parts) h ok = absurd (let l : g.rank_of production ≤ 14 = rank_below_path production in omega arith)
first_primary (g.node (g.bound binder) parts) h ok = absurd (omega (arith, h))
first_primary (g.node g.conditional parts) h ok = absurd (omega (arith, h))
first_primary (g.node (g.cast c.Cast type optional) parts) h ok = absurd (omega (arith, h))
first_primary (g.node (g.cast c.Castable type optional) parts) h ok = absurd (omega (arith, h))
first_primary (g.node g.signs parts) h ok = absurd (omega (arith, h))
first_primary (g.node g.filter parts) h ok = absurd (omega (arith, h))
first_primary (g.node g.parens g.none) h ok = absurd (false≢true ok)
first_primary (g.node g.parens (g.more g.opened x parts)) h ok =
    record { token = t.LeftParenthesis; rest = (g.written x ++ g.parts_written parts) ++ t.RightParenthesis ∷ []; text = refl; step = refl }
first_primary (g.node g.parens (g.more _ x parts)) h ok = absurd (false≢true ok.0)
first_primary (g.node g.call g.none) h ok = absurd (false≢true ok)
first_primary (g.node g.call (g.more (g.calling name) x parts)) h ok =
    record { token = t.Name name; rest = t.LeftParenthesis ∷ ((g.written x ++ g.parts_written parts) ++ t.RightParenthesis ∷ []); text = refl; step = refl }
first_primary (g.node g.call (g.more _ x parts)) h ok = absurd (false≢true ok.0)

pub first_step : (x : Tree) → 15 ≤ g.rank x → g.Grammatical x → Begins x
unfolding g.written g.Grammatical
first_step (g.leaf g.root) h ok = absurd (omega (arith, h))
first_step (g.leaf x) h ok = first_primary (g.leaf x) (lit≤ tt) ok
first_step (g.node (g.chain production) parts) h ok = absurd (let l : g.rank_of production ≤ 14 = rank_below_path production in omega arith)
first_step (g.node (g.bound binder) parts) h ok = absurd (omega (arith, h))
first_step (g.node g.conditional parts) h ok = absurd (omega (arith, h))
first_step (g.node (g.cast c.Cast type optional) parts) h ok = absurd (omega (arith, h))
first_step (g.node (g.cast c.Castable type optional) parts) h ok = absurd (omega (arith, h))
first_step (g.node g.signs parts) h ok = absurd (omega (arith, h))
first_step (g.node g.filter g.none) h ok = absurd (false≢true ok)
first_step (g.node g.filter (g.more g.first x parts)) h ok = let found : Begins x = first_primary x ok.1 ok.2 in
    record {
      token = found.token;
      rest = (found.rest ++ g.parts_written parts) ++ t.RightBracket ∷ [];
      text =
          ap (λ l. (l ++ g.parts_written parts) ++ t.RightBracket ∷ []) found.text;
      step = found.step;
    }
first_step (g.node g.filter (g.more _ x parts)) h ok = absurd (false≢true ok.0)
first_step (g.node g.parens parts) h ok = first_primary (g.node g.parens parts) (lit≤ tt) ok
first_step (g.node g.call parts) h ok = first_primary (g.node g.call parts) (lit≤ tt) ok

-- Leaves

kind_found : (x : KindTest) → g.kind_of (n.Plain (g.kind_word x)) ≡ Some x
kind_found q.Node = refl
kind_found q.Text = refl
kind_found q.Element = refl
kind_found q.Attribute = refl
kind_found q.DocumentNode = refl

axis_found : (x : Axis) → g.axis_of (n.Plain (g.axis_word x)) ≡ Some x
axis_found a.Child = refl
axis_found a.Descendant = refl
axis_found a.DescendantOrSelf = refl
axis_found a.Itself = refl
axis_found a.Attribute = refl
axis_found a.Parent = refl
axis_found a.Ancestor = refl
axis_found a.AncestorOrSelf = refl
axis_found a.FollowingSibling = refl
axis_found a.PrecedingSibling = refl
axis_found a.Following = refl
axis_found a.Preceding = refl

no_value : {X : Type 0} (found : Option X) → is_none found ≡ true → found ≡ None
no_value None h = refl
no_value (Some x) h = absurd (false≢true h)

had : (x : Leaf) (st : Stack) → g.rank_of_leaf x ≡ 16 → Ends (at (m.have (g.leaf x)) st) (g.leaf x) st
had x st h = ends_have (g.leaf x) st h

-- a call opens
pub calls : (name : Name) (st : Stack) (rest : List Token) → g.is_function name ≡ true
    → m.run trees (t.Name name ∷ t.LeftParenthesis ∷ rest) (at m.want st) ≡ m.run trees rest (m.opening trees g.call g.none (g.calling name) st)
unfolding m.run
calls name st rest ok = ap (λ found. run_from rest (m.call_or_kind trees found name st)) (no_value (g.kind_of name) (and_parts _ _ ok).1) ∙
    ap (run_from rest) (given-is (g.is_full name) _ (and_parts _ _ ok).0)

on_axis : (form : AxisForm) (x : Test) (st : Stack) (rest : List Token) →
    Reaches (g.test_tokens x ++ rest) (at (m.on_axis form) st) rest (g.leaf (g.step form x)) st
unfolding m.run
on_axis form (e.Name name) st rest = record { state = at (m.named_on form name) st; runs = refl; ends = ends_named_on form name st }
on_axis form e.Star st rest = record { state = at (m.have (g.leaf (g.step form e.Star))) st; runs = refl; ends = had (g.step form e.Star) st refl }
on_axis form (e.Kind x) st rest = record {
  state = at (m.have (g.leaf (g.step form (e.Kind x)))) st;
  runs = ap (λ found. run_from (t.RightParenthesis ∷ rest) (m.kind_on trees found form st)) (kind_found x);
  ends = had (g.step form (e.Kind x)) st refl;
}

pub reaches_leaf : (x : Leaf) (st : Stack) (rest : List Token) → IsTrue (g.fits x) → m.place st ≤ g.rank_of_leaf x →
    Reaches (g.leaf_tokens x ++ rest) (at m.want st) rest (g.leaf x) st
unfolding m.run
reaches_leaf (g.literal s) st rest ok h = record { state = at (m.have (g.leaf (g.literal s))) st; runs = refl; ends = had (g.literal s) st refl }
reaches_leaf (g.number x) st rest ok h = record { state = at (m.have (g.leaf (g.number x))) st; runs = refl; ends = had (g.number x) st refl }
reaches_leaf (g.variable name) st rest ok h = record {
  state = at (m.have (g.leaf (g.variable name))) st;
  runs =
      ap (run_from rest) (given-is (g.is_full name) _ ok);
  ends = had (g.variable name) st refl;
}
reaches_leaf g.context st rest ok h = record { state = at (m.have (g.leaf g.context)) st; runs = refl; ends = had g.context st refl }
reaches_leaf g.parent st rest ok h = record { state = at (m.have (g.leaf g.parent)) st; runs = refl; ends = had g.parent st refl }
reaches_leaf g.empty st rest ok h = record { state = at (m.have (g.leaf g.empty)) st; runs = refl; ends = had g.empty st refl }
reaches_leaf g.root st rest ok h = record {
  state = at m.slash st;
  runs = ap (run_from rest) (given-is (m.has_place 14 st) _ (has_place 14 st h));
  ends =
      ends_slash st;
}
reaches_leaf (g.called name) st rest ok h = record {
  state = at (m.have (g.leaf (g.called name))) st;
  runs = calls name st (t.RightParenthesis ∷ rest) ok;
  ends = had (g.called name) st refl;
}
reaches_leaf (g.step w.Unwritten (e.Name name)) st rest ok h = record { state = at (m.named name) st; runs = refl; ends = ends_named name st }
reaches_leaf (g.step w.Unwritten e.Star) st rest ok h = record {
  state = at (m.have (g.leaf (g.step w.Unwritten e.Star))) st;
  runs = refl;
  ends =
      had (g.step w.Unwritten e.Star) st refl;
}
reaches_leaf (g.step w.Unwritten (e.Kind x)) st rest ok h = record {
  state = at (m.have (g.leaf (g.step w.Unwritten (e.Kind x)))) st;
  runs = ap (λ found. run_from (t.RightParenthesis ∷ rest) (m.call_or_kind trees found (n.Plain (g.kind_word x)) st)) (kind_found x);
  ends = had (g.step w.Unwritten (e.Kind x)) st refl;
}
reaches_leaf (g.step w.At x) st rest ok h = reaches_after refl (on_axis w.At x st rest)
reaches_leaf (g.step (w.Written axis) x) st rest ok h = reaches_after
    (ap (λ found. run_from (g.test_tokens x ++ rest) (m.axis_named trees found st)) (axis_found axis)) (on_axis (w.Written axis) x st rest)

-- The tokens before the first part

-- no cast, and no first operand of predicates
abbrev pub is_frame : Form → Label → Bool
is_frame (g.cast word type optional) label = false
is_frame g.filter label = m.in_predicate g.filter label
is_frame _ _ = true

-- how a form begins: with a part, or with tokens that open a frame
pub data Starts (form : Form) (label : Label) (st : Stack) : Type 0 where
  with_part : label ≡ g.first → Starts form label st
  with_tokens : is_frame form label ≡ true → ((x : Tree) (rest : List Token) → g.place form label ≤ g.rank x → g.Grammatical x
      → m.run trees (g.label_tokens label ++ (g.written x ++ rest)) (at m.want st) ≡ m.run trees (g.written x ++ rest) (m.opening trees form g.none label st))
      → Starts form label st

slash_leads : (x : Tree) (st : Stack) (rest : List Token) → Begins x
    → m.run trees (g.written x ++ rest) (at m.slash st) ≡ m.run trees (g.written x ++ rest) (m.opening trees (g.chain p.Path) g.none (g.link o.Slash) st)
unfolding m.run
slash_leads x st rest found = ap (λ l. m.run trees (l ++ rest) (at m.slash st)) found.text
    ∙ ap (λ b. run_from (found.rest ++ rest) (m.behind_slash trees b found.token st)) found.step
    ∙ sym (ap (λ l. m.run trees (l ++ rest) (m.opening trees (g.chain p.Path) g.none (g.link o.Slash) st)) found.text)

same_binder : (x y : Binder) → g.is_same_binder x y ≡ true → x ≡ y
same_binder b.For b.For h = refl
same_binder b.Some b.Some h = refl
same_binder b.Every b.Every h = refl
same_binder _ _ h = absurd (false≢true h)

keyword_found : (x : Binder) → m.binder_of (g.binder_keyword x) ≡ Some x
keyword_found b.For = refl
keyword_found b.Some = refl
keyword_found b.Every = refl

-- behind `for` or a comma
pub binds : (binder : Binder) (lead : Option Binder) (parts : Parts) (name : Name) (st : Stack) (rest : List Token) → g.is_full name ≡ true
    → m.run trees (t.Dollar ∷ t.Name name ∷ t.Operator o.In ∷ rest) (at (m.bind binder lead parts) st) ≡ m.run trees rest
    (m.opening trees (g.bound binder) parts (g.binding lead name) st)
unfolding m.run
binds binder lead parts name st rest ok = ap (run_from (t.Operator o.In ∷ rest)) (given-is (g.is_full name) _ ok)

starts_bound : (binder word : Binder) (name : Name) (st : Stack) (rest : List Token) → binder ≡ word → g.is_full name ≡ true → m.place st ≤ 2
    → m.run trees (t.Keyword (g.binder_keyword word) ∷ t.Dollar ∷ t.Name name ∷ t.Operator o.In ∷ rest) (at m.want st)
    ≡ m.run trees rest (m.opening trees (g.bound binder) g.none (g.binding (Some word) name) st)
unfolding m.run
starts_bound binder word name st rest same ok h = ap (λ found. run_from (t.Dollar ∷ t.Name name ∷ t.Operator o.In ∷ rest) (m.keyword_wanted trees found st))
    (keyword_found word)
    ∙ ap (run_from (t.Dollar ∷ t.Name name ∷ t.Operator o.In ∷ rest)) (given-is (m.has_place 2 st) _ (has_place 2 st h))
    ∙ binds word (Some word) g.none name st rest ok
    ∙ ap (λ x. m.run trees rest (m.opening trees (g.bound x) g.none (g.binding (Some word) name) st)) (sym same)

signs_go_on : (done more : List Operator) (st : Stack) (rest : List Token) → list_all g.is_sign more ≡ true
    → m.run trees (map t.Operator more ++ rest) (m.opening trees g.signs g.none (g.signed done) st) ≡ m.run trees rest
    (m.opening trees g.signs g.none (g.signed (done ++ more)) st)
unfolding m.run
signs_go_on done [] st rest h = ap (λ l. m.run trees rest (m.opening trees g.signs g.none (g.signed l) st)) (sym (append-nil done))
signs_go_on done (o.Plus ∷ more) st rest h = signs_go_on (done ++ o.Plus ∷ []) more st rest h ∙
    ap (λ l. m.run trees rest (m.opening trees g.signs g.none (g.signed l) st)) (append_assoc done (o.Plus ∷ []) more)
signs_go_on done (o.Minus ∷ more) st rest h = signs_go_on (done ++ o.Minus ∷ []) more st rest h ∙
    ap (λ l. m.run trees rest (m.opening trees g.signs g.none (g.signed l) st)) (append_assoc done (o.Minus ∷ []) more)
signs_go_on done (_ ∷ more) st rest h = absurd (false≢true h)

no_signs : (operator : Operator) (st : Stack) → m.place st ≤ 13 → m.sign trees operator st ≡ Some (m.opening trees g.signs g.none (g.signed (operator ∷ [])) st)
no_signs operator [] h = given-is (m.has_place {L = Parts} 13 []) _ (has_place 13 [] h)
no_signs operator (open_ g.signs parts label ∷ st) h = absurd (omega (arith, h))
no_signs operator (open_ form parts label ∷ st) h = given-is (m.has_place 13 (open_ form parts label ∷ st)) _ (has_place 13 (open_ form parts label ∷ st) h)

starts_signs : (operator : Operator) (more : List Operator) (st : Stack) (rest : List Token) → list_all g.is_sign (operator ∷ more) ≡ true → m.place st ≤ 13
    → m.run trees (t.Operator operator ∷ (map t.Operator more ++ rest)) (at m.want st) ≡ m.run trees rest
    (m.opening trees g.signs g.none (g.signed (operator ∷ more)) st)
unfolding m.run
starts_signs o.Plus more st rest ok h = ap (run_from (map t.Operator more ++ rest)) (no_signs o.Plus st h) ∙ signs_go_on (o.Plus ∷ []) more st rest ok
starts_signs o.Minus more st rest ok h = ap (run_from (map t.Operator more ++ rest)) (no_signs o.Minus st h) ∙ signs_go_on (o.Minus ∷ []) more st rest ok
starts_signs _ more st rest ok h = absurd (false≢true ok)

pub starts : (form : Form) (label : Label) (st : Stack) → g.begins form label ≡ true → m.place st ≤ g.rank_of_form form → Starts form label st
unfolding m.run
starts (g.chain production) g.first st h l = with_part refl
starts (g.chain p.Path) (g.link o.Slash) st h l = with_tokens refl
    (λ x rest tight ok. ap (run_from (g.written x ++ rest)) (given-is (m.has_place 14 st) _ (has_place 14 st l)) ∙
    slash_leads x st rest (first_step x tight ok))
starts (g.chain p.Path) (g.link o.DoubleSlash) st h l =
    with_tokens refl (λ x rest tight ok. ap (run_from (g.written x ++ rest)) (given-is (m.has_place 14 st) _ (has_place 14 st l)))
starts (g.chain p.Path) (g.link _) st h l = absurd (false≢true h)
starts (g.chain _) _ st h l = absurd (false≢true h)
starts (g.bound binder) (g.binding (Some word) name) st h l =
    with_tokens refl (λ x rest tight ok. starts_bound binder word name st (g.written x ++ rest) (same_binder binder word (and_parts _ _ h).0)
    (and_parts _ _ h).1 l)
starts (g.bound binder) _ st h l = absurd (false≢true h)
starts g.conditional g.condition st h l = with_tokens refl
    (λ x rest tight ok. ap (run_from (t.LeftParenthesis ∷ (g.written x ++ rest))) (given-is (m.has_place 2 st) _ (has_place 2 st l)))
starts g.conditional _ st h l = absurd (false≢true h)
starts (g.cast word type optional) g.first st h l = with_part refl
starts (g.cast word type optional) _ st h l = absurd (false≢true h)
starts g.signs (g.signed (operator ∷ more)) st h l = with_tokens refl (λ x rest tight ok. starts_signs operator more st (g.written x ++ rest) h l)
starts g.signs _ st h l = absurd (false≢true h)
starts g.filter g.first st h l = with_part refl
starts g.filter _ st h l = absurd (false≢true h)
starts g.parens g.opened st h l = with_tokens refl (λ x rest tight ok. refl)
starts g.parens _ st h l = absurd (false≢true h)
starts g.call (g.calling name) st h l = with_tokens refl (λ x rest tight ok. calls name st (g.written x ++ rest) h)
starts g.call _ st h l = absurd (false≢true h)
