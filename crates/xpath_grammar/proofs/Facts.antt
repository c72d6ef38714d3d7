-- Small facts of tests, ranks and places.
use Rattle.std.proofs.Common.{◌≡◌, ℕ, suc, Bool, true, false, ◌&&◌, ◌≤◌, ◌++◌, Option, Some, None, IsTrue, nat_eq, nat_lt, refl, sym, ap, ◌∙◌, subst, arith}
use Rattle.std.proofs.Common.{le-ltb, lit≤, append_assoc}
use Rattle.std.proofs.lemmas.Bool.{and_parts, and_left, and_right, false≢true}
use Rattle.xpath_tokens.specs.declared.token.Operator.{Operator}
use Rattle.xpath_tokens.specs.declared.token.Operator.TheVariants as o
use Rattle.xpath_grammar.specs.declared.operators.Production.{Production}
use Rattle.xpath_grammar.specs.declared.operators.Production.TheVariants as p
use Rattle.xpath_grammar.specs.declared.operators.CastWord.TheVariants as c
use Rattle.xpath_grammar.specs.declared.operators.Binder.{Binder}
use Rattle.xpath_grammar.specs.declared.operators.Binder.TheVariants as b
use Rattle.xpath_grammar.specs.Grammar as g
use Rattle.xpath_grammar.specs.Grammar.{Leaf, Form, Label, Tree, Parts}
use Rattle.xpath_grammar.specs.Machine as m
use Rattle.xpath_grammar.specs.Machine.{Frame, Mode, State, open_}

-- ranks

pub same_production : (x y : Production) → IsTrue (nat_eq (g.rank_of x) (g.rank_of y)) → x ≡ y
same_production p.Sequence p.Sequence h = refl
same_production p.Or p.Or h = refl
same_production p.And p.And h = refl
same_production p.Comparison p.Comparison h = refl
same_production p.Range p.Range h = refl
same_production p.Sum p.Sum h = refl
same_production p.Product p.Product h = refl
same_production p.Union p.Union h = refl
same_production p.Intersection p.Intersection h = refl
same_production p.Path p.Path h = refl
same_production _ _ h = absurd (false≢true h)

pub rank_below_path : (x : Production) → g.rank_of x ≤ 14
rank_below_path p.Sequence = lit≤ tt
rank_below_path p.Or = lit≤ tt
rank_below_path _ = lit≤ tt

pub rank_pos : (x : Tree) → 1 ≤ g.rank x
rank_pos (g.leaf g.root) = lit≤ tt
rank_pos (g.leaf _) = lit≤ tt
rank_pos (g.node (g.chain p.Sequence) parts) = lit≤ tt
rank_pos (g.node (g.chain p.Or) parts) = lit≤ tt
rank_pos (g.node (g.chain _) parts) = lit≤ tt
rank_pos (g.node (g.cast c.Cast type optional) parts) = lit≤ tt
rank_pos (g.node (g.cast _ type optional) parts) = lit≤ tt
rank_pos (g.node _ parts) = lit≤ tt

pub rank_most : (x : Tree) → g.rank x ≤ 16
rank_most (g.leaf g.root) = lit≤ tt
rank_most (g.leaf _) = lit≤ tt
rank_most (g.node (g.chain p.Sequence) parts) = lit≤ tt
rank_most (g.node (g.chain p.Or) parts) = lit≤ tt
rank_most (g.node (g.chain _) parts) = lit≤ tt
rank_most (g.node (g.cast c.Cast type optional) parts) = lit≤ tt
rank_most (g.node (g.cast _ type optional) parts) = lit≤ tt
rank_most (g.node _ parts) = lit≤ tt

-- lists

pub append_parts : (xs ys zs : Parts) → m.append (m.append xs ys) zs ≡ m.append xs (m.append ys zs)
unfolding m.append
append_parts g.none ys zs = refl
append_parts (g.more label x xs) ys zs = ap (g.more label x) (append_parts xs ys zs)

pub push_parts : (xs : Parts) (label : Label) (x : Tree) (zs : Parts) → m.append (m.append xs (g.more label x g.none)) zs ≡ m.append xs (g.more label x zs)
unfolding m.append
push_parts xs label x zs = append_parts xs (g.more label x g.none) zs

pub written_append : (xs ys : Parts) → g.parts_written (m.append xs ys) ≡ g.parts_written xs ++ g.parts_written ys
unfolding m.append g.written
written_append g.none ys = refl
written_append (g.more label x xs) ys = ap (λ l. g.label_tokens label ++ (g.written x ++ l)) (written_append xs ys)
    ∙ sym (append_assoc (g.label_tokens label) (g.written x ++ g.parts_written xs) (g.parts_written ys) ∙
    ap (λ l. g.label_tokens label ++ l) (append_assoc (g.written x) (g.parts_written xs) (g.parts_written ys)))

-- what closes and what stays

pub not_closed : (rank : ℕ) (form : Form) (label : Label) → g.rank_of_form form ≤ rank → m.is_closed rank form label ≡ false
not_closed rank form label h = and_right (m.is_open_ended form && g.ends form label) (nat_lt rank (g.rank_of_form form)) (le-ltb rank (g.rank_of_form form) h)

-- a frame whose part must have at least the rank ends by nothing of that rank
pub stays_at_place : (rank : ℕ) (form : Form) (label : Label) → g.place form label ≤ rank → m.is_closed rank form label ≡ false
stays_at_place rank (g.chain production) label h = not_closed rank (g.chain production) label (omega arith)
stays_at_place rank (g.bound binder) label h = not_closed rank (g.bound binder) label h
stays_at_place rank g.conditional g.condition h = refl
stays_at_place rank g.conditional g.first h = refl
stays_at_place rank g.conditional label h = not_closed rank g.conditional label h
stays_at_place rank (g.cast word type optional) label h = refl
stays_at_place rank g.signs label h = not_closed rank g.signs label (omega arith)
stays_at_place rank g.filter label h = refl
stays_at_place rank g.parens label h = refl
stays_at_place rank g.call label h = refl

pub joins_rank : (production : Production) (found : Option Production) (other : Production) → found ≡ Some other → IsTrue (g.is_production production found) →
    production ≡ other
joins_rank production None other e h = absurd (false≢true h)
joins_rank production (Some x) other e h = same_production production x h ∙ some_inner e where
  some_inner : Some x ≡ Some other → x ≡ other
  some_inner e = cc

-- what goes on a frame doesn't end it
pub stays_going_on : (form : Form) (before label : Label) (strength : ℕ) → IsTrue (g.goes_on form before label)
    → ((production : Production) → g.joins production label ≡ true → strength ≡ g.rank_of production) → m.is_closed strength form before ≡ false
stays_going_on (g.chain production) before label strength h same =
    not_closed strength (g.chain production) before (let e : strength ≡ g.rank_of production = same production (and_parts _ _ h).0 in omega arith)
stays_going_on (g.bound binder) (g.binding lead name) label strength h same = refl
stays_going_on (g.bound binder) g.first label strength h same = refl
stays_going_on (g.bound binder) _ label strength h same = absurd (false≢true h)
stays_going_on g.conditional g.condition label strength h same = refl
stays_going_on g.conditional g.then_ label strength h same = refl
stays_going_on g.conditional _ label strength h same = absurd (false≢true h)
stays_going_on (g.cast word type optional) before label strength h same = refl
stays_going_on g.signs before label strength h same = absurd (false≢true h)
stays_going_on g.filter before label strength h same = refl
stays_going_on g.parens before label strength h same = refl
stays_going_on g.call before label strength h same = refl

-- a frame whose part must bind at least as tightly as the production isn't gone on by the production's operators
pub not_gone_on : (form : Form) (before label : Label) (production : Production) → g.production_of_label label ≡ Some production →
    g.place form before ≤ g.rank_of production → g.goes_on form before label ≡ false
not_gone_on (g.chain x) before label production e h = and_left (g.joins x label) _ (other (g.joins x label) refl) where
  other : (t : Bool) → g.joins x label ≡ t → g.joins x label ≡ false
  other false q = q
  other true q = let s : x ≡ production = joins_rank x (g.production_of_label label) production e q in
      let l : suc (g.rank_of x) ≤ g.rank_of x = subst (λ y. suc (g.rank_of x) ≤ g.rank_of y) (sym s) h in absurd (omega arith)
not_gone_on (g.bound binder) (g.binding lead x) (g.link operator) production e h = not_body binder operator e where
  not_body : (binder : Binder) (operator : Operator) → g.production_of operator ≡ Some production → g.is_body_word binder operator ≡ false
  not_body b.For o.Return e = absurd cc
  not_body b.Some o.Satisfies e = absurd cc
  not_body b.Every o.Satisfies e = absurd cc
  not_body _ _ e = refl
not_gone_on (g.bound binder) (g.binding lead x) (g.binding None name) production e h = absurd cc
not_gone_on (g.bound binder) _ _ production e h = refl
not_gone_on g.conditional g.condition g.then_ production e h = absurd cc
not_gone_on g.conditional g.then_ (g.link operator) production e h = not_else operator e where
  not_else : (operator : Operator) → g.production_of operator ≡ Some production → g.is_else operator ≡ false
  not_else o.Else e = absurd cc
  not_else _ e = refl
not_gone_on g.conditional _ _ production e h = refl
not_gone_on (g.cast word type optional) before label production e h = refl
not_gone_on g.signs before label production e h = refl
not_gone_on g.filter g.first g.predicate production e h = absurd cc
not_gone_on g.filter g.predicate g.again production e h = absurd cc
not_gone_on g.filter g.again g.again production e h = absurd cc
not_gone_on g.filter _ _ production e h = refl
not_gone_on g.parens before label production e h = refl
not_gone_on g.call before g.comma production e h = let s : p.Sequence ≡ production = cc in let l : 2 ≤ 1 = subst (λ y. 2 ≤ g.rank_of y) (sym s) h in
    absurd (omega arith)
not_gone_on g.call before _ production e h = refl
