-- How values close what is open, and what tokens do to the states that stand behind an expression.
use Rattle.std.proofs.Common.{◌≡◌, ℕ, Bool, true, false, ◌≤◌, ◌<◌, List, [], ◌∷◌, Some, refl, sym, ap, ◌∙◌, arith, lt-ltb, le-leb}
use Rattle.std.proofs.lemmas.Bool.{and_from}
use Rattle.std.proofs.lemmas.Option.{none-some}
use Rattle.xpath_tokens.specs.declared.token.Name.{Name}
use Rattle.xpath_tokens.specs.declared.token.Token.{Token}
use Rattle.xpath_tokens.specs.declared.token.Token.TheVariants as t
use Rattle.xpath_grammar.specs.declared.step.AxisForm.{AxisForm}
use Rattle.xpath_grammar.specs.declared.step.AxisForm.TheVariants as w
use Rattle.xpath_grammar.specs.declared.step.Test.TheVariants as e
use Rattle.xpath_grammar.specs.declared.operators.CastWord.{CastWord}
use Rattle.xpath_grammar.specs.Grammar as g
use Rattle.xpath_grammar.specs.Grammar.{Leaf, Form, Label, Tree, Parts}
use Rattle.xpath_grammar.specs.Machine as m
use Rattle.xpath_grammar.specs.Machine.{Frame, Mode, State, open_, trees, at}
use Rattle.xpath_grammar.proofs.Facts.{stays_at_place}

abbrev pub Stack : Type 0
Stack = List (Frame Parts)

abbrev pub S : Type 0
S = State Tree Parts

-- the parts with one more
abbrev pub and_then : Parts → Label → Tree → Parts
and_then parts label x = m.append parts (g.more label x g.none)

close_if : ℕ → Tree → Form → Parts → Label → Stack → Bool → Tree × Stack
close_if rank v form parts label st closed = elim closed [
  | true ↦ m.close trees rank (g.node form (and_then parts label v)) st
  | false ↦ (v, open_ form parts label ∷ st)
]

pub close-goes : (rank : ℕ) (v : Tree) (form : Form) (parts : Parts) (label : Label) (st : Stack) → m.is_closed rank form label ≡ true
    → m.close trees rank v (open_ form parts label ∷ st) ≡ m.close trees rank (g.node form (and_then parts label v)) st
unfolding m.close close_if
close-goes rank v form parts label st e = ap (close_if rank v form parts label st) e

pub close-stays : (rank : ℕ) (v : Tree) (form : Form) (parts : Parts) (label : Label) (st : Stack) → m.is_closed rank form label ≡ false
    → m.close trees rank v (open_ form parts label ∷ st) ≡ (v, open_ form parts label ∷ st)
unfolding m.close close_if
close-stays rank v form parts label st e = ap (close_if rank v form parts label st) e

pub close-at_place : (rank : ℕ) (v : Tree) (st : Stack) → m.place st ≤ rank → m.close trees rank v st ≡ (v, st)
unfolding m.close
close-at_place rank v [] h = refl
close-at_place rank v (open_ form parts label ∷ st) h = close-stays rank v form parts label st (stays_at_place rank form label h)

pub close-empty : (x : Tree) → m.close trees 0 x [] ≡ (x, [])
unfolding m.close
close-empty x = refl

pub has_place : (rank : ℕ) (st : Stack) → m.place st ≤ rank → m.has_place rank st ≡ true
has_place rank st h = le-leb (m.place st) rank h

-- The state stands behind the expression on the stack: it does with each token what the whole expression would do.
pub record Ends (s : S) (x : Tree) (st : Stack) : Type 0 where
  pub rank : ℕ
  pub value : Tree
  pub stack : Stack
  pub token : (token : Token) (strength : ℕ) → m.strength_of token ≡ Some strength → m.step trees token s ≡ m.behind trees token rank value stack
  pub end : m.ended trees s ≡ m.alone trees (m.close trees 0 value stack)
  pub closes : (strength : ℕ) → strength < g.rank x → (strength < rank) × (m.close trees strength value stack ≡ m.close trees strength x st)
  pub bracket : 16 ≤ g.rank x → m.step trees t.LeftBracket s ≡ Some (m.opening trees g.filter (and_then g.none g.first x) g.predicate st)

pub behind-is : (token : Token) (strength rank : ℕ) (v : Tree) (st : Stack) → m.strength_of token ≡ Some strength → strength < rank →
    m.behind trees token rank v st ≡ m.met_closed trees token (m.close trees strength v st)
behind-is token strength rank v st e h = ap (λ s. m.behind_of trees s token rank v st) e ∙
    ap (λ b. m.stronger trees b strength token v st) (lt-ltb strength rank h)

-- what a token does behind the expression
pub meets : {s : S} {x : Tree} {st : Stack} → Ends s x st → (token : Token) (strength : ℕ) → m.strength_of token ≡ Some strength → strength < g.rank x
    → m.step trees token s ≡ m.met_closed trees token (m.close trees strength x st)
meets {s} {x} {st} ends token strength e h = ends.token token strength e ∙ behind-is token strength ends.rank ends.value ends.stack e (ends.closes strength h).0
    ∙ ap (m.met_closed trees token) (ends.closes strength h).1

pub ends_whole : (x : Tree) (st : Stack) (s : S) → ((token : Token) (strength : ℕ) → m.strength_of token ≡ Some strength →
    m.step trees token s ≡ m.behind trees token (g.rank x) x st)
    → m.ended trees s ≡ m.alone trees (m.close trees 0 x st) →
    (16 ≤ g.rank x → m.step trees t.LeftBracket s ≡ Some (m.opening trees g.filter (and_then g.none g.first x) g.predicate st)) → Ends s x st
ends_whole x st s token end bracket = record {
  rank = g.rank x;
  value = x;
  stack = st;
  token = token;
  end = end;
  closes = λ strength h. (h, refl);
  bracket =
      bracket;
}

primary_token : (x : Tree) (st : Stack) (token : Token) (strength : ℕ) → m.strength_of token ≡ Some strength →
    m.behind_primary trees token x st ≡ m.behind trees token 16 x st
primary_token x st t.LeftBracket strength e = absurd (none-some strength e)
primary_token x st _ strength e = refl

pub ends_have : (x : Tree) (st : Stack) → g.rank x ≡ 16 → Ends (at (m.have x) st) x st
ends_have x st same = ends_whole x st (at (m.have x) st) (λ token strength e. primary_token x st token strength e ∙
    ap (λ r. m.behind trees token r x st) (sym same)) refl (λ h. refl)

filter_token : (parts : Parts) (st : Stack) (token : Token) (strength : ℕ) → m.strength_of token ≡ Some strength →
    m.behind_filter trees token parts st ≡ m.behind trees token 15 (g.node g.filter parts) st
filter_token parts st t.LeftBracket strength e = absurd (none-some strength e)
filter_token parts st _ strength e = refl

pub ends_filter : (parts : Parts) (st : Stack) → Ends (at (m.filtered parts) st) (g.node g.filter parts) st
ends_filter parts st = ends_whole (g.node g.filter parts) st (at (m.filtered parts) st) (filter_token parts st) refl (λ h. absurd (omega (arith, h)))

typed_token : (word : CastWord) (x : Tree) (type : Name) (st : Stack) (token : Token) (strength : ℕ) → m.strength_of token ≡ Some strength
    → m.behind_typed trees token word x type st ≡ m.behind trees token (g.rank_of_cast word) (m.cast_node trees word type false x) st
typed_token word x type st t.Question strength e = absurd (none-some strength e)
typed_token word x type st _ strength e = refl

cast_not_primary : (word : CastWord) → 16 ≤ g.rank_of_cast word → ⊥
cast_not_primary CastWord.Cast h = omega (arith, h)
cast_not_primary _ h = omega (arith, h)

pub ends_typed : (word : CastWord) (x : Tree) (type : Name) (st : Stack) → Ends (at (m.typed word x type) st) (m.cast_node trees word type false x) st
ends_typed word x type st = ends_whole (m.cast_node trees word type false x) st (at (m.typed word x type) st) (typed_token word x type st) refl
    (λ h. absurd (cast_not_primary word h))

pub ends_cast : (word : CastWord) (x : Tree) (type : Name) (st : Stack) → Ends (at (m.whole (g.rank_of_cast word) (m.cast_node trees word type true x)) st)
    (m.cast_node trees word type true x) st
ends_cast word x type st = ends_whole (m.cast_node trees word type true x) st _ (λ token strength e. refl) refl (λ h. absurd (cast_not_primary word h))

named_token : (name : Name) (st : Stack) (token : Token) (strength : ℕ) → m.strength_of token ≡ Some strength
    → m.behind_name trees token name st ≡ m.behind trees token 16 (g.leaf (g.step w.Unwritten (e.Name name))) st
named_token name st t.LeftBracket strength e = absurd (none-some strength e)
named_token name st t.LeftParenthesis strength e = absurd (none-some strength e)
named_token name st t.DoubleColon strength e = absurd (none-some strength e)
named_token name st _ strength e = refl

pub ends_named : (name : Name) (st : Stack) → Ends (at (m.named name) st) (g.leaf (g.step w.Unwritten (e.Name name))) st
ends_named name st = ends_whole _ st (at (m.named name) st) (named_token name st) refl (λ h. refl)

named_on_token : (form : AxisForm) (name : Name) (st : Stack) (token : Token) (strength : ℕ) → m.strength_of token ≡ Some strength
    → m.behind_named_on trees token form name st ≡ m.behind trees token 16 (g.leaf (g.step form (e.Name name))) st
named_on_token form name st t.LeftBracket strength e = absurd (none-some strength e)
named_on_token form name st t.LeftParenthesis strength e = absurd (none-some strength e)
named_on_token form name st _ strength e = refl

pub ends_named_on : (form : AxisForm) (name : Name) (st : Stack) → Ends (at (m.named_on form name) st) (g.leaf (g.step form (e.Name name))) st
ends_named_on form name st = ends_whole _ st (at (m.named_on form name) st) (named_on_token form name st) refl (λ h. refl)

slash_token : (st : Stack) (token : Token) (strength : ℕ) → m.strength_of token ≡ Some strength →
    m.behind_slash trees (m.begins_step token) token st ≡ m.behind trees token 14 (g.leaf g.root) st
slash_token st (t.Operator x) strength e = refl
slash_token st t.Comma strength e = refl
slash_token st t.RightParenthesis strength e = refl
slash_token st t.RightBracket strength e = refl
slash_token st _ strength e = absurd (none-some strength e)

pub ends_slash : (st : Stack) → Ends (at m.slash st) (g.leaf g.root) st
ends_slash st = ends_whole (g.leaf g.root) st (at m.slash st) (slash_token st) refl (λ h. absurd (omega (arith, h)))

-- a state behind the last part of a form that ends with it
pub ends_node : {s : S} {x : Tree} (form : Form) (parts : Parts) (label : Label) (st : Stack) → Ends s x (open_ form parts label ∷ st)
    → m.is_open_ended form ≡ true → g.ends form label ≡ true → g.rank_of_form form ≤ g.rank x → g.rank_of_form form < 16 →
    Ends s (g.node form (and_then parts label x)) st
ends_node {s} {x} form parts label st ends opened last tight loose = record {
  rank = ends.rank;
  value = ends.value;
  stack = ends.stack;
  token = ends.token;
  end = ends.end;
  closes = λ strength h. let h2 : strength < g.rank x = omega arith in (
    (ends.closes strength h2).0,
    (ends.closes strength h2).1 ∙
        close-goes strength x form parts label st (and_from _ _ (and_from _ _ opened last) (lt-ltb strength (g.rank_of_form form) h)),
  );
  bracket = λ h. absurd (omega arith);
}
