-- From wherever an expression may stand, its tokens lead the machine to a state behind it.
use Rattle.std.proofs.Common.{◌≡◌, ℕ, Bool, true, false, ◌&&◌, ◌≤◌, ◌<◌, List, [], ◌∷◌, ◌++◌, Option, Some, None, IsTrue, nat_lt, refl, sym, ap, ◌∙◌, subst}
use Rattle.std.proofs.Common.{arith, lit<, lit≤, le_of_lt, le_trans, append_assoc, append-nil}
use Rattle.std.proofs.lemmas.Bool.{and_parts, false≢true}
use Rattle.xpath_tokens.specs.declared.token.Operator.{Operator}
use Rattle.xpath_tokens.specs.declared.token.Operator.TheVariants as o
use Rattle.xpath_tokens.specs.declared.token.Name.{Name}
use Rattle.xpath_tokens.specs.declared.token.Token.{Token}
use Rattle.xpath_tokens.specs.declared.token.Token.TheVariants as t
use Rattle.xpath_grammar.specs.declared.operators.Production.{Production}
use Rattle.xpath_grammar.specs.declared.operators.Production.TheVariants as p
use Rattle.xpath_grammar.specs.declared.operators.CastWord.{CastWord}
use Rattle.xpath_grammar.specs.declared.operators.CastWord.TheVariants as c
use Rattle.xpath_grammar.specs.declared.operators.Binder.{Binder}
use Rattle.xpath_grammar.specs.declared.operators.Binder.TheVariants as b
use Rattle.xpath_grammar.specs.Grammar as g
use Rattle.xpath_grammar.specs.Grammar.{Leaf, Form, Label, Tree, Parts}
use Rattle.xpath_grammar.specs.Machine as m
use Rattle.xpath_grammar.specs.Machine.{Frame, Mode, State, open_, trees, at}
use Rattle.xpath_grammar.proofs.Facts.{rank_pos, rank_below_path, stays_going_on, not_gone_on, joins_rank, push_parts}
use Rattle.xpath_grammar.proofs.Closing.{Stack, S, and_then, close-stays, close-at_place, close-empty, has_place, Ends, meets, ends_have, ends_filter}
use Rattle.xpath_grammar.proofs.Closing.{ends_typed, ends_cast, ends_node}
use Rattle.xpath_grammar.proofs.Leading.{run_from, run-step, Reaches, reaches_after, given-is, is_frame, Starts, with_part, with_tokens, starts, binds}
use Rattle.xpath_grammar.proofs.Leading.{reaches_leaf}

-- The state stands behind a part of the form: it knows the tokens to the next part, and those behind the last.
pub record Behind (s : S) (form : Form) (parts : Parts) (label : Label) (x : Tree) (st : Stack) : Type 0 where
  pub leads : (next : Label) (rest : List Token) → g.goes_on form label next ≡ true
      → m.run trees (g.label_tokens next ++ rest) s ≡ m.run trees rest (m.opening trees form (and_then parts label x) next st)
  pub last : (rest : List Token) → g.ends form label ≡ true → Reaches (g.closing form ++ rest) s rest (g.node form (and_then parts label x)) st

-- An operator that belongs to a production

cast_none : (operator : Operator) (production : Production) → g.production_of operator ≡ Some production → m.cast_of operator ≡ None
cast_none o.Cast production e = absurd cc
cast_none o.Castable production e = absurd cc
cast_none _ production e = refl

strength-is : (operator : Operator) (production : Production) → g.production_of operator ≡ Some production →
    m.strength_of (t.Operator operator) ≡ Some (g.rank_of production)
strength-is operator production e = ap (λ f. Some (m.strength_in f (g.production_of operator))) (cast_none operator production e) ∙
    ap (λ f. Some (m.strength_in None f)) e

-- what an operator does that may go on a frame or begin a chain
operator-met : (operator : Operator) (production : Production) (v : Tree) (st : Stack) → g.production_of operator ≡ Some production
    → m.met trees (t.Operator operator) v st ≡ m.link trees (g.link operator) v st
operator-met operator production v st e = ap (λ f. m.operator_met trees f operator v st) (cast_none operator production e)

-- the label begins a chain behind a first operand
chain_begins : (label : Label) (production : Production) (v : Tree) (st : Stack) → g.production_of_label label ≡ Some production →
    m.place st ≤ g.rank_of production
    → m.begin_chain trees (g.production_of_label label) label v st ≡ Some (m.opening trees (g.chain production) (and_then g.none g.first v) label st)
chain_begins label production v st e h = ap (λ f. m.begin_chain trees f label v st) e ∙
    given-is (m.has_place (g.rank_of production) st) _ (has_place (g.rank_of production) st h)

link_begins : (label : Label) (production : Production) (v : Tree) (st : Stack) → g.production_of_label label ≡ Some production →
    m.place st ≤ g.rank_of production
    → m.link trees label v st ≡ Some (m.opening trees (g.chain production) (and_then g.none g.first v) label st)
link_begins label production v [] e h = chain_begins label production v [] e h
link_begins label production v (open_ form parts before ∷ st) e h =
    ap (λ f. m.extend trees f form parts before label v st) (not_gone_on form before label production e h)
    ∙ chain_begins label production v (open_ form parts before ∷ st) e h

link_goes_on : (label : Label) (v : Tree) (form : Form) (parts : Parts) (before : Label) (st : Stack) → g.goes_on form before label ≡ true
    → m.link trees label v (open_ form parts before ∷ st) ≡ Some (m.opening trees form (and_then parts before v) label st)
link_goes_on label v form parts before st h = ap (λ f. m.extend trees f form parts before label v st) h

comma_begins : (v : Tree) (st : Stack) → m.place st ≤ 1 → m.comma_met trees v st ≡ m.link trees g.comma v st
comma_begins v [] h = refl
comma_begins v (open_ (g.bound binder) parts label ∷ st) h = absurd (omega (arith, h))
comma_begins v (open_ form parts label ∷ st) h = refl

-- Behind the first operand, where no frame is open yet

-- the operator begins the chain
chain_from : {s : S} {x : Tree} {st : Stack} → Ends s x st → (operator : Operator) (production : Production) (rest : List Token) →
    g.production_of operator ≡ Some production
    → m.place st ≤ g.rank_of production → g.rank_of production < g.rank x
    → m.run trees (t.Operator operator ∷ rest) s ≡ m.run trees rest (m.opening trees (g.chain production) (and_then g.none g.first x) (g.link operator) st)
unfolding m.run
chain_from {s} {x} {st} ends operator production rest e h tight = run-step (t.Operator operator) rest s _
    (meets ends (t.Operator operator) (g.rank_of production) (strength-is operator production e) tight
    ∙ ap (m.met_closed trees (t.Operator operator)) (close-at_place (g.rank_of production) x st h)
    ∙ operator-met operator production x st e
    ∙ link_begins (g.link operator) production x st e h)

comma_from : {s : S} {x : Tree} {st : Stack} → Ends s x st → (rest : List Token) → m.place st ≤ 1 → 1 < g.rank x
    → m.run trees (t.Comma ∷ rest) s ≡ m.run trees rest (m.opening trees (g.chain p.Sequence) (and_then g.none g.first x) g.comma st)
unfolding m.run
comma_from {s} {x} {st} ends rest h tight = run-step t.Comma rest s _
    (meets ends t.Comma 1 refl tight
    ∙ ap (m.met_closed trees t.Comma) (close-at_place 1 x st h)
    ∙ comma_begins x st h
    ∙ link_begins g.comma p.Sequence x st refl h)

-- which production a label of a chain belongs to
joined : (production : Production) (found : Option Production) → IsTrue (g.is_production production found) → found ≡ Some production
joined production None h = absurd (false≢true h)
joined production (Some x) h = ap Some (sym (joins_rank production (Some x) x refl h))

chain_leads : {s : S} {x : Tree} {st : Stack} → Ends s x st → (production : Production) (next : Label) (rest : List Token) → g.joins production next ≡ true
    → m.place st ≤ g.rank_of production → g.rank_of production < g.rank x
    → m.run trees (g.label_tokens next ++ rest) s ≡ m.run trees rest (m.opening trees (g.chain production) (and_then g.none g.first x) next st)
chain_leads ends production (g.link operator) rest h place tight =
    chain_from ends operator production rest (joined production (g.production_of operator) h) place tight
chain_leads {s} {x} {st} ends production g.comma rest h place tight = let same : production ≡ p.Sequence =
    joins_rank production (Some p.Sequence) p.Sequence refl h in
    comma_from ends rest (subst (λ y. m.place st ≤ g.rank_of y) same place) (subst (λ y. g.rank_of y < g.rank x) same tight)
    ∙ ap (λ y. m.run trees rest (m.opening trees (g.chain y) (and_then g.none g.first x) g.comma st)) (sym same)
chain_leads ends production _ rest h place tight = absurd (false≢true h)

-- `cast as T` and `?`
casts : {s : S} {x : Tree} {st : Stack} → Ends s x st → (word : CastWord) (type : Name) (optional : Bool) (rest : List Token) → g.is_full type ≡ true
    → m.place st ≤ g.rank_of_cast word → g.rank_of_cast word < g.rank x
    → Reaches (g.closing (g.cast word type optional) ++ rest) s rest (g.node (g.cast word type optional) (and_then g.none g.first x)) st
unfolding m.run
casts {s} {x} {st} ends word type optional rest ok place tight = by optional where
  cast_strength : (word : CastWord) → m.strength_of (t.Operator (g.cast_operator word)) ≡ Some (g.rank_of_cast word)
  cast_strength c.Cast = refl
  cast_strength c.Castable = refl

  cast_met : (word : CastWord) → m.place st ≤ g.rank_of_cast word → m.met trees (t.Operator (g.cast_operator word)) x st ≡ Some (at (m.casting word x) st)
  cast_met c.Cast h = given-is (m.has_place 12 st) _ (has_place 12 st h)
  cast_met c.Castable h = given-is (m.has_place 11 st) _ (has_place 11 st h)

  begins : (more : List Token) → m.run trees (t.Operator (g.cast_operator word) ∷ t.Operator o.As ∷ t.Name type ∷ more) s ≡ m.run trees more
      (at (m.typed word x type) st)
  begins more = run-step (t.Operator (g.cast_operator word)) (t.Operator o.As ∷ t.Name type ∷ more) s _
      (meets ends (t.Operator (g.cast_operator word)) (g.rank_of_cast word) (cast_strength word) tight
      ∙ ap (m.met_closed trees (t.Operator (g.cast_operator word))) (close-at_place (g.rank_of_cast word) x st place)
      ∙ cast_met word place)
      ∙ ap (run_from more) (given-is (g.is_full type) _ ok)

  by : (optional : Bool) → Reaches (g.closing (g.cast word type optional) ++ rest) s rest (g.node (g.cast word type optional) (and_then g.none g.first x)) st
  by true = record {
    state = at (m.whole (g.rank_of_cast word) (m.cast_node trees word type true x)) st;
    runs = begins (t.Question ∷ rest);
    ends =
        ends_cast word x type st;
  }
  by false = record { state = at (m.typed word x type) st; runs = begins rest; ends = ends_typed word x type st }

pub behind_first : {s : S} {x : Tree} {st : Stack} (form : Form) → g.begins form g.first ≡ true → Ends s x st → m.place st ≤ g.rank_of_form form →
    g.place form g.first ≤ g.rank x
    → Behind s form g.none g.first x st
unfolding m.run m.append
behind_first (g.chain production) ok ends place tight = record {
  leads = λ next rest h. chain_leads ends production next rest (and_parts _ _ h).0 place tight;
  last = λ rest h. absurd (false≢true h);
}
behind_first (g.cast word type optional) ok ends place tight = record {
  leads = λ next rest h. absurd (false≢true h);
  last = λ rest h. casts ends word type optional rest ok place tight;
}
behind_first {s} {x} {st} g.filter ok ends place tight = record { leads = leads; last = λ rest h. absurd (false≢true h) } where
  leads : (next : Label) (rest : List Token) → g.goes_on g.filter g.first next ≡ true →
      m.run trees (g.label_tokens next ++ rest) s ≡ m.run trees rest (m.opening trees g.filter (and_then g.none g.first x) next st)
  leads g.predicate rest h = run-step t.LeftBracket rest s _ (ends.bracket tight)
  leads _ rest h = absurd (false≢true h)
behind_first _ ok ends place tight = absurd (false≢true ok)

-- Behind a part in an open frame

-- what a token does that the frame stays open for
stays_met : {s : S} {x : Tree} (form : Form) (parts : Parts) (label : Label) (st : Stack) → Ends s x (open_ form parts label ∷ st) →
    (token : Token) (strength : ℕ)
    → m.strength_of token ≡ Some strength → strength < g.rank x → m.is_closed strength form label ≡ false →
    m.step trees token s ≡ m.met trees token x (open_ form parts label ∷ st)
stays_met {s} {x} form parts label st ends token strength e tight stays = meets ends token strength e tight ∙
    ap (m.met_closed trees token) (close-stays strength x form parts label st stays)

-- an operator or a comma that goes on
link_leads : {s : S} {x : Tree} (form : Form) (parts : Parts) (label : Label) (st : Stack) → Ends s x (open_ form parts label ∷ st) →
    (next : Label) (token : Token) (strength : ℕ) (rest : List Token)
    → m.strength_of token ≡ Some strength → strength < g.rank x → m.is_closed strength form label ≡ false →
    m.met trees token x (open_ form parts label ∷ st) ≡ m.link trees next x (open_ form parts label ∷ st)
    → g.goes_on form label next ≡ true → m.run trees (token ∷ rest) s ≡ m.run trees rest (m.opening trees form (and_then parts label x) next st)
unfolding m.run
link_leads {s} {x} form parts label st ends next token strength rest e tight stays met h =
    run-step token rest s _ (stays_met form parts label st ends token strength e tight stays ∙ met ∙ link_goes_on next x form parts label st h)

frame_chain : {s : S} {x : Tree} (production : Production) (parts : Parts) (label : Label) (st : Stack) → Ends s x (open_ (g.chain production) parts label ∷ st)
    → g.rank_of production < g.rank x
    → (next : Label) (rest : List Token) → g.goes_on (g.chain production) label next ≡ true
    → m.run trees (g.label_tokens next ++ rest) s ≡ m.run trees rest (m.opening trees (g.chain production) (and_then parts label x) next st)
frame_chain {x = x} production parts label st ends tight (g.link operator) rest h = let e : g.production_of operator ≡ Some production =
    joined production (g.production_of operator) (and_parts _ _ h).0 in
    link_leads (g.chain production) parts label st ends (g.link operator) (t.Operator operator) (g.rank_of production) rest
    (strength-is operator production e) tight
    (stays_going_on (g.chain production) label (g.link operator) (g.rank_of production) h
    (λ other same. ap g.rank_of (sym (joins_rank other (g.production_of operator) production e same))))
    (operator-met operator production x _ e) h
frame_chain {x = x} production parts label st ends tight g.comma rest h = let same : production ≡ p.Sequence =
    joins_rank production (Some p.Sequence) p.Sequence refl (and_parts _ _ h).0 in
    link_leads (g.chain production) parts label st ends g.comma t.Comma 1 rest refl (subst (λ y. g.rank_of y < g.rank x) same tight)
    (stays_going_on (g.chain production) label g.comma 1 h (λ other joins. ap g.rank_of (sym (joins_rank other (Some p.Sequence) p.Sequence refl joins))))
    refl h
frame_chain production parts label st ends tight _ rest h = absurd (false≢true h)

body_strength : (binder : Binder) (operator : Operator) → g.is_body_word binder operator ≡ true → m.strength_of (t.Operator operator) ≡ Some 1
body_strength b.For o.Return h = refl
body_strength b.Some o.Satisfies h = refl
body_strength b.Every o.Satisfies h = refl
body_strength _ _ h = absurd (false≢true h)

body_met : (binder : Binder) (operator : Operator) (x : Tree) (st : Stack) → g.is_body_word binder operator ≡ true →
    m.met trees (t.Operator operator) x st ≡ m.link trees (g.link operator) x st
body_met b.For o.Return x st h = refl
body_met b.Some o.Satisfies x st h = refl
body_met b.Every o.Satisfies x st h = refl
body_met _ _ x st h = absurd (false≢true h)

frame_bound : {s : S} {x : Tree} (binder : Binder) (parts : Parts) (label : Label) (st : Stack) → Ends s x (open_ (g.bound binder) parts label ∷ st) →
    2 ≤ g.rank x
    → (next : Label) (rest : List Token) → g.goes_on_bound binder label next ≡ true
    → m.run trees (g.label_tokens next ++ rest) s ≡ m.run trees rest (m.opening trees (g.bound binder) (and_then parts label x) next st)
unfolding m.run
frame_bound {s} {x} binder parts (g.binding lead y) st ends tight (g.binding None name) rest h =
    run-step t.Comma (t.Dollar ∷ t.Name name ∷ t.Operator o.In ∷ rest) s _
    (stays_met (g.bound binder) parts (g.binding lead y) st ends t.Comma 1 refl tight refl)
    ∙ binds binder None (and_then parts (g.binding lead y) x) name st rest h
frame_bound {s} {x} binder parts (g.binding lead y) st ends tight (g.link operator) rest h =
    link_leads (g.bound binder) parts (g.binding lead y) st ends (g.link operator) (t.Operator operator) 1 rest (body_strength binder operator h) tight refl
    (body_met binder operator x _ h) h
frame_bound binder parts _ st ends tight _ rest h = absurd (false≢true h)

frame_conditional : {s : S} {x : Tree} (parts : Parts) (label : Label) (st : Stack) → Ends s x (open_ g.conditional parts label ∷ st) →
    g.place_in_conditional label ≤ g.rank x
    → (next : Label) (rest : List Token) → g.goes_on_conditional label next ≡ true
    → m.run trees (g.label_tokens next ++ rest) s ≡ m.run trees rest (m.opening trees g.conditional (and_then parts label x) next st)
unfolding m.run
frame_conditional {s} {x} parts g.condition st ends tight g.then_ rest h =
    run-step t.RightParenthesis (t.Operator o.Then ∷ rest) s _ (stays_met g.conditional parts g.condition st ends t.RightParenthesis 0 refl tight refl)
frame_conditional {s} {x} parts g.then_ st ends tight (g.link o.Else) rest h =
    link_leads g.conditional parts g.then_ st ends (g.link o.Else) (t.Operator o.Else) 1 rest refl tight refl refl refl
frame_conditional parts _ st ends tight _ rest h = absurd (false≢true h)

frame_filter : {s : S} {x : Tree} (parts : Parts) (label : Label) (st : Stack) → Ends s x (open_ g.filter parts label ∷ st) → is_frame g.filter label ≡ true
    → (next : Label) (rest : List Token) → g.goes_on_filter label next ≡ true
    → m.run trees (g.label_tokens next ++ rest) s ≡ m.run trees rest (m.opening trees g.filter (and_then parts label x) next st)
unfolding m.run
frame_filter parts g.first st ends ok next rest h = absurd (false≢true ok)
frame_filter {s} {x} parts g.predicate st ends ok g.again rest h =
    run-step t.RightBracket (t.LeftBracket ∷ rest) s _ (stays_met g.filter parts g.predicate st ends t.RightBracket 0 refl (rank_pos x) refl)
frame_filter {s} {x} parts g.again st ends ok g.again rest h =
    run-step t.RightBracket (t.LeftBracket ∷ rest) s _ (stays_met g.filter parts g.again st ends t.RightBracket 0 refl (rank_pos x) refl)
frame_filter parts _ st ends ok _ rest h = absurd (false≢true h)

frame_call : {s : S} {x : Tree} (parts : Parts) (label : Label) (st : Stack) → Ends s x (open_ g.call parts label ∷ st) → 2 ≤ g.rank x
    → (next : Label) (rest : List Token) → g.is_comma next ≡ true
    → m.run trees (g.label_tokens next ++ rest) s ≡ m.run trees rest (m.opening trees g.call (and_then parts label x) next st)
frame_call parts label st ends tight g.comma rest h = link_leads g.call parts label st ends g.comma t.Comma 1 rest refl tight refl refl refl
frame_call parts label st ends tight _ rest h = absurd (false≢true h)

-- a state that stands behind the last part of a form without tokens at its end
open_last : {s : S} {x : Tree} (form : Form) (parts : Parts) (label : Label) (st : Stack) (rest : List Token) → Ends s x (open_ form parts label ∷ st) →
    m.is_open_ended form ≡ true
    → g.ends form label ≡ true → g.rank_of_form form ≤ g.rank x → g.rank_of_form form < 16 → Reaches rest s rest (g.node form (and_then parts label x)) st
open_last {s} form parts label st rest ends opened last tight loose =
    record { state = s; runs = refl; ends = ends_node form parts label st ends opened last tight loose }

parenthesis_last : {s : S} {x : Tree} (form : Form) (parts : Parts) (label : Label) (st : Stack) (rest : List Token) → Ends s x (open_ form parts label ∷ st)
    → m.is_open_ended form ≡ false → m.closed_by_parenthesis form label ≡ m.node → g.rank_of_form form ≡ 16
    → Reaches (t.RightParenthesis ∷ rest) s rest (g.node form (and_then parts label x)) st
unfolding m.run
parenthesis_last {s} {x} form parts label st rest ends shut closes same = record {
  state = at (m.have (g.node form (and_then parts label x))) st;
  runs = run-step t.RightParenthesis rest s _ (stays_met form parts label st ends t.RightParenthesis 0 refl (rank_pos x)
      (ap (λ b. (b && g.ends form label) && nat_lt 0 (g.rank_of_form form)) shut)
      ∙ ap (λ f. m.parenthesis_in trees f form parts label x st) closes);
  ends = ends_have (g.node form (and_then parts label x)) st same;
}

conditional_last : {s : S} {x : Tree} (parts : Parts) (label : Label) (st : Stack) (rest : List Token) → Ends s x (open_ g.conditional parts label ∷ st) →
    g.place_in_conditional label ≤ g.rank x
    → g.is_link label ≡ true → Reaches rest s rest (g.node g.conditional (and_then parts label x)) st
conditional_last parts (g.link operator) st rest ends tight last = open_last g.conditional parts (g.link operator) st rest ends refl last tight (lit< tt)
conditional_last parts _ st rest ends tight last = absurd (false≢true last)

filter_last : {s : S} {x : Tree} (parts : Parts) (label : Label) (st : Stack) (rest : List Token) → Ends s x (open_ g.filter parts label ∷ st) →
    m.in_predicate g.filter label ≡ true
    → Reaches (t.RightBracket ∷ rest) s rest (g.node g.filter (and_then parts label x)) st
unfolding m.run
filter_last {s} {x} parts label st rest ends inside = record {
  state = at (m.filtered (and_then parts label x)) st;
  runs = run-step t.RightBracket rest s _ (stays_met g.filter parts label st ends t.RightBracket 0 refl (rank_pos x) refl ∙
      given-is (m.in_predicate g.filter label) _ inside);
  ends = ends_filter (and_then parts label x) st;
}

pub behind_part : {s : S} {x : Tree} (form : Form) (parts : Parts) (label : Label) (st : Stack) → is_frame form label ≡ true →
    Ends s x (open_ form parts label ∷ st) → g.place form label ≤ g.rank x
    → Behind s form parts label x st
behind_part (g.chain production) parts label st ok ends tight = record {
  leads = frame_chain production parts label st ends tight;
  last = λ rest h. open_last (g.chain production) parts label st rest ends refl h (le_of_lt tight)
      (let l : g.rank_of production ≤ 14 = rank_below_path production in omega arith);
}
behind_part (g.bound binder) parts label st ok ends tight = record {
  leads = frame_bound binder parts label st ends tight;
  last = λ rest h. open_last (g.bound binder) parts label st rest ends refl h tight (lit< tt);
}
behind_part g.conditional parts label st ok ends tight =
    record { leads = frame_conditional parts label st ends tight; last = λ rest h. conditional_last parts label st rest ends tight h }
behind_part (g.cast word type optional) parts label st ok ends tight = absurd (false≢true ok)
behind_part g.signs parts label st ok ends tight = record {
  leads = λ next rest h. absurd (false≢true h);
  last =
      λ rest h. open_last g.signs parts label st rest ends refl refl (le_of_lt tight) (lit< tt);
}
behind_part g.filter parts label st ok ends tight =
    record { leads = frame_filter parts label st ends ok; last = λ rest h. filter_last parts label st rest ends ok }
behind_part g.parens parts label st ok ends tight =
    record { leads = λ next rest h. absurd (false≢true h); last = λ rest h. parenthesis_last g.parens parts label st rest ends refl refl refl }
behind_part g.call parts label st ok ends tight = record {
  leads = frame_call parts label st ends tight;
  last =
      λ rest h. parenthesis_last g.call parts label st rest ends refl refl refl;
}

-- The whole

-- what the tokens of a part do wherever the part may stand
abbrev pub Complete : Tree → Type 0
Complete x = (st : Stack) → m.place st ≤ g.rank x → (rest : List Token) → Reaches (g.written x ++ rest) (at m.want st) rest x st

regroup : (l w p c r : List Token) → ((l ++ (w ++ p)) ++ c) ++ r ≡ l ++ (w ++ (p ++ (c ++ r)))
regroup l w p c r = simp append_assoc refl

regroup_part : (l w p c : List Token) → (l ++ (w ++ p)) ++ c ≡ l ++ (w ++ (p ++ c))
regroup_part l w p c = simp append_assoc refl

frame_goes_on : (form : Form) (before next : Label) → g.goes_on form before next ≡ true → is_frame form next ≡ true
frame_goes_on (g.cast word type optional) before next h = absurd (false≢true h)
frame_goes_on g.filter g.first g.predicate h = refl
frame_goes_on g.filter g.predicate g.again h = refl
frame_goes_on g.filter g.again g.again h = refl
frame_goes_on g.filter _ _ h = absurd (false≢true h)
frame_goes_on _ before next h = refl

first_tighter : (form : Form) → g.begins form g.first ≡ true → g.rank_of_form form ≤ g.place form g.first
first_tighter (g.chain production) h = omega arith
first_tighter (g.cast word type optional) h = omega arith
first_tighter g.filter h = lit≤ tt
first_tighter _ h = absurd (false≢true h)

reaches_as : {tokens : List Token} {from : S} {rest : List Token} {x y : Tree} {st : Stack} → x ≡ y → Reaches tokens from rest x st →
    Reaches tokens from rest y st
reaches_as {tokens} {from} {rest} {x} {y} {st} e r = subst (λ z. Reaches tokens from rest z st) e r

-- what the tokens of the other parts do, and those at the end
abbrev pub CompleteParts : Parts → Type 0
CompleteParts others = (form : Form) (label : Label) → g.Runs form (Some label) others → (parts : Parts) (x : Tree) (s : S) (st : Stack) →
    Behind s form parts label x st → (rest : List Token)
    → Reaches (g.parts_written others ++ (g.closing form ++ rest)) s rest (g.node form (m.append parts (g.more label x others))) st

complete_none : CompleteParts g.none
unfolding g.written g.Grammatical
complete_none form label ok parts x s st behind rest = behind.last rest ok

complete_more : (next : Label) (y : Tree) (others : Parts) → Complete y → CompleteParts others → CompleteParts (g.more next y others)
unfolding g.written g.Grammatical
complete_more next y others whole more form label ok parts x s st behind rest = reaches_as (ap (g.node form) (push_parts parts label x (g.more next y others)))
    (reaches_after (ap (λ l. m.run trees l s) (regroup_part (g.label_tokens next) (g.written y) (g.parts_written others) (g.closing form ++ rest)) ∙
    behind.leads next (g.written y ++ (g.parts_written others ++ (g.closing form ++ rest))) ok.0)
    (reaches_after found.runs
    (more form next ok.3 (and_then parts label x) y found.state st
    (behind_part form (and_then parts label x) next st (frame_goes_on form label next ok.0) found.ends ok.1) rest))) where
      found : Reaches (g.written y ++ (g.parts_written others ++ (g.closing form ++ rest))) (m.opening trees form (and_then parts label x) next st)
          (g.parts_written others ++ (g.closing form ++ rest)) y (open_ form (and_then parts label x) next ∷ st)
      found = whole (open_ form (and_then parts label x) next ∷ st) ok.1 (g.parts_written others ++ (g.closing form ++ rest))

complete_node : (form : Form) (label : Label) (x : Tree) (others : Parts) → g.Grammatical (g.node form (g.more label x others)) → Complete x →
    CompleteParts others → Complete (g.node form (g.more label x others))
unfolding g.written g.Grammatical m.append
complete_node form label x others ok whole more st place rest =
    reaches_after (ap (λ l. m.run trees l (at m.want st)) (regroup (g.label_tokens label) (g.written x) (g.parts_written others) (g.closing form) rest))
    (by label ok (starts form label st ok.0 place)) where
      tail : List Token
      tail = g.parts_written others ++ (g.closing form ++ rest)

      by : (label : Label) → g.Grammatical (g.node form (g.more label x others)) → Starts form label st
          → Reaches (g.label_tokens label ++ (g.written x ++ (g.parts_written others ++ (g.closing form ++ rest)))) (at m.want st) rest
          (g.node form (g.more label x others)) st
      by label ok (with_part same) = subst (λ l. g.Grammatical (g.node form (g.more l x others)) →
          Reaches (g.label_tokens l ++ (g.written x ++ (g.parts_written others ++ (g.closing form ++ rest)))) (at m.want st) rest
          (g.node form (g.more l x others)) st) (sym same) first ok where
            first : g.Grammatical (g.node form (g.more g.first x others)) → Reaches (g.written x ++ (g.parts_written others ++ (g.closing form ++ rest)))
                (at m.want st) rest (g.node form (g.more g.first x others)) st
            first ok = let found : Reaches (g.written x ++ (g.parts_written others ++ (g.closing form ++ rest))) (at m.want st)
                (g.parts_written others ++ (g.closing form ++ rest)) x st =
                whole st (le_trans place (le_trans (first_tighter form ok.0) ok.1)) (g.parts_written others ++ (g.closing form ++ rest)) in
                reaches_after found.runs (more form g.first ok.3 g.none x found.state st (behind_first form ok.0 found.ends place ok.1) rest)
      by label ok (with_tokens frame opens) = let found : Reaches (g.written x ++ (g.parts_written others ++ (g.closing form ++ rest)))
          (m.opening trees form g.none label st) (g.parts_written others ++ (g.closing form ++ rest)) x (open_ form g.none label ∷ st) =
          whole (open_ form g.none label ∷ st) ok.1 (g.parts_written others ++ (g.closing form ++ rest)) in
          reaches_after (opens x (g.parts_written others ++ (g.closing form ++ rest)) ok.1 ok.2)
          (reaches_after found.runs (more form label ok.3 g.none x found.state st (behind_part form g.none label st frame found.ends ok.1) rest))

mutual
  unfolding g.written g.Grammatical

  pub complete : (x : Tree) → g.Grammatical x → Complete x
  complete (g.leaf x) ok st place rest = reaches_leaf x st rest ok place
  complete (g.node form g.none) ok st place rest = absurd (false≢true ok)
  complete (g.node form (g.more label x others)) ok st place rest = complete_node form label x others ok (complete x ok.2) (complete_parts others) st place rest

  pub complete_parts : (others : Parts) → CompleteParts others
  complete_parts g.none form label ok = complete_none form label ok
  complete_parts (g.more next y others) form label ok = complete_more next y others (complete y ok.2) (complete_parts others) form label ok

-- the machine finds the expression that the tokens spell
pub finds : (x : Tree) → g.Grammatical x → m.tree_of (g.written x) ≡ Some x
unfolding m.run
finds x ok = ap (λ l. m.run trees l (at m.want [])) (sym (append-nil (g.written x))) ∙ found.runs ∙ found.ends.end ∙
    ap (m.alone trees) (found.ends.closes 0 (rank_pos x)).1 ∙ ap (m.alone trees) (close-empty x) where
      found : Reaches (g.written x ++ []) (at m.want []) [] x []
      found = complete x ok [] (rank_pos x) []

pub finds_spelled : (tokens : List Token) (x : Tree) → g.Spells tokens x → m.tree_of tokens ≡ Some x
finds_spelled tokens x spelled = ap m.tree_of spelled.text ∙ finds x spelled.grammatical

pub one_reading : (tokens : List Token) (x y : Tree) → g.Spells tokens x → g.Spells tokens y → x ≡ y
one_reading tokens x y a b = same (sym (finds_spelled tokens x a) ∙ finds_spelled tokens y b) where
  same : Some x ≡ Some y → x ≡ y
  same e = cc
