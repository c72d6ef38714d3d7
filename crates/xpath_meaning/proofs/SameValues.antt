-- What isn't used of a context doesn't change a value.
use Rattle.std.proofs.Common.{◌≡◌, ℕ, ◌≤◌, Bool, true, false, ◌||◌, ◌==◌, List, [], ◌∷◌, length, Result, Ok, Err, refl, ap, suc, ◌∙◌, arith, true≢false}
use Rattle.std.specs.Prelude.{nat_lt}
use Rattle.std.proofs.lemmas.Bool.Decides.{nat_tests}
use Rattle.inv_base.specs.Tree.{Node}
use Rattle.xpath_grammar.specs.declared.functions.Function.{Function}
use Rattle.xpath_grammar.specs.declared.functions.Function.TheVariants as f
use Rattle.xpath_items.specs.declared.item.Item.{Item}
use Rattle.xpath_items.specs.declared.outcome.DynError.{DynError}
use Rattle.xpath_items.specs.declared.outcome.Focus.{Focus}
use Rattle.xpath_meaning.specs.Values.{Value, then_, one, joined}
use Rattle.xpath_meaning.specs.Items.{atomised}
use Rattle.xpath_meaning.specs.Reading.{cast_by}
use Rattle.xpath_meaning.specs.Numbers.{signed, counted}
use Rattle.xpath_meaning.specs.Comparing.{boolean}
use Rattle.xpath_meaning.specs.Functions.{call, called_with, called_alone}
use Rattle.xpath_meaning.specs.Steps.{step_from, in_document_order, filtered_by, path}
use Rattle.xpath_meaning.specs.Expressions as x
use Rattle.xpath_meaning.specs.Expressions.{Exp, Exps}
use Rattle.xpath_meaning.specs.Meaning.{Context, at, inside, bound_at, truth_of, operated, bound_by, mean, means}
use Rattle.xpath_meaning.specs.Uses as u
use Rattle.xpath_meaning.specs.Uses.{Uses, uses_of, uses_of_arguments, called_uses, reads_outside, arguments_read_outside, AreSameFor}
use Rattle.xpath_meaning.proofs.KindFacts.{or_left, or_right}

pub neither_left : (a b : Bool) → (a || b) ≡ false → a ≡ false
neither_left true b h = h
neither_left false b h = refl

pub neither_right : (a b : Bool) → (a || b) ≡ false → b ≡ false
neither_right true b h = absurd (true≢false h)
neither_right false b h = h

left_same : (a b : Uses) {depth : ℕ} {c d : Context} → AreSameFor (u.joined a b) depth c d → AreSameFor a depth c d
left_same a b h = record {
  position = λ e. h.position (or_left a.position b.position e);
  last = λ e. h.last (or_left a.position b.position e);
  root = λ e. h.root (or_left a.root b.root e);
  item = λ e. h.item (or_left a.item b.item e);
  count = h.count;
  bound = h.bound;
}

right_same : (a b : Uses) {depth : ℕ} {c d : Context} → AreSameFor (u.joined a b) depth c d → AreSameFor b depth c d
right_same a b h = record {
  position = λ e. h.position (or_right a.position b.position e);
  last = λ e. h.last (or_right a.position b.position e);
  root = λ e. h.root (or_right a.root b.root e);
  item = λ e. h.item (or_right a.item b.item e);
  count = h.count;
  bound = h.bound;
}

-- at one item, all of the focus is the same
at_same : {a : Uses} (b : Uses) {depth : ℕ} {c d : Context} (item : Item) (position last : ℕ) → AreSameFor a depth c d →
    AreSameFor b depth (at c item position last) (at d item position last)
at_same b item position last h = record { position = λ e. refl; last = λ e. refl; root = λ e. refl; item = λ e. refl; count = h.count; bound = h.bound }

bound_same : (height : ℕ) (item : Item) (xs ys : List Item) → length xs ≡ length ys → bound_at height xs ≡ bound_at height ys →
    bound_at height (item ∷ xs) ≡ bound_at height (item ∷ ys)
bound_same height item xs ys e h = λ i. elim (height == e i) as (λ _. List Item) [ true ↦ item ∷ [] | false ↦ h i ]

inside_same : {a : Uses} {depth : ℕ} {c d : Context} (item : Item) → AreSameFor a depth c d → AreSameFor a depth (inside c item) (inside d item)
inside_same {a} {depth} {c} {d} item h = record {
  position = h.position;
  last = h.last;
  root = h.root;
  item = h.item;
  count = ap suc h.count;
  bound = λ height l. bound_same height item c.bound d.bound h.count (h.bound height l);
}

-- Calls

pub alone_same : (ns : List Node) (function : Function) (depth : ℕ) (c d : Context) → AreSameFor (called_uses function x.no_more u.no_uses) depth c d
    → call ns function c.focus [] ≡ call ns function d.focus []
alone_same ns f.Position depth c d h = λ i. counted (h.position refl i)
alone_same ns f.Last depth c d h = λ i. counted (h.last refl i)
alone_same ns f.String depth c d h = λ i. called_alone ns f.String (record { item = h.item refl i; position = 0; last = 0 })
alone_same ns f.StringLength depth c d h = λ i. called_alone ns f.StringLength (record { item = h.item refl i; position = 0; last = 0 })
alone_same ns f.NormalizeSpace depth c d h = λ i. called_alone ns f.NormalizeSpace (record { item = h.item refl i; position = 0; last = 0 })
alone_same ns f.LocalName depth c d h = λ i. called_alone ns f.LocalName (record { item = h.item refl i; position = 0; last = 0 })
alone_same ns f.NamespaceUri depth c d h = λ i. called_alone ns f.NamespaceUri (record { item = h.item refl i; position = 0; last = 0 })
alone_same ns _ depth c d h = refl

with_same : (ns : List Node) (function : Function) (a b : Focus) (x : List Item) (xs : List (List Item)) →
    called_with ns function a (x ∷ xs) ≡ called_with ns function b (x ∷ xs)
with_same ns function a b x [] = refl
with_same ns function a b x (y ∷ []) = refl
with_same ns function a b x (y ∷ (z ∷ [])) = refl
with_same ns function a b x (y ∷ (z ∷ (w ∷ xs))) = refl

call_same : (ns : List Node) (function : Function) (a b : Focus) (x : List Item) (xs : List (List Item)) →
    call ns function a (x ∷ xs) ≡ call ns function b (x ∷ xs)
call_same ns f.Concat a b x xs = refl
call_same ns function a b x xs = with_same ns function a b x xs

abbrev pub arguments_of : Value → Result (List (List Item)) DynError → Result (List (List Item)) DynError
arguments_of value values = then_ value (λ value. then_ values (λ values. Ok (value ∷ values)))

pub focus_free : (ns : List Node) (function : Function) (a b : Focus) (value : Value) (values : Result (List (List Item)) DynError)
    → then_ (arguments_of value values) (call ns function a) ≡ then_ (arguments_of value values) (call ns function b)
focus_free ns function a b (Ok x) (Ok xs) = call_same ns function a b x xs
focus_free ns function a b (Ok x) (Err error) = refl
focus_free ns function a b (Err error) values = refl

-- Expressions

not_below : (height depth : ℕ) → nat_lt height depth ≡ false → depth ≤ height
not_below height depth h = grind (arith, nat_tests)

mutual
  pub mean_same : (ns : List Node) (depth : ℕ) (e : Exp) (c d : Context) → reads_outside depth e ≡ false → AreSameFor (uses_of e) depth c d →
      mean ns e c ≡ mean ns e d
  mean_same ns depth (x.text s) c d r h = refl
  mean_same ns depth (x.number z) c d r h = refl
  mean_same ns depth x.nothing c d r h = refl
  mean_same ns depth x.the_item c d r h = λ i. one (h.item refl i)
  mean_same ns depth x.the_root c d r h = h.root refl
  mean_same ns depth (x.variable height) c d r h = λ i. Ok (h.bound height (not_below height depth r) i)
  mean_same ns depth (x.outer name) c d r h = absurd (true≢false r)
  mean_same ns depth (x.axis_step axis test) c d r h = λ i. step_from ns axis test (h.item refl i)
  mean_same ns depth (x.filtered e predicate) c d r h =
      λ i. then_ (mean_same ns depth e c d (neither_left (reads_outside depth e) (reads_outside depth predicate) r) h i)
      (filtered_by (λ item position last. mean_same ns depth predicate (at c item position last) (at d item position last)
      (neither_right (reads_outside depth e) (reads_outside depth predicate) r) (at_same (uses_of predicate) item position last h) i))
  mean_same ns depth (x.stepped e) c d r h = λ i. then_ (mean_same ns depth e c d r h i) (λ items. Ok (in_document_order ns items))
  mean_same ns depth (x.slash e step) c d r h = λ i. then_ (mean_same ns depth e c d (neither_left (reads_outside depth e) (reads_outside depth step) r) h i)
      (path ns (λ item position last. mean_same ns depth step (at c item position last) (at d item position last)
      (neither_right (reads_outside depth e) (reads_outside depth step) r) (at_same (uses_of step) item position last h) i))
  mean_same ns depth (x.comma e f) c d r h = λ i. joined
      (mean_same ns depth e c d (neither_left (reads_outside depth e) (reads_outside depth f) r) (left_same (uses_of e) (uses_of f) h) i)
      (mean_same ns depth f c d (neither_right (reads_outside depth e) (reads_outside depth f) r) (right_same (uses_of e) (uses_of f) h) i)
  mean_same ns depth (x.both e f) c d r h = λ i. then_
      (truth_of (mean_same ns depth e c d (neither_left (reads_outside depth e) (reads_outside depth f) r) (left_same (uses_of e) (uses_of f) h) i))
      (λ holds. elim holds [
        | true ↦ boolean (truth_of (mean_same ns depth f c d (neither_right (reads_outside depth e) (reads_outside depth f) r)
            (right_same (uses_of e) (uses_of f) h) i))
        | false ↦ boolean (Ok false)
      ])
  mean_same ns depth (x.either e f) c d r h = λ i. then_
      (truth_of (mean_same ns depth e c d (neither_left (reads_outside depth e) (reads_outside depth f) r) (left_same (uses_of e) (uses_of f) h) i))
      (λ holds. elim holds [
        | true ↦ boolean (Ok true)
        | false ↦ boolean (truth_of (mean_same ns depth f c d (neither_right (reads_outside depth e) (reads_outside depth f) r)
            (right_same (uses_of e) (uses_of f) h) i))
      ])
  mean_same ns depth (x.operated operator e f) c d r h =
      λ i. then_ (mean_same ns depth e c d (neither_left (reads_outside depth e) (reads_outside depth f) r) (left_same (uses_of e) (uses_of f) h) i)
      (λ xs. then_ (mean_same ns depth f c d (neither_right (reads_outside depth e) (reads_outside depth f) r) (right_same (uses_of e) (uses_of f) h) i)
      (λ ys. operated ns operator xs ys))
  mean_same ns depth (x.signed signs e) c d r h = λ i. then_ (mean_same ns depth e c d r h i) (λ items. signed signs (atomised ns items))
  mean_same ns depth (x.chosen condition e f) c d r h =
      let others : (reads_outside depth e || reads_outside depth f) ≡ false =
      neither_right (reads_outside depth condition) (reads_outside depth e || reads_outside depth f) r in
      λ i. then_ (truth_of (mean_same ns depth condition c d (neither_left (reads_outside depth condition) (reads_outside depth e || reads_outside depth f) r)
      (left_same (uses_of condition) (u.joined (uses_of e) (uses_of f)) h) i))
      (λ holds. elim holds [
        | true ↦ mean_same ns depth e c d (neither_left (reads_outside depth e) (reads_outside depth f) others)
            (left_same (uses_of e) (uses_of f) (right_same (uses_of condition) (u.joined (uses_of e) (uses_of f)) h)) i
        | false ↦ mean_same ns depth f c d (neither_right (reads_outside depth e) (reads_outside depth f) others)
            (right_same (uses_of e) (uses_of f) (right_same (uses_of condition) (u.joined (uses_of e) (uses_of f)) h)) i
      ])
  mean_same ns depth (x.bound binder e body) c d r h =
      λ i. then_ (mean_same ns depth e c d (neither_left (reads_outside depth e) (reads_outside depth body) r) (left_same (uses_of e) (uses_of body) h) i)
      (bound_by binder (λ item. mean_same ns depth body (inside c item) (inside d item)
      (neither_right (reads_outside depth e) (reads_outside depth body) r) (inside_same item (right_same (uses_of e) (uses_of body) h)) i))
  mean_same ns depth (x.cast word type optional e) c d r h =
      λ i. then_ (mean_same ns depth e c d r h i) (λ items. cast_by ns word type optional (atomised ns items))
  mean_same ns depth (x.called function x.no_more) c d r h = alone_same ns function depth c d h
  mean_same ns depth (x.called function (x.argument e arguments)) c d r h =
      focus_free ns function c.focus d.focus (mean ns e c) (means ns arguments c)
      ∙ (λ i. then_ (arguments_of (mean_same ns depth e c d (neither_left (reads_outside depth e) (arguments_read_outside depth arguments) r)
      (left_same (uses_of e) (uses_of_arguments arguments) h) i)
      (means_same ns depth arguments c d (neither_right (reads_outside depth e) (arguments_read_outside depth arguments) r)
      (right_same (uses_of e) (uses_of_arguments arguments) h) i)) (call ns function d.focus))

  means_same : (ns : List Node) (depth : ℕ) (arguments : Exps) (c d : Context) → arguments_read_outside depth arguments ≡ false →
      AreSameFor (uses_of_arguments arguments) depth c d
      → means ns arguments c ≡ means ns arguments d
  means_same ns depth x.no_more c d r h = refl
  means_same ns depth (x.argument e arguments) c d r h =
      λ i. arguments_of (mean_same ns depth e c d (neither_left (reads_outside depth e) (arguments_read_outside depth arguments) r)
      (left_same (uses_of e) (uses_of_arguments arguments) h) i)
      (means_same ns depth arguments c d (neither_right (reads_outside depth e) (arguments_read_outside depth arguments) r)
      (right_same (uses_of e) (uses_of_arguments arguments) h) i)
