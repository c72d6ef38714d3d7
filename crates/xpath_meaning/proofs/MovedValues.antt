-- A position that isn't used changes no value.
use Rattle.std.proofs.Common.{◌≡◌, ℕ, ◌≤◌, Bool, true, false, ◌||◌, List, ◌∷◌, length, Ok, Err, refl, sym, ap, ◌∙◌, true≢false}
use Rattle.inv_base.specs.Tree.{Node}
use Rattle.xpath_items.specs.declared.item.Item.{Item}
use Rattle.xpath_meaning.specs.Values.{then_, one, joined}
use Rattle.xpath_meaning.specs.Items.{atomised}
use Rattle.xpath_meaning.specs.Reading.{cast_by}
use Rattle.xpath_meaning.specs.Numbers.{signed}
use Rattle.xpath_meaning.specs.Comparing.{boolean}
use Rattle.xpath_meaning.specs.Functions.{call}
use Rattle.xpath_meaning.specs.Steps.{step_from, in_document_order, filtered_by, path, root_of}
use Rattle.xpath_meaning.specs.Expressions as x
use Rattle.xpath_meaning.specs.Expressions.{Exp, Exps}
use Rattle.xpath_meaning.specs.Meaning.{Context, at, inside, bound_at, outer_value, truth_of, operated, bound_by, mean, means}
use Rattle.xpath_meaning.specs.Uses as u
use Rattle.xpath_meaning.specs.Uses.{Uses, uses_of, uses_of_arguments, called_uses, AreSameFor}
use Rattle.xpath_meaning.proofs.SameValues.{neither_left, neither_right, alone_same, arguments_of, focus_free}

-- The same but for a position.
record SameBut (c d : Context) : Type 0 where
  pub item : c.focus.item ≡ d.focus.item
  pub bound : c.bound ≡ d.bound
  pub outer : c.outer ≡ d.outer

at_alike : {c d : Context} (item : Item) (position last : ℕ) → SameBut c d → at c item position last ≡ at d item position last
at_alike item position last h = λ j. record { focus = record { item = item; position = position; last = last }; bound = h.bound j; outer = h.outer j }

inside_alike : {c d : Context} (item : Item) → SameBut c d → SameBut (inside c item) (inside d item)
inside_alike item h = record { item = h.item; bound = ap (λ bound. item ∷ bound) h.bound; outer = h.outer }

same_for : (uses : Uses) {c d : Context} → uses.position ≡ false → SameBut c d → AreSameFor uses 0 c d
same_for uses none h = record {
  position = λ e. absurd (true≢false (sym e ∙ none));
  last = λ e. absurd (true≢false (sym e ∙ none));
  root = λ e. ap root_of h.item;
  item = λ e. h.item;
  count = ap length h.bound;
  bound = λ height l. ap (bound_at height) h.bound;
}

mutual
  moved : (ns : List Node) (e : Exp) (c d : Context) → (uses_of e).position ≡ false → SameBut c d → mean ns e c ≡ mean ns e d
  moved ns (x.text s) c d u h = refl
  moved ns (x.number z) c d u h = refl
  moved ns x.nothing c d u h = refl
  moved ns x.the_item c d u h = λ i. one (h.item i)
  moved ns x.the_root c d u h = ap root_of h.item
  moved ns (x.variable height) c d u h = λ i. Ok (bound_at height (h.bound i))
  moved ns (x.outer name) c d u h = ap (outer_value name) h.outer
  moved ns (x.axis_step axis test) c d u h = λ i. step_from ns axis test (h.item i)
  moved ns (x.filtered e predicate) c d u h = λ i. then_ (moved ns e c d u h i)
      (filtered_by (λ item position last. mean ns predicate (at_alike item position last h i)))
  moved ns (x.stepped e) c d u h = λ i. then_ (moved ns e c d u h i) (λ items. Ok (in_document_order ns items))
  moved ns (x.slash e step) c d u h = λ i. then_ (moved ns e c d u h i) (path ns (λ item position last. mean ns step (at_alike item position last h i)))
  moved ns (x.comma e f) c d u h = λ i. joined (moved ns e c d (neither_left (uses_of e).position (uses_of f).position u) h i)
      (moved ns f c d (neither_right (uses_of e).position (uses_of f).position u) h i)
  moved ns (x.both e f) c d u h = λ i. then_ (truth_of (moved ns e c d (neither_left (uses_of e).position (uses_of f).position u) h i))
      (λ holds. elim holds [
        | true ↦ boolean (truth_of (moved ns f c d (neither_right (uses_of e).position (uses_of f).position u) h i))
        | false ↦ boolean (Ok false)
      ])
  moved ns (x.either e f) c d u h = λ i. then_ (truth_of (moved ns e c d (neither_left (uses_of e).position (uses_of f).position u) h i))
      (λ holds. elim holds [
        | true ↦ boolean (Ok true)
        | false ↦ boolean (truth_of (moved ns f c d (neither_right (uses_of e).position (uses_of f).position u) h i))
      ])
  moved ns (x.operated operator e f) c d u h = λ i. then_ (moved ns e c d (neither_left (uses_of e).position (uses_of f).position u) h i)
      (λ xs. then_ (moved ns f c d (neither_right (uses_of e).position (uses_of f).position u) h i) (λ ys. operated ns operator xs ys))
  moved ns (x.signed signs e) c d u h = λ i. then_ (moved ns e c d u h i) (λ items. signed signs (atomised ns items))
  moved ns (x.chosen condition e f) c d u h =
      let others : ((uses_of e).position || (uses_of f).position) ≡ false =
      neither_right (uses_of condition).position ((uses_of e).position || (uses_of f).position) u in
      λ i. then_ (truth_of (moved ns condition c d (neither_left (uses_of condition).position ((uses_of e).position || (uses_of f).position) u) h i))
      (λ holds. elim holds [
        | true ↦ moved ns e c d (neither_left (uses_of e).position (uses_of f).position others) h i
        | false ↦ moved ns f c d (neither_right (uses_of e).position (uses_of f).position others) h i
      ])
  moved ns (x.bound binder e body) c d u h = λ i. then_ (moved ns e c d (neither_left (uses_of e).position (uses_of body).position u) h i)
      (bound_by binder (λ item. moved ns body (inside c item) (inside d item) (neither_right (uses_of e).position (uses_of body).position u)
      (inside_alike item h) i))
  moved ns (x.cast word type optional e) c d u h = λ i. then_ (moved ns e c d u h i) (λ items. cast_by ns word type optional (atomised ns items))
  moved ns (x.called function x.no_more) c d h0 h = alone_same ns function 0 c d (same_for (called_uses function x.no_more u.no_uses) h0 h)
  moved ns (x.called function (x.argument e arguments)) c d u h =
      focus_free ns function c.focus d.focus (mean ns e c) (means ns arguments c)
      ∙ (λ i. then_ (arguments_of (moved ns e c d (neither_left (uses_of e).position (uses_of_arguments arguments).position u) h i)
      (all_moved ns arguments c d (neither_right (uses_of e).position (uses_of_arguments arguments).position u) h i)) (call ns function d.focus))

  all_moved : (ns : List Node) (arguments : Exps) (c d : Context) → (uses_of_arguments arguments).position ≡ false → SameBut c d →
      means ns arguments c ≡ means ns arguments d
  all_moved ns x.no_more c d u h = refl
  all_moved ns (x.argument e arguments) c d u h =
      λ i. arguments_of (moved ns e c d (neither_left (uses_of e).position (uses_of_arguments arguments).position u) h i)
      (all_moved ns arguments c d (neither_right (uses_of e).position (uses_of_arguments arguments).position u) h i)

pub positions_free : (ns : List Node) (e : Exp) (c : Context) (item : Item) (position last position' last' : ℕ) → (uses_of e).position ≡ false
    → mean ns e (at c item position last) ≡ mean ns e (at c item position' last')
positions_free ns e c item position last position' last' u =
    moved ns e (at c item position last) (at c item position' last') u (record { item = refl; bound = refl; outer = refl })
