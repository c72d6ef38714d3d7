use Rattle.std.proofs.Common.{◌≡◌, ℕ, ◌+◌, ◌≤◌, Bool, true, false, cond, eqb, List, [], ◌∷◌, Option, Some, None, drop, refl, sym, ap, ◌∙◌, arith, rules, subst}
use Rattle.std.specs.Option.{IfSome}
use Rattle.std.proofs.lemmas.List.{drop_all}
use Rattle.xpath_tokens.proofs.Walks.{goes_on}
use Rattle.xpath_tokens.proofs.ClosingLaws.{ending, ending-begin, ending-none, open-step, doubled-step, closed-step}
use Rattle.xpath_tokens.proofs.scanning.closing_length.Invariants.{Known}
use Rattle.xpath_tokens.proofs.scanning.closing_length.Goals as goal
use Rattle.xpath_tokens.proofs.scanning.closing_length.Goals.{then-c-quote+else-closed, else-c-quote+then-closed-2, else-c-quote+else-closed-2}

pub returns-then-closed-clause-exact : goal.returns-then-closed-clause-exact
returns-then-closed-clause-exact c =
    let differs : eqb c.index-text-i.result c.args.quote ≡ false = search rules in
    closed-step c.args.quote c.characters.end c.characters.i c.index-text-i.result (drop (c.characters.i + 1) c.args.text.now)
    (drop c.characters.i c.args.text.now) c.characters.closed _
    c.if-closed.true (c.characters.invariant.closes c.if-closed.true) (goes_on c.args.text.now c.characters.i _ (omega arith) c.index-text-i.is) differs
    c.characters.invariant.same
    ∙ ending-begin c.args.quote c.args.text.now

pub returns-clause-exact : goal.returns-clause-exact
returns-clause-exact c =
    let past : drop c.characters.i c.args.text.now ≡ [] = drop_all c.characters.i c.args.text.now (omega arith) in
    sym (ending-none c.args.quote c.characters.closed c.characters.end c.characters.i c.characters.invariant.closes)
    ∙ ap (ending c.args.quote c.characters.closed c.characters.end c.characters.i) (sym past) ∙ c.characters.invariant.same ∙
    ending-begin c.args.quote c.args.text.now

-- what is known after one more character, where it may close the string and where it can't
opened : (quote : ℕ) (text : List ℕ) (end : Option ℕ) (i x : ℕ) (closed later_closed : Bool) (later_end : Option ℕ) → drop i text ≡ x ∷ drop (i + 1) text →
    closed ≡ false
    → later_closed ≡ eqb x quote → later_end ≡ cond (eqb x quote) (Some (i + 1)) end → Known quote text closed end i →
    Known quote text later_closed later_end (i + 1)
opened quote text end i x closed later_closed later_end next e f g known =
    subst (λ b. Known quote text b later_end (i + 1)) (sym f) (subst (λ y. Known quote text (eqb x quote) y (i + 1)) (sym g) (record {
      same = open-step quote end i x (drop (i + 1) text) (drop i text) closed (ending quote false None 0 text) e next known.same;
      closes = λ t. rw t refl;
      within = bounded (eqb x quote) end known.within;
    })) where
      wider : (end : Option ℕ) → IfSome end (λ n. n ≤ i) → IfSome end (λ n. n ≤ i + 1)
      wider None h = tt
      wider (Some n) h = omega arith

      bounded : (b : Bool) (end : Option ℕ) → IfSome end (λ n. n ≤ i) → IfSome (cond b (Some (i + 1)) end) (λ n. n ≤ i + 1)
      bounded true end h = omega arith
      bounded false end h = wider end h

doubled : (quote : ℕ) (text : List ℕ) (end : Option ℕ) (i x : ℕ) (closed later_closed : Bool) (later_end : Option ℕ) → drop i text ≡ x ∷ drop (i + 1) text →
    closed ≡ true → eqb x quote ≡ true
    → later_closed ≡ false → later_end ≡ end → Known quote text closed end i → Known quote text later_closed later_end (i + 1)
doubled quote text end i x closed later_closed later_end next e t f g known =
    subst (λ b. Known quote text b later_end (i + 1)) (sym f) (subst (λ y. Known quote text false y (i + 1)) (sym g) (record {
      same = doubled-step quote end i x (drop (i + 1) text) (drop i text) closed (ending quote false None 0 text) e (known.closes e) next t known.same;
      closes = λ h. absurd (differs h);
      within = wider end known.within;
    })) where
      differs : false ≡ true → ⊥
      differs h = cc

      wider : (end : Option ℕ) → IfSome end (λ n. n ≤ i) → IfSome end (λ n. n ≤ i + 1)
      wider None h = tt
      wider (Some n) h = omega arith

pub characters-preserved : goal.characters-preserved
characters-preserved c =
    let next = goes_on c.args.text.now c.characters.i c.index-text-i.result (omega arith) c.index-text-i.is in
    elim c.if-c-quote.branch [
      | then-c-quote+else-closed w ↦
          let differs : eqb c.index-text-i.result c.args.quote ≡ false = search rules in
          opened c.args.quote c.args.text.now c.characters.end c.characters.i c.index-text-i.result c.characters.closed _ _ next w.if-closed.false
          (w.closed-is ∙ w.if-closed.false ∙ sym differs) (w.end-is ∙ rw differs refl) c.characters.invariant
      | else-c-quote+then-closed-2 w ↦
          let same : eqb c.index-text-i.result c.args.quote ≡ true = search rules in
          doubled c.args.quote c.args.text.now c.characters.end c.characters.i c.index-text-i.result c.characters.closed _ _ next w.if-closed-2.true same
          w.closed-is w.end-is c.characters.invariant
      | else-c-quote+else-closed-2 w ↦
          let same : eqb c.index-text-i.result c.args.quote ≡ true = search rules in
          opened c.args.quote c.args.text.now c.characters.end c.characters.i c.index-text-i.result c.characters.closed _ _ next w.if-closed-2.false
          (w.closed-is ∙ sym same) (w.end-is ∙ rw same refl) c.characters.invariant
    ]
