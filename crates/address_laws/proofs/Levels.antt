-- What is known of lines beside one another in an element, so that their constants stand as their leaves say; it holds of the lines in each.
use Rattle.std.proofs.Common.{◌≡◌, Bool, true, false, ◌&&◌, ◌||◌, not, Option, Some, None, List, [], ◌∷◌, map, inl, inr, refl, sym, ap, ◌∙◌, subst}
use Rattle.std.specs.Prelude.{is_none}
use Rattle.std.specs.List.{list_any}
use Rattle.std.proofs.lemmas.Bool.{false≢true}
use Rattle.term_table.specs.declared.groups.Group.{Group}
use Rattle.term_table.specs.declared.contexts.Context.{Context}
use Rattle.inv_terms.specs.declared.entries.Entry.{Entry}
use Rattle.bind_rows.specs.declared.rows.Step.{Step}
use Rattle.bind_table.specs.Lines.{Plan, Cell, nothing, a_line}
use Rattle.bind_table.specs.Laid.{element_numbers, are_distinct}
use Rattle.bind_meaning.specs.Picks.{has_any_term}
use Rattle.bind_meaning.specs.Trees.{has_terms, has_constant, holds, cells_hold, either, spots}
use Rattle.binding_laws.proofs.ListLemmas.{both-true, not-true}
use Rattle.address_laws.specs.Addresses.{Turn, turns, holder}
use Rattle.address_laws.specs.Addressed.{have_terms, is_constant_element, is_constant_attribute, line_fits, constants_fit}
use Rattle.address_laws.proofs.Orders.{In}
use Rattle.address_laws.proofs.Items.{Item, plan_from, ends_of, or-first, or-second}
use Rattle.address_laws.proofs.Turns.{turn-contexts}
use Rattle.address_laws.proofs.Holding.{either-or, or-false, or-assoc, any-same, line-holds, line-terms}
use Rattle.address_laws.proofs.Constants.{constant-writes}
use Rattle.address_laws.proofs.Emitted.{Fits, writing, termed, here, here-is, writing-termed, any-has, any-never, has-either}

module _ (es : List Entry) where
  -- ---- lines without a term hold nothing

  cells-silent : (cells : List Cell) (c : Context) → have_terms cells ≡ false → cells_hold es cells c ≡ false
  cells-silent [] c h = refl
  cells-silent (cell ∷ cells) c h =
      ap (λ b. b || cells_hold es cells c) (constant-writes es cell.row c (or-first (has_any_term cell.row) (have_terms cells) h)) ∙
      cells-silent cells c (or-second (has_any_term cell.row) (have_terms cells) h)

  plan-silent : (plan : Plan) (c : Context) → has_terms plan ≡ false → holds es plan c ≡ false
  plan-silent nothing c h = refl
  plan-silent (a_line s cells inside rest) c h =
      let more = or-second (have_terms cells) (has_terms inside || has_terms rest) h in
      either-or (list_any (λ d. either (cells_hold es cells d) (λ _. holds es inside d)) (spots es c s.group)) (holds es rest c)
      ∙ (ap (λ b. b || holds es rest c)
      (any-same (λ d. either (cells_hold es cells d) (λ _. holds es inside d)) (λ d. false)
      (λ d. either-or (cells_hold es cells d) (holds es inside d)
      ∙ (ap (λ b. b || holds es inside d) (cells-silent cells d (or-first (have_terms cells) (has_terms inside || has_terms rest) h)) ∙
      plan-silent inside d (or-first (has_terms inside) (has_terms rest) more))) (spots es c s.group)
      ∙ any-never (spots es c s.group))
      ∙ plan-silent rest c (or-second (has_terms inside) (has_terms rest) more))

  -- ---- what is known

  -- of lines in an element: whether it is the document, whether its holder holds an entry, and whether it has terms beside these lines
  pub record Level (top held beside : Bool) (plan : Plan) (c : Context) : Type 0 where
    pub fits : constants_fit top beside plan ≡ true
    pub outside : top ≡ true → held ≡ false
    pub above : top ≡ false → holds es plan c ≡ true → held ≡ true
    pub alone : beside ≡ false → has_terms plan ≡ true → held ≡ true → holds es plan c ≡ true

  spots_hold : List Cell → Plan → List Context → Bool
  spots_hold cells inside ds = list_any (λ d. either (cells_hold es cells d) (λ _. holds es inside d)) ds

  either-second : (a b : Bool) → either a (λ _. b) ≡ true → a ≡ false → b ≡ true
  either-second true b h e = absurd (false≢true (sym e))
  either-second false b h e = h

  either-else : (a b : Bool) → either a (λ _. b) ≡ true → b ≡ false → a ≡ true
  either-else true b h e = refl
  either-else false b h e = absurd (false≢true (sym e ∙ h))

  either-later : (a b : Bool) → b ≡ true → either a (λ _. b) ≡ true
  either-later true b h = refl
  either-later false b h = h

  either-now : (a b : Bool) → a ≡ true → either a (λ _. b) ≡ true
  either-now true b h = refl
  either-now false b h = absurd (false≢true h)

  or-now : (a b : Bool) → a ≡ true → (a || b) ≡ true
  or-now true b h = refl
  or-now false b h = absurd (false≢true h)

  or-later : (a b : Bool) → b ≡ true → (a || b) ≡ true
  or-later true b h = refl
  or-later false b h = h

  spots-silent : (cells : List Cell) (inside : Plan) (ds : List Context) → (have_terms cells || has_terms inside) ≡ false →
      list_any (λ d. either (cells_hold es cells d) (λ _. holds es inside d)) ds ≡ false
  spots-silent cells inside ds h =
      any-same (λ d. either (cells_hold es cells d) (λ _. holds es inside d)) (λ d. false)
      (λ d. either-or (cells_hold es cells d) (holds es inside d)
      ∙ (ap (λ b. b || holds es inside d) (cells-silent cells d (or-first (have_terms cells) (has_terms inside) h)) ∙
      plan-silent inside d (or-second (have_terms cells) (has_terms inside) h))) ds
      ∙ any-never ds

  module _ (top held beside : Bool) (s : Step) (cells : List Cell) (inside rest : Plan) (c : Context)
      (k : Level top held beside (a_line s cells inside rest) c) where
    fit-here : line_fits top (beside || has_terms rest) s cells inside ≡ true
    fit-here = (both-true (line_fits top (beside || has_terms rest) s cells inside) _ k.fits).0

    fit-further : (constants_fit false (have_terms cells) inside && constants_fit top (beside || (have_terms cells || has_terms inside)) rest) ≡ true
    fit-further = (both-true (line_fits top (beside || has_terms rest) s cells inside) _ k.fits).1

    pub level-rest : Level top held (beside || (have_terms cells || has_terms inside)) rest c
    level-rest = record {
      fits = (both-true (constants_fit false (have_terms cells) inside) _ fit-further).1;
      outside = k.outside;
      above = λ e h. k.above e (either-later (list_any (λ d. either (cells_hold es cells d) (λ _. holds es inside d)) (spots es c s.group))
          (holds es rest c) h);
      alone = λ e h q.
          let none = or-second beside (have_terms cells || has_terms inside) e in
          either-second (list_any (λ d. either (cells_hold es cells d) (λ _. holds es inside d)) (spots es c s.group)) (holds es rest c)
          (k.alone (or-first beside (have_terms cells || has_terms inside) e)
          (or-later (have_terms cells) (has_terms inside || has_terms rest) (or-later (has_terms inside) (has_terms rest) h)) q)
          (spots-silent cells inside (spots es c s.group) none);
    }

    module _ (ts : List Item) (t : Turn) (cells-are : cells ≡ ends_of ts) (inside-is : inside ≡ plan_from ts)
        (distinct : are_distinct (element_numbers (plan_from ts)) ≡ true)
        (some : ts ≡ [] → ⊥) (among : In t (turns es c s.group)) where
      line-writes : either (cells_hold es cells t.context) (λ _. holds es inside t.context) ≡ writing es s cells inside ts t held distinct cells-are inside-is
          some
      line-writes = line-holds es cells inside ts t.context cells-are inside-is

      line-termed : (have_terms cells || has_terms inside) ≡ termed es s cells inside ts t held distinct cells-are inside-is some
      line-termed = line-terms cells inside ts cells-are inside-is

      here-held : writing es s cells inside ts t held distinct cells-are inside-is some ≡ true →
          here es s cells inside ts t held distinct cells-are inside-is some ≡ true
      here-held e =
          here-is es s cells inside ts t held distinct cells-are inside-is some
          ∙ (ap (λ b. holder b (writing es s cells inside ts t held distinct cells-are inside-is some) held)
          (writing-termed es s cells inside ts t held distinct cells-are inside-is some e) ∙ e)

      here-writes : termed es s cells inside ts t held distinct cells-are inside-is some ≡ true →
          here es s cells inside ts t held distinct cells-are inside-is some ≡ true
          → writing es s cells inside ts t held distinct cells-are inside-is some ≡ true
      here-writes e h =
          sym (here-is es s cells inside ts t held distinct cells-are inside-is some
          ∙ ap (λ b. holder b (writing es s cells inside ts t held distinct cells-are inside-is some) held) e) ∙ h

      pub level-inside : Level false (here es s cells inside ts t held distinct cells-are inside-is some) (have_terms cells) inside t.context
      level-inside = record {
        fits = (both-true (constants_fit false (have_terms cells) inside) _ fit-further).0;
        outside = λ e. absurd (false≢true e);
        above = λ e h. here-held (sym line-writes ∙ either-later (cells_hold es cells t.context) (holds es inside t.context) h);
        alone = λ e h q.
            either-second (cells_hold es cells t.context) (holds es inside t.context)
            (line-writes ∙ here-writes (sym line-termed ∙ or-later (have_terms cells) (has_terms inside) h) q) (cells-silent cells t.context e);
      }

      in-context : (t : Turn) (ts : List Turn) → In t ts → In t.context (map (λ (u : Turn). u.context) ts)
      in-context t [] k = elim k [ ]
      in-context t (u ∷ us) (inl e) = inl (ap (λ (v : Turn). v.context) e)
      in-context t (u ∷ us) (inr k) = inr (in-context t us k)

      spot : In t.context (spots es c s.group)
      spot = subst (In t.context) (turn-contexts es c s.group) (in-context t (turns es c s.group) among)

      whole-holds : writing es s cells inside ts t held distinct cells-are inside-is some ≡ true → holds es (a_line s cells inside rest) c ≡ true
      whole-holds e =
          either-now (list_any (λ d. either (cells_hold es cells d) (λ _. holds es inside d)) (spots es c s.group)) (holds es rest c)
          (any-has (λ d. either (cells_hold es cells d) (λ _. holds es inside d)) t.context (spots es c s.group) spot (line-writes ∙ e))

      fit-constants : has_constant cells ≡ true → (not s.always && (not (top && list_any is_constant_element cells)
          && (not (list_any is_constant_attribute cells && (have_terms cells || has_terms inside)) ||
          (top || (not (beside || has_terms rest) && is_none s.group))))) ≡ true
      fit-constants e = by (has_constant cells) e fit-here
        where
          by : (b : Bool) {r : Bool} → b ≡ true → (not b || r) ≡ true → r ≡ true
          by true e h = h
          by false e h = absurd (false≢true e)

      termed-here : termed es s cells inside ts t held distinct cells-are inside-is some ≡ true → (have_terms cells || has_terms inside) ≡ true
      termed-here e = line-termed ∙ e

      single : (group : Option Group) → is_none group ≡ true → In t (turns es c group) →
          list_any (λ d. either (cells_hold es cells d) (λ _. holds es inside d)) (spots es c group) ≡ true
          → either (cells_hold es cells t.context) (λ _. holds es inside t.context) ≡ true
      single None e (inl m) h =
          subst (λ (u : Turn). either (cells_hold es cells u.context) (λ _. holds es inside u.context) ≡ true) (sym m)
          (sym (or-false (either (cells_hold es cells c) (λ _. holds es inside c))) ∙ h)
      single None e (inr m) h = elim m [ ]
      single (Some group) e m h = absurd (false≢true e)

      alone-parts : (x a n b g : Bool) → (not (x && a) || (n || (not b && g))) ≡ true → x ≡ true → a ≡ true → n ≡ false → (b ≡ false) × (g ≡ true)
      alone-parts true true false false true h p q r = (refl, refl)
      alone-parts true true false false false h p q r = absurd (false≢true h)
      alone-parts true true false true g h p q r = absurd (false≢true h)
      alone-parts true true true b g h p q r = absurd (false≢true (sym r))
      alone-parts true false n b g h p q r = absurd (false≢true q)
      alone-parts false a n b g h p q r = absurd (false≢true p)

      text-parts : (n x : Bool) → not (n && x) ≡ true → n ≡ true → x ≡ true → ⊥
      text-parts true true h p q = false≢true h
      text-parts true false h p q = false≢true q
      text-parts false x h p q = false≢true p

      pub fits-here : Fits es s cells inside ts t held distinct cells-are inside-is some
      fits-here = record {
        marked = λ e. not-true s.always (both-true (not s.always) _ (fit-constants e)).0;
        texts = λ e w. text-held top refl e w;
        alone = λ e m h. alone-held top refl e m h;
      }
        where
          parts : has_constant cells ≡ true → (not (top && list_any is_constant_element cells)
              && (not (list_any is_constant_attribute cells && (have_terms cells || has_terms inside)) ||
              (top || (not (beside || has_terms rest) && is_none s.group)))) ≡ true
          parts e = (both-true (not s.always) _ (fit-constants e)).1

          text-held : (n : Bool) → top ≡ n → list_any is_constant_element cells ≡ true →
              writing es s cells inside ts t held distinct cells-are inside-is some ≡ true → held ≡ true
          text-held true p e w =
              absurd (text-parts top (list_any is_constant_element cells)
              (both-true (not (top && list_any is_constant_element cells)) _ (parts (has-either cells ∙ or-now (list_any is_constant_element cells) _ e))).0 p
              e)
          text-held false p e w = k.above p (whole-holds w)

          alone-held : (n : Bool) → top ≡ n → list_any is_constant_attribute cells ≡ true →
              termed es s cells inside ts t held distinct cells-are inside-is some ≡ true → held ≡ true
              → writing es s cells inside ts t held distinct cells-are inside-is some ≡ true
          alone-held true p e m h = absurd (false≢true (sym (k.outside p) ∙ h))
          alone-held false p e m h =
              let q = alone-parts (list_any is_constant_attribute cells) (have_terms cells || has_terms inside) top (beside || has_terms rest) (is_none s.group)
              (both-true (not (top && list_any is_constant_element cells)) _ (parts (has-either cells ∙ or-later (list_any is_constant_element cells) _ e))).1 e
              (termed-here m) p in
              let all = k.alone (or-first beside (has_terms rest) q.0) (sym (or-assoc (have_terms cells) (has_terms inside) (has_terms rest)) ∙
              or-now (have_terms cells || has_terms inside) (has_terms rest) (termed-here m)) h in
              sym line-writes ∙ single s.group q.1 among
              (either-else (list_any (λ d. either (cells_hold es cells d) (λ _. holds es inside d)) (spots es c s.group)) (holds es rest c) all
              (plan-silent rest c (or-second beside (has_terms rest) q.0)))
