-- A table that is whole stays so where a row joins it.
use Rattle.std.proofs.Common.{◌≡◌, ℕ, ◌+◌, Bool, true, false, not, ◌&&◌, ◌||◌, List, [], ◌∷◌, ◌++◌, length, filter, Some, None, inl, refl, sym, ap, ◌∙◌}
use Rattle.std.proofs.Common.{subst, append_assoc}
use Rattle.std.specs.Prelude.{if◌then◌else◌, is_some, nat_lt}
use Rattle.std.specs.List.{list_all, list_any}
use Rattle.std.proofs.lemmas.Bool.{false≢true}
use Rattle.term_table.specs.declared.terms.Term.{Term}
use Rattle.term_table.specs.SemanticModel.{same_term}
use Rattle.term_table.proofs.SeatLemmas.{same_term_is}
use Rattle.inv_terms.specs.Values.{trimmed}
use Rattle.bind_rows.specs.declared.names.Leaf.{Leaf}
use Rattle.bind_rows.specs.declared.names.Leaf.TheVariants as leaves
use Rattle.bind_rows.specs.declared.rows.Content.{Content}
use Rattle.bind_rows.specs.declared.rows.Content.TheVariants as contents
use Rattle.bind_rows.specs.declared.rows.Row.{Row}
use Rattle.bind_rows.specs.declared.rows.Step.{Step}
use Rattle.bind_rows.specs.declared.tables.DocumentType.{DocumentType}
use Rattle.bind_rows.specs.Same.{same_step, choose}
use Rattle.bind_table.specs.declared.extending.AddedTerm.{AddedTerm}
use Rattle.bind_table.specs.Extending.{added_row, extended}
use Rattle.bind_table.specs.Lines.{Cell, Plan, nothing, a_line, into, own_cells, add, plan_of}
use Rattle.bind_table.proofs.SameLemmas.{step-sound}
use Rattle.bind_table.proofs.PathLemmas.{step-itself}
use Rattle.bind_meaning.specs.Elements.{is_one_of}
use Rattle.bind_meaning.specs.Picks.{has_any_term, has_term, term_in}
use Rattle.bind_meaning.specs.Said.{words}
use Rattle.bind_meaning.specs.Trees.{is_at_element}
use Rattle.binding_laws.specs.Apart.{is_unguarded, is_nothing, rows_so, Known, beyond, is_unwritten, is_met_or_unwritten}
use Rattle.binding_laws.specs.Known.{known_of}
use Rattle.binding_laws.specs.Plain.{is_one, is_element, is_always}
use Rattle.binding_laws.proofs.ListLemmas.{both-true}
use Rattle.binding_laws.proofs.ReachLemmas.{Among, all-is}
use Rattle.extension_laws.specs.Joins.{Joins, JoinEach}
use Rattle.extension_laws.specs.Ways.{part, are_unguarded}
use Rattle.extension_laws.proofs.AddLemmas.{or-first, called-as-itself}
use Rattle.extension_laws.proofs.AloneLemmas.{part-other, known-same}
use Rattle.extension_laws.proofs.FindLemmas.{plan-more}
use Rattle.extension_laws.proofs.JoinLemmas.{is, own-parts}
use Rattle.extension_laws.proofs.ListLemmas.{all-more}
use Rattle.whole_laws.specs.Whole.{shows_constant, says_alone, shows_part, has_mains, lines_meet, is_full_rule, ends_at, is_only, is_told, is_whole}
use Rattle.whole_laws.proofs.ElementLemmas.{Front}
use Rattle.whole_laws.proofs.WalkLemmas.{Rowed, plan-rowed}

and-is : (a b : Bool) → a ≡ true → b ≡ true → (a && b) ≡ true
and-is a b e f = ap (λ x. x && b) e ∙ f

-- ---- a path that goes through the end of another doesn't part from it

never-parts : (up : List Step) (s : Step) (steps : List Step) → part (up ++ (s ∷ steps)) (up ++ (s ∷ [])) ≡ false
never-parts [] s steps =
    ap (λ b. elim b [ true ↦ same_step s s && part steps [] | false ↦ true ]) (called-as-itself s.name)
    ∙ (ap (λ b. b && part steps []) (step-itself s) ∙ ends steps)
  where
    ends : (steps : List Step) → part steps [] ≡ false
    ends [] = refl
    ends (u ∷ us) = refl
never-parts (u ∷ up) s steps =
    ap (λ b. elim b [ true ↦ same_step u u && part (up ++ (s ∷ steps)) (up ++ (s ∷ [])) | false ↦ true ]) (called-as-itself u.name)
    ∙ (ap (λ b. b && part (up ++ (s ∷ steps)) (up ++ (s ∷ []))) (step-itself u) ∙ never-parts up s steps)

-- ---- lines with a new row at an element

module _ (rows : List Row) (row : Row) (leaf : row.leaf ≡ leaves.Element) (term : has_any_term row ≡ true)
    (parts : (r : Row) → Among r rows → part row.path r.path ≡ true) (n : ℕ) where
  there : is_at_element (record { number = n; row = row }) ≡ true
  there = ap (λ (l : Leaf). elim l [ leaves.Element ↦ true | (leaves.Attribute local) ↦ false ]) leaf

  no-constant : shows_constant (record { number = n; row = row }) ≡ false
  no-constant = λ i. there i && not (term i)

  no-part : shows_part (record { number = n; row = row }) ≡ false
  no-part = ap (λ b. not b && has_any_term row) there

  new-alone : (steps : List Step) (inside : Plan) → says_alone (own_cells steps (record { number = n; row = row }) []) inside ≡ true
  new-alone [] inside = ap (λ b. not (b || false) || (is_nothing inside && is_one (rows_so is_at_element (record { number = n; row = row } ∷ [])))) no-constant
  new-alone (u ∷ us) inside = refl

  new-mains : (steps : List Step) → has_mains (own_cells steps (record { number = n; row = row }) []) ≡ true
  new-mains [] = ap (λ b. not (b || false) || list_any is_at_element (record { number = n; row = row } ∷ [])) no-part
  new-mains (u ∷ us) = refl

  -- no row ends at an element that the new one goes through
  no-cells : (up steps : List Step) (t : Step) (cells : List Cell) → row.path ≡ up ++ (t ∷ steps) → Front rows (up ++ (t ∷ [])) cells → cells ≡ []
  no-cells up steps t [] leads own = refl
  no-cells up steps t (c ∷ cells) leads own =
      let w = own c (inl refl) in
      absurd (false≢true (sym (never-parts up t steps) ∙ ((λ i. part (sym leads i) (sym w.1 i)) ∙ parts c.row w.0)))

  -- the line of a step of the new row
  line-meets : (known : Known) (s : Step) (steps : List Step) (inside rest : Plan) → is_unguarded s.guards ≡ true
      → lines_meet (beyond s.group known) inside ≡ true → lines_meet known rest ≡ true
      → lines_meet known (a_line s (own_cells steps (record { number = n; row = row }) []) inside rest) ≡ true
  line-meets known s steps inside rest free below behind =
      let cells : List Cell = own_cells steps (record { number = n; row = row }) [] in
      and-is (is_met_or_unwritten known s.guards s cells inside) _
      (or-first (is_unguarded s.guards) _ (is_unwritten known.gone s cells inside) free)
      (and-is (says_alone cells inside && has_mains cells) _ (and-is (says_alone cells inside) (has_mains cells) (new-alone steps inside) (new-mains steps))
      (and-is (lines_meet (beyond s.group known) inside) (lines_meet known rest) below behind))

  module _ (up : List Step) (s : Step) (steps : List Step) (leads : row.path ≡ up ++ (s ∷ steps)) (free : is_unguarded s.guards ≡ true)
      (deeper : (known : Known) (inside : Plan) → Rowed rows (up ++ (s ∷ [])) inside → lines_meet known inside ≡ true
      → lines_meet known (add steps (record { number = n; row = row }) inside) ≡ true) where
    into-meets : (known : Known) (plan : Plan) → Rowed rows up plan → lines_meet known plan ≡ true
        → lines_meet known (into s (own_cells steps (record { number = n; row = row })) (add steps (record { number = n; row = row })) plan) ≡ true
    into-meets known nothing own h = line-meets known s steps (add steps (record { number = n; row = row }) nothing) nothing free
        (deeper (beyond s.group known) nothing tt refl) refl
    into-meets known (a_line t cells inside rest) own h =
        go (into-meets known rest own.2 f.1) (same_step s t) (nat_lt s.number t.number) refl
      where
        a : (is_met_or_unwritten known t.guards t cells inside ≡ true) × (((says_alone cells inside && has_mains cells) &&
            (lines_meet (beyond t.group known) inside && lines_meet known rest)) ≡ true)
        a = both-true (is_met_or_unwritten known t.guards t cells inside) _ h

        b : ((says_alone cells inside && has_mains cells) ≡ true) × ((lines_meet (beyond t.group known) inside && lines_meet known rest) ≡ true)
        b = both-true (says_alone cells inside && has_mains cells) _ a.1

        f : (lines_meet (beyond t.group known) inside ≡ true) × (lines_meet known rest ≡ true)
        f = both-true (lines_meet (beyond t.group known) inside) (lines_meet known rest) b.1

        same : s ≡ t → lines_meet known (a_line t (own_cells steps (record { number = n; row = row }) cells)
            (add steps (record { number = n; row = row }) inside) rest) ≡ true
        same e =
            subst (λ x. lines_meet known (a_line x (own_cells steps (record { number = n; row = row }) cells)
            (add steps (record { number = n; row = row }) inside) rest) ≡ true) e
            (ap (λ c. lines_meet known (a_line s (own_cells steps (record { number = n; row = row }) c)
            (add steps (record { number = n; row = row }) inside) rest))
            (no-cells up steps s cells leads (subst (λ x. Front rows (up ++ (x ∷ [])) cells) (sym e) own.0))
            ∙ line-meets known s steps (add steps (record { number = n; row = row }) inside) rest free
            (deeper (beyond s.group known) inside (subst (λ x. Rowed rows (up ++ (x ∷ [])) inside) (sym e) own.1)
            (subst (λ (x : Step). lines_meet (beyond x.group known) inside ≡ true) (sym e) f.0)) f.1)

        go : lines_meet known (into s (own_cells steps (record { number = n; row = row })) (add steps (record { number = n; row = row })) rest) ≡ true
            → (x y : Bool) → same_step s t ≡ x
            → lines_meet known (choose x (λ _. a_line t (own_cells steps (record { number = n; row = row }) cells)
            (add steps (record { number = n; row = row }) inside) rest)
            (λ _. choose y (λ _. a_line s (own_cells steps (record { number = n; row = row }) []) (add steps (record { number = n; row = row }) nothing)
            (a_line t cells inside rest))
            (λ _. a_line t cells inside (into s (own_cells steps (record { number = n; row = row })) (add steps (record { number = n; row = row })) rest))))
            ≡ true
        go later true y e = same (step-sound s t e)
        go later false true e =
            line-meets known s steps (add steps (record { number = n; row = row }) nothing) (a_line t cells inside rest) free
            (deeper (beyond s.group known) nothing tt refl) h
        go later false false e =
            and-is (is_met_or_unwritten known t.guards t cells inside) _ a.0
            (and-is (says_alone cells inside && has_mains cells) _ b.0
            (and-is (lines_meet (beyond t.group known) inside) _ f.0 later))

  add-meets : (steps up : List Step) → row.path ≡ up ++ steps → are_unguarded steps ≡ true → (known : Known) (plan : Plan) → Rowed rows up plan
      → lines_meet known plan ≡ true → lines_meet known (add steps (record { number = n; row = row }) plan) ≡ true
  add-meets [] up leads free known plan own h = h
  add-meets (s ∷ steps) up leads free known plan own h =
      let w = both-true (is_unguarded s.guards) (are_unguarded steps) free in
      into-meets up s steps leads w.0
      (λ k inside o m. add-meets steps (up ++ (s ∷ [])) (leads ∙ sym (append_assoc up (s ∷ []) steps)) w.1 k inside o m) known plan own h

-- ---- rows

filter-more : {X : Type 0} (p : X → Bool) (xs : List X) (y : X) → p y ≡ false → filter p (xs ++ (y ∷ [])) ≡ filter p xs
filter-more p [] y h = ap (λ b. if b then y ∷ [] else []) h
filter-more p (x ∷ xs) y h = ap (λ l. if p x then x ∷ l else l) (filter-more p xs y h)

module _ (rows : List Row) (row : Row) (joins : Joins rows row) where
  other-term : (r : Row) → Among r rows → (t : Term) → r.content ≡ contents.Term t → has_term t row ≡ false
  other-term r a t e = ap (λ (c : Content). elim (term_in c) [ None ↦ false | Some u ↦ same_term u t ]) joins.content ∙ go (same_term joins.term t) refl
    where
      go : (b : Bool) → same_term joins.term t ≡ b → b ≡ false
      go false h = refl
      go true h =
          let none = all-is (λ (other : Row). not (has_term joins.term other)) rows r joins.alone a in
          let has : has_term joins.term r ≡ true =
          ap (λ (c : Content). elim (term_in c) [ None ↦ false | Some u ↦ same_term u joins.term ]) e
          ∙ (ap (λ u. same_term u joins.term) (sym (same_term_is joins.term t h))
          ∙ (ap (λ u. same_term joins.term u) (same_term_is joins.term t h) ∙ h)) in
          absurd (false≢true (ap not (sym has) ∙ none))

  elsewhere : (r : Row) → Among r rows → ends_at r.path row ≡ false
  elsewhere r a = ap (λ b. is_element row.leaf && b) (part-other row.path r.path (own-parts rows row joins r a)) ∙ none (is_element row.leaf)
    where
      none : (b : Bool) → (b && false) ≡ false
      none true = refl
      none false = refl

  only-more : (r : Row) → Among r rows → (t : Term) → r.content ≡ contents.Term t → is_only rows r t ≡ true → is_only (rows ++ (row ∷ [])) r t ≡ true
  only-more r a t e h = (λ i. is_always r.written && (is_one (filter-more (has_term t) rows row (other-term r a t e) i) &&
      is_one (filter-more (ends_at r.path) rows row (elsewhere r a) i))) ∙ h

  told-more : (r : Row) → Among r rows → is_told rows r ≡ true → is_told (rows ++ (row ∷ [])) r ≡ true
  told-more r a h = go r.content refl h
    where
      by-leaf : (leaf : Leaf) (t : Term) → r.content ≡ contents.Term t
          → (elim leaf [ leaves.Element ↦ true | (leaves.Attribute local) ↦ is_only rows r t ]) ≡ true
          → (elim leaf [ leaves.Element ↦ true | (leaves.Attribute local) ↦ is_only (rows ++ (row ∷ [])) r t ]) ≡ true
      by-leaf leaves.Element t e k = refl
      by-leaf (leaves.Attribute local) t e k = only-more r a t e k

      go : (c : Content) → r.content ≡ c
          → (elim c [
            | (contents.Term t) ↦ is_full_rule r.written && elim r.leaf [ leaves.Element ↦ true | (leaves.Attribute local) ↦ is_only rows r t ]
            | (contents.Constant text) ↦ is_one_of (words text) (trimmed text)
          ]) ≡ true
          → (elim c [
            | (contents.Term t) ↦ is_full_rule r.written &&
                elim r.leaf [ leaves.Element ↦ true | (leaves.Attribute local) ↦ is_only (rows ++ (row ∷ [])) r t ]
            | (contents.Constant text) ↦ is_one_of (words text) (trimmed text)
          ]) ≡ true
      go (contents.Constant text) e k = k
      go (contents.Term t) e k =
          let w = both-true (is_full_rule r.written) _ k in
          and-is (is_full_rule r.written) _ w.0 (by-leaf r.leaf t e w.1)

  told-itself : is_told (rows ++ (row ∷ [])) row ≡ true
  told-itself =
      ap (λ (c : Content). elim c [
        | (contents.Term t) ↦ is_full_rule row.written &&
            elim row.leaf [ leaves.Element ↦ true | (leaves.Attribute local) ↦ is_only (rows ++ (row ∷ [])) row t ]
        | (contents.Constant text) ↦ is_one_of (words text) (trimmed text)
      ]) joins.content
      ∙ (λ i. is_full_rule ((is rows row joins).written i) && elim ((is rows row joins).leaf i) [
        | leaves.Element ↦ true
        | (leaves.Attribute local) ↦ is_only (rows ++ (row ∷ [])) row joins.term
      ])

  pub whole-more : is_whole rows ≡ true → is_whole (rows ++ (row ∷ [])) ≡ true
  whole-more whole =
      let w = both-true (lines_meet (known_of rows) (plan_of rows)) (list_all (is_told rows) rows) whole in
      let term : has_any_term row ≡ true = ap (λ (c : Content). is_some (term_in c)) joins.content in
      let meets = add-meets rows row (is rows row joins).leaf term (own-parts rows row joins) (0 + length rows) row.path [] refl (is rows row joins).free
      (known_of rows) (plan_of rows) (plan-rowed rows) w.0 in
      and-is (lines_meet (known_of (rows ++ (row ∷ []))) (plan_of (rows ++ (row ∷ [])))) _
      ((λ i. lines_meet (known-same rows row joins i) (plan-more rows row i)) ∙ meets)
      (all-more (is_told (rows ++ (row ∷ []))) rows row
      (λ r a. told-more r a (all-is (is_told rows) rows r w.1 a)) told-itself)

-- ---- so do the rows of terms

pub whole-extended : (table : DocumentType) (terms : List AddedTerm) (rows : List Row) → is_whole rows ≡ true → JoinEach table rows terms
    → is_whole (extended table rows terms) ≡ true
whole-extended table [] rows whole joins = whole
whole-extended table (a ∷ terms) rows whole joins =
    whole-extended table terms (rows ++ (added_row table rows a ∷ [])) (whole-more rows (added_row table rows a) joins.0 whole) joins.1
