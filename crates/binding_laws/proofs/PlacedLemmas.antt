-- A row of a table is at the line of its path, where the path stands apart. So a plain row is one by a test that computes.
use Rattle.std.proofs.Common.{◌≡◌, ℕ, suc, zero, ◌+◌, ◌<◌, Bool, true, false, not, ◌&&◌, ◌||◌, List, [], ◌∷◌, ◌++◌, length, get_or, map, filter, flat_map}
use Rattle.std.proofs.Common.{Option, Some, None, ◌⊎◌, inl, inr, All, refl, sym, ap, ◌∙◌, subst, append_assoc, arith}
use Rattle.std.specs.Prelude.{slice_get, is_some, is_none, Contains}
use Rattle.std.proofs.lemmas.Bool.{false≢true}
use Rattle.std.proofs.lemmas.List.Sorted.{Contains-permutation}
use Rattle.std.specs.List.{list_any}
use Rattle.std.specs.Cmp.Lexicographic.{pointwise}
use Rattle.term_table.specs.declared.groups.Group.{Group}
use Rattle.term_table.specs.declared.terms.Term.{Term}
use Rattle.term_table.specs.Groups.{same_group}
use Rattle.term_table.proofs.SeatLemmas.{same_term_is}
use Rattle.bind_rows.specs.declared.names.Leaf.{Leaf}
use Rattle.bind_rows.specs.declared.names.Leaf.TheVariants as leaves
use Rattle.bind_rows.specs.declared.rows.Content.{Content}
use Rattle.bind_rows.specs.declared.rows.Content.TheVariants as contents
use Rattle.bind_rows.specs.declared.rows.Form.{Form}
use Rattle.bind_rows.specs.declared.rows.Form.TheVariants as forms
use Rattle.bind_rows.specs.declared.rows.Written.{Written}
use Rattle.bind_rows.specs.declared.rows.Written.TheVariants as written
use Rattle.bind_rows.specs.declared.rows.Step.{Step}
use Rattle.bind_rows.specs.declared.rows.Row.{Row}
use Rattle.bind_rows.specs.Same.{same_step, same_or_none}
use Rattle.bind_table.specs.Lines.{Cell, Plan, nothing, a_line, plan_of}
use Rattle.bind_table.specs.Ends.{End, end_at, ends, own_ends}
use Rattle.bind_table.proofs.SameLemmas.{step-sound, pointwise-sound, group-sound}
use Rattle.std.specs.Str.{bytes_eq}
use Rattle.std.proofs.lemmas.Slice.Eq.{bytes_eq-Decides}
use Rattle.bind_table.proofs.EndLemmas.{rows-ends}
use Rattle.bind_table.proofs.PathLemmas.{step-itself}
use Rattle.bind_meaning.specs.Values.{subject_code, form_for}
use Rattle.bind_meaning.specs.Picks.{has_term}
use Rattle.bind_meaning.specs.Trees.{is_at_element, is_amount}
use Rattle.bind_meaning.specs.Currencies.{currency_id}
use Rattle.binding_laws.specs.Apart as apart
use Rattle.binding_laws.specs.Apart.{is_attribute_named, is_at_attribute, is_nothing, Known, without, unknown, beyond, is_met_or_unwritten, is_off, is_clear}
use Rattle.binding_laws.specs.Apart.{is_apart, stands_apart_without, stands_apart}
use Rattle.binding_laws.specs.Covered.{is_coded, is_noted_in, is_or_placeholder, is_filled_there, is_filled_in, is_total_rule, is_accounting_rule}
use Rattle.binding_laws.specs.Covered.{accounting_terms}
use Rattle.binding_laws.specs.Covered.{total_terms, beside_placeholder, is_total_there, is_half, are_pair_there, are_pair, unpaired_terms, is_total_in}
use Rattle.binding_laws.specs.Twins.{same_way, are_twins}
use Rattle.binding_laws.specs.Faultless.{is_no_row}
use Rattle.binding_laws.specs.Plain.{rows_at, stands_there, groups_of, listed, IsPlainThere, IsPlain, is_one, is_element, is_whole, is_of_one_term, is_always}
use Rattle.binding_laws.specs.Plain.{is_by_value, has_content, is_plain_there, is_plain_with, is_plain, IsSpreadWith, IsSpread, is_spread_with, is_spread}
use Rattle.binding_laws.specs.Plain.{IsSpreadAttribute, is_spread_attribute, IsPlainAttributeThere, IsPlainAttribute, is_part_named, is_plain_attribute_with}
use Rattle.binding_laws.specs.Plain.{is_plain_attribute}
use Rattle.binding_laws.proofs.RowLemmas.{called-self}
use Rattle.binding_laws.proofs.ListLemmas.{both-true}
use Rattle.binding_laws.proofs.ReachLemmas.{Among, among-split, among-filter, among-map}

-- ---- lists

cancel : (above x y : List Step) → above ++ x ≡ above ++ y → x ≡ y
cancel [] x y e = e
cancel (s ∷ above) x y e = cancel above x y (let k : s ∷ (above ++ x) ≡ s ∷ (above ++ y) = e in cc)

pub contains-among : {X : Type 0} (x : X) (xs : List X) → Contains xs x → Among x xs
contains-among x [] w = absurd (let l = w.1 in omega (arith, l))
contains-among x (y ∷ xs) w = go (contains-among x xs) w.0 w.1 w.2
  where
    go : (Contains xs x → Among x xs) → (k : ℕ) → k < length (y ∷ xs) → get_or (y ∷ xs) k x ≡ x → (y ≡ x) ⊎ Among x xs
    go later zero l at = inl at
    go later (suc k) l at = inr (later (k, omega (arith, l), at))

pub among-contains : {X : Type 0} (x : X) (xs : List X) → Among x xs → Contains xs x
among-contains x [] h = absurd h
among-contains x (y ∷ xs) (inl s) = (0, omega arith, s)
among-contains x (y ∷ xs) (inr h) = let w = among-contains x xs h in (suc w.0, (let l = w.1 in omega (arith, l)), w.2)

-- ---- where lines end

-- the first step behind those above, which isn't that of a path that these lines are clear of
record IsBehind (known : Known) (above : List Step) (plan : Plan) (path : List Step) : Type 0 where
  first : Step
  further : List Step
  is : path ≡ above ++ (first ∷ further)
  differs : (s : Step) (steps : List Step) → is_clear known plan (s ∷ steps) ≡ true → s ≡ first → ⊥

not-so : (a : Bool) → not a ≡ true → a ≡ false
not-so true h = absurd (false≢true h)
not-so false h = refl

not-same : (s t : Step) → same_step s t ≡ false → s ≡ t → ⊥
not-same s t h e = false≢true (sym h ∙ (ap (same_step s) (sym e) ∙ step-itself s))

clear-parts : (known : Known) (t : Step) (cells : List Cell) (inside rest : Plan) (s : Step) (steps : List Step) →
    is_clear known (a_line t cells inside rest) (s ∷ steps) ≡ true → (s ≡ t → ⊥) × (is_clear known rest (s ∷ steps) ≡ true)
clear-parts known t cells inside rest s steps h = go (apart.is_called s.name t.name) refl h
  where
    go : (b : Bool) → apart.is_called s.name t.name ≡ b → (elim b [
      | true ↦ (not (same_step s t) && (is_off known s.guards t cells inside ||
          elim steps [ [] ↦ false | (u ∷ further) ↦ is_clear (beyond t.group known) inside (u ∷ further) ])) && is_clear known rest (s ∷ steps)
      | false ↦ is_clear known rest (s ∷ steps)
    ]) ≡ true
        → (s ≡ t → ⊥) × (is_clear known rest (s ∷ steps) ≡ true)
    go true e k =
        let w = both-true _ (is_clear known rest (s ∷ steps)) k in
        (not-same s t (not-so (same_step s t) (both-true (not (same_step s t)) _ w.0).0), w.1)
    go false e k = ((λ same. false≢true (sym e ∙ (ap (λ (x : Step). apart.is_called s.name x.name) (sym same) ∙ called-self s.name))), k)

in-cells : (up : List Step) (e : End) (cells : List Cell) → Among e (map (end_at up) cells) → (cell : Cell) × (Among cell cells) × (end_at up cell ≡ e)
in-cells up e [] h = absurd h
in-cells up e (c ∷ cells) (inl s) = (c, inl refl, s)
in-cells up e (c ∷ cells) (inr h) = let w = in-cells up e cells h in (w.0, inr w.1, w.2)

ends-behind : (known : Known) (above : List Step) (plan : Plan) (e : End) → Among e (ends above plan) → IsBehind known above plan e.path
ends-behind known above nothing e h = absurd h
ends-behind known above (a_line t cells inside rest) e h =
    elim (among-split e (map (end_at (above ++ t ∷ [])) cells) (ends (above ++ t ∷ []) inside ++ ends above rest) h) [
      | inl m ↦ let w = in-cells (above ++ t ∷ []) e cells m in
          record { first = t; further = []; is = sym (ap (λ (x : End). x.path) w.2); differs = λ u us c. (clear-parts known t cells inside rest u us c).0 }
      | inr n ↦ elim (among-split e (ends (above ++ t ∷ []) inside) (ends above rest) n) [
        | inl m ↦ let w = ends-behind (beyond t.group known) (above ++ t ∷ []) inside e m in
            record {
              first = t;
              further = w.first ∷ w.further;
              is = w.is ∙ append_assoc above (t ∷ []) (w.first ∷ w.further);
              differs =
                  λ u us c. (clear-parts known t cells inside rest u us c).0;
            }
        | inr m ↦ let w = ends-behind known above rest e m in
            record { first = w.first; further = w.further; is = w.is; differs = λ u us c. w.differs u us (clear-parts known t cells inside rest u us c).1 }
      ]
    ]

-- a row at a line that has its path, is one of those at the end of the path
module _ (is_so : Cell → Bool) where
  ends-apart : (known : Known) (above path : List Step) (plan : Plan) (cell : Cell) → is_apart known plan path ≡ true → is_so cell ≡ true →
      Among (end_at (above ++ path) cell) (ends above plan) → Among cell.row (rows_at is_so plan path)
  ends-apart known above path nothing cell apart_it at h = absurd h
  ends-apart known above [] (a_line t cells inside rest) cell apart_it at h = absurd (false≢true apart_it)
  ends-apart known above (s ∷ path) (a_line t cells inside rest) cell apart_it at h =
      go (λ q. ends-apart (beyond t.group known) (above ++ t ∷ []) q inside cell) (λ k. ends-apart known above (s ∷ path) rest cell k at)
      (same_step s t) refl apart_it
      (among-split (end_at (above ++ (s ∷ path)) cell) (map (end_at (above ++ t ∷ [])) cells) (ends (above ++ t ∷ []) inside ++ ends above rest) h)
    where
      here : (q : List Step) → (c : Cell) → end_at (above ++ t ∷ []) c ≡ end_at (above ++ (s ∷ q)) cell → (t ≡ s) × (q ≡ []) × (c ≡ cell)
      here q c k =
          let path_is : t ∷ [] ≡ s ∷ q = cancel above (t ∷ []) (s ∷ q) (ap (λ (x : End). x.path) k) in
          (cc, cc, ap (λ (x : End). x.cell) k)

      below : (q : List Step) (p : List Step) → p ≡ above ++ (s ∷ q) → IsBehind (beyond t.group known) (above ++ t ∷ []) inside p → (s ≡ t) ×
          ((u : Step) × (us : List Step) × (q ≡ u ∷ us))
      below q p is w =
          let path_is : s ∷ q ≡ t ∷ (w.first ∷ w.further) =
          cancel above (s ∷ q) (t ∷ (w.first ∷ w.further)) (sym is ∙ (w.is ∙ append_assoc above (t ∷ []) (w.first ∷ w.further))) in
          (cc, (w.first, w.further, cc))

      beside : (p : List Step) → p ≡ above ++ (s ∷ path) → is_clear known rest (s ∷ path) ≡ true → IsBehind known above rest p → ⊥
      beside p is clear w =
          let path_is : s ∷ path ≡ w.first ∷ w.further = cancel above (s ∷ path) (w.first ∷ w.further) (sym is ∙ w.is) in
          w.differs s path clear cc

      further-on : (b : Bool) → (elim b [
        | true ↦ (is_off known s.guards t cells inside || elim path [ [] ↦ false | (u ∷ further) ↦ is_clear (beyond t.group known) inside (u ∷ further) ]) &&
            is_apart known rest (s ∷ path)
        | false ↦ is_apart known rest (s ∷ path)
      ]) ≡ true
          → is_apart known rest (s ∷ path) ≡ true
      further-on true k = (both-true _ (is_apart known rest (s ∷ path)) k).1
      further-on false k = k

      at-end : (q : List Step)
          → ((r : List Step) → is_apart (beyond t.group known) inside r ≡ true → is_so cell ≡ true →
          Among (end_at ((above ++ t ∷ []) ++ r) cell) (ends (above ++ t ∷ []) inside) → Among cell.row (rows_at is_so inside r))
          → (elim q [ [] ↦ is_nothing inside | (u ∷ further) ↦ is_apart (beyond t.group known) inside (u ∷ further) ]) ≡ true → s ≡ t
          → (Among (end_at (above ++ (s ∷ q)) cell) (map (end_at (above ++ t ∷ [])) cells)) ⊎
          (Among (end_at (above ++ (s ∷ q)) cell) (ends (above ++ t ∷ []) inside))
          → Among cell.row (elim q [ [] ↦ map (λ (x : Cell). x.row) (filter is_so cells) | (u ∷ further) ↦ rows_at is_so inside (u ∷ further) ])
      at-end [] inner k same (inl m) =
          let w = in-cells (above ++ t ∷ []) (end_at (above ++ (s ∷ [])) cell) cells m in
          among-map (λ (x : Cell). x.row) cell (filter is_so cells) (among-filter is_so cell cells at (subst (λ c. Among c cells) (here [] w.0 w.2).2 w.1))
      at-end [] inner k same (inr m) =
          let w = below [] (above ++ (s ∷ [])) refl (ends-behind (beyond t.group known) (above ++ t ∷ []) inside (end_at (above ++ (s ∷ [])) cell) m) in
          absurd (let z : ◌≡◌ {A = List Step} [] (w.1.0 ∷ w.1.1) = w.1.2 in cc)
      at-end (u ∷ us) inner k same (inl m) =
          let w = in-cells (above ++ t ∷ []) (end_at (above ++ (s ∷ (u ∷ us))) cell) cells m in
          absurd (let z : u ∷ us ≡ [] = (here (u ∷ us) w.0 w.2).1 in cc)
      at-end (u ∷ us) inner k same (inr m) =
          inner (u ∷ us) k at
          (subst (λ p. Among (end_at p cell) (ends (above ++ t ∷ []) inside)) (ap (λ x. above ++ (x ∷ (u ∷ us))) same ∙
          sym (append_assoc above (t ∷ []) (u ∷ us))) m)

      go : ((r : List Step) → is_apart (beyond t.group known) inside r ≡ true → is_so cell ≡ true →
          Among (end_at ((above ++ t ∷ []) ++ r) cell) (ends (above ++ t ∷ []) inside) → Among cell.row (rows_at is_so inside r))
          → (is_apart known rest (s ∷ path) ≡ true → Among (end_at (above ++ (s ∷ path)) cell) (ends above rest) →
          Among cell.row (rows_at is_so rest (s ∷ path)))
          → (b : Bool) → same_step s t ≡ b
          → (elim b [
            | true ↦ is_met_or_unwritten known s.guards t cells inside &&
                (is_clear known rest (s ∷ path) && elim path [ [] ↦ is_nothing inside | (u ∷ further) ↦ is_apart (beyond t.group known) inside (u ∷ further) ])
            | false ↦ elim (apart.is_called s.name t.name) [
              | true ↦ (is_off known s.guards t cells inside || elim path [ [] ↦ false | (u ∷ further) ↦ is_clear (beyond t.group known) inside (u ∷ further) ])
                  && is_apart known rest (s ∷ path)
              | false ↦ is_apart known rest (s ∷ path)
            ]
          ]) ≡ true
          → (Among (end_at (above ++ (s ∷ path)) cell) (map (end_at (above ++ t ∷ [])) cells)) ⊎
          (Among (end_at (above ++ (s ∷ path)) cell) (ends (above ++ t ∷ []) inside ++ ends above rest))
          → Among cell.row (elim b [
            | true ↦ elim path [ [] ↦ map (λ (x : Cell). x.row) (filter is_so cells) | (u ∷ further) ↦ rows_at is_so inside (u ∷ further) ]
            | false ↦ rows_at is_so rest (s ∷ path)
          ])
      go inner later true k l (inl m) =
          let parts = both-true _ _ l in
          let further = both-true _ _ parts.1 in
          at-end path inner further.1 (step-sound s t k) (inl m)
      go inner later true k l (inr n) =
          let parts = both-true _ _ l in
          let further = both-true _ _ parts.1 in
          elim (among-split (end_at (above ++ (s ∷ path)) cell) (ends (above ++ t ∷ []) inside) (ends above rest) n) [
            | inl m ↦ at-end path inner further.1 (step-sound s t k) (inr m)
            | inr m ↦ absurd (beside (above ++ (s ∷ path)) refl further.0 (ends-behind known above rest (end_at (above ++ (s ∷ path)) cell) m))
          ]
      go inner later false k l (inl m) =
          let w = in-cells (above ++ t ∷ []) (end_at (above ++ (s ∷ path)) cell) cells m in
          absurd (not-same s t k (sym (here path w.0 w.2).0))
      go inner later false k l (inr n) =
          elim (among-split (end_at (above ++ (s ∷ path)) cell) (ends (above ++ t ∷ []) inside) (ends above rest) n) [
            | inl m ↦ absurd (not-same s t k (below path (above ++ (s ∷ path)) refl
                (ends-behind (beyond t.group known) (above ++ t ∷ []) inside (end_at (above ++ (s ∷ path)) cell) m)).0)
            | inr m ↦ later (further-on (apart.is_called s.name t.name) l) m
          ]

own-end : (rows : List Row) (n j : ℕ) (row : Row) → slice_get rows j ≡ Some row → (k : ℕ) ×
    (Among (end_at row.path (record { number = k; row = row })) (own_ends n rows))
own-end [] n zero row e = cc
own-end [] n (suc j) row e = cc
own-end (r ∷ rows) n zero row e =
    let same : r ≡ row = let z : Some r ≡ Some row = e in cc in
    (n, inl (ap (λ (x : Row). end_at x.path (record { number = n; row = x })) same))
own-end (r ∷ rows) n (suc j) row e = let w = own-end rows (n + 1) j row e in (w.0, inr w.1)

one-row : (rs : List Row) (row : Row) → is_one rs ≡ true → Among row rs → rs ≡ row ∷ []
one-row [] row h a = absurd a
one-row (r ∷ []) row h (inl s) = ap (λ x. x ∷ []) s
one-row (r ∷ []) row h (inr a) = absurd a
one-row (r ∷ (q ∷ rs)) row h a = absurd (false≢true h)

pub row-known : (known : Known) (is_so : Cell → Bool) (rows : List Row) (j : ℕ) (row : Row) → All (λ (r : Row). 0 < length r.path) rows →
    slice_get rows j ≡ Some row → is_apart known (plan_of rows) row.path ≡ true
    → ((k : ℕ) → is_so (record { number = k; row = row }) ≡ true) → is_one (rows_at is_so (plan_of rows) row.path) ≡ true →
    rows_at is_so (plan_of rows) row.path ≡ row ∷ []
row-known known is_so rows j row long e apart_it so one =
    let w = own-end rows 0 j row e in
    let cell : Cell = record { number = w.0; row = row } in
    let at = contains-among (end_at row.path cell) (ends [] (plan_of rows))
    (Contains-permutation (own_ends 0 rows) (ends [] (plan_of rows)) (end_at row.path cell) (rows-ends rows long)
    (among-contains (end_at row.path cell) (own_ends 0 rows) w.1)) in
    one-row (rows_at is_so (plan_of rows) row.path) row one (ends-apart is_so known [] row.path (plan_of rows) cell apart_it (so w.0) at)

-- ---- the test

leaf-is : (leaf : Leaf) → is_element leaf ≡ true → leaf ≡ leaves.Element
leaf-is leaves.Element h = refl
leaf-is (leaves.Attribute local) h = absurd (false≢true h)

pub rule-is : (rule : Written) → is_always rule ≡ true → rule ≡ written.Always
rule-is written.Always h = refl
rule-is written.Never h = absurd (false≢true h)
rule-is written.IfIban h = absurd (false≢true h)
rule-is written.IfNotIban h = absurd (false≢true h)
rule-is written.IfScheme h = absurd (false≢true h)
rule-is written.IfNoScheme h = absurd (false≢true h)
rule-is (written.OrPlaceholder placeholder) h = absurd (false≢true h)
rule-is written.VatTotal h = absurd (false≢true h)
rule-is written.AccountingVatTotal h = absurd (false≢true h)

content-is : (content : Content) (term : Term) → has_content term content ≡ true → content ≡ contents.Term term
content-is (contents.Term t) term h = ap contents.Term (same_term_is t term h)
content-is (contents.Constant text) term h = absurd (false≢true h)

at-element : {leaf : Leaf} → leaf ≡ leaves.Element → (elim leaf [ leaves.Element ↦ true | (leaves.Attribute local) ↦ false ]) ≡ true
at-element e = ap (λ l. elim l [ leaves.Element ↦ true | (leaves.Attribute local) ↦ false ]) e

pub plain-there-test : (known : Known) (rows : List Row) (j : ℕ) (row : Row) (term : Term) → All (λ (r : Row). 0 < length r.path) rows →
    slice_get rows j ≡ Some row → is_apart known (plan_of rows) row.path ≡ true
    → is_plain_there (plan_of rows) row term ≡ true → IsPlainThere rows row term
plain-there-test known rows j row term long e apart_it h =
    let b = both-true (is_one (rows_at is_at_element (plan_of rows) row.path)) _ h in
    let c = both-true (is_element row.leaf) _ b.1 in
    let d = both-true (has_content term row.content) _ c.1 in
    let g = both-true (is_by_value row.written) _ d.1 in
    let i = both-true (pointwise same_group (groups_of row.path) (listed row.outer ++ listed row.inner)) _ g.1 in
    let l = both-true (is_some row.outer || is_none row.inner) _ i.1 in
    record {
      own = row-known known is_at_element rows j row long e apart_it (λ k. at-element (leaf-is row.leaf c.0)) b.0;
      leaf = leaf-is row.leaf c.0;
      content = content-is row.content term d.0;
      by_value = g.0;
      through = pointwise-sound same_group group-sound (groups_of row.path) (listed row.outer ++ listed row.inner) i.0;
      nested = l.0;
      context = l.1;
    }

-- It is a plain row by what is known of the invoice.
pub record IsPlainWith (known : Known) (rows : List Row) (row : Row) (term : Term) : Type 0 where
  pub apart : is_apart known (plan_of rows) row.path ≡ true
  pub form : is_whole (form_for row.form term) ≡ true
  pub there : IsPlainThere rows row term

pub plain-with-test : (known : Known) (rows : List Row) (j : ℕ) (row : Row) (term : Term) → All (λ (r : Row). 0 < length r.path) rows →
    slice_get rows j ≡ Some row → is_plain_with known (plan_of rows) row term ≡ true
    → IsPlainWith known rows row term
plain-with-test known rows j row term long e h =
    let a = both-true (is_apart known (plan_of rows) row.path) _ h in
    let f = both-true (is_whole (form_for row.form term)) (is_plain_there (plan_of rows) row term) a.1 in
    record { apart = a.0; form = f.0; there = plain-there-test known rows j row term long e a.0 f.1 }

pub plain-by-test : (rows : List Row) (j : ℕ) (row : Row) (term : Term) → All (λ (r : Row). 0 < length r.path) rows → slice_get rows j ≡ Some row →
    is_plain rows row term ≡ true → IsPlain rows row term
plain-by-test rows j row term long e h = let w = plain-with-test unknown rows j row term long e h in record { apart = w.apart; form = w.form; there = w.there }

-- It is plain, but for a subject code in front of its value.
pub record IsNoted (rows : List Row) (row : Row) (term : Term) : Type 0 where
  pub form : form_for row.form term ≡ forms.CodedNote
  pub apart : stands_apart rows row.path ≡ true
  pub there : IsPlainThere rows row term
  pub codes : list_any (has_term subject_code) rows ≡ false

coded-is : (form : Form) → is_coded form ≡ true → form ≡ forms.CodedNote
coded-is forms.Model h = absurd (false≢true h)
coded-is forms.PlainDate h = absurd (false≢true h)
coded-is forms.DueDateTypeCode h = absurd (false≢true h)
coded-is forms.CodedNote h = refl
coded-is (forms.Typed data_type) h = absurd (false≢true h)
coded-is forms.TypedPlainDate h = absurd (false≢true h)

no-group : (o : Option Group) → is_none o ≡ true → o ≡ None
no-group None k = refl
no-group (Some g) k = absurd (false≢true k)

pub spread-with-test : (known : Known) (rows : List Row) (j : ℕ) (row : Row) (term : Term) → All (λ (r : Row). 0 < length r.path) rows →
    slice_get rows j ≡ Some row → is_spread_with known (plan_of rows) row term ≡ true
    → IsSpreadWith known rows row term
spread-with-test known rows j row term long e h =
    let a = both-true (is_apart known (plan_of rows) row.path) _ h in
    let b = both-true (is_one (rows_at is_at_element (plan_of rows) row.path)) _ a.1 in
    let c = both-true (is_element row.leaf) _ b.1 in
    let d = both-true (has_content term row.content) _ c.1 in
    let f = both-true (is_of_one_term (form_for row.form term)) _ d.1 in
    let g = both-true (is_by_value row.written) _ f.1 in
    let i = both-true (is_none row.outer) _ g.1 in
    let l = both-true (is_none row.inner) _ i.1 in
    record {
      apart = a.0;
      own = row-known known is_at_element rows j row long e a.0 (λ k. at-element (leaf-is row.leaf c.0)) b.0;
      leaf = leaf-is row.leaf c.0;
      content = content-is row.content term d.0;
      form = f.0;
      by_value = g.0;
      outer = no-group row.outer i.0;
      inner = no-group row.inner l.0;
      context = l.1;
    }

pub spread-by-test : (rows : List Row) (j : ℕ) (row : Row) (term : Term) → All (λ (r : Row). 0 < length r.path) rows → slice_get rows j ≡ Some row →
    is_spread rows row term ≡ true → IsSpread rows row term
spread-by-test rows j row term long e h = spread-with-test unknown rows j row term long e h

-- It is spread, but for a placeholder that may stand in its place.
pub record IsFilled (rows : List Row) (row : Row) (term : Term) : Type 0 where
  pub placeholder : is_or_placeholder row.written ≡ true
  pub apart : stands_apart rows row.path ≡ true
  pub own : rows_at is_at_element (plan_of rows) row.path ≡ row ∷ []
  pub leaf : row.leaf ≡ leaves.Element
  pub content : row.content ≡ contents.Term term
  pub form : is_of_one_term (form_for row.form term) ≡ true
  pub outer : row.outer ≡ None
  pub inner : row.inner ≡ None
  pub context : stands_there term None None ≡ true

pub filled-by-test : (rows : List Row) (j : ℕ) (row : Row) (term : Term) → All (λ (r : Row). 0 < length r.path) rows → slice_get rows j ≡ Some row →
    is_filled_in (plan_of rows) row term ≡ true → IsFilled rows row term
filled-by-test rows j row term long e h =
    let g = filled-says row term h in
    let a = both-true (stands_apart rows row.path) _ g.1 in
    let b = both-true (is_one (rows_at is_at_element (plan_of rows) row.path)) _ a.1 in
    let c = both-true (is_element row.leaf) _ b.1 in
    let d = both-true (has_content term row.content) _ c.1 in
    let f = both-true (is_of_one_term (form_for row.form term)) _ d.1 in
    let i = both-true (is_none row.outer) _ f.1 in
    let l = both-true (is_none row.inner) _ i.1 in
    record {
      placeholder = g.0;
      apart = a.0;
      own = row-known unknown is_at_element rows j row long e a.0 (λ k. at-element (leaf-is row.leaf c.0)) b.0;
      leaf = leaf-is row.leaf c.0;
      content = content-is row.content term d.0;
      form = f.0;
      outer = no-group row.outer i.0;
      inner = no-group row.inner l.0;
      context = l.1;
    }
  where
    filled-says : (row : Row) (term : Term) → is_filled_in (plan_of rows) row term ≡ true → (is_or_placeholder row.written ≡ true) ×
        (is_filled_there (plan_of rows) row term ≡ true)
    filled-says row term k = go (is_or_placeholder row.written) k
      where
        go : (b : Bool) → (elim b [ true ↦ is_filled_there (plan_of rows) row term | false ↦ false ]) ≡ true → (b ≡ true) ×
            (is_filled_there (plan_of rows) row term ≡ true)
        go true m = (refl, m)
        go false m = absurd (false≢true m)

-- It is the row of a VAT total, which stands apart without these terms.
pub record IsTotalThere (rows : List Row) (others : List Term) (row : Row) (term : Term) : Type 0 where
  pub apart : stands_apart_without others rows row.path ≡ true
  pub own : rows_at is_at_element (plan_of rows) row.path ≡ row ∷ []
  pub leaf : row.leaf ≡ leaves.Element
  pub content : row.content ≡ contents.Term term
  pub form : is_of_one_term (form_for row.form term) ≡ true
  pub free : is_no_row (rows_at (is_at_attribute currency_id) (plan_of rows) row.path) ≡ true
  pub outer : row.outer ≡ None
  pub inner : row.inner ≡ None
  pub context : stands_there term None None ≡ true

there-by-test : (rows : List Row) (others : List Term) (j : ℕ) (row : Row) (term : Term) → All (λ (r : Row). 0 < length r.path) rows →
    slice_get rows j ≡ Some row → is_total_there (plan_of rows) others row term ≡ true
    → IsTotalThere rows others row term
there-by-test rows others j row term long e h =
    let a = both-true (stands_apart_without others rows row.path) _ h in
    let b = both-true (is_one (rows_at is_at_element (plan_of rows) row.path)) _ a.1 in
    let c = both-true (is_element row.leaf) _ b.1 in
    let d = both-true (has_content term row.content) _ c.1 in
    let f = both-true (is_of_one_term (form_for row.form term)) _ d.1 in
    let m = both-true (is_no_row (rows_at (is_at_attribute currency_id) (plan_of rows) row.path)) _ f.1 in
    let i = both-true (is_none row.outer) _ m.1 in
    let l = both-true (is_none row.inner) _ i.1 in
    record {
      apart = a.0;
      own = row-known (without others) is_at_element rows j row long e a.0 (λ k. at-element (leaf-is row.leaf c.0)) b.0;
      leaf = leaf-is row.leaf c.0;
      content = content-is row.content term d.0;
      form = f.0;
      free = m.0;
      outer = no-group row.outer i.0;
      inner = no-group row.inner l.0;
      context = l.1;
    }

-- It is the row of the VAT total, where the one in accounting currency doesn't stand.
pub record IsTotalRow (rows : List Row) (row : Row) (term : Term) : Type 0 where
  pub rule : row.written ≡ written.VatTotal
  pub there : IsTotalThere rows (unpaired_terms (plan_of rows) rows) row term

-- It is the row of one of the two.
pub record IsHalf (rows : List Row) (others : List Term) (row : Row) : Type 0 where
  pub term : Term
  pub there : IsTotalThere rows others row term
  pub amount : is_amount row ≡ true
  pub unfilled : list_any (λ t. has_term t row) (flat_map beside_placeholder rows) ≡ false

-- They are the rows of both.
pub record IsPair (rows : List Row) (main twin : Row) : Type 0 where
  pub rule : main.written ≡ written.VatTotal
  pub twin_rule : twin.written ≡ written.AccountingVatTotal
  pub first : IsHalf rows (accounting_terms rows) main
  pub second : IsHalf rows (total_terms rows) twin
  pub way : same_way main.path twin.path ≡ true
  pub twins : are_twins (plan_of rows) main.path twin.path ≡ true

total-rule-is : (rule : Written) → is_total_rule rule ≡ true → rule ≡ written.VatTotal
total-rule-is written.Always h = absurd (false≢true h)
total-rule-is written.Never h = absurd (false≢true h)
total-rule-is written.IfIban h = absurd (false≢true h)
total-rule-is written.IfNotIban h = absurd (false≢true h)
total-rule-is written.IfScheme h = absurd (false≢true h)
total-rule-is written.IfNoScheme h = absurd (false≢true h)
total-rule-is (written.OrPlaceholder placeholder) h = absurd (false≢true h)
total-rule-is written.VatTotal h = refl
total-rule-is written.AccountingVatTotal h = absurd (false≢true h)

pub accounting-rule-is : (rule : Written) → is_accounting_rule rule ≡ true → rule ≡ written.AccountingVatTotal
accounting-rule-is written.Always h = absurd (false≢true h)
accounting-rule-is written.Never h = absurd (false≢true h)
accounting-rule-is written.IfIban h = absurd (false≢true h)
accounting-rule-is written.IfNotIban h = absurd (false≢true h)
accounting-rule-is written.IfScheme h = absurd (false≢true h)
accounting-rule-is written.IfNoScheme h = absurd (false≢true h)
accounting-rule-is (written.OrPlaceholder placeholder) h = absurd (false≢true h)
accounting-rule-is written.VatTotal h = absurd (false≢true h)
accounting-rule-is written.AccountingVatTotal h = refl

-- a test behind another
pub test-behind : (b x : Bool) → (elim b [ true ↦ x | false ↦ false ]) ≡ true → (b ≡ true) × (x ≡ true)
test-behind true x k = (refl, k)
test-behind false x k = absurd (false≢true k)

pub noted-by-test : (rows : List Row) (j : ℕ) (row : Row) (term : Term) → All (λ (r : Row). 0 < length r.path) rows → slice_get rows j ≡ Some row →
    is_noted_in (plan_of rows) rows row term ≡ true → IsNoted rows row term
noted-by-test rows j row term long e h =
    let g = test-behind (is_coded (form_for row.form term)) (is_apart unknown (plan_of rows) row.path &&
    (is_plain_there (plan_of rows) row term && not (list_any (has_term subject_code) rows))) h in
    let a = both-true (is_apart unknown (plan_of rows) row.path) _ g.1 in
    let b = both-true (is_plain_there (plan_of rows) row term) (not (list_any (has_term subject_code) rows)) a.1 in
    record {
      form = coded-is (form_for row.form term) g.0;
      apart = a.0;
      there = plain-there-test unknown rows j row term long e a.0 b.0;
      codes =
          not-so (list_any (has_term subject_code) rows) b.1;
    }

pub total-by-test : (rows : List Row) (j : ℕ) (row : Row) (term : Term) → All (λ (r : Row). 0 < length r.path) rows → slice_get rows j ≡ Some row →
    is_total_in (plan_of rows) rows row term ≡ true → IsTotalRow rows row term
total-by-test rows j row term long e h =
    let g = test-behind (is_total_rule row.written) (is_total_there (plan_of rows) (unpaired_terms (plan_of rows) rows) row term) h in
    record { rule = total-rule-is row.written g.0; there = there-by-test rows (unpaired_terms (plan_of rows) rows) j row term long e g.1 }

half-by-test : (rows : List Row) (others : List Term) (j : ℕ) (row : Row) → All (λ (r : Row). 0 < length r.path) rows → slice_get rows j ≡ Some row →
    is_half (plan_of rows) rows others row ≡ true → IsHalf rows others row
half-by-test rows others j row long e h = go row.content h
  where
    go : (content : Content) → (elim content [
      | (contents.Term term) ↦ is_total_there (plan_of rows) others row term &&
          (is_amount row && not (list_any (λ t. has_term t row) (flat_map beside_placeholder rows)))
      | (contents.Constant text) ↦ false
    ]) ≡ true
        → IsHalf rows others row
    go (contents.Term term) k =
        let a = both-true (is_total_there (plan_of rows) others row term) _ k in
        let b = both-true (is_amount row) (not (list_any (λ t. has_term t row) (flat_map beside_placeholder rows))) a.1 in
        record {
          term = term;
          there = there-by-test rows others j row term long e a.0;
          amount = b.0;
          unfilled =
              not-so (list_any (λ t. has_term t row) (flat_map beside_placeholder rows)) b.1;
        }
    go (contents.Constant text) k = absurd (false≢true k)

pub pair-by-test : (rows : List Row) (i j : ℕ) (main twin : Row) → All (λ (r : Row). 0 < length r.path) rows → slice_get rows i ≡ Some main →
    slice_get rows j ≡ Some twin → are_pair (plan_of rows) rows main twin ≡ true → IsPair rows main twin
pair-by-test rows i j main twin long e f h =
    let a = test-behind (is_total_rule main.written)
    (elim (is_accounting_rule twin.written) [ true ↦ are_pair_there (plan_of rows) rows main twin | false ↦ false ]) h in
    let b = test-behind (is_accounting_rule twin.written) (are_pair_there (plan_of rows) rows main twin) a.1 in
    let c = both-true (is_half (plan_of rows) rows (accounting_terms rows) main) _ b.1 in
    let d = both-true (is_half (plan_of rows) rows (total_terms rows) twin) _ c.1 in
    let g = both-true (same_way main.path twin.path) (are_twins (plan_of rows) main.path twin.path) d.1 in
    record {
      rule = total-rule-is main.written a.0;
      twin_rule = accounting-rule-is twin.written b.0;
      first = half-by-test rows (accounting_terms rows) i main long e c.0;
      second = half-by-test rows (total_terms rows) j twin long f d.0;
      way = g.0;
      twins = g.1;
    }

-- ---- the test at attributes

or_none-is : (a b : Option Group) → same_or_none a b ≡ true → a ≡ b
or_none-is None None h = refl
or_none-is None (Some b) h = absurd (false≢true h)
or_none-is (Some a) None h = absurd (false≢true h)
or_none-is (Some a) (Some b) h = ap Some (group-sound a b h)

-- the name of the attribute, and that no other row ends at it
record IsPart (plan : Plan) (main : Row) (leaf : Leaf) : Type 0 where
  local : List ℕ
  is : leaf ≡ leaves.Attribute local
  other : bytes_eq local currency_id ≡ false
  one : is_one (rows_at (is_at_attribute local) plan main.path) ≡ true

part-is : (plan : Plan) (main : Row) (leaf : Leaf) → is_part_named plan main leaf ≡ true → IsPart plan main leaf
part-is plan main leaves.Element h = absurd (false≢true h)
part-is plan main (leaves.Attribute local) h =
    let k = both-true (not (bytes_eq local currency_id)) _ h in
    record { local = local; is = refl; other = not-so (bytes_eq local currency_id) k.0; one = k.1 }

same-texts : (a : List ℕ) → bytes_eq a a ≡ true
same-texts a = (bytes_eq-Decides a a).1 refl

named-itself : (local : List ℕ) (leaf : Leaf) → leaf ≡ leaves.Attribute local → is_attribute_named local leaf ≡ true
named-itself local leaf e = ap (is_attribute_named local) e ∙ same-texts local

pub attribute-with-test : (known : Known) (rows : List Row) (i j : ℕ) (row : Row) (term : Term) (main : Row) (main_term : Term) →
    All (λ (r : Row). 0 < length r.path) rows → slice_get rows i ≡ Some row → slice_get rows j ≡ Some main
    → is_plain_attribute_with known (plan_of rows) row term main main_term ≡ true → (is_apart known (plan_of rows) main.path ≡ true) ×
    IsPlainAttributeThere rows row term main main_term
attribute-with-test known rows i j row term main main_term long e f h =
    let a = both-true (pointwise same_step row.path main.path) _ h in
    let b = both-true (is_plain_with known (plan_of rows) main main_term) _ a.1 in
    let c = both-true (same_or_none row.outer main.outer) _ b.1 in
    let d = both-true (same_or_none row.inner main.inner) _ c.1 in
    let g = both-true (is_part_named (plan_of rows) main row.leaf) _ d.1 in
    let k = both-true (has_content term row.content) _ g.1 in
    let l = both-true (is_whole (form_for row.form term)) _ k.1 in
    let o = both-true (is_of_one_term (form_for row.form term)) (is_always row.written) l.1 in
    let plain = plain-with-test known rows j main main_term long f b.0 in
    let path : row.path ≡ main.path = pointwise-sound same_step step-sound row.path main.path a.0 in
    let part = part-is (plan_of rows) main row.leaf g.0 in (
      plain.apart,
      record {
        beside = plain.there;
        main_form = plain.form;
        path = path;
        outer = or_none-is row.outer main.outer c.0;
        inner = or_none-is row.inner main.inner d.0;
        local = part.local;
        leaf = part.is;
        other = part.other;
        own = ap (λ p. rows_at (is_at_attribute part.local) (plan_of rows) p) (sym path)
            ∙ row-known known (is_at_attribute part.local) rows i row long e (ap (is_apart known (plan_of rows)) path ∙ plain.apart)
            (λ n. named-itself part.local row.leaf part.is)
            (ap (λ p. is_one (rows_at (is_at_attribute part.local) (plan_of rows) p)) path ∙ part.one);
        content = content-is row.content term k.0;
        form = l.0;
        one_term = o.0;
        written = rule-is row.written o.1;
      },
    )

pub attribute-by-test : (rows : List Row) (i j : ℕ) (row : Row) (term : Term) (main : Row) (main_term : Term) → All (λ (r : Row). 0 < length r.path) rows →
    slice_get rows i ≡ Some row → slice_get rows j ≡ Some main
    → is_plain_attribute rows row term main main_term ≡ true → IsPlainAttribute rows row term main main_term
attribute-by-test rows i j row term main main_term long e f h = let w = attribute-with-test unknown rows i j row term main main_term long e f h in
    record { apart = w.0; there = w.1 }

pub spread-attribute-by-test : (rows : List Row) (i j : ℕ) (row : Row) (term : Term) (main : Row) (main_term : Term) → All (λ (r : Row). 0 < length r.path) rows
    → slice_get rows i ≡ Some row → slice_get rows j ≡ Some main
    → is_spread_attribute rows row term main main_term ≡ true → IsSpreadAttribute rows row term main main_term
spread-attribute-by-test rows i j row term main main_term long e f h =
    let a = both-true (pointwise same_step row.path main.path) _ h in
    let b = both-true (is_spread rows main main_term) _ a.1 in
    let m = both-true (is_whole (form_for main.form main_term)) _ b.1 in
    let c = both-true (is_none row.outer) _ m.1 in
    let d = both-true (is_none row.inner) _ c.1 in
    let g = both-true (is_part_named (plan_of rows) main row.leaf) _ d.1 in
    let k = both-true (has_content term row.content) _ g.1 in
    let l = both-true (is_whole (form_for row.form term)) _ k.1 in
    let o = both-true (is_of_one_term (form_for row.form term)) (is_always row.written) l.1 in
    let spread = spread-by-test rows j main main_term long f b.0 in
    let path : row.path ≡ main.path = pointwise-sound same_step step-sound row.path main.path a.0 in
    let part = part-is (plan_of rows) main row.leaf g.0 in
    record {
      beside = spread;
      main_form = m.0;
      path = path;
      outer = no-group row.outer c.0;
      inner = no-group row.inner d.0;
      local = part.local;
      leaf = part.is;
      other = part.other;
      own = ap (λ p. rows_at (is_at_attribute part.local) (plan_of rows) p) (sym path)
          ∙ row-known unknown (is_at_attribute part.local) rows i row long e (ap (is_apart unknown (plan_of rows)) path ∙ spread.apart)
          (λ n. named-itself part.local row.leaf part.is)
          (ap (λ p. is_one (rows_at (is_at_attribute part.local) (plan_of rows) p)) path ∙ part.one);
      content = content-is row.content term k.0;
      form = l.0;
      one_term = o.0;
      written = rule-is row.written o.1;
    }
