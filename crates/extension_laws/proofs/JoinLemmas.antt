-- What a row that joins a table changes in its lines: nothing, for the paths of all other rows; and it stands apart itself.
use Rattle.std.proofs.Common.{◌≡◌, ℕ, ◌+◌, ◌<◌, Bool, true, false, ◌&&◌, List, [], ◌∷◌, ◌++◌, length, map, filter, Option, Some, None, All, inl, inr, refl, sym}
use Rattle.std.proofs.Common.{ap, ◌∙◌, subst, arith}
use Rattle.std.specs.Prelude.{◌==◌, if◌then◌else◌}
use Rattle.std.specs.List.{list_all}
use Rattle.std.proofs.lemmas.Bool.{false≢true, eqb-true}
use Rattle.term_table.specs.declared.groups.Group.{Group}
use Rattle.bind_rows.specs.declared.names.Leaf.{Leaf}
use Rattle.bind_rows.specs.declared.names.Leaf.TheVariants as leaves
use Rattle.bind_rows.specs.declared.guards.Guard.{Guard}
use Rattle.bind_rows.specs.declared.rows.Check.{Check}
use Rattle.bind_rows.specs.declared.rows.Check.TheVariants as checks
use Rattle.bind_rows.specs.declared.rows.Step.{Step}
use Rattle.bind_rows.specs.declared.rows.Written.{Written}
use Rattle.bind_rows.specs.declared.rows.Written.TheVariants as written
use Rattle.bind_rows.specs.declared.rows.Row.{Row}
use Rattle.bind_rows.specs.Same.{same_step, choose}
use Rattle.bind_rows.specs.Added as added
use Rattle.bind_table.specs.Crossings.{part_by_name}
use Rattle.bind_table.specs.Lines.{Cell, nothing, add, plan_of}
use Rattle.bind_table.proofs.SameLemmas.{step-sound, name-sound}
use Rattle.bind_meaning.specs.Trees.{is_at_element}
use Rattle.binding_laws.specs.Apart.{is_called, is_unguarded, is_attribute_named, is_at_attribute, Known, is_apart}
use Rattle.binding_laws.specs.Plain.{rows_at}
use Rattle.binding_laws.specs.Twins.{are_twins}
use Rattle.binding_laws.proofs.ReachLemmas.{Among}
use Rattle.carrying_laws.proofs.ModelLemmas.{all-each, all-holds}
use Rattle.extension_laws.specs.Joins.{Joins}
use Rattle.extension_laws.specs.Ways.{part, are_unguarded, finds, leaves_by_name}
use Rattle.extension_laws.proofs.AddLemmas.{both, apart-add, called-as-itself}
use Rattle.extension_laws.proofs.PartLemmas.{part-named, called-name}
use Rattle.extension_laws.proofs.FindLemmas as find
use Rattle.extension_laws.proofs.FindLemmas.{plan-more, added-apart, leaves-grown}
use Rattle.extension_laws.proofs.StayLemmas.{rows-add, own-rows}
use Rattle.extension_laws.proofs.TwinsLemmas.{twins-add}
use Rattle.extension_laws.proofs.SortedLemmas.{sorted-rows}
use Rattle.extension_laws.proofs.FoundLemmas.{found-row}

-- ---- two paths part both ways round

called-back : (s t : Step) → is_called t.name s.name ≡ true → is_called s.name t.name ≡ true
called-back s t e =
    let same = name-sound t.name s.name (sym (called-name t.name s.name) ∙ e) in
    subst (λ n. is_called s.name n ≡ true) (sym same) (called-as-itself s.name)

pub part-back : (p q : List Step) → part p q ≡ true → part q p ≡ true
part-back [] q h = absurd (false≢true h)
part-back (s ∷ p) [] h = absurd (false≢true h)
part-back (s ∷ p) (t ∷ q) h = by (is_called t.name s.name) refl (part-back p q)
  where
    by : (b : Bool) → is_called t.name s.name ≡ b → (part p q ≡ true → part q p ≡ true) → elim b [ true ↦ same_step t s && part q p | false ↦ true ] ≡ true
    by false e f = refl
    by true e f =
        let w = both (same_step s t) (part p q) (ap (λ b. elim b [ true ↦ same_step s t && part p q | false ↦ true ]) (sym (called-back s t e)) ∙ h) in
        let same : s ≡ t = step-sound s t w.0 in
        let k : same_step t s ≡ true = subst (λ x. same_step x s ≡ true) same (subst (λ x. same_step s x ≡ true) (sym same) w.0) in
        ap (λ b. b && part q p) k ∙ f w.1

-- ---- what an added row is

guards-none : (guards : List Guard) → (length guards == 0) ≡ true → is_unguarded guards ≡ true
guards-none [] h = refl
guards-none (g ∷ guards) h = let z = eqb-true (length (g ∷ guards)) 0 h in let w : ⊥ = omega (arith, z) in absurd w

unguarded-path : (path : List Step) → list_all added.is_unguarded path ≡ true → are_unguarded path ≡ true
unguarded-path [] h = refl
unguarded-path (s ∷ path) h =
    let w = both (added.is_unguarded s) (list_all added.is_unguarded path) h in
    ap (λ b. b && are_unguarded path) (guards-none s.guards w.0) ∙ unguarded-path path w.1

pub record IsAddedRow (row : Row) : Type 0 where
  pub extension : added.adds_term row.content ≡ true
  pub place : added.is_root_or_line row.outer row.inner ≡ true
  pub inner : row.inner ≡ None
  pub leaf : row.leaf ≡ leaves.Element
  pub free : are_unguarded row.path ≡ true
  pub written : row.written ≡ written.Always
  pub check : row.check ≡ checks.Nothing
  pub typed : added.is_added_type (added.data_type_of_form row.form) ≡ true

leaf-is : (leaf : Leaf) → added.is_element leaf ≡ true → leaf ≡ leaves.Element
leaf-is leaves.Element h = refl
leaf-is (leaves.Attribute local) h = absurd (false≢true h)

written-is : (w : Written) → added.is_always w ≡ true → w ≡ written.Always
written-is written.Always h = refl
written-is written.Never h = absurd (false≢true h)
written-is written.IfIban h = absurd (false≢true h)
written-is written.IfNotIban h = absurd (false≢true h)
written-is written.IfScheme h = absurd (false≢true h)
written-is written.IfNoScheme h = absurd (false≢true h)
written-is (written.OrPlaceholder placeholder) h = absurd (false≢true h)
written-is written.VatTotal h = absurd (false≢true h)
written-is written.AccountingVatTotal h = absurd (false≢true h)

check-is : (c : Check) → added.is_unjudged c ≡ true → c ≡ checks.Nothing
check-is checks.Nothing h = refl
check-is checks.Scheme h = absurd (false≢true h)
check-is checks.Format h = absurd (false≢true h)
check-is (checks.Indicator term) h = absurd (false≢true h)

inner-is : (outer inner : Option Group) → added.is_root_or_line outer inner ≡ true → inner ≡ None
inner-is None None h = refl
inner-is None (Some g) h = absurd (false≢true h)
inner-is (Some o) None h = refl
inner-is (Some o) (Some g) h = absurd (false≢true h)

chosen : (a b : Bool) → choose a (λ _. b) (λ _. false) ≡ true → (a ≡ true) × (b ≡ true)
chosen true b h = (refl, h)
chosen false b h = absurd (false≢true h)

pub added-row : (row : Row) → added.is_added row ≡ true → IsAddedRow row
added-row row h =
    let a = chosen (added.adds_term row.content) (added.is_root_or_line row.outer row.inner && added.is_unmarked row) h in
    let b = both (added.is_root_or_line row.outer row.inner) (added.is_unmarked row) a.1 in
    let c = both (added.is_element row.leaf) _ b.1 in
    let d = both (list_all added.is_unguarded row.path) _ c.1 in
    let e = both (added.is_once row.repeats) _ d.1 in
    let f = both (added.is_always row.written) _ e.1 in
    let g = both (added.is_unjudged row.check) (added.is_added_type (added.data_type_of_form row.form)) f.1 in
    record {
      extension = a.0;
      place = b.0;
      inner = inner-is row.outer row.inner b.0;
      leaf = leaf-is row.leaf c.0;
      free = unguarded-path row.path d.0;
      written = written-is row.written f.0;
      check = check-is row.check g.0;
      typed = g.1;
    }

-- ---- the lines with the row

every-row : (P : Row → Type 0) (rows : List Row) → ((r : Row) → Among r rows → P r) → find.Every P rows
every-row P [] f = tt
every-row P (r ∷ rows) f = (f r (inl refl), every-row P rows (λ x a. f x (inr a)))

path-front : (path : List Step) → 0 < length path → (s : Step) × ((q : List Step) × (path ≡ s ∷ q))
path-front [] long = let z : ⊥ = omega (arith, long) in absurd z
path-front (s ∷ q) long = (s, (q, refl))

module _ (rows : List Row) (row : Row) (joins : Joins rows row) where
  pub is : IsAddedRow row
  is = added-row row joins.added

  pub own-parts : (r : Row) → Among r rows → part row.path r.path ≡ true
  own-parts r a = sym (part-named row.path r.path) ∙ all-each (λ (other : Row). part_by_name row.path other.path) rows joins.parts r a

  pub other-parts : (r : Row) → Among r rows → part r.path row.path ≡ true
  other-parts r a = part-back row.path r.path (own-parts r a)

module _ (rows : List Row) (row : Row) (joins : Joins rows row) (long : All (λ (r : Row). 0 < length r.path) rows) where
  abbrev cell : Cell
  cell = record { number = 0 + length rows; row = row }

  abbrev more : List Row
  more = rows ++ row ∷ []

  abbrev free : are_unguarded row.path ≡ true
  free = (added-row row joins.added).free

  abbrev ends_there : row.leaf ≡ leaves.Element
  ends_there = (added-row row joins.added).leaf

  mine : (r : Row) → Among r rows → part row.path r.path ≡ true
  mine r a = own-parts rows row joins r a

  its : (r : Row) → Among r rows → part r.path row.path ≡ true
  its r a = other-parts rows row joins r a

  there : (r : Row) → Among r rows → finds r.path (plan_of rows) ≡ true
  there r a = found-row rows r a (all-holds (λ (x : Row). 0 < length x.path) r rows long a)

  -- the paths of the other rows
  pub apart-stays : (known : Known) (r : Row) → Among r rows → is_apart known (plan_of more) r.path ≡ is_apart known (plan_of rows) r.path
  apart-stays known r a =
      ap (λ plan. is_apart known plan r.path) (plan-more rows row) ∙ apart-add cell r.path row.path (its r a) free known (plan_of rows) (sorted-rows rows)
      (there r a)

  pub rows-stay : (is_so : Cell → Bool) (r : Row) → Among r rows → rows_at is_so (plan_of more) r.path ≡ rows_at is_so (plan_of rows) r.path
  rows-stay is_so r a =
      ap (λ plan. rows_at is_so plan r.path) (plan-more rows row) ∙ rows-add is_so cell r.path row.path (its r a) (plan_of rows) (sorted-rows rows) (there r a)

  pub twins-stay : (r o : Row) → Among r rows → Among o rows → are_twins (plan_of more) r.path o.path ≡ are_twins (plan_of rows) r.path o.path
  twins-stay r o a b =
      ap (λ plan. are_twins plan r.path o.path) (plan-more rows row)
      ∙ twins-add cell r.path o.path row.path (its r a) (its o b) free (plan_of rows) (sorted-rows rows) (there r a) (there o b)

  -- its own
  pub stands-apart : (known : Known) → is_apart known (plan_of more) row.path ≡ true
  stands-apart known =
      let f = path-front row.path joins.long in
      let e = f.1.1 in
      added-apart rows row f.0 f.1.0 e (subst (λ p. are_unguarded p ≡ true) e free) (sorted-rows rows)
      (every-row (λ (r : Row). part (f.0 ∷ f.1.0) r.path ≡ true) rows (λ r a. subst (λ p. part p r.path ≡ true) e (mine r a))) known

  own-line : (is_so : Cell → Bool) → rows_at is_so (plan_of more) row.path ≡ map (λ (c : Cell). c.row) (filter is_so (cell ∷ []))
  own-line is_so =
      let f = path-front row.path joins.long in
      let e = f.1.1 in
      let parts = every-row (λ (r : Row). part (f.0 ∷ f.1.0) r.path ≡ true) rows (λ r a. subst (λ p. part p r.path ≡ true) e (mine r a)) in
      ap (λ plan. rows_at is_so plan row.path) (plan-more rows row)
      ∙ (ap (λ p. rows_at is_so (add p cell (plan_of rows)) p) e ∙
      own-rows is_so cell f.0 f.1.0 (plan_of rows) (leaves-grown (f.0 ∷ f.1.0) rows 0 nothing refl parts))

  if-so : (is_so : Cell → Bool) (b : Bool) → is_so cell ≡ b → map (λ (c : Cell). c.row) (filter is_so (cell ∷ [])) ≡ elim b [ true ↦ row ∷ [] | false ↦ [] ]
  if-so is_so b e = by (is_so cell) ∙ ap (λ x. elim x [ true ↦ row ∷ [] | false ↦ [] ]) e
    where
      by : (x : Bool) → map (λ (c : Cell). c.row) (if x then cell ∷ [] else []) ≡ elim x [ true ↦ row ∷ [] | false ↦ [] ]
      by true = refl
      by false = refl

  pub ends-alone : rows_at is_at_element (plan_of more) row.path ≡ row ∷ []
  ends-alone = own-line is_at_element ∙ if-so is_at_element true
      (ap (λ (l : Leaf). elim l [ leaves.Element ↦ true | (leaves.Attribute local) ↦ false ]) ends_there)

  pub no-attribute : (local : List ℕ) → rows_at (is_at_attribute local) (plan_of more) row.path ≡ []
  no-attribute local = own-line (is_at_attribute local) ∙ if-so (is_at_attribute local) false (ap (is_attribute_named local) ends_there)

  -- it leaves the lines by a name
  pub leaves-lines : leaves_by_name row.path (plan_of rows) ≡ true
  leaves-lines =
      let f = path-front row.path joins.long in
      subst (λ p. leaves_by_name p (plan_of rows) ≡ true) (sym f.1.1)
      (leaves-grown (f.0 ∷ f.1.0) rows 0 nothing refl
      (every-row (λ (r : Row). part (f.0 ∷ f.1.0) r.path ≡ true) rows (λ r a. subst (λ p. part p r.path ≡ true) f.1.1 (mine r a))))
