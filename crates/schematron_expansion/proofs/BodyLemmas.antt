-- What stands in an element, by its chain.
use Rattle.std.proofs.Common.{◌≡◌, ℕ, Bool, true, false, ◌&&◌, cond, nat_eq, List, [], ◌∷◌, ◌++◌, map, Result, Ok, Err, IfOk, refl, ap, ◌∙◌}
use Rattle.std.specs.Prelude.{flat_map}
use Rattle.std.proofs.lemmas.Bool.{false≢true, true≢false}
use Rattle.schematron_graph.specs.declared.part.Part.{Part}
use Rattle.schematron_meaning.specs.declared.role.Role.{Role}
use Rattle.schematron_meaning.specs.Entries.{Entry}
use Rattle.schematron_meaning.specs.Lookup.{is_item, inside}
use Rattle.schematron_meaning.specs.Bodies.{abstract_rules, part_by, body_at, bodies}
use Rattle.schematron_entries.specs.declared.entry.Entry.{Entry as Read}
use Rattle.schematron_expansion.specs.Seen.{seen_things}
use Rattle.schematron_expansion.specs.Bodied.{parts_at, bodies_at}
use Rattle.schematron_expansion.proofs.ChainLemmas.{same_number, IsChained}

-- ---- things of a sort

abbrev pub thing_at : (Role → Bool) → Entry → List Entry
thing_at is_so e = cond (is_so e.role) (e ∷ []) []

not_inside : (e : Entry) (ys : List Entry) (so same : Bool) → same ≡ false → cond (so && same) (e ∷ ys) ys ≡ ys
not_inside e ys false same h = refl
not_inside e ys true false h = refl
not_inside e ys true true h = absurd (true≢false h)

if_inside : (e : Entry) (ys : List Entry) (so same : Bool) → same ≡ true → cond (so && same) (e ∷ ys) ys ≡ cond so (e ∷ []) [] ++ ys
if_inside e ys false same h = refl
if_inside e ys true true h = refl
if_inside e ys true false h = absurd (false≢true h)

pub inside_chained : (is_so : Role → Bool) (n : ℕ) → IsChained n (thing_at is_so) (λ es. inside is_so es n)
inside_chained is_so n = record {
  none = refl;
  passed = λ e es h. not_inside e (inside is_so es n) (is_so e.role) (nat_eq e.parent n) (same_number e.parent n ∙ h);
  taken = λ e es h. if_inside e (inside is_so es n) (is_so e.role) (nat_eq e.parent n) (same_number e.parent n ∙ h);
}

pub nothing_seen : {L : Type 0} (lent : L → Read) (es : List L) → es ≡ [] → seen_things lent es ≡ []
nothing_seen lent es h = ap (seen_things lent) h

-- ---- parts

passed_by : (rules : List Entry) (e : Entry) (ys : List Entry) (item same : Bool) → same ≡ false
    → flat_map (λ (y : Entry). part_by y.role rules y) (cond (item && same) (e ∷ ys) ys) ≡ flat_map (λ (y : Entry). part_by y.role rules y) ys
passed_by rules e ys item same h = ap (flat_map (λ (y : Entry). part_by y.role rules y)) (not_inside e ys item same h)

taken_by : (rules : List Entry) (e : Entry) (ys : List Entry) (item same : Bool) → same ≡ true
    → flat_map (λ (y : Entry). part_by y.role rules y) (cond (item && same) (e ∷ ys) ys) ≡ cond item (part_by e.role rules e) []
    ++ flat_map (λ (y : Entry). part_by y.role rules y) ys
taken_by rules e ys false same h = refl
taken_by rules e ys true true h = refl
taken_by rules e ys true false h = absurd (false≢true h)

pub body_chained : (rules : List Entry) (n : ℕ) → IsChained n (parts_at rules) (λ es. body_at es rules n)
body_chained rules n = record {
  none = refl;
  passed = λ e es h. passed_by rules e (inside is_item es n) (is_item e.role) (nat_eq e.parent n) (same_number e.parent n ∙ h);
  taken = λ e es h. taken_by rules e (inside is_item es n) (is_item e.role) (nat_eq e.parent n) (same_number e.parent n ∙ h);
}

bodies_mapped : (es rules : List Entry) (all : List Entry) → map (λ n. body_at es rules n) (map (λ (rule : Entry). rule.number) all) ≡ map
    (λ (rule : Entry). body_at es rules rule.number) all
bodies_mapped es rules [] = refl
bodies_mapped es rules (e ∷ all) = ap (λ xs. body_at es rules e.number ∷ xs) (bodies_mapped es rules all)

pub bodies_are : (es : List Entry) (nodes : List ℕ) → nodes ≡ map (λ (rule : Entry). rule.number) (abstract_rules es) → bodies_at es nodes ≡ bodies es
unfolding bodies
bodies_are es nodes h = ap (bodies_at es) h ∙ bodies_mapped es (abstract_rules es) (abstract_rules es)

pub graph_is : {E : Type 0} (r : Result (List (List Part)) E) (found wanted : List (List Part)) → found ≡ wanted → IfOk r (λ g. g ≡ found)
    → IfOk r (λ g. g ≡ wanted)
graph_is (Ok g) found wanted h is = is ∙ h
graph_is (Err x) found wanted h is = is
