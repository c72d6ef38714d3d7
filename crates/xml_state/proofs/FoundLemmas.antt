-- The numbers by prefix, and what bindings hide.
use Rattle.std.proofs.Common.{◌≡◌, ℕ, Bool, true, false, List, [], ◌∷◌, ◌++◌, length, take, refl, sym, ap, ◌∙◌, ◌≤◌, string_bytes, Option, Some, subst}
use Rattle.std.proofs.Common.{bytes_eq, if◌then◌else◌, IsSome}
use Rattle.std.specs.BTreeMap.{get_by_text, is_at, UpdatesBy}
use Rattle.std.specs.Cmp.Lexicographic.{slice_cmp}
use Rattle.std.specs.Global.{Global}
use Rattle.std.specs.Map.{lookup}
use Rattle.std.specs.Ordering.{nat_cmp}
use Rattle.std.specs.Prelude.{String}
use Rattle.std.specs.String.{string_cmp}
use Rattle.std.proofs.lemmas.List.{append_assoc, append-nil, take-append-le}
use Rattle.std.proofs.lemmas.Map.Text.{btree_map_updates_text}
use Rattle.std.proofs.lemmas.Slice.Eq.{bytes_eq-Decides}
use Rattle.xml_state.specs.declared.scopes.Bound.{Bound}
use Rattle.xml_state.specs.Scopes.{space_of, Shown, HaveHid, AreFound, Shows}
use Rattle.xml_state.proofs.ScopeLemmas.{space_of-push}

hid-push : (outer stack : List Bound) (bound : Bound) → HaveHid outer stack → bound.hid ≡ space_of (string_bytes bound.prefix) (outer ++ stack) →
    HaveHid outer (stack ++ bound ∷ [])
hid-push outer [] bound h e = (e ∙ ap (space_of (string_bytes bound.prefix)) (append-nil outer), tt)
hid-push outer (b ∷ stack) bound h e =
    (h.0, hid-push (outer ++ b ∷ []) stack bound h.1 (e ∙ ap (space_of (string_bytes bound.prefix)) (sym (append_assoc outer (b ∷ []) stack))))

hid-pop : (outer rest : List Bound) (bound : Bound) → HaveHid outer (rest ++ bound ∷ []) → HaveHid outer rest ×
    (bound.hid ≡ space_of (string_bytes bound.prefix) (outer ++ rest))
hid-pop outer [] bound h = (tt, h.0 ∙ ap (space_of (string_bytes bound.prefix)) (sym (append-nil outer)))
hid-pop outer (b ∷ rest) bound h =
    let inner = hid-pop (outer ++ b ∷ []) rest bound h.1 in
    ((h.0, inner.0), inner.1 ∙ ap (space_of (string_bytes bound.prefix)) (append_assoc outer (b ∷ []) rest))

-- What a change of the map at a prefix shows.
pub shows-update : (shown new : Shown) (prefix : List ℕ) (number same : Option ℕ) →
    UpdatesBy string_cmp (λ (k : String Global). slice_cmp nat_cmp prefix (string_bytes k)) shown new number → same ≡ number → Shows prefix same shown new
shows-update shown new prefix number same updates e = record {
  changed = λ other. btree_map_updates_text prefix shown new number updates other ∙
      ap (λ (o : Option ℕ). if bytes_eq prefix other then o else get_by_text shown other) (sym e);
}

-- Nothing is bound.
pub found-nothing : (shown : Shown) → shown.entries ≡ [] → AreFound shown []
found-nothing shown e = record { shows = λ prefix. ap (lookup (is_at (λ (k : String Global). slice_cmp nat_cmp prefix (string_bytes k)))) e; hid = tt }

-- The same numbers and bindings.
pub found-same : (shown same : Shown) (stack still : List Bound) → same.entries ≡ shown.entries → still ≡ stack → AreFound shown stack → AreFound same still
found-same shown same stack still e is found = record {
  shows = λ prefix.
      ap (lookup (is_at (λ (k : String Global). slice_cmp nat_cmp prefix (string_bytes k)))) e ∙ (found.shows prefix ∙ ap (space_of prefix) (sym is));
  hid = subst (HaveHid []) (sym is) found.hid;
}

-- A binding more.
pub found-push : (shown more : Shown) (stack new : List Bound) (bound : Bound) → AreFound shown stack →
    bound.hid ≡ get_by_text shown (string_bytes bound.prefix) → Shows (string_bytes bound.prefix) (Some bound.space) shown more
    → new ≡ stack ++ bound ∷ [] → AreFound more new
found-push shown more stack new bound found hid shows is = subst (AreFound more) (sym is) (record {
  shows = λ prefix.
      shows.changed prefix
      ∙ (ap (λ (o : Option ℕ). if bytes_eq (string_bytes bound.prefix) prefix then Some bound.space else o) (found.shows prefix) ∙
      sym (space_of-push prefix stack bound));
  hid = hid-push [] stack bound found.hid (hid ∙ found.shows (string_bytes bound.prefix));
})

-- The innermost binding has its prefix in the map.
pub found-innermost : (shown : Shown) (stack rest : List Bound) (bound : Bound) → AreFound shown stack → stack ≡ rest ++ bound ∷ [] →
    IsSome (get_by_text shown (string_bytes bound.prefix))
found-innermost shown stack rest bound found is =
    let prefix = string_bytes bound.prefix in
    let here : get_by_text shown prefix ≡ Some bound.space = found.shows prefix
    ∙ (ap (space_of prefix) is
    ∙ (space_of-push prefix rest bound
    ∙ ap (λ (b : Bool). if b then Some bound.space else space_of prefix rest) ((bytes_eq-Decides prefix prefix).1 refl))) in
    subst (λ (o : Option ℕ). IsSome o) (sym here) refl

-- The innermost binding ends.
pub found-pop : (shown less : Shown) (stack rest : List Bound) (bound : Bound) → AreFound shown stack → stack ≡ rest ++ bound ∷ [] →
    Shows (string_bytes bound.prefix) bound.hid shown less → AreFound less rest
found-pop shown less stack rest bound found is shows =
    let inner = hid-pop [] rest bound (subst (HaveHid []) is found.hid) in record {
      shows = λ prefix. shows.changed prefix ∙ by prefix (bytes_eq (string_bytes bound.prefix) prefix) refl inner.1;
      hid = inner.0;
    }
  where
    by : (prefix : List ℕ) (b : Bool) → bytes_eq (string_bytes bound.prefix) prefix ≡ b → bound.hid ≡ space_of (string_bytes bound.prefix) rest
        → (if bytes_eq (string_bytes bound.prefix) prefix then bound.hid else get_by_text shown prefix) ≡ space_of prefix rest
    by prefix true e hid =
        ap (λ (b : Bool). if b then bound.hid else get_by_text shown prefix) e
        ∙ (hid ∙ ap (λ x. space_of x rest) ((bytes_eq-Decides (string_bytes bound.prefix) prefix).0 e))
    by prefix false e hid =
        ap (λ (b : Bool). if b then bound.hid else get_by_text shown prefix) e
        ∙ (found.shows prefix
        ∙ (ap (space_of prefix) is ∙ (space_of-push prefix rest bound ∙ ap (λ (b : Bool). if b then Some bound.space else space_of prefix rest) e)))

-- One of the bindings behind so many is gone.
pub front-popped : (inside : ℕ) (stack rest all : List Bound) (bound : Bound) → stack ≡ rest ++ bound ∷ [] → inside ≤ length rest →
    take inside stack ≡ take inside all → take inside rest ≡ take inside all
front-popped inside stack rest all bound is h same = sym (take-append-le inside rest (bound ∷ []) h) ∙ (sym (ap (take inside) is) ∙ same)
