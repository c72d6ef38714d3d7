-- Scopes that grow by variables, and that are cut back.
use Rattle.std.proofs.Common.{◌≡◌, ℕ, Bool, true, false, List, [], ◌∷◌, ◌++◌, length, take, Option, Some, None, refl, ap, sym, ◌∙◌, subst, append-nil}
use Rattle.std.proofs.Common.{append_assoc}
use Rattle.std.specs.Prelude.{if◌then◌else◌, fold}
use Rattle.std.specs.List.{list_any}
use Rattle.std.specs.Str.{bytes_eq}
use Rattle.std.proofs.lemmas.Bool.{or_left, or_right}
use Rattle.std.proofs.lemmas.List.Folds.{list_any-append}
use Rattle.std.proofs.lemmas.List.Sums.{fold-append}
use Rattle.std.proofs.lemmas.Slice.Eq.{bytes_eq-Decides}
use Rattle.std.proofs.Math.Seq.{take-append_seam}
use Rattle.xpath_types.specs.Scopes.{Declared, declares, with_variable}
use Rattle.schematron_texts.specs.Replacing.{Parameter}
use Rattle.schematron_meaning.specs.Entries.{Entry}
use Rattle.schematron_meaning.specs.Written.{declare, name_of, with_let, with_lets}

-- ---- a name that is there

-- The name is declared, if there is one.
abbrev pub knows : Declared → Option (List ℕ) → Bool
knows scope None = true
knows scope (Some name) = declares scope name

-- what a variable more makes of a scope, by whether it is there
by_test : (scope : Declared) (name : List ℕ) (test : Bool) → declares scope name ≡ test →
    with_variable scope name ≡ (if test then scope else record scope { variables = scope.variables ++ name ∷ [] })
by_test scope name test t = ap (λ (b : Bool). if b then scope else record scope { variables = scope.variables ++ name ∷ [] }) t

pub declared_known : (scope : Declared) (name : Option (List ℕ)) → knows scope name ≡ true → declare scope name ≡ scope
declared_known scope None h = refl
declared_known scope (Some name) h = by_test scope name true h

same_bytes : (name : List ℕ) → bytes_eq name name ≡ true
same_bytes name = (bytes_eq-Decides name name).1 refl

knows_new : (scope : Declared) (name : List ℕ) (test : Bool) → declares scope name ≡ test → declares (with_variable scope name) name ≡ true
knows_new scope name true t = ap (λ (s : Declared). declares s name) (by_test scope name true t) ∙ t
knows_new scope name false t = ap (λ (s : Declared). declares s name) (by_test scope name false t)
    ∙ (list_any-append (bytes_eq name) scope.variables (name ∷ []) ∙ or_right (list_any (bytes_eq name) scope.variables) (list_any (bytes_eq name) (name ∷ []))
    (or_left (bytes_eq name name) false (same_bytes name)))

pub knows_declared : (scope : Declared) (name : Option (List ℕ)) → knows (declare scope name) name ≡ true
knows_declared scope None = refl
knows_declared scope (Some name) = knows_new scope name (declares scope name) refl

knows_more : (scope : Declared) (name other : List ℕ) (test : Bool) → declares scope other ≡ test → declares scope name ≡ true →
    declares (with_variable scope other) name ≡ true
knows_more scope name other true t h = ap (λ (s : Declared). declares s name) (by_test scope other true t) ∙ h
knows_more scope name other false t h = ap (λ (s : Declared). declares s name) (by_test scope other false t)
    ∙ (list_any-append (bytes_eq name) scope.variables (other ∷ []) ∙
    or_left (list_any (bytes_eq name) scope.variables) (list_any (bytes_eq name) (other ∷ [])) h)

-- ---- wider scopes

-- The second has the variables of the first, and perhaps more that were declared one after the other.
abbrev pub Wider : Declared → Declared → Type 0
Wider a b = (names : List (List ℕ)) × (b ≡ fold with_variable a names)

pub wider-refl : (a : Declared) → Wider a a
wider-refl a = ([], refl)

pub wider-trans : (a b c : Declared) → Wider a b → Wider b c → Wider a c
wider-trans a b c p q = (p.0 ++ q.0, q.1 ∙ (ap (λ (s : Declared). fold with_variable s q.0) p.1 ∙ sym (fold-append with_variable a p.0 q.0)))

pub wider_declared : (scope : Declared) (name : Option (List ℕ)) → Wider scope (declare scope name)
wider_declared scope None = wider-refl scope
wider_declared scope (Some name) = (name ∷ [], refl)

-- what a variable more keeps, any number of them do
pub kept_wider : (P : Declared → Type 0) → ((scope : Declared) (name : List ℕ) → P scope → P (with_variable scope name)) → (a b : Declared) → Wider a b → P a →
    P b
kept_wider P keeps a b w p = subst P (sym w.1) (along a w.0 p)
  where
    along : (s : Declared) (names : List (List ℕ)) → P s → P (fold with_variable s names)
    along s [] q = q
    along s (name ∷ names) q = along (with_variable s name) names (keeps s name q)

pub knows_wider : (name : Option (List ℕ)) (a b : Declared) → Wider a b → knows a name ≡ true → knows b name ≡ true
knows_wider None a b w h = refl
knows_wider (Some name) a b w h = kept_wider (λ (s : Declared). declares s name ≡ true) (λ s other k. knows_more s name other (declares s other) refl k) a b w h

pub wider_lets : (params : List Parameter) (scope : Declared) (lets : List Entry) → Wider scope (with_lets params scope lets)
wider_lets params scope [] = wider-refl scope
wider_lets params scope (e ∷ lets) = wider-trans scope (with_let params scope e) (with_lets params (with_let params scope e) lets)
    (wider_declared scope (name_of params e)) (wider_lets params (with_let params scope e) lets)

-- ---- scopes that are cut back

-- The scope begins with another's variables, and has its prefixes.
abbrev pub Begins : Declared → Declared → Type 0
Begins a b = (more : List (List ℕ)) × (b ≡ record a { variables = a.variables ++ more })

begins_more : (a b : Declared) (name : List ℕ) → Begins a b → Begins a (with_variable b name)
begins_more a b name h = by (declares b name) refl
  where
    by : (test : Bool) → declares b name ≡ test → Begins a (with_variable b name)
    by true t = (h.0, by_test b name true t ∙ h.1)
    by false t = (
      h.0 ++ name ∷ [],
      by_test b name false t ∙ (ap (λ (s : Declared). record s { variables = s.variables ++ name ∷ [] }) h.1 ∙
          ap (λ (vs : List (List ℕ)). record a { variables = vs }) (append_assoc a.variables h.0 (name ∷ []))),
    )

begins_itself : (a : Declared) → Begins a a
begins_itself a = ([], ap (λ (vs : List (List ℕ)). record a { variables = vs }) (sym (append-nil a.variables)))

begins_wider : (a b : Declared) → Wider a b → Begins a b
begins_wider a b w = kept_wider (Begins a) (λ s name h. begins_more a s name h) a b w (begins_itself a)

begun_cut : (a b : Declared) → Begins a b → record b { variables = take (length a.variables) b.variables } ≡ a
begun_cut a b h = ap (λ (s : Declared). record s { variables = take (length a.variables) s.variables }) h.1
    ∙ ap (λ (vs : List (List ℕ)). record a { variables = vs }) (take-append_seam a.variables h.0)

-- A scope that is cut back to as many variables as it had is as it was.
pub cut_back : (a b : Declared) (count : ℕ) → count ≡ length a.variables → Wider a b → record b { variables = take count b.variables } ≡ a
cut_back a b count n w = ap (λ (k : ℕ). record b { variables = take k b.variables }) n ∙ begun_cut a b (begins_wider a b w)
