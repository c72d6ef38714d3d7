-- A text in which no parameter stands stays as it is written, whatever the uses put in.
use Rattle.std.proofs.Common.{◌≡◌, ℕ, zero, suc, ◌≤◌, Bool, true, false, List, [], ◌∷◌, ◌++◌, length, take, Option, Some, None, refl, ap, sym, ◌∙◌, subst}
use Rattle.std.proofs.Common.{arith}
use Rattle.std.specs.Prelude.{◌&&◌, ◌==◌, nat_eq, if◌then◌else◌, is_some, fold}
use Rattle.std.specs.List.{list_any}
use Rattle.std.specs.Str.{bytes_eq}
use Rattle.std.proofs.lemmas.Bool.{false≢true, and_parts, or_parts}
use Rattle.std.proofs.lemmas.Slice.Eq.{bytes_eq-Decides}
use Rattle.schematron_meaning.specs.declared.attribute.Attribute.TheVariants as a
use Rattle.schematron_meaning.specs.declared.role.Role.{Role}
use Rattle.schematron_meaning.specs.declared.role.Role.TheVariants as r
use Rattle.schematron_meaning.specs.Entries.{Entry}
use Rattle.schematron_meaning.specs.Lookup.{attribute, is_parameter, inside}
use Rattle.schematron_meaning.specs.Expansion.{with_given, parameters, Instance, used_by, pattern_used, instance_by, instance_of, instances}
use Rattle.schematron_texts.specs.Replacing.{Parameter, value_of, with_parameter, name_length, value_before, value_at, replaced_behind, replaced}
use Rattle.schematron_faults.specs.Staying.{with_blank, blank_by, blanks_with, blanks_of, Stays, HaveNames, is_dollar}
use Rattle.schematron_faults.proofs.EachLemmas.{Each, each_all, each-append, each-filter, each-flat_map}

none_some : {X : Type 0} (x : X) → Some x ≡ None → ⊥
none_some x h = cc

-- ---- one parameter more

one : List ℕ → List ℕ → List Parameter
one name value = record { name = name; value = value } ∷ []

append_none : (name value q : List ℕ) (params : List Parameter) → value_of params q ≡ None → bytes_eq q name ≡ false
    → value_of (params ++ record { name = name; value = value } ∷ []) q ≡ None
append_none name value q [] h k = ap (λ (b : Bool). elim b as (λ _. Option (List ℕ)) [ true ↦ Some value | false ↦ None ]) k
append_none name value q (p ∷ params) h k = by (bytes_eq q p.name) h (append_none name value q params)
  where
    by : (b : Bool) → (elim b as (λ _. Option (List ℕ)) [ true ↦ Some p.value | false ↦ value_of params q ]) ≡ None
        → (value_of params q ≡ None → bytes_eq q name ≡ false → value_of (params ++ record { name = name; value = value } ∷ []) q ≡ None)
        → (elim b as (λ _. Option (List ℕ)) [ true ↦ Some p.value | false ↦ value_of (params ++ record { name = name; value = value } ∷ []) q ]) ≡ None
    by true h rest = h
    by false h rest = rest h k

none_append : (name value q : List ℕ) (params : List Parameter) → value_of (params ++ record { name = name; value = value } ∷ []) q ≡ None
    → (value_of params q ≡ None) × (bytes_eq q name ≡ false)
none_append name value q [] h = (refl, by (bytes_eq q name) h)
  where
    by : (b : Bool) → (elim b as (λ _. Option (List ℕ)) [ true ↦ Some value | false ↦ None ]) ≡ None → b ≡ false
    by true h = absurd (none_some value h)
    by false h = refl
none_append name value q (p ∷ params) h = by (bytes_eq q p.name) h (none_append name value q params)
  where
    by : (b : Bool)
        → (elim b as (λ _. Option (List ℕ)) [ true ↦ Some p.value | false ↦ value_of (params ++ record { name = name; value = value } ∷ []) q ]) ≡ None
        → (value_of (params ++ record { name = name; value = value } ∷ []) q ≡ None → (value_of params q ≡ None) × (bytes_eq q name ≡ false))
        → ((elim b as (λ _. Option (List ℕ)) [ true ↦ Some p.value | false ↦ value_of params q ]) ≡ None) × (bytes_eq q name ≡ false)
    by true h rest = absurd (none_some p.value h)
    by false h rest = rest h

with_none : (params : List Parameter) (name value q : List ℕ) → value_of params q ≡ None → bytes_eq q name ≡ false
    → value_of (with_parameter params name value) q ≡ None
with_none params name value q h k = by (is_some (value_of params name))
  where
    by : (b : Bool) → value_of (if b then params else params ++ record { name = name; value = value } ∷ []) q ≡ None
    by true = h
    by false = append_none name value q params h k

there_not : (params : List Parameter) (name q : List ℕ) → is_some (value_of params name) ≡ true → value_of params q ≡ None → bytes_eq q name ≡ false
there_not params name q some none = by (bytes_eq q name) refl
  where
    by : (b : Bool) → bytes_eq q name ≡ b → bytes_eq q name ≡ false
    by true e = absurd (false≢true (sym (ap (λ (v : Option (List ℕ)). is_some v) none) ∙ (ap (λ (n : List ℕ). is_some (value_of params n))
        ((bytes_eq-Decides q name).0 e) ∙ some)))
    by false e = e

none_with : (params : List Parameter) (name value q : List ℕ) → value_of (with_parameter params name value) q ≡ None
    → (value_of params q ≡ None) × (bytes_eq q name ≡ false)
none_with params name value q h = by (is_some (value_of params name)) refl h
  where
    by : (b : Bool) → is_some (value_of params name) ≡ b → value_of (if b then params else params ++ record { name = name; value = value } ∷ []) q ≡ None
        → (value_of params q ≡ None) × (bytes_eq q name ≡ false)
    by true e h = (h, there_not params name q e h)
    by false e h = none_append name value q params h

-- ---- the names that a file gives

-- The element gives no parameter of this name.
abbrev IsNotNamed : List ℕ → Entry → Type 0
IsNotNamed q e = is_parameter e.role ≡ true → (name : List ℕ) → attribute a.Name e ≡ Some name → bytes_eq q name ≡ false

blank_none : (q : List ℕ) (blanks : List Parameter) (e : Entry) → value_of (blank_by blanks e) q ≡ None → (value_of blanks q ≡ None) × IsNotNamed q e
blank_none q blanks e h = by (is_parameter e.role) (attribute a.Name e) h
  where
    by : (b : Bool) (given : Option (List ℕ)) → value_of (elim b as (λ _. List Parameter) [ true ↦ with_blank blanks given | false ↦ blanks ]) q ≡ None
        → (value_of blanks q ≡ None) × (b ≡ true → (name : List ℕ) → given ≡ Some name → bytes_eq q name ≡ false)
    by true None h = (h, (λ t name g. absurd (none_some name (sym g))))
    by true (Some other) h = let both = none_with blanks other [] q h in (
      both.0,
      (λ t name g. let same : other ≡ name = cc in subst
          (λ (n : List ℕ). bytes_eq q n ≡ false) same both.1),
    )
    by false given h = (h, (λ t. absurd (false≢true t)))

blanks_none : (q : List ℕ) (blanks : List Parameter) (es : List Entry) → value_of (blanks_with blanks es) q ≡ None
    → (value_of blanks q ≡ None) × Each (IsNotNamed q) es
blanks_none q blanks [] h = (h, tt)
blanks_none q blanks (e ∷ es) h = let behind = blanks_none q (blank_by blanks e) es h in let here = blank_none q blanks e behind.0 in
    (here.0, (here.1, behind.1))

given_none : (q : List ℕ) (params : List Parameter) (name value : Option (List ℕ)) → value_of params q ≡ None
    → ((n : List ℕ) → name ≡ Some n → bytes_eq q n ≡ false) → value_of (with_given params name value) q ≡ None
given_none q params None value h k = h
given_none q params (Some name) None h k = h
given_none q params (Some name) (Some value) h k = with_none params name value q h (k name refl)

all_none : (q : List ℕ) (n : ℕ) (params : List Parameter) (es : List Entry) → value_of params q ≡ None
    → Each (λ (e : Entry). IsNotNamed q e × ((is_parameter e.role && nat_eq e.parent n) ≡ true)) es
    → value_of (fold (λ (ps : List Parameter) (e : Entry). with_given ps (attribute a.Name e) (attribute a.Value e)) params es) q ≡ None
all_none q n params [] h k = h
all_none q n params (e ∷ es) h k = all_none q n (with_given params (attribute a.Name e) (attribute a.Value e)) es
    (given_none q params (attribute a.Name e) (attribute a.Value e) h (k.0.0 ((and_parts (is_parameter e.role) (nat_eq e.parent n) k.0.1).0))) k.1

-- The parameters that a pattern gives are among those of its file.
pub names_given : (es : List Entry) (n : ℕ) → HaveNames (blanks_of es) (parameters es n)
names_given es n q h = all_none q n [] (inside is_parameter es n) refl (each-filter (IsNotNamed q)
    (λ (e : Entry). is_parameter e.role && nat_eq e.parent n) es (blanks_none q [] es h).1)

own_none : (es : List Entry) → HaveNames (blanks_of es) []
own_none es q h = refl

used_names : (es : List Entry) (e : Entry) (body : Option Entry)
    → Each (λ (instance : Instance). HaveNames (blanks_of es) instance.params) (used_by es e body)
used_names es e None = tt
used_names es e (Some body) = (names_given es e.number, tt)

names_by : (role : Role) (es : List Entry) (e : Entry) → Each (λ (instance : Instance). HaveNames (blanks_of es) instance.params) (instance_by role es e)
names_by r.Pattern es e = (own_none es, tt)
names_by r.Use es e = used_names es e (pattern_used es e)
names_by _ es e = tt

pub all_names : (es : List Entry) → Each (λ (instance : Instance). HaveNames (blanks_of es) instance.params) (instances es)
all_names es = each-flat_map (λ (instance : Instance). HaveNames (blanks_of es) instance.params) (instance_of es) es
    (each_all (λ (e : Entry). Each (λ (instance : Instance). HaveNames (blanks_of es) instance.params) (instance_of es e)) es (λ e. names_by e.role es e))

-- ---- they have nothing to put in

abbrev IsBlank : Parameter → Type 0
IsBlank p = p.value ≡ []

with_blank_all : (blanks : List Parameter) (name : Option (List ℕ)) → Each IsBlank blanks → Each IsBlank (with_blank blanks name)
with_blank_all blanks None h = h
with_blank_all blanks (Some name) h = by (is_some (value_of blanks name))
  where
    by : (b : Bool) → Each IsBlank (if b then blanks else blanks ++ record { name = name; value = [] } ∷ [])
    by true = h
    by false = each-append IsBlank blanks (record { name = name; value = [] } ∷ []) h (refl, tt)

blank_by_all : (blanks : List Parameter) (e : Entry) → Each IsBlank blanks → Each IsBlank (blank_by blanks e)
blank_by_all blanks e h = by (is_parameter e.role)
  where
    by : (b : Bool) → Each IsBlank (elim b as (λ _. List Parameter) [ true ↦ with_blank blanks (attribute a.Name e) | false ↦ blanks ])
    by true = with_blank_all blanks (attribute a.Name e) h
    by false = h

blanks_all : (blanks : List Parameter) (es : List Entry) → Each IsBlank blanks → Each IsBlank (blanks_with blanks es)
blanks_all blanks [] h = h
blanks_all blanks (e ∷ es) h = blanks_all (blank_by blanks e) es (blank_by_all blanks e h)

blank_value : (blanks : List Parameter) (name value : List ℕ) → Each IsBlank blanks → value_of blanks name ≡ Some value → value ≡ []
blank_value [] name value h k = absurd (none_some value (sym k))
blank_value (p ∷ blanks) name value h k = by (bytes_eq name p.name) k (blank_value blanks name value h.1)
  where
    by : (b : Bool) → (elim b as (λ _. Option (List ℕ)) [ true ↦ Some p.value | false ↦ value_of blanks name ]) ≡ Some value
        → (value_of blanks name ≡ Some value → value ≡ []) → value ≡ []
    by true k rest = let same : p.value ≡ value = cc in sym same ∙ h.0
    by false k rest = rest k

blank_before : (blanks : List Parameter) (text value : List ℕ) → Each IsBlank blanks → value_before blanks text ≡ Some value → value ≡ []
blank_before blanks text value h k = by (name_length text) k
  where
    by : (n : ℕ) → (elim n as (λ _. Option (List ℕ)) [ zero ↦ None | suc m ↦ value_of blanks (take (suc m) text) ]) ≡ Some value → value ≡ []
    by zero k = absurd (none_some value (sym k))
    by (suc m) k = blank_value blanks (take (suc m) text) value h k

blank_at : (blanks : List Parameter) (c : ℕ) (text value : List ℕ) → Each IsBlank blanks → value_at blanks c text ≡ Some value → value ≡ []
blank_at blanks c text value h k = by (c == 36) k
  where
    by : (b : Bool) → (elim b as (λ _. Option (List ℕ)) [ true ↦ value_before blanks text | false ↦ None ]) ≡ Some value → value ≡ []
    by true k = blank_before blanks text value h k
    by false k = absurd (none_some value (sym k))

-- so what they change gets shorter
shorter : (blanks : List Parameter) (skipped : ℕ) (text : List ℕ) → Each IsBlank blanks → length (replaced_behind blanks skipped text) ≤ length text
shorter blanks skipped [] h = omega arith
shorter blanks (suc skipped) (c ∷ text) h = let l : length (replaced_behind blanks skipped text) ≤ length text = shorter blanks skipped text h in omega
    (arith, l)
shorter blanks zero (c ∷ text) h = by (value_at blanks c text) refl (shorter blanks 0 text h) (shorter blanks (name_length text) text h)
  where
    by : (found : Option (List ℕ)) → value_at blanks c text ≡ found → length (replaced_behind blanks 0 text) ≤ length text
        → length (replaced_behind blanks (name_length text) text) ≤ length text
        → length (elim found as (λ _. List ℕ) [
          | None ↦ c ∷ replaced_behind blanks 0 text
          | Some value ↦ value ++ replaced_behind blanks
              (name_length text) text
        ]) ≤ length (c ∷ text)
    by None e l m = omega (arith, l)
    by (Some value) e l m = subst (λ (v : List ℕ). length (v ++ replaced_behind blanks (name_length text) text) ≤ length (c ∷ text)) (sym
        (blank_at blanks c text value h e)) (omega (arith, m))

-- ---- texts that stay

none_before : (blanks params : List Parameter) (text : List ℕ) → HaveNames blanks params → value_before blanks text ≡ None → value_before params text ≡ None
none_before blanks params text h k = by (name_length text) k
  where
    by : (n : ℕ) → (elim n as (λ _. Option (List ℕ)) [ zero ↦ None | suc m ↦ value_of blanks (take (suc m) text) ]) ≡ None
        → (elim n as (λ _. Option (List ℕ)) [ zero ↦ None | suc m ↦ value_of params (take (suc m) text) ]) ≡ None
    by zero k = refl
    by (suc m) k = h (take (suc m) text) k

none_at : (blanks params : List Parameter) (c : ℕ) (text : List ℕ) → HaveNames blanks params → value_at blanks c text ≡ None → value_at params c text ≡ None
none_at blanks params c text h k = by (c == 36) k
  where
    by : (b : Bool) → (elim b as (λ _. Option (List ℕ)) [ true ↦ value_before blanks text | false ↦ None ]) ≡ None
        → (elim b as (λ _. Option (List ℕ)) [ true ↦ value_before params text | false ↦ None ]) ≡ None
    by true k = none_before blanks params text h k
    by false k = refl

-- what is made of the rest where a character is put or a value
abbrev made : List Parameter → ℕ → List ℕ → Option (List ℕ) → List ℕ
made params c text found = elim found as (λ _. List ℕ) [
  | None ↦ c ∷ replaced_behind params 0 text
  | Some value ↦ value ++ replaced_behind params
      (name_length text) text
]

same_rest : (c : ℕ) (xs ys : List ℕ) → c ∷ xs ≡ c ∷ ys → xs ≡ ys
same_rest c xs ys h = cc

too_short : (c : ℕ) (xs text : List ℕ) → xs ≡ c ∷ text → length xs ≤ length text → ⊥
too_short c xs text e l = let n : length xs ≡ length (c ∷ text) = ap length e in omega (arith, l, n)

stays_behind : (blanks params : List Parameter) (text : List ℕ) → Each IsBlank blanks → HaveNames blanks params → Stays blanks text → Stays params text
stays_behind blanks params [] b h s = refl
stays_behind blanks params (c ∷ text) b h s = by (value_at blanks c text) refl s (stays_behind blanks params text b h)
  where
    by : (found : Option (List ℕ)) → value_at blanks c text ≡ found → made blanks c text found ≡ c ∷ text → (Stays blanks text → Stays params text)
        → made params c text (value_at params c text) ≡ c ∷ text
    by None e s rest = ap (made params c text) (none_at blanks params c text h e) ∙ ap (λ (xs : List ℕ). c ∷ xs) (rest (same_rest c
        (replaced_behind blanks 0 text) text s))
    by (Some value) e s rest = absurd (too_short c (value ++ replaced_behind blanks (name_length text) text) text s
        (subst (λ (v : List ℕ). length (v ++ replaced_behind blanks (name_length text) text) ≤ length text) (sym (blank_at blanks c text value b e))
        (shorter blanks (name_length text) text b)))

-- A text in which no parameter of a file stands stays so in each use.
pub stays_in : (es : List Entry) (params : List Parameter) (text : List ℕ) → HaveNames (blanks_of es) params → Stays (blanks_of es) text
    → replaced params text ≡ text
stays_in es params text h s = stays_behind (blanks_of es) params text (blanks_all [] es tt) h s

-- and so does one without a `$`
pub without_dollar : (params : List Parameter) (text : List ℕ) → list_any is_dollar text ≡ false → Stays params text
without_dollar params [] h = refl
without_dollar params (c ∷ text) h = let parts = or_parts (c == 36) (list_any is_dollar text) h in
    ap (λ (b : Bool). made params c text (elim b as (λ _. Option (List ℕ)) [ true ↦ value_before params text | false ↦ None ])) parts.0 ∙ ap
    (λ (xs : List ℕ). c ∷ xs) (without_dollar params text parts.1)
