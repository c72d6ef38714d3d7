-- A let or an assertion that is put in one rule many times is judged once.
use Rattle.std.proofs.Common.{◌≡◌, ℕ, ◌≤◌, Bool, true, false, cond, ⊎_elim, List, [], ◌∷◌, ◌++◌, Option, Some, None, refl, ap, sym, ◌∙◌, subst, arith}
use Rattle.std.specs.Prelude.{nat_eq, flat_map, is_some}
use Rattle.std.specs.List.{list_any}
use Rattle.std.proofs.lemmas.Bool.{or_cases, false≢true}
use Rattle.std.proofs.lemmas.Bool.Decides.{nat_tests}
use Rattle.xpath_types.specs.Scopes.{Declared, with_variable}
use Rattle.schematron_meaning.specs.declared.attribute.Attribute.{Attribute}
use Rattle.schematron_meaning.specs.declared.attribute.Attribute.TheVariants as a
use Rattle.schematron_meaning.specs.declared.fault.ExpressionFault.{ExpressionFault}
use Rattle.schematron_meaning.specs.Entries.{Entry}
use Rattle.schematron_meaning.specs.Lookup.{attribute, is_let, is_part, inside}
use Rattle.schematron_texts.specs.Replacing.{Parameter, replaced}
use Rattle.schematron_meaning.specs.Expansion.{Inclusion, put_at_stand, or_itself}
use Rattle.schematron_meaning.specs.Written.{Written, name_of, with_let, with_lets, lets_among, written_text, written, written_let, written_assertion}
use Rattle.schematron_meaning.specs.Written.{written_puts}
use Rattle.schematron_meaning.specs.Faults.{expression_fault, fault_of_written}
use Rattle.schematron_expansion.specs.declared.found.Found.{Found}
use Rattle.schematron_expansion.specs.Found.{first_at, sooner}
use Rattle.schematron_expansion.specs.Seen.{first_puts_behind, first_puts}
use Rattle.schematron_faults.specs.Least.{found_of, least, is_up_to, up_to, soonest}
use Rattle.schematron_faults.specs.Read.{entry_at, IsOf}
use Rattle.schematron_faults.specs.Things.{written_put, with_entry}
use Rattle.schematron_faults.proofs.EachLemmas.{Each, each-append, each-front, each-behind}
use Rattle.schematron_faults.proofs.FoundLemmas.{sooner-none}
use Rattle.schematron_faults.proofs.CoverLemmas.{Covers, covers_keeps, covers-sooner, covers_both, covers_behind, soonest-append}
use Rattle.schematron_faults.proofs.ScopeLemmas.{knows, declared_known, knows_declared, Wider, wider-refl, wider-trans, wider_declared, kept_wider, knows_wider}

-- What is right in a scope is right with one variable more.
abbrev pub Keeps : Type 0
Keeps = (is_pattern : Bool) (text : List ℕ) (scope : Declared) (name : List ℕ) → expression_fault is_pattern text scope ≡ None →
    expression_fault is_pattern text (with_variable scope name) ≡ None

-- ---- the same expressions, further behind and in a wider scope

abbrev IsRight : Written → Type 0
IsRight w = expression_fault w.is_pattern w.text w.scope ≡ None

-- Each of the second stands where its partner does or behind it, and is right where that is.
abbrev AreLater : List Written → List Written → Type 0
AreLater [] [] = Unit {0}
AreLater [] (v ∷ vs) = ⊥
AreLater (w ∷ ws) [] = ⊥
AreLater (w ∷ ws) (v ∷ vs) = (w.stand ≤ v.stand) × (IsRight w → IsRight v) × AreLater ws vs

later-append : (ws vs ws' vs' : List Written) → AreLater ws vs → AreLater ws' vs' → AreLater (ws ++ ws') (vs ++ vs')
later-append [] [] ws' vs' h k = k
later-append [] (v ∷ vs) ws' vs' h k = absurd h
later-append (w ∷ ws) [] ws' vs' h k = absurd h
later-append (w ∷ ws) (v ∷ vs) ws' vs' h k = (h.0, h.1, later-append ws vs ws' vs' h.2 k)

covers_one : (best : Option Found) (w v : Written) → w.stand ≤ v.stand → (IsRight w → IsRight v) → Covers (sooner best (found_of w)) (found_of v)
covers_one best w v l right = by (expression_fault w.is_pattern w.text w.scope) (expression_fault v.is_pattern v.text v.scope) right
  where
    by : (x y : Option ExpressionFault) → (x ≡ None → y ≡ None) →
        Covers (sooner best (first_at w.stand (fault_of_written w x))) (first_at v.stand (fault_of_written v y))
    by x None h = tt
    by None (Some g) h = let e : Some g ≡ None = h refl in absurd (cc)
    by (Some f) (Some g) h = covers_behind best _ _ l

pub up_to_before : (last : Option ℕ) (m n : ℕ) → m ≤ n → is_up_to last n ≡ true → is_up_to last m ≡ true
up_to_before None m n l h = refl
up_to_before (Some k) m n l h = grind (arith, nat_tests)

-- what is found of the first covers the second
covered : (best : Option Found) (last : Option ℕ) (ws vs : List Written) → AreLater ws vs → Covers (soonest best last ws) (least (up_to last vs))
covered best last [] [] h = tt
covered best last [] (v ∷ vs) h = absurd h
covered best last (w ∷ ws) [] h = absurd h
covered best last (w ∷ ws) (v ∷ vs) h = subst (λ (x : Option Found). Covers x (least (up_to last (v ∷ vs)))) (sym (soonest-append best last (w ∷ []) ws))
    (by (is_up_to last v.stand) refl (covered (soonest best last (w ∷ [])) last ws vs h.2))
  where
    here : is_up_to last v.stand ≡ true → Covers (soonest best last (w ∷ [])) (found_of v)
    here t = subst (λ (c : Bool). Covers (sooner best (least (cond c (w ∷ []) []))) (found_of v)) (sym (up_to_before last w.stand v.stand h.0 t))
        (subst (λ (x : Option Found). Covers (sooner best x) (found_of v)) (sym (sooner-none (found_of w))) (covers_one best w v h.0 h.1))

    by : (test : Bool) → is_up_to last v.stand ≡ test → Covers (soonest (soonest best last (w ∷ [])) last ws) (least (up_to last vs))
        → Covers (soonest (soonest best last (w ∷ [])) last ws) (least (cond (is_up_to last v.stand) (v ∷ up_to last vs) (up_to last vs)))
    by true t rest = subst (λ (c : Bool). Covers (soonest (soonest best last (w ∷ [])) last ws) (least (cond c (v ∷ up_to last vs) (up_to last vs)))) (sym t)
        (covers_both (soonest (soonest best last (w ∷ [])) last ws) (found_of v) (least (up_to last vs))
        (covers-sooner (soonest best last (w ∷ [])) (least (up_to last ws)) (found_of v) (here t)) rest)
    by false t rest = subst (λ (c : Bool). Covers (soonest (soonest best last (w ∷ [])) last ws) (least (cond c (v ∷ up_to last vs) (up_to last vs))))
        (sym t) rest

-- Of two that are put at other elements, or of two that stand where they are, the second isn't sooner.
abbrev pub NotBefore : Option ℕ → Option ℕ → Type 0
NotBefore None None = Unit {0}
NotBefore None (Some n) = ⊥
NotBefore (Some m) None = ⊥
NotBefore (Some m) (Some n) = m ≤ n

not_before : (s t : Option ℕ) (n : ℕ) → is_some s ≡ is_some t → or_itself s n ≤ or_itself t n → NotBefore s t
not_before None None n e l = tt
not_before None (Some k) n e l = absurd (false≢true e)
not_before (Some m) None n e l = absurd (false≢true (sym e))
not_before (Some m) (Some k) n e l = l

not_before_itself : (s t : Option ℕ) (n : ℕ) → NotBefore s t → or_itself s n ≤ or_itself t n
not_before_itself None None n h = omega arith
not_before_itself None (Some k) n h = absurd h
not_before_itself (Some m) None n h = absurd h
not_before_itself (Some m) (Some k) n h = h

later_written : Keeps → (name : Attribute) (is_pattern : Bool) (s t : Option ℕ) (params : List Parameter) (scope wider : Declared) (e : Entry) → NotBefore s t →
    Wider scope wider
    → AreLater (written name is_pattern s params scope e) (written name is_pattern t params wider e)
later_written keeps name is_pattern s t params scope wider e l w = by (attribute name e)
  where
    by : (text : Option (List ℕ)) → AreLater (written_text name is_pattern s params scope e text) (written_text name is_pattern t params wider e text)
    by None = tt
    by (Some text) = (
      not_before_itself s t e.number l,
      (λ right. kept_wider (λ (d : Declared). expression_fault is_pattern (replaced params text) d ≡ None)
          (λ d name. keeps is_pattern (replaced params text) d name) scope wider w right),
      tt,
    )

later_parts : Keeps → (s t : Option ℕ) (params : List Parameter) (all : Declared) (parts : List Entry) → NotBefore s t
    → AreLater (flat_map (λ (part : Entry). written a.Select false s params all part) parts)
    (flat_map (λ (part : Entry). written a.Select false t params all part) parts)
later_parts keeps s t params all [] l = tt
later_parts keeps s t params all (part ∷ parts) l = later-append (written a.Select false s params all part) (written a.Select false t params all part) _ _
    (later_written keeps a.Select false s t params all all part l (wider-refl all)) (later_parts keeps s t params all parts l)

later_put : Keeps → (es : List Entry) (params : List Parameter) (all before wider : Declared) (s t : Option ℕ) (e : Entry) → NotBefore s t → Wider before wider
    → AreLater (written_put es params all before (put_at_stand s e)) (written_put es params all wider (put_at_stand t e))
later_put keeps es params all before wider s t e l w = by (is_let e.role)
  where
    by : (test : Bool) → AreLater (elim test [ true ↦ written_let s params before e | false ↦ written_assertion es params all (put_at_stand s e) ])
        (elim test [ true ↦ written_let t params wider e | false ↦ written_assertion es params all (put_at_stand t e) ])
    by true = later_written keeps a.Value false s t params before wider e l w
    by false = later-append (written a.Test false s params all e) (written a.Test false t params all e) _ _
        (later_written keeps a.Test false s t params all all e l (wider-refl all))
        (later_parts keeps s t params all (inside is_part es e.number) l)

-- ---- the next of what is put

pub puts_next : (es : List Entry) (params : List Parameter) (all before : Declared) (inclusion : Inclusion) (inclusions : List Inclusion)
    → written_puts es params all before (inclusion ∷ inclusions) ≡ written_put es params all before inclusion ++
    written_puts es params all (with_entry params before inclusion.entry) inclusions
puts_next es params all before inclusion inclusions = by (is_let inclusion.entry.role)
  where
    by : (test : Bool)
        → (elim test as (λ _. List Written) [
          | true ↦ written_let inclusion.stand params before inclusion.entry ++
              written_puts es params all (with_let params before inclusion.entry) inclusions
          | false ↦ written_assertion es params all inclusion ++
              written_puts es params all before inclusions
        ])
        ≡ (elim test as (λ _. List Written) [
          | true ↦ written_let inclusion.stand params before inclusion.entry
          | false ↦ written_assertion es params all
              inclusion
        ])
        ++ written_puts es params all (elim test as (λ _. Declared) [ true ↦ with_let params before inclusion.entry | false ↦ before ]) inclusions
    by true = refl
    by false = refl

pub lets_next : (params : List Parameter) (scope : Declared) (inclusion : Inclusion) (inclusions : List Inclusion) →
    with_lets params scope (lets_among (inclusion ∷ inclusions)) ≡ with_lets params (with_entry params scope inclusion.entry) (lets_among inclusions)
lets_next params scope inclusion inclusions = by (is_let inclusion.entry.role)
  where
    by : (test : Bool) → with_lets params scope (cond test (inclusion.entry ∷ lets_among inclusions) (lets_among inclusions)) ≡ with_lets params
        (elim test as (λ _. Declared) [ true ↦ with_let params scope inclusion.entry | false ↦ scope ]) (lets_among inclusions)
    by true = refl
    by false = refl

pub wider_entry : (params : List Parameter) (scope : Declared) (e : Entry) → Wider scope (with_entry params scope e)
wider_entry params scope e = by (is_let e.role)
  where
    by : (test : Bool) → Wider scope (elim test as (λ _. Declared) [ true ↦ with_let params scope e | false ↦ scope ])
    by true = wider_declared scope (name_of params e)
    by false = wider-refl scope

-- ---- what was told

abbrev is_told : ℕ → List ℕ → Bool
is_told n told = list_any (nat_eq n) told

-- The names of the lets that were told are declared.
abbrev Settled : List Entry → List Parameter → List ℕ → Declared → Type 0
Settled es params told scope = (n : ℕ) (e : Entry) → is_told n told ≡ true → entry_at es n ≡ Some e → is_let e.role ≡ true →
    knows scope (name_of params e) ≡ true

same_entry : (es : List Entry) (n : ℕ) (e f : Entry) → IsOf es e → nat_eq n e.number ≡ true → entry_at es n ≡ Some f → e ≡ f
same_entry es n e f h t g = let k : n ≡ e.number = grind (arith, nat_tests) in let s : Some e ≡ Some f = sym h ∙ (ap (entry_at es) (sym k) ∙ g) in cc

let_known : (params : List Parameter) (scope : Declared) (e : Entry) → is_let e.role ≡ true → knows (with_entry params scope e) (name_of params e) ≡ true
let_known params scope e t = subst (λ (c : Bool). knows (elim c as (λ _. Declared) [ true ↦ with_let params scope e | false ↦ scope ])
    (name_of params e) ≡ true) (sym t) (knows_declared scope (name_of params e))

settled_more : (es : List Entry) (params : List Parameter) (told : List ℕ) (scope : Declared) (e : Entry) → IsOf es e → Settled es params told scope →
    Settled es params (e.number ∷ told) (with_entry params scope e)
settled_more es params told scope e is settled n f t g is_let_f = ⊎_elim
    (λ (here : nat_eq n e.number ≡ true). let s : e ≡ f = same_entry es n e f is here g in
    subst (λ (x : Entry). knows (with_entry params scope e) (name_of params x) ≡ true) s
    (let_known params scope e (subst (λ (x : Entry). is_let x.role ≡ true) (sym s) is_let_f)))
    (λ (there : is_told n told ≡ true). knows_wider (name_of params f) scope (with_entry params scope e) (wider_entry params scope e)
    (settled n f there g is_let_f))
    (or_cases (nat_eq n e.number) (is_told n told) t)

-- what was told declares nothing new
settled_scope : (es : List Entry) (params : List Parameter) (told : List ℕ) (scope : Declared) (e : Entry) → IsOf es e → Settled es params told scope →
    is_told e.number told ≡ true → with_entry params scope e ≡ scope
settled_scope es params told scope e is settled t = by (is_let e.role) refl
  where
    by : (test : Bool) → is_let e.role ≡ test → (elim test as (λ _. Declared) [ true ↦ with_let params scope e | false ↦ scope ]) ≡ scope
    by true l = declared_known scope (name_of params e) (settled e.number e t is l)
    by false l = refl

-- ---- the lets are the same

-- what is known of something that is put: it is the file's, and whether it is put by another element
abbrev pub Known : List Entry → (Entry → Bool) → Inclusion → Type 0
Known es is_put inclusion = IsOf es inclusion.entry × (is_some inclusion.stand ≡ is_put inclusion.entry)

first_lets_behind : (es : List Entry) (is_put : Entry → Bool) (params : List Parameter) (told : List ℕ) (scope : Declared) (inclusions : List Inclusion) →
    Settled es params told scope → Each (Known es is_put) inclusions
    → with_lets params scope (lets_among (first_puts_behind told inclusions)) ≡ with_lets params scope (lets_among inclusions)
first_lets_behind es is_put params told scope [] settled known = refl
first_lets_behind es is_put params told scope (inclusion ∷ inclusions) settled known = by (is_told inclusion.entry.number told) refl
    (first_lets_behind es is_put params told scope inclusions settled known.1)
    (first_lets_behind es is_put params (inclusion.entry.number ∷ told) (with_entry params scope inclusion.entry) inclusions
    (settled_more es params told scope inclusion.entry known.0.0 settled) known.1)
  where
    by : (test : Bool) → is_told inclusion.entry.number told ≡ test
        → with_lets params scope (lets_among (first_puts_behind told inclusions)) ≡ with_lets params scope (lets_among inclusions)
        → with_lets params (with_entry params scope inclusion.entry) (lets_among (first_puts_behind (inclusion.entry.number ∷ told) inclusions))
        ≡ with_lets params
        (with_entry params scope inclusion.entry) (lets_among inclusions)
        → with_lets params scope
        (lets_among (elim test as (λ _. List Inclusion) [
          | true ↦ first_puts_behind told inclusions
          | false ↦ inclusion ∷ first_puts_behind
              (inclusion.entry.number ∷ told) inclusions
        ]))
        ≡ with_lets params scope (lets_among (inclusion ∷ inclusions))
    by true t same new = same ∙ (ap (λ (s : Declared). with_lets params s (lets_among inclusions))
        (sym (settled_scope es params told scope inclusion.entry known.0.0 settled t)) ∙ sym (lets_next params scope inclusion inclusions))
    by false t same new = lets_next params scope inclusion (first_puts_behind (inclusion.entry.number ∷ told) inclusions) ∙ (new
        ∙ sym (lets_next params scope inclusion inclusions))

-- first copies declare what all do
pub first_lets : (es : List Entry) (is_put : Entry → Bool) (params : List Parameter) (scope : Declared) (inclusions : List Inclusion)
    → Each (Known es is_put) inclusions
    → with_lets params scope (lets_among (first_puts inclusions)) ≡ with_lets params scope (lets_among inclusions)
first_lets es is_put params scope inclusions known = first_lets_behind es is_put params [] scope inclusions (λ n e t g l. absurd (false≢true t)) known

-- ---- what holds of all copies holds of the first

first_each_behind : (P : Written → Type 0) (es : List Entry) (is_put : Entry → Bool) (params : List Parameter) (all : Declared) (told : List ℕ)
    (before : Declared) (inclusions : List Inclusion)
    → Settled es params told before → Each (Known es is_put) inclusions → Each P (written_puts es params all before inclusions) →
    Each P (written_puts es params all before (first_puts_behind told inclusions))
first_each_behind P es is_put params all told before [] settled known h = tt
first_each_behind P es is_put params all told before (inclusion ∷ inclusions) settled known h = by (is_told inclusion.entry.number told) refl
    (λ (scope : Declared) same others. first_each_behind P es is_put params all told before inclusions settled known.1
    (subst (λ (s : Declared). Each P (written_puts es params all s inclusions)) same others))
    (first_each_behind P es is_put params all (inclusion.entry.number ∷ told) (with_entry params before inclusion.entry) inclusions
    (settled_more es params told before inclusion.entry known.0.0 settled) known.1)
  where
    both : Each P (written_put es params all before inclusion ++ written_puts es params all (with_entry params before inclusion.entry) inclusions)
    both = subst (Each P) (puts_next es params all before inclusion inclusions) h

    rest : Each P (written_puts es params all (with_entry params before inclusion.entry) inclusions)
    rest = each-behind P (written_put es params all before inclusion) (written_puts es params all (with_entry params before inclusion.entry) inclusions) both

    by : (test : Bool) → is_told inclusion.entry.number told ≡ test
        → ((scope : Declared) → scope ≡ before → Each P (written_puts es params all scope inclusions) →
        Each P (written_puts es params all before (first_puts_behind told inclusions)))
        → (Each P (written_puts es params all (with_entry params before inclusion.entry) inclusions) →
        Each P (written_puts es params all (with_entry params before inclusion.entry) (first_puts_behind (inclusion.entry.number ∷ told) inclusions)))
        → Each P (written_puts es params all before
        (elim test as (λ _. List Inclusion) [
          | true ↦ first_puts_behind told inclusions
          | false ↦ inclusion ∷ first_puts_behind (inclusion.entry.number ∷ told)
              inclusions
        ]))
    by true t same new = same (with_entry params before inclusion.entry) (settled_scope es params told before inclusion.entry known.0.0 settled t) rest
    by false t same new = subst (Each P) (sym (puts_next es params all before inclusion (first_puts_behind (inclusion.entry.number ∷ told) inclusions)))
        (each-append P (written_put es params all before inclusion)
        (written_puts es params all (with_entry params before inclusion.entry) (first_puts_behind (inclusion.entry.number ∷ told) inclusions))
        (each-front P (written_put es params all before inclusion) (written_puts es params all (with_entry params before inclusion.entry) inclusions) both)
        (new rest))

pub first_each : (P : Written → Type 0) (es : List Entry) (is_put : Entry → Bool) (params : List Parameter) (all before : Declared) (inclusions : List
    Inclusion)
    → Each (Known es is_put) inclusions → Each P (written_puts es params all before inclusions)
    → Each P (written_puts es params all before (first_puts inclusions))
first_each P es is_put params all before inclusions known h = first_each_behind P es is_put params all [] before inclusions (λ n e t g l. absurd (false≢true
    t)) known h

-- ---- and so is the soonest fault

abbrev pub stand_of : Inclusion → ℕ
stand_of inclusion = or_itself inclusion.stand inclusion.entry.number

-- The elements at which they stand don't come before one another, nor before the first number.
abbrev pub Climbs : ℕ → List Inclusion → Type 0
Climbs low [] = Unit {0}
Climbs low (inclusion ∷ inclusions) = (low ≤ stand_of inclusion) × Climbs (stand_of inclusion) inclusions

-- What was told is covered, wherever it is put again from an element on, in whatever wider scope.
abbrev Covered : List Entry → (Entry → Bool) → List Parameter → Declared → List ℕ → ℕ → Option Found → Option ℕ → Declared → Type 0
Covered es is_put params all told low best last before = (n : ℕ) (e : Entry) (stand : Option ℕ) (wider : Declared) → is_told n told ≡ true →
    entry_at es n ≡ Some e → low ≤ or_itself stand e.number
    → is_some stand ≡ is_put e → Wider before wider → Covers best (least (up_to last (written_put es params all wider (put_at_stand stand e))))

covered_more : Keeps → (es : List Entry) (is_put : Entry → Bool) (params : List Parameter) (all : Declared) (told : List ℕ) (low : ℕ) (best : Option Found)
    (last : Option ℕ) (before : Declared) (inclusion : Inclusion)
    → Known es is_put inclusion → low ≤ stand_of inclusion → Covered es is_put params all told low best last before
    → Covered es is_put params all (inclusion.entry.number ∷ told) (stand_of inclusion) (soonest best last (written_put es params all before inclusion)) last
    (with_entry params before inclusion.entry)
covered_more keeps es is_put params all told low best last before inclusion known l cover n f stand wider t g k s w = ⊎_elim
    (λ (here : nat_eq n inclusion.entry.number ≡ true). let same : inclusion.entry ≡ f = same_entry es n inclusion.entry f known.0 here g in
    subst (λ (x : Entry). Covers (soonest best last (written_put es params all before inclusion))
    (least (up_to last (written_put es params all wider (put_at_stand stand x))))) same
    (covered best last (written_put es params all before inclusion) (written_put es params all wider (put_at_stand stand inclusion.entry))
    (later_put keeps es params all before wider inclusion.stand stand inclusion.entry
    (not_before inclusion.stand stand inclusion.entry.number (known.1 ∙ (ap is_put same ∙ sym s))
    (subst (λ (x : Entry). stand_of inclusion ≤ or_itself stand x.number) (sym same) k))
    (wider-trans before (with_entry params before inclusion.entry) wider (wider_entry params before inclusion.entry) w))))
    (λ (there : is_told n told ≡ true). covers-sooner best (least (up_to last (written_put es params all before inclusion)))
    (least (up_to last (written_put es params all wider (put_at_stand stand f))))
    (cover n f stand wider there g (omega (arith, l, k)) s
    (wider-trans before (with_entry params before inclusion.entry) wider (wider_entry params before inclusion.entry) w)))
    (or_cases (nat_eq n inclusion.entry.number) (is_told n told) t)

covered_from : (es : List Entry) (is_put : Entry → Bool) (params : List Parameter) (all : Declared) (told : List ℕ) (low from : ℕ) (best : Option Found)
    (last : Option ℕ) (before : Declared) → low ≤ from
    → Covered es is_put params all told low best last before → Covered es is_put params all told from best last before
covered_from es is_put params all told low from best last before l cover n f stand wider t g k s w = cover n f stand wider t g (omega (arith, l, k)) s w

first_copies_behind : Keeps → (es : List Entry) (is_put : Entry → Bool) (params : List Parameter) (all : Declared) (told : List ℕ) (low : ℕ)
    (best : Option Found) (last : Option ℕ) (before : Declared) (inclusions : List Inclusion)
    → Settled es params told before → Covered es is_put params all told low best last before → Climbs low inclusions → Each (Known es is_put) inclusions
    → soonest best last (written_puts es params all before (first_puts_behind told inclusions))
    ≡ soonest best last (written_puts es params all before inclusions)
first_copies_behind keeps es is_put params all told low best last before [] settled cover climbs known = refl
first_copies_behind keeps es is_put params all told low best last before (inclusion ∷ inclusions) settled cover climbs known = by (is_told
    inclusion.entry.number told) refl
    (first_copies_behind keeps es is_put params all told (stand_of inclusion) best last before inclusions settled
    (covered_from es is_put params all told low (stand_of inclusion) best last before climbs.0 cover) climbs.1 known.1)
    (first_copies_behind keeps es is_put params all (inclusion.entry.number ∷ told) (stand_of inclusion) (soonest best last (written_put es params all before
    inclusion)) last
    (with_entry params before inclusion.entry) inclusions
    (settled_more es params told before inclusion.entry known.0.0 settled)
    (covered_more keeps es is_put params all told low best last before inclusion known.0 climbs.0 cover) climbs.1 known.1)
  where
    all_next : (others : List Inclusion) → soonest best last (written_puts es params all before (inclusion ∷ others)) ≡ soonest
        (soonest best last (written_put es params all before inclusion)) last (written_puts es params all (with_entry params before inclusion.entry) others)
    all_next others = ap (soonest best last) (puts_next es params all before inclusion others) ∙
        soonest-append best last (written_put es params all before inclusion) (written_puts es params all (with_entry params before inclusion.entry) others)

    by : (test : Bool) → is_told inclusion.entry.number told ≡ test
        → soonest best last (written_puts es params all before (first_puts_behind told inclusions))
        ≡ soonest best last (written_puts es params all before inclusions)
        → soonest (soonest best last (written_put es params all before inclusion)) last
        (written_puts es params all (with_entry params before inclusion.entry) (first_puts_behind (inclusion.entry.number ∷ told) inclusions))
        ≡ soonest (soonest best last (written_put es params all before inclusion)) last (written_puts es params all (with_entry params before inclusion.entry)
        inclusions)
        → soonest best last (written_puts es params all before
        (elim test as (λ _. List Inclusion) [
          | true ↦ first_puts_behind told inclusions
          | false ↦ inclusion ∷ first_puts_behind (inclusion.entry.number ∷ told)
              inclusions
        ]))
        ≡ soonest best last (written_puts es params all before (inclusion ∷ inclusions))
    by true t same new = same ∙ (sym (ap (λ (x : Option Found). soonest x last (written_puts es params all before inclusions))
        (covers_keeps best (least (up_to last (written_put es params all before inclusion)))
        (cover inclusion.entry.number inclusion.entry inclusion.stand before t known.0.0 climbs.0 known.0.1 (wider-refl before))))
        ∙ (ap (λ (s : Declared). soonest (soonest best last (written_put es params all before inclusion)) last (written_puts es params all s inclusions))
        (sym (settled_scope es params told before inclusion.entry known.0.0 settled t))
        ∙ sym (all_next inclusions)))
    by false t same new = all_next (first_puts_behind (inclusion.entry.number ∷ told) inclusions) ∙ (new ∙ sym (all_next inclusions))

-- first copies have the soonest fault of all
pub first_copies : Keeps → (es : List Entry) (is_put : Entry → Bool) (params : List Parameter) (all : Declared) (best : Option Found) (last : Option ℕ)
    (before : Declared) (inclusions : List Inclusion)
    → Climbs 0 inclusions → Each (Known es is_put) inclusions → soonest best last (written_puts es params all before (first_puts inclusions))
    ≡ soonest best last
    (written_puts es params all before inclusions)
first_copies keeps es is_put params all best last before inclusions climbs known =
    first_copies_behind keeps es is_put params all [] 0 best last before inclusions (λ n e t g l. absurd (false≢true t))
    (λ n e s w t g k i h. absurd (false≢true t)) climbs known
