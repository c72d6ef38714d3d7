-- The first cycle, by the first part that leads back to its own rule.
use Rattle.std.proofs.Common.{◌≡◌, ℕ, ◌+◌, ◌<◌, ◌≤◌, Bool, true, false, cond, ◌&&◌, ◌||◌, ◌⊎◌, inl, inr, ⊎_elim, List, [], ◌∷◌, ◌++◌, map, length, get_or, take}
use Rattle.std.proofs.Common.{Option, Some, None, refl, ap, sym, ◌∙◌, subst, arith}
use Rattle.std.specs.Prelude.{filter, find, slice_get, nat_eq, option_map, is_some}
use Rattle.std.specs.List.{All, AllPairs, AllZip, Contains, list_any}
use Rattle.std.proofs.lemmas.Bool.{cases_lt, false≢true, true≢false, true_from_ne_false, false_from_ne_true, and_parts, and_from, or_parts, eqb-true, eq-eqb}
use Rattle.std.proofs.lemmas.List.{length-map}
use Rattle.std.proofs.lemmas.List.Elements.{All-nil, All-cons, All-contains, Contains-get_or}
use Rattle.std.proofs.lemmas.List.Folds.{list_any-append}
use Rattle.std.proofs.lemmas.List.Kept.{AllPairs-filter}
use Rattle.std.proofs.lemmas.Option.{slice_get_within, get_or_from_slice_get}
use Rattle.schematron_graph.specs.declared.part.Part.{Part}
use Rattle.schematron_graph.specs.declared.part.Part.TheVariants.{Own, Puts}
use Rattle.schematron_graph.specs.declared.part.Spot.{Spot}
use Rattle.schematron_graph.specs.Rules.{body_of, is_back}
use Rattle.schematron_graph.specs.Back.{NoneBefore, FirstSpot, IsFirstBack}
use Rattle.schematron_meaning.specs.declared.attribute.Attribute.TheVariants as a
use Rattle.schematron_meaning.specs.declared.fault.RuleKind.TheVariants as q
use Rattle.schematron_meaning.specs.declared.role.Role.{Role}
use Rattle.schematron_meaning.specs.declared.role.Role.TheVariants as r
use Rattle.schematron_meaning.specs.Entries.{Entry}
use Rattle.schematron_meaning.specs.Lookup.{is_item, is_assertion, is_abstract_rule}
use Rattle.schematron_meaning.specs.Bodies.{abstract_rules, bodies, body_at, part_by, put_by, putting, rule_at, is_cycle, is_cycle_in}
use Rattle.schematron_meaning.specs.Expansion.{File, file_of}
use Rattle.schematron_meaning.specs.Showing.{fault, when, is_extends}
use Rattle.schematron_meaning.specs.Faults.{cycle}
use Rattle.schematron_entries.specs.Order.{NumbersRise, RulesFollow, is_in_abstract_rule}
use Rattle.schematron_expansion.specs.declared.found.Found.{Found}
use Rattle.schematron_expansion.specs.Found.{first_at, first_or, first_by}
use Rattle.schematron_faults.specs.Parts.{is_putting, is_part, part_in, part_at, part_of, cycle_found}
use Rattle.schematron_faults.proofs.ListLemmas.{zip_get, zip_any, zip_same, find_none, find_at, flat_cons, map_get, some_of, place_found, place_is}

-- ---- parts and the entries that put them

-- The part is the one that an entry puts in the rule of that number.
abbrev IsPutBy : List Entry → ℕ → Entry → Part → Type 0
IsPutBy rules n e part = (is_part rules n e ≡ true) × (part_by e.role rules e ≡ part ∷ [])

-- what an entry puts in the rule of that number
abbrev chunk : List Entry → ℕ → Entry → List Part
chunk rules n e = cond (is_item e.role && nat_eq e.parent n) (part_by e.role rules e) []

-- It puts one part, or none.
abbrev Puts_one : List Entry → Entry → Role → Bool → Type 0
Puts_one rules e role here = (((here && is_putting role rules e) ≡ true) ×
    ((part : Part) × (cond (is_item role && here) (part_by role rules e) [] ≡ part ∷ []) × (part_by role rules e ≡ part ∷ [])))
    ⊎ (((here && is_putting role rules e) ≡ false) × (cond (is_item role && here) (part_by role rules e) [] ≡ []))

abbrev own_part : Role → Entry → Part
own_part role e = Own (record { number = e.number; counts = is_assertion role })

puts_one : (rules : List Entry) (e : Entry) (role : Role) (here : Bool) → Puts_one rules e role here
puts_one rules e r.Let true = inl (refl, (own_part r.Let e, refl, refl))
puts_one rules e r.Assert true = inl (refl, (own_part r.Assert e, refl, refl))
puts_one rules e r.Report true = inl (refl, (own_part r.Report e, refl, refl))
puts_one rules e r.Extends true = by (put_by rules e)
  where
    by : (o : Option ℕ) → (((true && is_some o) ≡ true) × ((part : Part) × (cond (true && true) (putting o) [] ≡ part ∷ []) × (putting o ≡ part ∷ [])))
        ⊎ (((true && is_some o) ≡ false) × (cond (true && true) (putting o) [] ≡ []))
    by None = inr (refl, refl)
    by (Some rule) = inl (refl, (Puts rule, refl, refl))
puts_one rules e r.Let false = inr (refl, refl)
puts_one rules e r.Assert false = inr (refl, refl)
puts_one rules e r.Report false = inr (refl, refl)
puts_one rules e r.Extends false = inr (refl, refl)
puts_one rules e _ true = inr (refl, refl)
puts_one rules e _ false = inr (refl, refl)

body_cons : (rules : List Entry) (n : ℕ) (e : Entry) (es : List Entry) → body_at (e ∷ es) rules n ≡ chunk rules n e ++ body_at es rules n
body_cons rules n e es = flat_cons (λ (x : Entry). part_by x.role rules x) (is_item e.role && nat_eq e.parent n) e
    (filter (λ (x : Entry). is_item x.role && nat_eq x.parent n) es)

-- the parts of a rule and the entries that put them, side by side
zipped : (rules : List Entry) (n : ℕ) (es : List Entry) → AllZip (IsPutBy rules n) (filter (is_part rules n) es) (body_at es rules n)
zipped rules n [] = tt
zipped rules n (e ∷ es) = ⊎_elim
    (λ (w : (is_part rules n e ≡ true) × ((part : Part) × (chunk rules n e ≡ part ∷ []) × (part_by e.role rules e ≡ part ∷ []))).
    zip_same (IsPutBy rules n) (e ∷ filter (is_part rules n) es) (filter (is_part rules n) (e ∷ es)) (w.1.0 ∷ body_at es rules n) (body_at (e ∷ es) rules n)
    (ap (λ b. cond b (e ∷ filter (is_part rules n) es) (filter (is_part rules n) es)) w.0)
    (body_cons rules n e es ∙ ap (λ x. x ++ body_at es rules n) w.1.1)
    ((w.0, w.1.2), zipped rules n es))
    (λ (w : (is_part rules n e ≡ false) × (chunk rules n e ≡ [])).
    zip_same (IsPutBy rules n) (filter (is_part rules n) es) (filter (is_part rules n) (e ∷ es)) (body_at es rules n) (body_at (e ∷ es) rules n)
    (ap (λ b. cond b (e ∷ filter (is_part rules n) es) (filter (is_part rules n) es)) w.0)
    (body_cons rules n e es ∙ ap (λ x. x ++ body_at es rules n) w.1)
    (zipped rules n es))
    (puts_one rules e e.role (nat_eq e.parent n))

-- no part of the entry passes, if it is an item of the rule
abbrev PutsNone : (Part → Bool) → List Entry → ℕ → Entry → Type 0
PutsNone t rules n e = is_item e.role ≡ true → e.parent ≡ n → list_any t (part_by e.role rules e) ≡ false

-- where no part of a rule passes, none does that one of its items puts
none_in : (t : Part → Bool) (rules : List Entry) (n : ℕ) (es : List Entry) → list_any t (body_at es rules n) ≡ false → All (PutsNone t rules n) es
none_in t rules n [] h = All-nil _
none_in t rules n (e ∷ es) h =
    let parts : (list_any t (chunk rules n e) ≡ false) × (list_any t (body_at es rules n) ≡ false) =
    or_parts (list_any t (chunk rules n e)) (list_any t (body_at es rules n)) (sym (list_any-append t (chunk rules n e) (body_at es rules n)) ∙
    (sym (ap (list_any t) (body_cons rules n e es)) ∙ h)) in
    All-cons (PutsNone t rules n) e es
    (λ i p. sym (ap (λ b. list_any t (cond b (part_by e.role rules e) [])) (and_from (is_item e.role) (nat_eq e.parent n) i (eq-eqb e.parent n p))) ∙ parts.0)
    (none_in t rules n es parts.1)

-- ---- cycles

cycle_role : (role : Role) (t : Part → Bool) (rules : List Entry) (e : Entry) → ((o : ℕ) (c : Bool) → t (Own (record { number = o; counts = c })) ≡ false)
    → (is_extends role && list_any t (putting (put_by rules e))) ≡ list_any t (part_by role rules e)
cycle_role r.Extends t rules e own = refl
cycle_role role t rules e own = sym (ap (λ b. b || false) (own e.number (is_assertion role)))

item_extends : (role : Role) → is_extends role ≡ true → is_item role ≡ true
item_extends r.Extends h = refl
item_extends _ h = absurd (false≢true h)

putting_extends : (role : Role) (rules : List Entry) (e : Entry) → is_extends role ≡ true → is_some (put_by rules e) ≡ true → is_putting role rules e ≡ true
putting_extends r.Extends rules e h s = s
putting_extends _ rules e h s = absurd (false≢true h)

item_putting : (role : Role) (rules : List Entry) (e : Entry) → is_putting role rules e ≡ true → is_item role ≡ true
item_putting r.Let rules e h = refl
item_putting r.Assert rules e h = refl
item_putting r.Report rules e h = refl
item_putting r.Extends rules e h = refl
item_putting _ rules e h = absurd (false≢true h)

some_put : (t : Part → Bool) (o : Option ℕ) → list_any t (putting o) ≡ true → is_some o ≡ true
some_put t None h = absurd (false≢true h)
some_put t (Some rule) h = refl

or_last : (b : Bool) → b ≡ (b || false)
or_last true = refl
or_last false = refl

module _ (es : List Entry) (rise : NumbersRise es) (follow : RulesFollow es) where
  abbrev rules : List Entry
  rules = abstract_rules es

  abbrev all : List (List Part)
  all = bodies es

  abbrev is_cycle_at : Entry → Bool
  is_cycle_at e = is_extends e.role && is_cycle rules all e

  rules_rise : NumbersRise rules
  rules_rise = AllPairs-filter (λ (x y : Entry). x.number < y.number) (λ (e : Entry). is_abstract_rule e.role) es rise

  bodies_are : all ≡ map (λ (rule : Entry). body_at es rules rule.number) rules
  unfolding bodies
  bodies_are = refl

  body_is : (n : ℕ) (rule : Entry) → slice_get rules n ≡ Some rule → body_of all n ≡ body_at es rules rule.number
  body_is n rule h = ap (λ (b : List (List Part)). get_or b n []) bodies_are ∙ map_get (λ (one : Entry). body_at es rules one.number) rules n rule [] h

  rule_of : (n k : ℕ) (part : Part) → slice_get (body_of all n) k ≡ Some part → (rule : Entry) × (slice_get rules n ≡ Some rule)
  rule_of n k part h = some_of (λ (one : Entry). body_at es rules one.number) rules n k part
      (sym (ap (λ (b : List (List Part)). slice_get (get_or b n []) k) bodies_are) ∙ h)

  -- what stands in a rule by its number
  cycle_by : (n : Option ℕ) (e : Entry) → rule_at rules e.parent ≡ n → is_cycle_at e ≡ (is_extends e.role && is_cycle_in n all (putting (put_by rules e)))
  cycle_by n e h = ap (λ o. is_extends e.role && is_cycle_in o all (putting (put_by rules e))) h

  -- A cycle's own rule has a part that leads back.
  record IsBackIn (e : Entry) : Type 0 where
    place : ℕ
    rule : Entry
    there : slice_get rules place ≡ Some rule
    parent : e.parent ≡ rule.number
    back : list_any (is_back all place) (body_of all place) ≡ true
    extends : is_extends e.role ≡ true
    inclusions : is_some (put_by rules e) ≡ true

  back_in : (e : Entry) → Contains es e → is_cycle_at e ≡ true → IsBackIn e
  back_in e inside h =
      let parts : (is_extends e.role ≡ true) × (is_cycle rules all e ≡ true) = and_parts (is_extends e.role) (is_cycle rules all e) h in
      by (rule_at rules e.parent) refl parts.0 parts.1
    where
      by : (o : Option ℕ) → rule_at rules e.parent ≡ o → is_extends e.role ≡ true → is_cycle_in o all (putting (put_by rules e)) ≡ true → IsBackIn e
      by None is extends c = absurd (false≢true c)
      by (Some place) is extends c =
          let w : (j : ℕ) × (rule : Entry) × (place ≡ 0 + j) × (slice_get rules j ≡ Some rule) × (rule.number ≡ e.parent) =
          place_found rules e.parent 0 place is in
          let t : Part → Bool = is_back all place in
          let there : slice_get rules place ≡ Some w.1 = ap (slice_get rules) (w.2 ∙ omega arith) ∙ w.3 in
          let own : list_any t (part_by e.role rules e) ≡ true = sym (cycle_role e.role t rules e (λ n d. refl)) ∙
          and_from (is_extends e.role) (list_any t (putting (put_by rules e))) extends c in
          record {
            place = place;
            rule = w.1;
            there = there;
            parent = sym w.4;
            back = true_from_ne_false (list_any t (body_of all place)) (λ none. true≢false (sym own
                ∙ All-contains (PutsNone t rules e.parent) es e
                (none_in t rules e.parent es (sym (ap (list_any t) (body_is place w.1 there ∙ ap (λ n. body_at es rules n) w.4)) ∙ none)) inside
                (item_extends e.role extends) refl));
            extends = extends;
            inclusions = some_put t (put_by rules e) c;
          }

  -- ---- none

  no_cycle : NoneBefore (is_back all) all (length all) → find is_cycle_at es ≡ None
  no_cycle none = find_none is_cycle_at es (λ j d l. false_from_ne_true (is_cycle_at (get_or es j d)) (λ h.
      let w : IsBackIn (get_or es j d) = back_in (get_or es j d) (Contains-get_or es j d l) h in
      true≢false (sym w.back ∙ none w.place (omega (
        arith,
        slice_get_within rules w.place w.rule w.there,
        ap length bodies_are,
        length-map rules (λ (rule : Entry). body_at es rules rule.number),
      )))))

  -- ---- the first

  -- of two entries the former stands before
  abbrev Follows : Entry → Entry → Type 0
  Follows x y = Contains es x × (is_in_abstract_rule es x ≡ true → is_in_abstract_rule es y ≡ true → x.parent ≤ y.parent)

  follows : AllPairs Follows es
  follows = λ i j d l m. (Contains-get_or es i d (omega (arith, l, m)), follow i j d l m)

  in_abstract : (e : Entry) (n : ℕ) → is_item e.role ≡ true → rule_at rules e.parent ≡ Some n → is_in_abstract_rule es e ≡ true
  in_abstract e n item is = and_from (is_item e.role) (is_some (rule_at rules e.parent)) item (ap is_some is)

  place_at : (n : ℕ) (rule : Entry) → slice_get rules n ≡ Some rule → rule_at rules rule.number ≡ Some n
  place_at n rule h = place_is rules rules_rise 0 n rule h ∙ ap Some (omega arith)

  -- what stands before in another rule is no cycle
  before_is_none : (n : ℕ) (rule : Entry) → slice_get rules n ≡ Some rule → NoneBefore (is_back all) all n → (x y : Entry) → Follows x y →
      is_part rules rule.number y ≡ true
      → is_part rules rule.number x ≡ false → is_cycle_at x ≡ true → ⊥
  before_is_none n rule h none x y f part_y part_x c =
      let w : IsBackIn x = back_in x f.0 c in
      let y_parts : (nat_eq y.parent rule.number ≡ true) × (is_putting y.role rules y ≡ true) =
      and_parts (nat_eq y.parent rule.number) (is_putting y.role rules y) part_y in
      let y_in : y.parent ≡ rule.number = eqb-true y.parent rule.number y_parts.0 in
      let at_most : w.rule.number ≤ rule.number = omega (
        arith,
        w.parent,
        y_in,
        f.1
            (in_abstract x w.place (item_extends x.role w.extends) (ap (rule_at rules) w.parent ∙ place_at w.place w.rule w.there))
            (in_abstract y n (item_putting y.role rules y y_parts.1) (ap (rule_at rules) y_in ∙ place_at n rule h)),
      ) in
      ⊎_elim
      (λ (less : w.place < n). true≢false (sym w.back ∙ none w.place less))
      (λ (most : n ≤ w.place).
      ⊎_elim
      (λ (more : n < w.place).
      let later : rule.number < w.rule.number = subst (λ (z : Entry). rule.number < z.number) (get_or_from_slice_get rules w.place w.rule rule w.there)
      (subst (λ (z : Entry). z.number < (get_or rules w.place rule).number) (get_or_from_slice_get rules n rule rule h)
      (rules_rise n w.place rule more (slice_get_within rules w.place w.rule w.there))) in
      omega (arith, later, at_most))
      (λ (least : w.place ≤ n).
      let same : w.place ≡ n = omega (arith, least, most) in
      let one : w.rule ≡ rule = some_same (sym w.there ∙ (ap (slice_get rules) same ∙ h)) in
      let in_it : x.parent ≡ rule.number = w.parent ∙ ap (λ (z : Entry). z.number) one in
      true≢false (sym (and_from (nat_eq x.parent rule.number) (is_putting x.role rules x) (eq-eqb x.parent rule.number in_it)
      (putting_extends x.role rules x w.extends w.inclusions)) ∙ part_x))
      (cases_lt n w.place))
      (cases_lt w.place n)
    where
      some_same : {p q : Entry} → Some p ≡ Some q → p ≡ q
      some_same e = cc

  cycle_is : (n : ℕ) (rule : Entry) → slice_get rules n ≡ Some rule → (e : Entry) (part : Part) → IsPutBy rules rule.number e part →
      is_cycle_at e ≡ is_back all n part
  cycle_is n rule h e part w =
      let parent : e.parent ≡ rule.number = eqb-true e.parent rule.number (and_parts (nat_eq e.parent rule.number) (is_putting e.role rules e) w.0).0 in
      cycle_by (Some n) e (ap (rule_at rules) parent ∙ place_at n rule h)
      ∙ (cycle_role e.role (is_back all n) rules e (λ o d. refl) ∙ (ap (list_any (is_back all n)) w.1 ∙ sym (or_last (is_back all n part))))

  first_cycle : (spot : Spot) → FirstSpot (is_back all) all spot → find is_cycle_at es ≡ part_at (file_of es) spot
  first_cycle spot f =
      let rule : (rule : Entry) × (slice_get rules spot.rule ≡ Some rule) = rule_of spot.rule spot.part f.part.part f.part.there in
      let body : body_of all spot.rule ≡ body_at es rules rule.0.number = body_is spot.rule rule.0 rule.1 in
      let pairs : AllZip (IsPutBy rules rule.0.number) (filter (is_part rules rule.0.number) es) (body_at es rules rule.0.number) =
      zipped rules rule.0.number es in
      let e : (e : Entry) × (slice_get (filter (is_part rules rule.0.number) es) spot.part ≡ Some e) × IsPutBy rules rule.0.number e f.part.part =
      zip_get (IsPutBy rules rule.0.number) (filter (is_part rules rule.0.number) es) (body_at es rules rule.0.number) pairs spot.part f.part.part
      (sym (ap (λ b. slice_get b spot.part) body) ∙ f.part.there) in
      find_at (is_part rules rule.0.number) is_cycle_at Follows (before_is_none spot.rule rule.0 rule.1 f.rule) es follows spot.part e.0 e.1
      (cycle_is spot.rule rule.0 rule.1 e.0 f.part.part e.2 ∙ f.part.passes)
      (zip_any (IsPutBy rules rule.0.number) is_cycle_at (is_back all spot.rule) (cycle_is spot.rule rule.0 rule.1) (filter (is_part rules rule.0.number) es)
      (body_at es rules rule.0.number) pairs spot.part
      ∙ (sym (ap (λ b. list_any (is_back all spot.rule) (take spot.part b)) body) ∙ f.part.first))
      ∙ (sym e.1 ∙ sym (ap (part_in (file_of es) spot.part) rule.1))

  found_cycle : (spot : Option Spot) → IsFirstBack all spot → find is_cycle_at es ≡ part_of (file_of es) spot
  found_cycle None f = no_cycle f
  found_cycle (Some spot) f = first_cycle spot f

-- ---- the first of the file's entries

first_among : (file : File) (es : List Entry) → first_by (cycle file) es ≡ option_map cycle_found
    (find (λ (e : Entry). is_extends e.role && is_cycle file.rules file.bodies e) es)
first_among file [] = refl
first_among file (e ∷ es) = by (is_extends e.role && is_cycle file.rules file.bodies e) (first_among file es)
  where
    by : (b : Bool) → first_by (cycle file) es ≡ option_map cycle_found (find (λ (x : Entry). is_extends x.role && is_cycle file.rules file.bodies x) es)
        → first_or (first_at e.number (when b (fault q.Cycle (Some a.Rule) e))) (first_by (cycle file) es)
        ≡ option_map cycle_found (cond b (Some e) (find (λ (x : Entry). is_extends x.role && is_cycle file.rules file.bodies x) es))
    by true rest = refl
    by false rest = rest

-- the cycle at the first part that leads back is the first cycle
pub cycle_found_at : (es : List Entry) → NumbersRise es → RulesFollow es → (file : File) (spot : Option Spot) (result : Option Found) →
    result ≡ option_map cycle_found (part_of file spot)
    → file ≡ file_of es → IsFirstBack file.bodies spot → result ≡ first_by (cycle file) file.entries
cycle_found_at es rise follow file spot result e is f =
    e ∙ subst (λ (x : File). IsFirstBack x.bodies spot → option_map cycle_found (part_of x spot) ≡ first_by (cycle x) x.entries) (sym is)
    (λ g. sym (first_among (file_of es) es ∙ ap (option_map cycle_found) (found_cycle es rise follow spot g))) f
