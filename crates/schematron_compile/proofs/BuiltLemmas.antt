-- What is built part by part is what the definitions say.
use Rattle.std.proofs.Common.{◌≡◌, ℕ, ◌+◌, ◌<◌, Bool, true, false, cond, List, [], ◌∷◌, ◌++◌, map, length, get_or, take, Option, Some, None, option_map, Result}
use Rattle.std.proofs.Common.{Ok, Err, IfOk, refl, ap, sym, ◌∙◌, append-nil, append_assoc, arith}
use Rattle.std.specs.Prelude.{filter}
use Rattle.std.proofs.lemmas.List.{map-append, take_more}
use Rattle.xpath_types.specs.Scopes.{Declared}
use Rattle.schematron_findings.specs.Levels.{level_of}
use Rattle.schematron_texts.specs.Replacing.{Parameter, replaced}
use Rattle.std.specs.Str.{chars}
use Rattle.std.specs.Borrow.{Bor}
use Rattle.schematron_meaning.specs.declared.attribute.Attribute.{Attribute}
use Rattle.schematron_meaning.specs.declared.attribute.Attribute.TheVariants as a
use Rattle.schematron_meaning.specs.Entries.{Entry}
use Rattle.schematron_meaning.specs.Expansion.{File, Inclusion, inclusions, Instance, instances}
use Rattle.schematron_meaning.specs.Lookup.{attribute, is_let, is_assertion, is_own_rule, is_phase, is_active, of_role, inside, the_schema}
use Rattle.schematron_meaning.specs.Written as written
use Rattle.schematron_meaning.specs.Rules as spec
use Rattle.schematron_expansion.specs.declared.instances.Instance.{Instance as Lent}
use Rattle.schematron_expansion.specs.Seen.{seen_instance}
use Rattle.schematron_entries.specs.declared.entry.Entry.{Entry as Read}
use Rattle.schematron_entries.specs.Seen.{seen_entry, seen_entries}
use Rattle.schematron_compile.specs.Lent.{lent_entries, lent_instances}
use Rattle.schematron_rules.specs.declared.rules.Let.{Let}
use Rattle.schematron_rules.specs.declared.rules.Assertion.{Assertion}
use Rattle.schematron_rules.specs.declared.rules.Rule.{Rule}
use Rattle.schematron_rules.specs.declared.rules.Expanded.{Expanded}
use Rattle.schematron_rules.specs.declared.rules.Phase.{Phase}
use Rattle.schematron_rules.specs.declared.rules.Compiled.{Compiled}
use Rattle.schematron_rules.specs.Seen.{seen_let, seen_lets, seen_shown, seen_part, seen_assertion, seen_rule, seen_pattern, seen_phase, seen_phases}
use Rattle.schematron_rules.specs.Seen.{seen_rules}

-- ---- one more of a list

pub mapped_on : {X Y Z W : Type 0} (see : X → Y) (lent : Z → W) (f : W → Y) (zs : List Z) (i : ℕ) (z : Z) (old new : List X) (x : X) → i < length zs →
    z ≡ get_or zs i z
    → map see old ≡ map f (map lent (take i zs)) → new ≡ old ++ x ∷ [] → see x ≡ f (lent z) → map see new ≡ map f (map lent (take (i + 1) zs))
mapped_on see lent f zs i z old new x within here h m is =
    ap (map see) m
    ∙ (map-append see old (x ∷ [])
    ∙ ((λ k. h k ++ is k ∷ [])
    ∙ (sym (map-append f (map lent (take i zs)) (lent z ∷ []))
    ∙ (ap (map f) (sym (map-append lent (take i zs) (z ∷ [])))
    ∙ ap (λ ys. map f (map lent ys)) (ap (λ y. take i zs ++ y ∷ []) here ∙ sym (take_more zs i z within))))))

-- ---- a list that is gone over

module _ {X Y Z W : Type 0} (see : X → Y) (lent : Z → W) (f : W → Y) where
  pub map_begun : (zs items : List Z) (found : List X) (whole : List Y) → found ≡ [] → items ≡ zs → map f (map lent zs) ≡ whole → map see found ++
      map f (map lent items) ≡ whole
  map_begun zs items found whole none is all = (λ k. map see (none k) ++ map f (map lent (is k))) ∙ all

  pub map_on : (items others : List Z) (z : Z) (found more : List X) (x : X) (whole : List Y) → items ≡ z ∷ others → more ≡ found ++ x ∷ [] → see x ≡ f (lent z)
      → map see found ++ map f (map lent items) ≡ whole → map see more ++ map f (map lent others) ≡ whole
  map_on items others z found more x whole first m is h =
      ap (λ xs. map see xs ++ map f (map lent others)) m
      ∙ (ap (λ ys. ys ++ map f (map lent others)) (map-append see found (x ∷ []))
      ∙ (append_assoc (map see found) (see x ∷ []) (map f (map lent others))
      ∙ (ap (λ y. map see found ++ y ∷ map f (map lent others)) is
      ∙ (ap (λ zs. map see found ++ map f (map lent zs)) (sym first) ∙ h))))

  pub map_over : (items : List Z) (found : List X) (whole : List Y) (len : ℕ) → len ≡ 0 → len ≡ length items → map see found ++ map f (map lent items) ≡ whole →
      map see found ≡ whole
  map_over [] found whole len z l h = sym (append-nil (map see found)) ∙ h
  map_over (e ∷ items) found whole len z l h = absurd (omega (arith, z, l))

pub less : {Z : Type 0} (items others : List Z) (z : Z) (len fewer : ℕ) → items ≡ z ∷ others → fewer + 1 ≡ len → len ≡ length items → fewer ≡ length others
less items others z len fewer e l h = omega (arith, ap length e)

filter_last : {X : Type 0} (p : X → Bool) (xs : List X) (x : X) → filter p (xs ++ x ∷ []) ≡ filter p xs ++ cond (p x) (x ∷ []) []
filter_last p [] x = refl
filter_last p (y ∷ xs) x = ap (λ ys. cond (p y) (y ∷ ys) ys) (filter_last p xs x) ∙ split (p y) y (filter p xs) (cond (p x) (x ∷ []) [])
  where
    split : {X : Type 0} (b : Bool) (x : X) (ys zs : List X) → cond b (x ∷ (ys ++ zs)) (ys ++ zs) ≡ cond b (x ∷ ys) ys ++ zs
    split true x ys zs = refl
    split false x ys zs = refl

seen_more : {Z W : Type 0} (see : Z → W) (p : W → Bool) (zs : List Z) (i : ℕ) (z : Z) (b : Bool) → i < length zs → z ≡ get_or zs i z → p (see z) ≡ b
    → filter p (map see (take (i + 1) zs)) ≡ filter p (map see (take i zs)) ++ cond b (see z ∷ []) []
seen_more see p zs i z b within here is =
    ap (λ ys. filter p (map see ys)) (take_more zs i z within ∙ ap (λ y. take i zs ++ y ∷ []) (sym here))
    ∙ (ap (filter p) (map-append see (take i zs) (z ∷ []))
    ∙ (filter_last p (map see (take i zs)) (see z) ∙ ap (λ c. filter p (map see (take i zs)) ++ cond c (see z ∷ []) []) is))

-- one more that was picked, or wasn't
pub picked_on : {Z W : Type 0} (see : Z → W) (p : W → Bool) (zs : List Z) (i : ℕ) (z : Z) (b : Bool) (old new : List W) → i < length zs → z ≡ get_or zs i z →
    b ≡ p (see z)
    → old ≡ filter p (map see (take i zs)) → new ≡ old ++ cond b (see z ∷ []) [] → new ≡ filter p (map see (take (i + 1) zs))
picked_on see p zs i z b old new within here is h m = m ∙ (ap (λ ys. ys ++ cond b (see z ∷ []) []) h ∙ sym (seen_more see p zs i z b within here (sym is)))

-- the same of a part of what is seen
pub picked_part : {Z V W : Type 0} (see : Z → V) (part : V → W) (p : W → Bool) (zs : List Z) (i : ℕ) (z : Z) (b : Bool) (old new : List W) → i < length zs →
    z ≡ get_or zs i z → b ≡ p (part (see z))
    → old ≡ filter p (map part (map see (take i zs))) → new ≡ old ++ cond b (part (see z) ∷ []) [] → new ≡ filter p (map part (map see (take (i + 1) zs)))
picked_part see part p zs i z b old new within here is h m =
    m
    ∙ (ap (λ ys. ys ++ cond b (part (see z) ∷ []) []) h
    ∙ (ap (λ c. filter p (map part (map see (take i zs))) ++ cond c (part (see z) ∷ []) []) is
    ∙ (sym (filter_last p (map part (map see (take i zs))) (part (see z)))
    ∙ (ap (filter p) (sym (map-append part (map see (take i zs)) (see z ∷ [])))
    ∙ ap (λ ys. filter p (map part ys))
    (sym (map-append see (take i zs) (z ∷ [])) ∙ ap (map see) (ap (λ y. take i zs ++ y ∷ []) here ∙ sym (take_more zs i z within)))))))

-- ---- attributes that aren't there

pub chars-none : chars [] ≡ []
unfolding chars
chars-none = refl

pub no_text : {E : Type 0} (r : Result (List ℕ) E) (params : List Parameter) (word : Attribute) (e : Entry) (found : Option (Bor (List ℕ))) →
    option_map (λ value. chars value.now) found ≡ attribute word e → found ≡ None
    → IfOk r (λ text. text ≡ chars []) → IfOk r (λ text. text ≡ spec.or_empty (spec.text_at word params e))
no_text (Ok text) params word e found is none h =
    h ∙ (chars-none ∙ ap (λ o. spec.or_empty (option_map (replaced params) o)) (sym (ap (option_map (λ value. chars value.now)) none) ∙ is))
no_text (Err fault) params word e found is none h = tt

-- ---- names of lets

pub name_is : (params : List Parameter) (e : Entry) → written.name_of params e ≡ spec.text_at a.Name params e
name_is params e = go (attribute a.Name e)
  where
    go : (name : Option (List ℕ)) → elim name as (λ _. Option (List ℕ)) [ None ↦ None | Some name ↦ Some (replaced params name) ] ≡ option_map
        (replaced params) name
    go None = refl
    go (Some name) = refl

pub let_is : (params : List Parameter) (before : Declared) (e : Entry) (x : Let) (value : List ℕ) → x.name ≡ spec.or_empty (spec.text_at a.Name params e) →
    value ≡ spec.or_empty (spec.text_at a.Value params e)
    → (seen_let x).value ≡ spec.expression_in before false value → seen_let x ≡ spec.let_of params before e
let_is params before e x value n v p =
    let named : x.name ≡ spec.or_empty (written.name_of params e) = n ∙ ap spec.or_empty (sym (name_is params e)) in
    let planned : (seen_let x).value ≡ spec.expression_in before false (spec.or_empty (spec.text_at a.Value params e)) = p ∙
    ap (spec.expression_in before false) v in
    λ i. record { name = named i; value = planned i }

-- ---- rules and patterns

pub assertion_is : (es : List Entry) (params : List Parameter) (scope : Declared) (e : Entry) (x : Assertion) → x.kind ≡ spec.kind_of e.role →
    seen_shown x.test ≡ spec.shown a.Test false params scope e
    → x.id ≡ spec.text_at a.Id params e → x.flag ≡ spec.text_at a.Flag params e → x.role ≡ spec.text_at a.Role params e → x.level ≡ level_of x.flag x.role
    → map seen_part x.message ≡ spec.message_of es params scope e → seen_assertion x ≡ spec.assertion_of es params scope e
assertion_is es params scope e x kind test id flag role level message =
    let leveled : x.level ≡ level_of (spec.text_at a.Flag params e) (spec.text_at a.Role params e) = level ∙ (λ i. level_of (flag i) (role i)) in
    λ i. record { kind = kind i; test = test i; id = id i; flag = flag i; role = role i; level = leveled i; message = message i }

pub rule_is : (file : File) (instance : Instance) (outer : Declared) (e : Entry) (x : Rule) (found : List Inclusion) (lets assertions : List Entry) (scope :
    Declared)
    → found ≡ inclusions file instance.stand e.number
    → lets ≡ written.lets_among found → assertions ≡ spec.assertions_among found → scope ≡ written.with_lets instance.params outer lets
    → seen_shown x.context ≡ spec.shown a.Context true instance.params outer e → seen_lets x.lets ≡ spec.lets_behind instance.params outer lets
    → map seen_assertion x.assertions ≡ map (spec.assertion_of file.entries instance.params scope) assertions → seen_rule x ≡ spec.rule_of file instance outer e
rule_is file instance outer e x found lets assertions scope is l t s c ls ts =
    let own : lets ≡ written.lets_among (inclusions file instance.stand e.number) = l ∙ ap written.lets_among is in
    let tests : assertions ≡ spec.assertions_among (inclusions file instance.stand e.number) = t ∙ ap spec.assertions_among is in
    let in_scope : scope ≡ written.with_lets instance.params outer (written.lets_among (inclusions file instance.stand e.number)) = s ∙
    ap (written.with_lets instance.params outer) own in
    let all_lets : seen_lets x.lets ≡ spec.lets_behind instance.params outer (written.lets_among (inclusions file instance.stand e.number)) = ls ∙
    ap (spec.lets_behind instance.params outer) own in
    let all_tests = ts ∙ (λ i. map (spec.assertion_of file.entries instance.params (in_scope i)) (tests i)) in
    λ i. record { context = c i; lets = all_lets i; assertions = all_tests i }

pub pattern_is : (file : File) (outer : Declared) (instance : Instance) (x : Expanded) (lets : List Entry) (scope : Declared) →
    lets ≡ inside is_let file.entries instance.body
    → scope ≡ written.with_lets instance.params outer lets → x.id ≡ attribute a.Id instance.pattern →
    seen_lets x.lets ≡ spec.lets_behind instance.params outer lets
    → map seen_rule x.rules ≡ map (spec.rule_of file instance scope) (inside is_own_rule file.entries instance.body) →
    seen_pattern x ≡ spec.pattern_of file outer instance
pattern_is file outer instance x lets scope l s id ls rs =
    let all_lets : seen_lets x.lets ≡ spec.lets_behind instance.params outer (inside is_let file.entries instance.body) = ls ∙
    ap (spec.lets_behind instance.params outer) l in
    let rules : map seen_rule x.rules ≡ map (spec.rule_of file instance (written.pattern_scope file.entries outer instance))
    (inside is_own_rule file.entries instance.body) =
    rs ∙ ap (λ d. map (spec.rule_of file instance d) (inside is_own_rule file.entries instance.body)) (s ∙ ap (written.with_lets instance.params outer) l) in
    λ i. record { id = id i; lets = all_lets i; rules = rules i }

-- ---- phases

pub phase_is : (es : List Entry) (e : Entry) (x : Phase) (scope : Declared) (lets actives : List Entry) → scope ≡ written.schema_scope es →
    lets ≡ inside is_let es e.number → actives ≡ inside is_active es e.number
    → x.id ≡ attribute a.Id e → seen_lets x.lets ≡ spec.lets_behind [] scope lets → x.patterns ≡ spec.numbers_named actives 0 (instances es) →
    seen_phase x ≡ spec.phase_of es e
phase_is es e x scope lets actives s l act id ls ps =
    let all_lets : seen_lets x.lets ≡ spec.lets_behind [] (written.schema_scope es) (inside is_let es e.number) = ls ∙ (λ i. spec.lets_behind [] (s i) (l i)) in
    let numbers : x.patterns ≡ spec.numbers_named (inside is_active es e.number) 0 (instances es) = ps ∙
    ap (λ xs. spec.numbers_named xs 0 (instances es)) act in
    λ i. record { id = id i; lets = all_lets i; patterns = numbers i }

-- ---- all

-- the scope with the schema's lets, and the lets
pub schema_is : (es lets : List Entry) (params : List Parameter) (before schema : Declared) → before ≡ written.prefixes es → lets ≡ inside is_let es the_schema
    → params ≡ []
    → schema ≡ written.with_lets params before lets → schema ≡ written.schema_scope es
schema_is es lets params before schema b l p s = s ∙ (λ i. written.with_lets (p i) (b i) (l i))

pub schema_lets_are : (es lets : List Entry) (params : List Parameter) (before : Declared) (found : List spec.Let) → before ≡ written.prefixes es →
    lets ≡ inside is_let es the_schema → params ≡ []
    → found ≡ spec.lets_behind params before lets → found ≡ spec.lets_behind [] (written.prefixes es) (inside is_let es the_schema)
schema_lets_are es lets params before found b l p h = h ∙ (λ i. spec.lets_behind (p i) (b i) (l i))

-- the scope with the lets of all phases
pub outer_is : (es : List Entry) (schema phased outer : Declared) → schema ≡ written.schema_scope es → phased ≡ schema →
    outer ≡ written.with_lets [] phased (written.phase_lets es)
    → outer ≡ written.outer_scope es
outer_is es schema phased outer s p o = o ∙ (λ i. written.with_lets [] ((p ∙ s) i) (written.phase_lets es))

pub phases_are : (es among found : List Entry) (phases : List spec.Phase) → found ≡ of_role is_phase among → among ≡ es → phases ≡ map (spec.phase_of es) found
    → phases ≡ map (spec.phase_of es) (of_role is_phase es)
phases_are es among found phases f a h = h ∙ ap (map (spec.phase_of es)) (f ∙ ap (of_role is_phase) a)

-- one pattern more, in the scope that is as it was
pub patterns_on : (file : File) (zs : List Lent) (i : ℕ) (z : Lent) (start now : Declared) (old new : List Expanded) (x : Expanded) → i < length zs →
    z ≡ get_or zs i z → now ≡ start
    → map seen_pattern old ≡ map (spec.pattern_of file start) (lent_instances (take i zs)) → new ≡ old ++ x ∷ [] →
    seen_pattern x ≡ spec.pattern_of file now (seen_instance z)
    → map seen_pattern new ≡ map (spec.pattern_of file start) (lent_instances (take (i + 1) zs))
patterns_on file zs i z start now old new x within here same h m is =
    let kept : seen_pattern x ≡ spec.pattern_of file start (seen_instance z) = is ∙ ap (λ s. spec.pattern_of file s (seen_instance z)) same in
    mapped_on seen_pattern seen_instance (spec.pattern_of file start) zs i z old new x within here h m kept

-- one phase less to come
pub phases_on : (es : List Entry) (items others : List (Bor Read)) (z : Bor Read) (found more : List Phase) (x : Phase) (whole : List spec.Phase) →
    items ≡ z ∷ others → more ≡ found ++ x ∷ [] → seen_phase x ≡ spec.phase_of es (seen_entry z.now)
    → seen_phases found ++ map (spec.phase_of es) (lent_entries items) ≡ whole → seen_phases more ++ map (spec.phase_of es) (lent_entries others) ≡ whole
phases_on es items others z found more x whole first m is h =
    map_on seen_phase (λ e. seen_entry e.now) (spec.phase_of es) items others z found more x whole first m is h

pub phases_ended : (es : List Entry) (items : List (Bor Read)) (found : List Phase) (whole : List spec.Phase) (len : ℕ) → len ≡ 0 → len ≡ length items →
    seen_phases found ++ map (spec.phase_of es) (lent_entries items) ≡ whole → seen_phases found ≡ whole
phases_ended es items found whole len z l h = map_over seen_phase (λ e. seen_entry e.now) (spec.phase_of es) items found whole len z l h

pub phases_begun : (es : List Entry) (zs items : List (Bor Read)) (found : List Phase) → found ≡ [] → items ≡ zs → seen_phases found ++
    map (spec.phase_of es) (lent_entries items) ≡ map (spec.phase_of es) (lent_entries zs)
phases_begun es zs items found none is = map_begun seen_phase (λ e. seen_entry e.now) (spec.phase_of es) zs items found
    (map (spec.phase_of es) (lent_entries zs)) none is refl

-- the same of what is held and lent
pub rules_built : (file : File) (x : Compiled) (es : List Entry) (held lent : List Lent) (outer : Declared) → es ≡ file.entries →
    x.default_phase ≡ spec.default_phase_of es
    → seen_lets x.lets ≡ spec.lets_behind [] (written.prefixes file.entries) (inside is_let file.entries the_schema)
    → seen_phases x.phases ≡ map (spec.phase_of file.entries) (of_role is_phase file.entries) → outer ≡ written.outer_scope file.entries →
    lent_instances held ≡ instances file.entries → lent ≡ held
    → map seen_pattern x.patterns ≡ map (spec.pattern_of file outer) (lent_instances lent) → seen_rules x ≡ spec.compiled file
rules_built file x es held lent outer is default ls ps o al le pats =
    let phase_name : x.default_phase ≡ spec.default_phase_of file.entries = default ∙ ap spec.default_phase_of is in
    let patterns : map seen_pattern x.patterns ≡ map (spec.pattern_of file (written.outer_scope file.entries)) (instances file.entries) =
    pats ∙ (λ i. map (spec.pattern_of file (o i)) ((ap lent_instances le ∙ al) i)) in
    λ i. record { default_phase = phase_name i; lets = ls i; phases = ps i; patterns = patterns i }

-- one entry more, which may be a phase
pub phase_picked : (zs : List Read) (i : ℕ) (z : Read) (b : Bool) (old new : List Entry) → i < length zs → z ≡ get_or zs i z → b ≡ is_phase z.role →
    old ≡ of_role is_phase (seen_entries (take i zs))
    → new ≡ old ++ cond b (seen_entry z ∷ []) [] → new ≡ of_role is_phase (seen_entries (take (i + 1) zs))
phase_picked zs i z b old new within here is h m = picked_on seen_entry (λ (e : Entry). is_phase e.role) zs i z b old new within here is h m
