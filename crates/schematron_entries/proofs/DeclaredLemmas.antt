-- The first declared fault, element by element.
use Rattle.std.proofs.Common.{◌≡◌, ℕ, ◌+◌, ◌<◌, Bool, true, false, ◌&&◌, ◌||◌, not, cond, nat_eq, List, [], ◌∷◌, ◌++◌, length, get_or, take, drop, Option, Some}
use Rattle.std.proofs.Common.{None, refl, ap, sym, ◌∙◌, append_assoc, append-nil, eqb-true}
use Rattle.std.specs.Prelude.{is_none, is_some, option_map, find, filter}
use Rattle.std.specs.List.{list_any, position_from}
use Rattle.std.specs.Str.{bytes_eq}
use Rattle.std.proofs.lemmas.List.{map-append, drop_more, take_more}
use Rattle.std.proofs.lemmas.Bool.{and_parts, false≢true, true≢false}
use Rattle.std.proofs.lemmas.Slice.Eq.{bytes_eq-Decides}
use Rattle.schematron_meaning.specs.declared.attribute.Attribute.TheVariants as a
use Rattle.schematron_meaning.specs.declared.fault.Fault.{Fault}
use Rattle.schematron_meaning.specs.declared.fault.RuleKind.TheVariants as q
use Rattle.schematron_meaning.specs.declared.key.Space.{Space}
use Rattle.schematron_meaning.specs.declared.key.Space.TheVariants as s
use Rattle.schematron_meaning.specs.declared.role.Role.{Role}
use Rattle.schematron_meaning.specs.declared.role.Role.TheVariants as r
use Rattle.schematron_meaning.specs.Entries.{Entry}
use Rattle.schematron_meaning.specs.Lookup.{attribute, says, is_value, identified, is_judged, is_abstract_pattern, is_abstract_rule}
use Rattle.schematron_meaning.specs.Bodies.{abstract_rules, put_by, rule_named}
use Rattle.schematron_meaning.specs.Expansion.{pattern_used}
use Rattle.schematron_meaning.specs.Showing as show
use Rattle.schematron_meaning.specs.Showing.{first_in, key_of, declared_at, declared_behind}
use Rattle.schematron_entries.specs.declared.keys.Sort.{Sort}
use Rattle.schematron_entries.specs.declared.keys.Sort.TheVariants as t
use Rattle.schematron_entries.specs.Keys.{SeenKey, is_same_sort, is_same, with_option, has, AreKeysOf, kept, sort_of, name_key, id_key, id_key_by, named_sort}
use Rattle.schematron_entries.specs.Keys.{id_of, is_there, unnamed_by, is_new, fault_unless, duplicate_in, duplicate_among}
use Rattle.schematron_entries.specs.declared.entry.Entry.{Entry as Read}
use Rattle.schematron_entries.specs.Seen.{seen_entry, seen_entries}
use Rattle.schematron_entries.specs.Firsts.{first_or, declared_by}

-- ---- parts of faults

pub first_append : (xs ys : List Fault) → first_in (xs ++ ys) ≡ first_or (first_in xs) (first_in ys)
first_append [] ys = refl
first_append (fault ∷ xs) ys = refl

-- ---- tests

or_false : (b : Bool) → b ≡ (b || false)
or_false true = refl
or_false false = refl

and_false : (b : Bool) → false ≡ (b && false)
and_false true = refl
and_false false = refl

or_assoc : (a b c : Bool) → ((a || b) || c) ≡ (a || (b || c))
or_assoc true b c = refl
or_assoc false b c = refl

any_append : {X : Type 0} (p : X → Bool) (xs ys : List X) → list_any p (xs ++ ys) ≡ (list_any p xs || list_any p ys)
any_append p [] ys = refl
any_append p (x ∷ xs) ys = ap (λ b. p x || b) (any_append p xs ys) ∙ sym (or_assoc (p x) (list_any p xs) (list_any p ys))

any_alike : {X : Type 0} (p q : X → Bool) (xs : List X) → ((x : X) → p x ≡ q x) → list_any p xs ≡ list_any q xs
any_alike p q [] h = refl
any_alike p q (x ∷ xs) h = λ i. h x i || any_alike p q xs h i

find_none : {X : Type 0} (p : X → Bool) (xs : List X) → is_none (find p xs) ≡ not (list_any p xs)
find_none p [] = refl
find_none p (x ∷ xs) = by (p x) refl (find_none p xs)
  where
    by : (b : Bool) → p x ≡ b → is_none (find p xs) ≡ not (list_any p xs) → is_none (cond (p x) (Some x) (find p xs)) ≡ not (p x || list_any p xs)
    by true e h = ap (λ c. is_none (cond c (Some x) (find p xs))) e ∙ sym (ap (λ c. not (c || list_any p xs)) e)
    by false e h = ap (λ c. is_none (cond c (Some x) (find p xs))) e ∙ (h ∙ sym (ap (λ c. not (c || list_any p xs)) e))

position_none : {X : Type 0} (p : X → Bool) (n : ℕ) (xs : List X) → is_none (position_from p n xs) ≡ not (list_any p xs)
position_none p n [] = refl
position_none p n (x ∷ xs) = by (p x) refl (position_none p (n + 1) xs)
  where
    by : (b : Bool) → p x ≡ b → is_none (position_from p (n + 1) xs) ≡ not (list_any p xs) →
        is_none (cond (p x) (Some n) (position_from p (n + 1) xs)) ≡ not (p x || list_any p xs)
    by true e h = ap (λ c. is_none (cond c (Some n) (position_from p (n + 1) xs))) e ∙ sym (ap (λ c. not (c || list_any p xs)) e)
    by false e h = ap (λ c. is_none (cond c (Some n) (position_from p (n + 1) xs))) e ∙ (h ∙ sym (ap (λ c. not (c || list_any p xs)) e))

any_filter : {X : Type 0} (p q : X → Bool) (xs : List X) → list_any p (filter q xs) ≡ list_any (λ x. q x && p x) xs
any_filter p q [] = refl
any_filter p q (x ∷ xs) = by (q x) refl (any_filter p q xs)
  where
    by : (b : Bool) → q x ≡ b → list_any p (filter q xs) ≡ list_any (λ y. q y && p y) xs →
        list_any p (cond (q x) (x ∷ filter q xs) (filter q xs)) ≡ ((q x && p x) || list_any (λ y. q y && p y) xs)
    by true e h = ap (λ c. list_any p (cond c (x ∷ filter q xs) (filter q xs))) e ∙
        (ap (λ b. p x || b) h ∙ sym (ap (λ c. (c && p x) || list_any (λ y. q y && p y) xs) e))
    by false e h = ap (λ c. list_any p (cond c (x ∷ filter q xs) (filter q xs))) e ∙ (h ∙ sym (ap (λ c. (c && p x) || list_any (λ y. q y && p y) xs) e))

-- ---- keys

same_sort_is : (a b : Sort) → is_same_sort a b ≡ true → a ≡ b
same_sort_is t.Patterns t.Patterns h = refl
same_sort_is t.Patterns _ h = absurd (false≢true h)
same_sort_is t.Rules t.Rules h = refl
same_sort_is t.Rules _ h = absurd (false≢true h)
same_sort_is t.Phases t.Phases h = refl
same_sort_is t.Phases _ h = absurd (false≢true h)
same_sort_is t.Variables t.Variables h = refl
same_sort_is t.Variables _ h = absurd (false≢true h)
same_sort_is t.Judged t.Judged h = refl
same_sort_is t.Judged _ h = absurd (false≢true h)
same_sort_is t.AbstractPatterns t.AbstractPatterns h = refl
same_sort_is t.AbstractPatterns _ h = absurd (false≢true h)
same_sort_is t.AbstractRules t.AbstractRules h = refl
same_sort_is t.AbstractRules _ h = absurd (false≢true h)

same_is : (k m : SeenKey) → is_same k m ≡ true → k ≡ m
same_is k m h =
    let one = and_parts (is_same_sort k.sort m.sort) (nat_eq k.reach m.reach && bytes_eq k.name m.name) h in
    let two = and_parts (nat_eq k.reach m.reach) (bytes_eq k.name m.name) one.1 in
    let sort = same_sort_is k.sort m.sort one.0 in
    let reach = eqb-true k.reach m.reach two.0 in
    let name = (bytes_eq-Decides k.name m.name).0 two.1 in
    λ i. record { sort = sort i; reach = reach i; name = name i }

with_any : (k : SeenKey) (keys : List SeenKey) (m : Option SeenKey) → list_any (is_same k) (with_option keys m) ≡ (list_any (is_same k) keys || has k m)
with_any k keys None = or_false (list_any (is_same k) keys)
with_any k keys (Some m) = by (list_any (is_same m) keys) refl
  where
    there : (c : Bool) → is_same k m ≡ c → list_any (is_same m) keys ≡ true → list_any (is_same k) keys ≡ (list_any (is_same k) keys || is_same k m)
    there false f e = or_false (list_any (is_same k) keys) ∙ sym (ap (λ c. list_any (is_same k) keys || c) f)
    there true f e = (let found : list_any (is_same k) keys ≡ true = ap (λ x. list_any (is_same x) keys) (same_is k m f) ∙ e in
        found ∙ sym (ap (λ c. c || is_same k m) found))

    by : (b : Bool) → list_any (is_same m) keys ≡ b → list_any (is_same k) (cond (list_any (is_same m) keys) keys (keys ++ m ∷ [])) ≡ (list_any (is_same k) keys
        || is_same k m)
    by true e = ap (λ c. list_any (is_same k) (cond c keys (keys ++ m ∷ []))) e ∙ there (is_same k m) refl e
    by false e = ap (λ c. list_any (is_same k) (cond c keys (keys ++ m ∷ []))) e ∙
        (any_append (is_same k) keys (m ∷ []) ∙ ap (λ c. list_any (is_same k) keys || c) (sym (or_false (is_same k m))))

-- one entry more
pub keys_step : (key : Entry → Option SeenKey) (keys : List SeenKey) (es : List Entry) (e : Entry) → AreKeysOf key keys es →
    AreKeysOf key (with_option keys (key e)) (es ++ e ∷ [])
keys_step key keys es e h k = with_any k keys (key e) ∙ (ap (λ b. b || has k (key e)) (h k)
    ∙ (ap (λ b. list_any (λ (x : Entry). has k (key x)) es || b) (or_false (has k (key e))) ∙ sym (any_append (λ (x : Entry). has k (key x)) es (e ∷ []))))

-- ---- names that stand twice

space_same : (a b : Space) → is_same_sort (sort_of a) (sort_of b) ≡ show.is_same_space a b
space_same s.Patterns s.Patterns = refl
space_same s.Patterns _ = refl
space_same s.Rules s.Rules = refl
space_same s.Rules _ = refl
space_same s.Phases s.Phases = refl
space_same s.Phases _ = refl
space_same s.Variables s.Variables = refl
space_same s.Variables _ = refl

has_kept : (k : show.Key) (m : Option show.Key) → has (kept k) (option_map kept m) ≡ show.has_key k m
has_kept k None = refl
has_kept k (Some m) = ap (λ b. b && (nat_eq k.reach m.reach && bytes_eq k.name m.name)) (space_same k.space m.space)

when_unless : (b : Bool) (fault : Fault) → first_in (show.when b fault) ≡ fault_unless (not b) fault
when_unless true fault = refl
when_unless false fault = refl

duplicate_named : (before : List Entry) (names : List SeenKey) (e : Entry) (space : Space) (name : Option (List ℕ)) → AreKeysOf name_key names before
    → first_in (show.duplicate_by before e (show.key_by space e.parent name))
    ≡ fault_unless (is_new names (option_map kept (show.key_by space e.parent name))) (show.fault q.DuplicateId (Some (show.naming space)) e)
duplicate_named before names e space None h = refl
duplicate_named before names e space (Some name) h =
    let k : show.Key = record { space = space; reach = show.reach_of space e.parent; name = name } in
    let f : Fault = show.fault q.DuplicateId (Some (show.naming space)) e in
    when_unless (list_any (λ (other : Entry). show.has_key k (key_of other)) before) f
    ∙ ap (λ b. fault_unless (not b) f)
    (sym (h (kept k) ∙ any_alike (λ (other : Entry). has (kept k) (name_key other)) (λ (other : Entry). show.has_key k (key_of other)) before
    (λ other. has_kept k (key_of other))))

duplicate_spaced : (before : List Entry) (names : List SeenKey) (e : Entry) (space : Option Space) → AreKeysOf name_key names before
    → first_in (show.duplicate_by before e (show.key_in space e)) ≡ duplicate_in names space e
duplicate_spaced before names e None h = refl
duplicate_spaced before names e (Some space) h = duplicate_named before names e space (attribute (show.naming space) e) h

duplicate_same : (before : List Entry) (names : List SeenKey) (e : Entry) → AreKeysOf name_key names before →
    first_in (show.duplicate_id before e) ≡ duplicate_among names e
duplicate_same before names e h = duplicate_spaced before names e (show.space_of e.role) h

-- ---- names that are nobody's

abbrev is_sort : Sort → Option Sort → Bool
is_sort sort None = false
is_sort sort (Some other) = is_same_sort sort other

judged_sort : (role : Role) → is_judged role ≡ is_sort t.Judged (named_sort role)
judged_sort r.Pattern = refl
judged_sort r.Use = refl
judged_sort r.AbstractPattern = refl
judged_sort r.AbstractRule = refl
judged_sort _ = refl

pattern_sort : (role : Role) → is_abstract_pattern role ≡ is_sort t.AbstractPatterns (named_sort role)
pattern_sort r.Pattern = refl
pattern_sort r.Use = refl
pattern_sort r.AbstractPattern = refl
pattern_sort r.AbstractRule = refl
pattern_sort _ = refl

rule_sort : (role : Role) → is_abstract_rule role ≡ is_sort t.AbstractRules (named_sort role)
rule_sort r.Pattern = refl
rule_sort r.Use = refl
rule_sort r.AbstractPattern = refl
rule_sort r.AbstractRule = refl
rule_sort _ = refl

id_has : (sort : Sort) (name : List ℕ) (is_so : Bool) (other : Option Sort) (id : Option (List ℕ)) → is_so ≡ is_sort sort other
    → has (id_of sort name) (id_key_by other id) ≡ (is_so && is_value name id)
id_has sort name is_so None id e = sym (ap (λ b. b && is_value name id) e)
id_has sort name is_so (Some other) None e = and_false is_so
id_has sort name is_so (Some other) (Some id) e = ap (λ b. b && bytes_eq name id) (sym e)

-- what is there, by the names that are
there : (sort : Sort) (is_so : Role → Bool) (es : List Entry) (ids : List SeenKey) (name : List ℕ) → AreKeysOf id_key ids es →
    ((role : Role) → is_so role ≡ is_sort sort (named_sort role))
    → list_any (is_same (id_of sort name)) ids ≡ list_any (λ (o : Entry). is_so o.role && says a.Id name o) es
there sort is_so es ids name h g = h (id_of sort name) ∙ any_alike (λ (o : Entry). has (id_of sort name) (id_key o))
    (λ (o : Entry). is_so o.role && says a.Id name o) es
    (λ o. id_has sort name (is_so o.role) (named_sort o.role) (attribute a.Id o) (g o.role))

there_identified : (sort : Sort) (is_so : Role → Bool) (es : List Entry) (ids : List SeenKey) (id : Option (List ℕ)) → AreKeysOf id_key ids es →
    ((role : Role) → is_so role ≡ is_sort sort (named_sort role))
    → is_none (identified is_so id es) ≡ not (is_there ids sort id)
there_identified sort is_so es ids None h g = refl
there_identified sort is_so es ids (Some name) h g = find_none (λ (o : Entry). is_so o.role && says a.Id name o) es ∙
    ap not (sym (there sort is_so es ids name h g))

there_rule : (es : List Entry) (ids : List SeenKey) (id : Option (List ℕ)) → AreKeysOf id_key ids es →
    is_none (rule_named (abstract_rules es) id) ≡ not (is_there ids t.AbstractRules id)
there_rule es ids None h = refl
there_rule es ids (Some name) h = position_none (says a.Id name) 0 (abstract_rules es)
    ∙ ap not (any_filter (says a.Id name) (λ (o : Entry). is_abstract_rule o.role) es ∙ sym (there t.AbstractRules is_abstract_rule es ids name h rule_sort))

unnamed_role : (role : Role) (es : List Entry) (ids : List SeenKey) (e : Entry) → AreKeysOf id_key ids es
    → first_in (show.no_such_pattern_by role es e ++ show.when (show.is_extends role && is_none (put_by (abstract_rules es) e))
    (show.fault q.NoSuchRule (Some a.Rule) e)) ≡ first_in (unnamed_by role ids e)
unnamed_role r.Use es ids e h = ap first_in (append-nil (show.when (is_none (pattern_used es e)) (show.fault q.NoSuchPattern (Some a.IsA) e)))
    ∙ ap (λ b. first_in (show.when b (show.fault q.NoSuchPattern (Some a.IsA) e)))
    (there_identified t.AbstractPatterns is_abstract_pattern es ids (attribute a.IsA e) h pattern_sort)
unnamed_role r.Active es ids e h = ap first_in
    (append-nil (show.when (is_none (identified is_judged (attribute a.Pattern e) es)) (show.fault q.NoSuchPattern (Some a.Pattern) e)))
    ∙ ap (λ b. first_in (show.when b (show.fault q.NoSuchPattern (Some a.Pattern) e)))
    (there_identified t.Judged is_judged es ids (attribute a.Pattern e) h judged_sort)
unnamed_role r.Extends es ids e h = ap (λ b. first_in (show.when b (show.fault q.NoSuchRule (Some a.Rule) e))) (there_rule es ids (attribute a.Rule e) h)
unnamed_role _ es ids e h = refl

-- ---- all at an element

join_four : (f g h k rest : List Fault) → f ++ (g ++ (h ++ (k ++ rest))) ≡ (f ++ (g ++ (h ++ k))) ++ rest
join_four f g h k rest = ap (λ x. f ++ (g ++ x)) (sym (append_assoc h k rest)) ∙
    (ap (λ x. f ++ x) (sym (append_assoc g (h ++ k) rest)) ∙ sym (append_assoc f (g ++ (h ++ k)) rest))

pub declared_same : (es : List Entry) (ids names : List SeenKey) (before : List Entry) (e : Entry) → AreKeysOf id_key ids es → AreKeysOf name_key names before
    → first_in (declared_at es (abstract_rules es) before e) ≡ declared_by ids names e
declared_same es ids names before e hi hn =
    let shared = show.duplicate_id before e in
    let nobody = show.no_such_pattern es e ++ show.no_such_rule (abstract_rules es) e in
    let own = show.not_schematron e ++ (show.bad_binding e ++ (show.bad_element e ++ show.missing_attribute e)) in
    ap first_in (join_four (show.not_schematron e) (show.bad_binding e) (show.bad_element e) (show.missing_attribute e) (shared ++ nobody))
    ∙ (first_append own (shared ++ nobody)
    ∙ ap (first_or (first_in own)) (first_append shared nobody ∙ (λ i. first_or (duplicate_same before names e hn i) (unnamed_role e.role es ids e hi i))))

pub own_same : (e : Entry) (n b x m inner outer : Option Fault) → n ≡ first_in (show.not_schematron e) → b ≡ first_in (show.bad_binding e) →
    x ≡ first_in (show.bad_element e) → m ≡ first_in (show.missing_attribute e)
    → inner ≡ first_or x m → outer ≡ first_or b inner
    → first_or n outer ≡ first_in (show.not_schematron e ++ (show.bad_binding e ++ (show.bad_element e ++ show.missing_attribute e)))
own_same e n b x m inner outer hn hb hx hm hi ho =
    (λ i. first_or (hn i) (ho i)) ∙ ((λ i. first_or (first_in (show.not_schematron e)) (first_or (hb i) (hi i)))
    ∙ ((λ i. first_or (first_in (show.not_schematron e)) (first_or (first_in (show.bad_binding e)) (first_or (hx i) (hm i))))
    ∙ sym (first_append (show.not_schematron e) (show.bad_binding e ++ (show.bad_element e ++ show.missing_attribute e))
    ∙ ap (first_or (first_in (show.not_schematron e))) (first_append (show.bad_binding e) (show.bad_element e ++ show.missing_attribute e)
    ∙ ap (first_or (first_in (show.bad_binding e))) (first_append (show.bad_element e) (show.missing_attribute e))))))

-- ---- loops over entries

one_more : (entries : List Read) (i : ℕ) (e : Read) → i < length entries → e ≡ get_or entries i e →
    seen_entries (take (i + 1) entries) ≡ seen_entries (take i entries) ++ seen_entry e ∷ []
one_more entries i e within here = ap seen_entries (take_more entries i e within) ∙
    (map-append seen_entry (take i entries) (get_or entries i e ∷ []) ∙ ap (λ x. seen_entries (take i entries) ++ seen_entry x ∷ []) (sym here))

pub keys_loop : (key : Entry → Option SeenKey) (keys new : List SeenKey) (entries : List Read) (i : ℕ) (e : Read) → i < length entries → e ≡ get_or entries i e
    → AreKeysOf key keys (seen_entries (take i entries)) → new ≡ with_option keys (key (seen_entry e)) → AreKeysOf key new (seen_entries (take (i + 1) entries))
keys_loop key keys new entries i e within here h n k = ap (list_any (is_same k)) n ∙ (keys_step key keys (seen_entries (take i entries)) (seen_entry e) h k
    ∙ ap (list_any (λ (x : Entry). has k (key x))) (sym (one_more entries i e within here)))

some_first : (found rest : Option Fault) → is_some found ≡ true → first_or found rest ≡ found
some_first None rest h = absurd (false≢true h)
some_first (Some fault) rest h = refl

none_first : (found rest : Option Fault) → is_some found ≡ false → first_or found rest ≡ rest
none_first None rest h = refl
none_first (Some fault) rest h = absurd (true≢false h)

-- the first from an entry on
behind_step : (es : List Entry) (ids names : List SeenKey) (entries : List Read) (i : ℕ) (e : Read) → i < length entries → e ≡ get_or entries i e
    → AreKeysOf id_key ids es → AreKeysOf name_key names (seen_entries (take i entries))
    → first_in (declared_behind es (abstract_rules es) (seen_entries (take i entries)) (seen_entries (drop i entries)))
    ≡ first_or (declared_by ids names (seen_entry e))
    (first_in (declared_behind es (abstract_rules es) (seen_entries (take (i + 1) entries)) (seen_entries (drop (i + 1) entries))))
behind_step es ids names entries i e within here hi hn =
    let before = seen_entries (take i entries) in
    let rules = abstract_rules es in
    ap (λ x. first_in (declared_behind es rules before (seen_entries x))) (drop_more entries i e within ∙ ap (λ x. x ∷ drop (i + 1) entries) (sym here))
    ∙ (first_append (declared_at es rules before (seen_entry e)) (declared_behind es rules (before ++ seen_entry e ∷ []) (seen_entries (drop (i + 1) entries)))
    ∙ (λ k. first_or (declared_same es ids names before (seen_entry e) hi hn k)
    (first_in (declared_behind es rules (sym (one_more entries i e within here) k) (seen_entries (drop (i + 1) entries))))))

pub declared_found : (all : Option Fault) (es : List Entry) (ids names : List SeenKey) (entries : List Read) (i : ℕ) (e : Read) (found : Option Fault) →
    i < length entries → e ≡ get_or entries i e
    → AreKeysOf id_key ids es → AreKeysOf name_key names (seen_entries (take i entries)) → found ≡ declared_by ids names (seen_entry e) → is_some found ≡ true
    → all ≡ first_in (declared_behind es (abstract_rules es) (seen_entries (take i entries)) (seen_entries (drop i entries))) → found ≡ all
declared_found all es ids names entries i e found within here hi hn f there left =
    sym (left ∙ (behind_step es ids names entries i e within here hi hn
    ∙ (ap (λ x. first_or x (first_in (declared_behind es (abstract_rules es) (seen_entries (take (i + 1) entries)) (seen_entries (drop (i + 1) entries)))))
    (sym f)
    ∙ some_first found _ there)))

pub declared_on : (all : Option Fault) (es : List Entry) (ids names : List SeenKey) (entries : List Read) (i : ℕ) (e : Read) (found : Option Fault) →
    i < length entries → e ≡ get_or entries i e
    → AreKeysOf id_key ids es → AreKeysOf name_key names (seen_entries (take i entries)) → found ≡ declared_by ids names (seen_entry e) → is_some found ≡ false
    → all ≡ first_in (declared_behind es (abstract_rules es) (seen_entries (take i entries)) (seen_entries (drop i entries)))
    → all ≡ first_in (declared_behind es (abstract_rules es) (seen_entries (take (i + 1) entries)) (seen_entries (drop (i + 1) entries)))
declared_on all es ids names entries i e found within here hi hn f none left =
    left ∙ (behind_step es ids names entries i e within here hi hn
    ∙ (ap (λ x. first_or x (first_in (declared_behind es (abstract_rules es) (seen_entries (take (i + 1) entries)) (seen_entries (drop (i + 1) entries)))))
    (sym f)
    ∙ none_first found _ none))

pub declared_begun : (es : List Entry) → show.first_declared es ≡ first_in (declared_behind es (abstract_rules es) [] es)
unfolding show.first_declared
declared_begun es = refl
