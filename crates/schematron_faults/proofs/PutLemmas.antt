-- What is put in a rule: entries of the file, in the order of the elements at which they stand.
use Rattle.std.proofs.Common.{◌≡◌, ℕ, zero, suc, ◌+◌, ◌<◌, ◌≤◌, Bool, true, false, cond, List, [], ◌∷◌, ◌++◌, map, Option, Some, None, refl, ap, sym, ◌∙◌}
use Rattle.std.proofs.Common.{subst, arith}
use Rattle.std.specs.Prelude.{◌&&◌, ◌||◌, nat_eq, filter, flat_map, is_some, option_to_list}
use Rattle.std.specs.List.{position_from}
use Rattle.std.proofs.lemmas.Bool.{false≢true, and_parts, or_right}
use Rattle.std.proofs.lemmas.Bool.Decides.{nat_tests}
use Rattle.schematron_graph.specs.declared.part.Part.{Part}
use Rattle.schematron_graph.specs.declared.part.Thing.{Thing}
use Rattle.schematron_graph.specs.declared.part.Part.TheVariants.{Own, Puts}
use Rattle.schematron_graph.specs.Rules.{body_of, ends, most_depth, things_of, things_within, things_where, things_put}
use Rattle.schematron_meaning.specs.declared.role.Role.{Role}
use Rattle.schematron_meaning.specs.declared.role.Role.TheVariants as r
use Rattle.schematron_meaning.specs.Entries.{Entry}
use Rattle.schematron_meaning.specs.Lookup.{is_own_rule, is_abstract_rule, is_assertion, is_item, inside, at_node}
use Rattle.schematron_meaning.specs.Bodies.{abstract_rules, rule_at, putting, put_by, part_by, body_at, bodies_among, bodies}
use Rattle.schematron_meaning.specs.Expansion.{File, Inclusion, or_itself, put_at_stand, put_at, puts_by, inclusions}
use Rattle.schematron_faults.specs.Read.{entry_at, IsOf, IsRead, IsRule}
use Rattle.schematron_faults.proofs.EachLemmas.{Each, each_all, each-weaker, each-append, each-filter, each-map, each-flat_map, find_passes}
use Rattle.schematron_faults.proofs.JoinLemmas.{Behind, Rising, rising}
use Rattle.schematron_faults.proofs.CopyLemmas.{Known, stand_of, Climbs}

-- ---- entries and their numbers

equal_number : (m n : ℕ) → nat_eq m n ≡ true → m ≡ n
equal_number m n h = grind (arith, nat_tests)

other_number : (m n : ℕ) → m < n → nat_eq m n ≡ false
other_number m n h = grind (arith, nat_tests)

its_number : (n : ℕ) → nat_eq n n ≡ true
its_number n = grind (arith, nat_tests)

-- An entry behind the first is found behind it.
of_more : (e f : Entry) (es : List Entry) → e.number < f.number → IsOf es f → IsOf (e ∷ es) f
of_more e f es l h = ap (λ (c : Bool). cond c (Some e) (entry_at es f.number)) (other_number e.number f.number l) ∙ h

all_of_more : (e : Entry) (es xs : List Entry) → Behind e.number xs → Each (IsOf es) xs → Each (IsOf (e ∷ es)) xs
all_of_more e es [] b h = tt
all_of_more e es (x ∷ xs) b h = (of_more e x es b.0 h.0, all_of_more e es xs b.1 h.1)

-- each entry is found by its number
pub each_of : (es : List Entry) → Rising es → Each (IsOf es) es
each_of [] h = tt
each_of (e ∷ es) h = (ap (λ (c : Bool). cond c (Some e) (entry_at es e.number)) (its_number e.number), all_of_more e es es h.0 (each_of es h.1))

-- what is found by a number is the file's
pub found_of_number : (es : List Entry) (n : ℕ) (e : Entry) → entry_at es n ≡ Some e → IsOf es e
found_of_number es n e h = ap (entry_at es) (equal_number e.number n (find_passes (λ (x : Entry). nat_eq x.number n) es e h)) ∙ h

behind-filter : (n : ℕ) (test : Entry → Bool) (es : List Entry) → Behind n es → Behind n (filter test es)
behind-filter n test [] h = tt
behind-filter n test (e ∷ es) h = by (test e) (behind-filter n test es h.1)
  where
    by : (b : Bool) → Behind n (filter test es) → Behind n (cond b (e ∷ filter test es) (filter test es))
    by true rest = (h.0, rest)
    by false rest = rest

pub rising-filter : (test : Entry → Bool) (es : List Entry) → Rising es → Rising (filter test es)
rising-filter test [] h = tt
rising-filter test (e ∷ es) h = by (test e) (rising-filter test es h.1)
  where
    by : (b : Bool) → Rising (filter test es) → Rising (cond b (e ∷ filter test es) (filter test es))
    by true rest = (behind-filter e.number test es h.0, rest)
    by false rest = rest

-- ---- things of abstract rules

-- The entry stands in an abstract rule.
abbrev pub is_abstract_item : List Entry → Entry → Bool
is_abstract_item rules e = is_some (rule_at rules e.parent)

-- what a number stands for is the file's, and stands in an abstract rule
abbrev IsItemOf : List Entry → List Entry → Entry → Type 0
IsItemOf es rules e = IsOf es e × (is_abstract_item rules e ≡ true)

abbrev IsFine : List Entry → List Entry → Thing → Type 0
IsFine es rules thing = Each (IsItemOf es rules) (at_node es thing.number)

abbrev IsFinePart : List Entry → List Entry → Part → Type 0
IsFinePart es rules (Own thing) = IsFine es rules thing
IsFinePart es rules (Puts rule) = Unit {0}

-- a rule among the rules has a place
has_place : (rules : List Entry) → Each (λ (rule : Entry). (k : ℕ) → is_some (position_from (λ (x : Entry). nat_eq x.number rule.number) k rules) ≡ true) rules
has_place [] = tt
has_place (rule ∷ rules) = (
  (λ k. ap (λ (c : Bool). is_some (cond c (Some k) (position_from (λ (x : Entry). nat_eq x.number rule.number) (k + 1) rules))) (its_number rule.number)),
  each-weaker (λ (other : Entry). (k : ℕ) → is_some (position_from (λ (x : Entry). nat_eq x.number other.number) k rules) ≡ true)
      (λ (other : Entry). (k : ℕ) → is_some (position_from (λ (x : Entry). nat_eq x.number other.number) k (rule ∷ rules)) ≡ true) rules
      (λ other h k. either (nat_eq rule.number other.number) k (position_from (λ (x : Entry). nat_eq x.number other.number) (k + 1) rules) (h (k + 1)))
      (has_place rules),
)
  where
    either : (b : Bool) (k : ℕ) (rest : Option ℕ) → is_some rest ≡ true → is_some (cond b (Some k) rest) ≡ true
    either true k rest h = refl
    either false k rest h = h

-- what stands in an abstract rule
items_of_rule : (es rules : List Entry) (n : ℕ) → Rising es → is_some (rule_at rules n) ≡ true → Each (IsItemOf es rules) (inside is_item es n)
items_of_rule es rules n rise h = each-weaker (λ (e : Entry). IsOf es e × ((is_item e.role && nat_eq e.parent n) ≡ true)) (IsItemOf es rules)
    (inside is_item es n)
    (λ e k. (k.0, ap (λ (m : ℕ). is_some (rule_at rules m)) (equal_number e.parent n ((and_parts (is_item e.role) (nat_eq e.parent n) k.1).1)) ∙ h))
    (each-filter (IsOf es) (λ (e : Entry). is_item e.role && nat_eq e.parent n) es (each_of es rise))

fine_own : (es rules : List Entry) (e : Entry) (counts : Bool) → IsItemOf es rules e → IsFine es rules (record { number = e.number; counts = counts })
fine_own es rules e counts h = subst (λ (o : Option Entry). Each (IsItemOf es rules) (option_to_list o)) (sym h.0) (h, tt)

fine_putting : (es rules : List Entry) (rule : Option ℕ) → Each (IsFinePart es rules) (putting rule)
fine_putting es rules None = tt
fine_putting es rules (Some rule) = (tt, tt)

fine_part : (es rules : List Entry) (role : Role) (e : Entry) → IsItemOf es rules e → Each (IsFinePart es rules) (part_by role rules e)
fine_part es rules r.Extends e h = fine_putting es rules (put_by rules e)
fine_part es rules role e h = (fine_own es rules e (is_assertion role) h, tt)

fine_body : (es rules : List Entry) (n : ℕ) → Rising es → is_some (rule_at rules n) ≡ true → Each (IsFinePart es rules) (body_at es rules n)
fine_body es rules n rise h = each-flat_map (IsFinePart es rules) (λ (e : Entry). part_by e.role rules e) (inside is_item es n)
    (each-weaker (IsItemOf es rules) (λ (e : Entry). Each (IsFinePart es rules) (part_by e.role rules e)) (inside is_item es n)
    (λ e k. fine_part es rules e.role e k) (items_of_rule es rules n rise h))

fine_bodies : (es rules : List Entry) → Rising es → Each (Each (IsFinePart es rules)) (bodies_among es rules)
fine_bodies es rules rise = each-map (Each (IsFinePart es rules)) (λ (rule : Entry). body_at es rules rule.number) rules
    (each-weaker (λ (rule : Entry). (k : ℕ) → is_some (position_from (λ (x : Entry). nat_eq x.number rule.number) k rules) ≡ true)
    (λ (rule : Entry). Each (IsFinePart es rules) (body_at es rules rule.number)) rules
    (λ rule h. fine_body es rules rule.number rise (h 0)) (has_place rules))

fine_body_of : (es rules : List Entry) (all : List (List Part)) (k : ℕ) → Each (Each (IsFinePart es rules)) all → Each (IsFinePart es rules) (body_of all k)
fine_body_of es rules [] k h = tt
fine_body_of es rules (body ∷ all) zero h = h.0
fine_body_of es rules (body ∷ all) (suc k) h = fine_body_of es rules all k h.1

fine_things_of : (es rules : List Entry) (given : ℕ → List Thing) (parts : List Part) → ((rule : ℕ) → Each (IsFine es rules) (given rule)) →
    Each (IsFinePart es rules) parts → Each (IsFine es rules) (flat_map (things_of given) parts)
fine_things_of es rules given [] g h = tt
fine_things_of es rules given (Own thing ∷ parts) g h = (h.0, fine_things_of es rules given parts g h.1)
fine_things_of es rules given (Puts rule ∷ parts) g h = each-append (IsFine es rules) (given rule) (flat_map (things_of given) parts) (g rule)
    (fine_things_of es rules given parts g h.1)

fine_within : (es rules : List Entry) (all : List (List Part)) (depth rule : ℕ) → Each (Each (IsFinePart es rules)) all →
    Each (IsFine es rules) (things_within depth all rule)
fine_within es rules all zero rule h = tt
fine_within es rules all (suc depth) rule h = fine_things_of es rules (things_within depth all) (body_of all rule)
    (λ other. fine_within es rules all depth other h) (fine_body_of es rules all rule h)

fine_put : (es rules : List Entry) (all : List (List Part)) (rule : ℕ) → Each (Each (IsFinePart es rules)) all → Each (IsFine es rules) (things_put all rule)
fine_put es rules all rule h = by (ends all rule)
  where
    by : (test : Bool) → Each (IsFine es rules) (things_where test (most_depth all) all rule)
    by true = fine_within es rules all (most_depth all) rule h
    by false = tt

-- the bodies of a file that was read
read_bodies : (file : File) → IsRead file → Each (Each (IsFinePart file.entries file.rules)) file.bodies
unfolding bodies
read_bodies file is = subst (λ (f : File). Each (Each (IsFinePart file.entries f.rules)) f.bodies) (sym is.is)
    (fine_bodies file.entries (abstract_rules file.entries) (rising file.entries is.rises))

-- ---- what is put in a rule

-- Something is put by another element, where all stand at one or where it stands in an abstract rule.
abbrev pub is_put : List Entry → Option ℕ → Entry → Bool
is_put rules stand e = is_some stand || is_abstract_item rules e

known_at : (es rules : List Entry) (stand : Option ℕ) (n : ℕ) (found : List Entry) → Each (IsItemOf es rules) found →
    Each (Known es (is_put rules stand)) (map (put_at_stand (Some n)) found)
known_at es rules stand n found h = each-map (Known es (is_put rules stand)) (put_at_stand (Some n)) found
    (each-weaker (IsItemOf es rules) (λ (e : Entry). Known es (is_put rules stand) (put_at_stand (Some n) e)) found
    (λ e k. (k.0, sym (or_right (is_some stand) (is_abstract_item rules e) k.1))) h)

known_put_at : (file : File) (stand : Option ℕ) (n : ℕ) (rule : Option ℕ) → IsRead file →
    Each (Known file.entries (is_put file.rules stand)) (put_at file (Some n) rule)
known_put_at file stand n None is = tt
known_put_at file stand n (Some rule) is = each-flat_map (Known file.entries (is_put file.rules stand))
    (λ (thing : Thing). map (put_at_stand (Some n)) (at_node file.entries thing.number)) (things_put file.bodies rule)
    (each-weaker (IsFine file.entries file.rules) (λ (thing : Thing). Each (Known file.entries (is_put file.rules stand))
    (map (put_at_stand (Some n)) (at_node file.entries thing.number))) (things_put file.bodies rule)
    (λ thing h. known_at file.entries file.rules stand n (at_node file.entries thing.number) h)
    (fine_put file.entries file.rules file.bodies rule (read_bodies file is)))

-- an element that stands in the rule itself
itself_put : (rules : List Entry) (stand : Option ℕ) (e : Entry) → is_abstract_item rules e ≡ false → is_some stand ≡ is_put rules stand e
itself_put rules None e h = sym h
itself_put rules (Some n) e h = refl

known_by : (role : Role) (file : File) (stand : Option ℕ) (e : Entry) → IsRead file → IsOf file.entries e → is_abstract_item file.rules e ≡ false →
    Each (Known file.entries (is_put file.rules stand)) (puts_by role file stand e)
known_by r.Extends file stand e is of h = known_put_at file stand (or_itself stand e.number) (put_by file.rules e) is
known_by _ file stand e is of h = ((of, itself_put file.rules stand e h), tt)

-- a rule that stands for itself isn't an abstract one
not_both : (role : Role) → is_own_rule role ≡ true → is_abstract_rule role ≡ false
not_both r.Rule h = refl
not_both _ h = absurd (false≢true h)

no_place : (n k : ℕ) (rules : List Entry) → Each (λ (x : Entry). nat_eq x.number n ≡ false) rules →
    is_some (position_from (λ (x : Entry). nat_eq x.number n) k rules) ≡ false
no_place n k [] h = refl
no_place n k (x ∷ rules) h = ap (λ (c : Bool). is_some (cond c (Some k) (position_from (λ (y : Entry). nat_eq y.number n) (k + 1) rules))) h.0 ∙
    no_place n (k + 1) rules h.1

not_abstract : (es : List Entry) (rule : Entry) → Rising es → IsRule es rule → is_some (rule_at (abstract_rules es) rule.number) ≡ false
not_abstract es rule rise is = no_place rule.number 0 (abstract_rules es)
    (each-weaker (λ (x : Entry). IsOf es x × (is_abstract_rule x.role ≡ true)) (λ (x : Entry). nat_eq x.number rule.number ≡ false) (abstract_rules es)
    (λ x h. other x h (nat_eq x.number rule.number) refl)
    (each-filter (IsOf es) (λ (x : Entry). is_abstract_rule x.role) es (each_of es rise)))
  where
    other : (x : Entry) → IsOf es x × (is_abstract_rule x.role ≡ true) → (test : Bool) → nat_eq x.number rule.number ≡ test → test ≡ false
    other x h true t = let s : Some x ≡ Some rule = sym h.0 ∙ (ap (entry_at es) (equal_number x.number rule.number t) ∙ is.is_of) in
        let same : x ≡ rule = cc in
        absurd (false≢true (sym (not_both rule.role is.is_own) ∙ (sym (ap (λ (y : Entry). is_abstract_rule y.role) same) ∙ h.1)))
    other x h false t = refl

own_items : (file : File) (rule : Entry) → IsRead file → IsRule file.entries rule →
    Each (λ (e : Entry). IsOf file.entries e × (is_abstract_item file.rules e ≡ false)) (inside is_item file.entries rule.number)
own_items file rule is own = each-weaker (λ (e : Entry). IsOf file.entries e × ((is_item e.role && nat_eq e.parent rule.number) ≡ true))
    (λ (e : Entry). IsOf file.entries e × (is_abstract_item file.rules e ≡ false)) (inside is_item file.entries rule.number)
    (λ e k. (
      k.0,
      ap (λ (m : ℕ). is_some (rule_at file.rules m)) (equal_number e.parent rule.number ((and_parts (is_item e.role) (nat_eq e.parent rule.number) k.1).1))
          ∙ (ap (λ (f : File). is_some (rule_at f.rules rule.number)) is.is ∙ not_abstract file.entries rule (rising file.entries is.rises) own),
    ))
    (each-filter (IsOf file.entries) (λ (e : Entry). is_item e.role && nat_eq e.parent rule.number) file.entries
    (each_of file.entries (rising file.entries is.rises)))

pub puts_known : (file : File) (stand : Option ℕ) (rule : Entry) → IsRead file → IsRule file.entries rule →
    Each (Known file.entries (is_put file.rules stand)) (inclusions file stand rule.number)
puts_known file stand rule is own = each-flat_map (Known file.entries (is_put file.rules stand)) (λ (e : Entry). puts_by e.role file stand e)
    (inside is_item file.entries rule.number)
    (each-weaker (λ (e : Entry). IsOf file.entries e × (is_abstract_item file.rules e ≡ false))
    (λ (e : Entry). Each (Known file.entries (is_put file.rules stand)) (puts_by e.role file stand e)) (inside is_item file.entries rule.number)
    (λ e k. known_by e.role file stand e is k.0 k.1) (own_items file rule is own))

-- ---- the elements at which they stand

abbrev StandsAt : ℕ → Inclusion → Type 0
StandsAt n inclusion = stand_of inclusion ≡ n

climbs-weaker : (low from : ℕ) (ps : List Inclusion) → low ≤ from → Climbs from ps → Climbs low ps
climbs-weaker low from [] l h = tt
climbs-weaker low from (p ∷ ps) l h = (omega (arith, h.0), h.1)

climbs_same : (low n : ℕ) (ps qs : List Inclusion) → low ≤ n → Each (StandsAt n) ps → Climbs n qs → Climbs low (ps ++ qs)
climbs_same low n [] qs l h c = climbs-weaker low n qs l c
climbs_same low n (p ∷ ps) qs l h c = (omega (arith, h.0), subst (λ (m : ℕ). Climbs m (ps ++ qs)) (sym h.0) (climbs_same n n ps qs (omega arith) h.1 c))

stands_put_at : (file : File) (n : ℕ) (rule : Option ℕ) → Each (StandsAt n) (put_at file (Some n) rule)
stands_put_at file n None = tt
stands_put_at file n (Some rule) = each-flat_map (StandsAt n) (λ (thing : Thing). map (put_at_stand (Some n)) (at_node file.entries thing.number))
    (things_put file.bodies rule)
    (each_all (λ (thing : Thing). Each (StandsAt n) (map (put_at_stand (Some n)) (at_node file.entries thing.number))) (things_put file.bodies rule)
    (λ thing. each-map (StandsAt n) (put_at_stand (Some n)) (at_node file.entries thing.number)
    (each_all (λ (e : Entry). StandsAt n (put_at_stand (Some n) e)) (at_node file.entries thing.number) (λ e. refl))))

pub stands_by : (role : Role) (file : File) (stand : Option ℕ) (e : Entry) → Each (StandsAt (or_itself stand e.number)) (puts_by role file stand e)
stands_by r.Extends file stand e = stands_put_at file (or_itself stand e.number) (put_by file.rules e)
stands_by _ file stand e = (refl, tt)

climbs_items : (file : File) (low : ℕ) (e : Entry) (items : List Entry) → low ≤ e.number → Rising (e ∷ items) →
    Climbs low (flat_map (λ (x : Entry). puts_by x.role file None x) (e ∷ items))
climbs_items file low e [] l h = climbs_same low e.number (puts_by e.role file None e) [] l (stands_by e.role file None e) tt
climbs_items file low e (f ∷ items) l h = climbs_same low e.number (puts_by e.role file None e)
    (flat_map (λ (x : Entry). puts_by x.role file None x) (f ∷ items)) l (stands_by e.role file None e)
    (climbs_items file e.number f items (omega (arith, h.0.0)) h.1)

climbs_own : (file : File) (items : List Entry) → Rising items → Climbs 0 (flat_map (λ (x : Entry). puts_by x.role file None x) items)
climbs_own file [] h = tt
climbs_own file (e ∷ items) h = climbs_items file 0 e items (omega arith) h

climbs_at : (file : File) (n : ℕ) (items : List Entry) → Climbs n (flat_map (λ (x : Entry). puts_by x.role file (Some n) x) items)
climbs_at file n [] = tt
climbs_at file n (e ∷ items) = climbs_same n n (puts_by e.role file (Some n) e) (flat_map (λ (x : Entry). puts_by x.role file (Some n) x) items) (omega arith)
    (stands_by e.role file (Some n) e) (climbs_at file n items)

pub puts_climb : (file : File) (stand : Option ℕ) (n : ℕ) → IsRead file → Climbs 0 (inclusions file stand n)
puts_climb file None n is = climbs_own file (inside is_item file.entries n)
    (rising-filter (λ (e : Entry). is_item e.role && nat_eq e.parent n) file.entries (rising file.entries is.rises))
puts_climb file (Some m) n is = climbs-weaker 0 m (inclusions file (Some m) n) (omega arith) (climbs_at file m (inside is_item file.entries n))
