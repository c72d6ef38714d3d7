-- The first of all faults, joined from the first of each sort.
use Rattle.std.proofs.Common.{◌≡◌, ℕ, suc, ◌<◌, ◌≤◌, Bool, true, false, cond, List, [], ◌∷◌, ◌++◌, length, get_or, Option, Some, None, refl, ap, sym, subst}
use Rattle.std.proofs.Common.{◌∙◌, arith}
use Rattle.std.specs.Prelude.{nat_eq, nat_le, filter, flat_map, is_some}
use Rattle.std.proofs.lemmas.Bool.{false≢true}
use Rattle.std.proofs.lemmas.Bool.Decides.{nat_tests}
use Rattle.schematron_meaning.specs.declared.fault.Fault.{Fault}
use Rattle.schematron_meaning.specs.Entries.{Entry}
use Rattle.schematron_meaning.specs.Expansion.{File}
use Rattle.schematron_meaning.specs.Written.{Written, all_written}
use Rattle.schematron_meaning.specs.Counts.{Tally, no_tally, added, tally_of}
use Rattle.std.specs.Prelude.{◌&&◌, not, is_none}
use Rattle.std.specs.List.{list_any}
use Rattle.schematron_meaning.specs.declared.attribute.Attribute.{Attribute}
use Rattle.schematron_meaning.specs.declared.attribute.Attribute.TheVariants as a
use Rattle.schematron_meaning.specs.declared.fault.RuleKind.{RuleKind}
use Rattle.schematron_meaning.specs.declared.fault.RuleKind.TheVariants as q
use Rattle.schematron_meaning.specs.declared.role.Role.{Role}
use Rattle.schematron_meaning.specs.declared.role.Role.TheVariants as r
use Rattle.schematron_meaning.specs.Lookup.{attribute, identified, is_judged}
use Rattle.schematron_meaning.specs.Bodies.{put_by}
use Rattle.schematron_meaning.specs.Expansion.{pattern_used}
use Rattle.schematron_meaning.specs.Showing.{fault, when, Key, key_of, has_key, naming, needed, duplicate_by, no_such_pattern_by, is_other_root, is_schema}
use Rattle.schematron_meaning.specs.Showing.{is_known_binding, is_misplaced, is_extends, not_schematron, bad_binding, bad_element, missing_attribute}
use Rattle.schematron_meaning.specs.Showing.{duplicate_id, no_such_pattern, declared_at, declared_behind, first_in}
use Rattle.schematron_meaning.specs.Faults.{cycle, refused, bad_expressions, too_many, faults_at, faults_behind, all_faults}
use Rattle.schematron_expansion.specs.declared.found.Found.{Found}
use Rattle.schematron_expansion.specs.Found.{first_at, first_or, first_by, sooner}
use Rattle.schematron_faults.specs.Passing.{passing_behind, first_passing}
use Rattle.schematron_faults.specs.Joining.{at_itself, fault_of}
use Rattle.schematron_faults.specs.Least.{found_of, least}
use Rattle.schematron_entries.specs.Order.{NumbersRise}
use Rattle.schematron_faults.specs.Read.{entry_at}
use Rattle.schematron_faults.proofs.EachLemmas.{Each}
use Rattle.schematron_faults.proofs.FoundLemmas.{step, IsLater}

-- ---- numbers that rise

-- All stand behind the number.
abbrev pub Behind : ℕ → List Entry → Type 0
Behind n [] = Unit {0}
Behind n (e ∷ es) = (n < e.number) × Behind n es

abbrev pub Rising : List Entry → Type 0
Rising [] = Unit {0}
Rising (e ∷ es) = Behind e.number es × Rising es

tail_rises : (e : Entry) (es : List Entry) → NumbersRise (e ∷ es) → NumbersRise es
tail_rises e es h = λ i j d l m. h (suc i) (suc j) d (omega (arith, l)) (omega (arith, m))

behind_all : (n : ℕ) (es : List Entry) → ((k : ℕ) (d : Entry) → k < length es → n < (get_or es k d).number) → Behind n es
behind_all n [] h = tt
behind_all n (e ∷ es) h = (h 0 e (omega arith), behind_all n es (λ k d l. h (suc k) d (omega (arith, l))))

pub rising : (es : List Entry) → NumbersRise es → Rising es
rising [] h = tt
rising (e ∷ es) h = (behind_all e.number es (λ k d l. h 0 (suc k) d (omega arith) (omega (arith, l))), rising es (tail_rises e es h))

pub behind-weaker : (m n : ℕ) (es : List Entry) → m ≤ n → Behind n es → Behind m es
behind-weaker m n [] l h = tt
behind-weaker m n (e ∷ es) l h = (omega (arith, h.0), behind-weaker m n es l h.1)

-- ---- the first of faults by entries

later_or : (n m : ℕ) (fs : List Fault) (x : Option Found) → n < m → IsLater n x → IsLater n (first_or (first_at m fs) x)
later_or n m [] x l h = h
later_or n m (f ∷ fs) x l h = l

pub first_later : (faults : Entry → List Fault) (n : ℕ) (es : List Entry) → Behind n es → IsLater n (first_by faults es)
first_later faults n [] h = tt
first_later faults n (e ∷ es) h = later_or n e.number (faults e) (first_by faults es) h.0 (first_later faults n es h.1)

passing_later : (file : File) (n : ℕ) (before : Tally) (es : List Entry) → Behind n es → IsLater n (passing_behind file before es)
passing_later file n before [] h = tt
passing_later file n before (e ∷ es) h = later_or n e.number (too_many before (added before (tally_of file e)) e)
    (passing_behind file (added before (tally_of file e)) es)
    h.0 (passing_later file n (added before (tally_of file e)) es h.1)

later_sooner : (n : ℕ) (x y : Option Found) → IsLater n x → IsLater n y → IsLater n (sooner x y)
later_sooner n None y h k = k
later_sooner n (Some a) None h k = h
later_sooner n (Some a) (Some b) h k = by (nat_le a.at b.at)
  where
    by : (test : Bool) → IsLater n (Some (elim test [ true ↦ a | false ↦ b ]))
    by true = h
    by false = k

-- what is declared wrongly, with the element of the first
abbrev pub declared_found : List Entry → List Entry → List Entry → List Entry → Option Found
declared_found es rules before [] = None
declared_found es rules before (e ∷ others) = first_or (first_at e.number (declared_at es rules before e)) (declared_found es rules (before ++ e ∷ []) others)

declared_later : (all rules : List Entry) (n : ℕ) (before es : List Entry) → Behind n es → IsLater n (declared_found all rules before es)
declared_later all rules n before [] h = tt
declared_later all rules n before (e ∷ es) h = later_or n e.number (declared_at all rules before e) (declared_found all rules (before ++ e ∷ []) es)
    h.0 (declared_later all rules n (before ++ e ∷ []) es h.1)

-- two sorts of faults, each known by the entry
pub first_of_both : (a b : Entry → List Fault) (es : List Entry) → Rising es → first_by (λ (e : Entry). a e ++ b e) es ≡ sooner (first_by a es) (first_by b es)
first_of_both a b [] r = refl
first_of_both a b (e ∷ es) r = ap (first_or (first_at e.number (a e ++ b e))) (first_of_both a b es r.1)
    ∙ step e.number (a e) (b e) (first_by a es) (first_by b es) (first_later a e.number es r.0) (first_later b e.number es r.0)

-- all sorts

abbrev pub found_behind : File → List Written → List Entry → Tally → List Entry → Option Found
found_behind file ws before tally [] = None
found_behind file ws before tally (e ∷ es) =
    let after : Tally = added tally (tally_of file e) in
    first_or (first_at e.number (faults_at file ws before tally after e)) (found_behind file ws (before ++ e ∷ []) after es)

fault_first : (n : ℕ) (fs gs : List Fault) (x : Option Found) → fault_of x ≡ first_in gs → fault_of (first_or (first_at n fs) x) ≡ first_in (fs ++ gs)
fault_first n [] gs x h = h
fault_first n (f ∷ fs) gs x h = refl

found_first : (file : File) (ws : List Written) (before : List Entry) (tally : Tally) (es : List Entry) →
    fault_of (found_behind file ws before tally es) ≡ first_in (faults_behind file ws before tally es)
found_first file ws before tally [] = refl
found_first file ws before tally (e ∷ es) =
    let after : Tally = added tally (tally_of file e) in
    fault_first e.number (faults_at file ws before tally after e) (faults_behind file ws (before ++ e ∷ []) after es)
    (found_behind file ws (before ++ e ∷ []) after es)
    (found_first file ws (before ++ e ∷ []) after es)

parts_found : (file : File) (ws : List Written) (before : List Entry) (tally : Tally) (es : List Entry) → Rising es
    → found_behind file ws before tally es
    ≡ sooner (declared_found file.entries file.rules before es)
    (sooner (first_by (cycle file) es) (sooner (first_by (bad_expressions ws) es) (passing_behind file tally es)))
parts_found file ws before tally [] r = refl
parts_found file ws before tally (e ∷ es) r =
    let after : Tally = added tally (tally_of file e) in
    let d : Option Found = declared_found file.entries file.rules (before ++ e ∷ []) es in
    let c : Option Found = first_by (cycle file) es in
    let x : Option Found = first_by (bad_expressions ws) es in
    let p : Option Found = passing_behind file after es in
    let dl : IsLater e.number d = declared_later file.entries file.rules e.number (before ++ e ∷ []) es r.0 in
    let cl : IsLater e.number c = first_later (cycle file) e.number es r.0 in
    let xl : IsLater e.number x = first_later (bad_expressions ws) e.number es r.0 in
    let pl : IsLater e.number p = passing_later file e.number after es r.0 in
    let xpl : IsLater e.number (sooner x p) = later_sooner e.number x p xl pl in
    ap (first_or (first_at e.number (faults_at file ws before tally after e))) (parts_found file ws (before ++ e ∷ []) after es r.1)
    ∙ (step e.number (declared_at file.entries file.rules before e) (cycle file e ++ (bad_expressions ws e ++ too_many tally after e)) d
    (sooner c (sooner x p)) dl (later_sooner e.number c (sooner x p) cl xpl)
    ∙ ap (sooner (first_or (first_at e.number (declared_at file.entries file.rules before e)) d))
    (step e.number (cycle file e) (bad_expressions ws e ++ too_many tally after e) c (sooner x p) cl xpl
    ∙ ap (sooner (first_or (first_at e.number (cycle file e)) c)) (step e.number (bad_expressions ws e) (too_many tally after e) x p xl pl)))

-- ---- expressions by the elements at which they stand

-- The number is that of an entry.
abbrev pub IsThere : List Entry → ℕ → Type 0
IsThere es n = is_some (entry_at es n) ≡ true

abbrev pub AreThere : List Entry → List Written → Type 0
AreThere es ws = Each (λ (w : Written). IsThere es w.stand) ws

same_number : (m n : ℕ) → nat_eq m n ≡ nat_eq n m
same_number m n = grind (arith, nat_tests)

-- the faults at one number
abbrev at_number : ℕ → List Fault → Entry → List Fault
at_number n fs e = cond (nat_eq n e.number) fs []

equal_number : (m n : ℕ) → nat_eq m n ≡ true → m ≡ n
equal_number m n h = grind (arith, nat_tests)

both_none : (test : Bool) (n : ℕ) (x : Option Found) → first_or (first_at n (cond test [] [])) x ≡ x
both_none true n x = refl
both_none false n x = refl

none_found : (n : ℕ) (es : List Entry) → first_by (at_number n []) es ≡ None
none_found n [] = refl
none_found n (e ∷ es) = both_none (nat_eq n e.number) e.number (first_by (at_number n []) es) ∙ none_found n es

some_found : (n : ℕ) (f : Fault) (fs : List Fault) (es : List Entry) → IsThere es n → first_by (at_number n (f ∷ fs)) es ≡ first_at n (f ∷ fs)
some_found n f fs [] h = absurd (false≢true h)
some_found n f fs (e ∷ es) h = by (nat_eq n e.number) refl (some_found n f fs es)
  where
    by : (test : Bool) → nat_eq n e.number ≡ test → (IsThere es n → first_by (at_number n (f ∷ fs)) es ≡ first_at n (f ∷ fs))
        → first_or (first_at e.number (cond (nat_eq n e.number) (f ∷ fs) [])) (first_by (at_number n (f ∷ fs)) es) ≡ first_at n (f ∷ fs)
    by true t rest = ap (λ b. first_or (first_at e.number (cond b (f ∷ fs) [])) (first_by (at_number n (f ∷ fs)) es)) t ∙
        ap (λ k. first_at k (f ∷ fs)) (sym (equal_number n e.number t))
    by false t rest = ap (λ b. first_or (first_at e.number (cond b (f ∷ fs) [])) (first_by (at_number n (f ∷ fs)) es)) t
        ∙ rest (subst (λ (b : Bool). is_some (cond b (Some e) (entry_at es n)) ≡ true) (same_number e.number n ∙ t) h)

one_found : (n : ℕ) (fs : List Fault) (es : List Entry) → IsThere es n → first_by (at_number n fs) es ≡ first_at n fs
one_found n [] es h = none_found n es
one_found n (f ∷ fs) es h = some_found n f fs es h

same_faults : (a b : Entry → List Fault) (es : List Entry) → ((e : Entry) → a e ≡ b e) → first_by a es ≡ first_by b es
same_faults a b [] h = refl
same_faults a b (e ∷ es) h = ap (λ (fs : List Fault). first_or (first_at e.number fs) (first_by a es)) (h e) ∙
    ap (first_or (first_at e.number (b e))) (same_faults a b es h)

bad_one : (w : Written) (ws : List Written) (e : Entry) → bad_expressions (w ∷ ws) e ≡ at_number w.stand (refused w) e ++ bad_expressions ws e
bad_one w ws e = by (nat_eq w.stand e.number)
  where
    by : (test : Bool) → flat_map refused (cond test (w ∷ filter (λ (v : Written). nat_eq v.stand e.number) ws)
        (filter (λ (v : Written). nat_eq v.stand e.number) ws)) ≡ cond test (refused w) [] ++ bad_expressions ws e
    by true = refl
    by false = refl

nothing_bad : (es : List Entry) → first_by (bad_expressions []) es ≡ None
nothing_bad [] = refl
nothing_bad (e ∷ es) = nothing_bad es

-- the first of bad expressions by entries is the least of all
pub first_bad : (ws : List Written) (es : List Entry) → Rising es → AreThere es ws → first_by (bad_expressions ws) es ≡ least ws
first_bad [] es r h = nothing_bad es
first_bad (w ∷ ws) es r h = same_faults (bad_expressions (w ∷ ws)) (λ (e : Entry). at_number w.stand (refused w) e ++ bad_expressions ws e) es (bad_one w ws)
    ∙ (first_of_both (at_number w.stand (refused w)) (bad_expressions ws) es r
    ∙ (ap (λ (x : Option Found). sooner x (first_by (bad_expressions ws) es)) (one_found w.stand (refused w) es h.0) ∙
    ap (sooner (found_of w)) (first_bad ws es r h.1)))

-- ---- all

-- the first of all faults, by the first of each sort
pub first_joined : (file : File) → NumbersRise file.entries → AreThere file.entries (all_written file) → first_in (all_faults file)
    ≡ fault_of (sooner (declared_found file.entries file.rules [] file.entries)
    (sooner (first_by (cycle file) file.entries) (sooner (least (all_written file)) (first_passing file))))
first_joined file rise there =
    sym (found_first file (all_written file) [] no_tally file.entries)
    ∙ (ap fault_of (parts_found file (all_written file) [] no_tally file.entries (rising file.entries rise))
    ∙ ap (λ (x : Option Found). fault_of (sooner (declared_found file.entries file.rules [] file.entries)
    (sooner (first_by (cycle file) file.entries) (sooner x (first_passing file)))))
    (first_bad (all_written file) file.entries (rising file.entries rise) there))

-- ---- what is declared wrongly tells its own element

-- The first tells the element.
abbrev pub IsAt : ℕ → List Fault → Type 0
IsAt n [] = Unit {0}
IsAt n (f ∷ fs) = f.node ≡ n

at-append : (n : ℕ) (fs gs : List Fault) → IsAt n fs → IsAt n gs → IsAt n (fs ++ gs)
at-append n [] gs h k = k
at-append n (f ∷ fs) gs h k = h

pub at-when : (test : Bool) (kind : RuleKind) (name : Option Attribute) (e : Entry) → IsAt e.number (when test (fault kind name e))
at-when true kind name e = refl
at-when false kind name e = tt

at-missing : (e : Entry) (names : List Attribute) →
    IsAt e.number (flat_map (λ name. when (is_none (attribute name e)) (fault q.MissingAttribute (Some name) e)) names)
at-missing e [] = tt
at-missing e (name ∷ names) = at-append e.number (when (is_none (attribute name e)) (fault q.MissingAttribute (Some name) e))
    (flat_map (λ name. when (is_none (attribute name e)) (fault q.MissingAttribute (Some name) e)) names)
    (at-when (is_none (attribute name e)) q.MissingAttribute (Some name) e) (at-missing e names)

at-duplicate : (before : List Entry) (e : Entry) (key : Option Key) → IsAt e.number (duplicate_by before e key)
at-duplicate before e None = tt
at-duplicate before e (Some key) = at-when (list_any (λ (other : Entry). has_key key (key_of other)) before) q.DuplicateId (Some (naming key.space)) e

at-pattern : (role : Role) (es : List Entry) (e : Entry) → IsAt e.number (no_such_pattern_by role es e)
at-pattern r.Use es e = at-when (is_none (pattern_used es e)) q.NoSuchPattern (Some a.IsA) e
at-pattern r.Active es e = at-when (is_none (identified is_judged (attribute a.Pattern e) es)) q.NoSuchPattern (Some a.Pattern) e
at-pattern _ es e = tt

pub at-declared : (es rules before : List Entry) (e : Entry) → IsAt e.number (declared_at es rules before e)
at-declared es rules before e = at-append e.number (not_schematron e) _ (at-when (is_other_root e.role) q.NotSchematron None e)
    (at-append e.number (bad_binding e) _ (at-when (is_schema e.role && not (is_known_binding (attribute a.QueryBinding e))) q.BadBinding
    (Some a.QueryBinding) e)
    (at-append e.number (bad_element e) _ (at-when (is_misplaced e.role) q.BadElement None e)
    (at-append e.number (missing_attribute e) _ (at-missing e (needed e.role))
    (at-append e.number (duplicate_id before e) _ (at-duplicate before e (key_of e))
    (at-append e.number (no_such_pattern es e) _ (at-pattern e.role es e)
    (at-when (is_extends e.role && is_none (put_by rules e)) q.NoSuchRule (Some a.Rule) e))))))

itself_first : (n : ℕ) (fs gs : List Fault) (x : Option Found) → IsAt n fs → x ≡ at_itself (first_in gs) →
    first_or (first_at n fs) x ≡ at_itself (first_in (fs ++ gs))
itself_first n [] gs x h k = k
itself_first n (f ∷ fs) gs x h k = ap (λ m. Some (record { at = m; fault = f })) (sym h)

pub declared_itself : (all rules before es : List Entry) → declared_found all rules before es ≡ at_itself (first_in (declared_behind all rules before es))
declared_itself all rules before [] = refl
declared_itself all rules before (e ∷ es) = itself_first e.number (declared_at all rules before e) (declared_behind all rules (before ++ e ∷ []) es)
    (declared_found all rules (before ++ e ∷ []) es)
    (at-declared all rules before e) (declared_itself all rules (before ++ e ∷ []) es)
