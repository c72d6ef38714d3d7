-- Names and numbers that stand twice, looked up in ordered sets.
use Rattle.std.proofs.Common.{◌≡◌, ℕ, ◌+◌, ◌<◌, Bool, true, false, not, ◌||◌, List, [], ◌∷◌, ◌++◌, length, get_or, drop, take, map, refl, sym, ap, ◌∙◌, arith}
use Rattle.std.proofs.Common.{if◌then◌else◌, bytes_eq, nat_eq}
use Rattle.std.specs.Borrow.{Bor}
use Rattle.std.specs.BTreeMap.{is_at}
use Rattle.std.specs.BTreeSet.{BTreeSet, contains_by, UpdatesBy}
use Rattle.std.specs.Cmp.Lexicographic.{slice_cmp}
use Rattle.std.specs.List.{list_any}
use Rattle.std.specs.Ordering.{is_eq, nat_cmp}
use Rattle.std.proofs.lemmas.Bool.{true≢false}
use Rattle.std.proofs.lemmas.Bool.Decides.{nat_tests}
use Rattle.std.proofs.lemmas.List.{map-append, drop_more, take_more}
use Rattle.std.proofs.lemmas.List.Folds.{list_any-append}
use Rattle.std.proofs.lemmas.Map.Text.{is_eq-slice_cmp}
use Rattle.xml_tokens.specs.declared.token.Attribute.{Attribute}
use Rattle.xml_tokens.specs.Markup.{Written}
use Rattle.xml_tokens.specs.Seen.{seen_attribute}
use Rattle.xml_state.specs.StartTags.{written_names, twice_behind}
use Rattle.xml_events.proofs.FlipLemmas.{bytes_eq-flips, nat_eq-flips}

or_false : (a : Bool) → (a || false) ≡ a
or_false true = refl
or_false false = refl

or_true : (a b : Bool) → b ≡ true → true ≡ (a || (b || false))
or_true true b e = refl
or_true false true e = refl
or_true false false e = absurd (true≢false (sym e))

-- The set has the names so far.
pub record HasNames (names : BTreeSet (Bor (List ℕ))) (before : List (List ℕ)) : Type 0 where
  pub has : (name : List ℕ) → contains_by (λ (key : Bor (List ℕ)). slice_cmp nat_cmp name key.now) names ≡ list_any (bytes_eq name) before

pub has-no-names : (names : BTreeSet (Bor (List ℕ))) → names.keys ≡ [] → HasNames names []
has-no-names names e = record { has = λ name. ap (list_any (is_at (λ (key : Bor (List ℕ)). slice_cmp nat_cmp name key.now))) e }

looked : (attributes : List Attribute) (i : ℕ) (a : Attribute) (before : List (List ℕ)) (target : Bool) → i < length attributes → a ≡ get_or attributes i a
    → twice_behind bytes_eq before (written_names (map seen_attribute (drop i attributes))) ≡ target
    → (list_any (bytes_eq a.name.now) before || twice_behind bytes_eq (before ++ a.name.now ∷ [])
    (written_names (map seen_attribute (drop (i + 1) attributes)))) ≡ target
looked attributes i a before target l e h =
    ap (λ (x : Attribute). list_any (bytes_eq x.name.now) before ||
    twice_behind bytes_eq (before ++ x.name.now ∷ []) (written_names (map seen_attribute (drop (i + 1) attributes)))) e
    ∙ (sym (ap (λ x. twice_behind bytes_eq before (written_names (map seen_attribute x))) (drop_more attributes i a l)) ∙ h)

-- the names of the attributes so far, and the next
abbrev front : List Attribute → ℕ → List (List ℕ)
front attributes i = written_names (map seen_attribute (take i attributes))

front-more : (attributes : List Attribute) (i : ℕ) (a : Attribute) → i < length attributes → a ≡ get_or attributes i a →
    front attributes (i + 1) ≡ front attributes i ++ a.name.now ∷ []
front-more attributes i a l e =
    ap (λ x. written_names (map seen_attribute x)) (take_more attributes i a l)
    ∙ (ap written_names (map-append seen_attribute (take i attributes) (get_or attributes i a ∷ []))
    ∙ (map-append (λ (attribute : Written). attribute.name) (map seen_attribute (take i attributes)) (seen_attribute (get_or attributes i a) ∷ [])
    ∙ ap (λ (x : Attribute). front attributes i ++ x.name.now ∷ []) (sym e)))

module _ (attributes : List Attribute) (i : ℕ) (a : Attribute) (names : BTreeSet (Bor (List ℕ))) (target added : Bool) (l : i < length attributes)
    (e : a ≡ get_or attributes i a)
    (h : twice_behind bytes_eq (front attributes i) (written_names (map seen_attribute (drop i attributes))) ≡ target)
    (has : HasNames names (front attributes i))
    (is : added ≡ not (contains_by (λ (key : Bor (List ℕ)). slice_cmp nat_cmp a.name.now key.now) names)) where
  abbrev rest : List (List ℕ)
  rest = written_names (map seen_attribute (drop (i + 1) attributes))

  is-added : added ≡ not (list_any (bytes_eq a.name.now) (front attributes i))
  is-added = is ∙ ap not (has.has a.name.now)

  -- a name that is in the set already
  pub looked-found : added ≡ false → true ≡ target
  looked-found refused = by (list_any (bytes_eq a.name.now) (front attributes i)) refl
    where
      by : (b : Bool) → list_any (bytes_eq a.name.now) (front attributes i) ≡ b → true ≡ target
      by true t = sym (ap (λ b. b || twice_behind bytes_eq (front attributes i ++ a.name.now ∷ []) rest) t) ∙
          looked attributes i a (front attributes i) target l e h
      by false t = absurd (true≢false (sym (ap not t) ∙ (sym is-added ∙ refused)))

  -- one that is new
  pub looked-new : added ≡ true → twice_behind bytes_eq (front attributes (i + 1)) rest ≡ target
  looked-new accepted = ap (λ x. twice_behind bytes_eq x rest) (front-more attributes i a l e) ∙ by (list_any (bytes_eq a.name.now) (front attributes i)) refl
    where
      by : (b : Bool) → list_any (bytes_eq a.name.now) (front attributes i) ≡ b → twice_behind bytes_eq (front attributes i ++ a.name.now ∷ []) rest ≡ target
      by true t = absurd (true≢false (sym (sym (ap not t) ∙ (sym is-added ∙ accepted))))
      by false t = sym (ap (λ b. b || twice_behind bytes_eq (front attributes i ++ a.name.now ∷ []) rest) t) ∙
          looked attributes i a (front attributes i) target l e h

  pub has-more : (more : BTreeSet (Bor (List ℕ))) → UpdatesBy (λ (x y : Bor (List ℕ)). slice_cmp nat_cmp x.now y.now)
      (λ (key : Bor (List ℕ)). slice_cmp nat_cmp a.name.now key.now) names more true → HasNames more (front attributes (i + 1))
  has-more more updates = record {
    has = λ name.
        updates.0 (record { ref_ptr = (0, 0); now = name })
        ∙ (by name (is_eq (slice_cmp nat_cmp a.name.now name)) (is_eq-slice_cmp a.name.now name)
        ∙ (sym (list_any-append (bytes_eq name) (front attributes i) (a.name.now ∷ [])) ∙ ap (list_any (bytes_eq name)) (sym (front-more attributes i a l e))));
  }
    where
      by : (name : List ℕ) (b : Bool) → b ≡ bytes_eq a.name.now name
          → (if b then true else contains_by (λ (key : Bor (List ℕ)). slice_cmp nat_cmp name key.now) names) ≡ (list_any (bytes_eq name) (front attributes i) ||
          list_any (bytes_eq name) (a.name.now ∷ []))
      by name true f = or_true (list_any (bytes_eq name) (front attributes i)) (bytes_eq name a.name.now) (bytes_eq-flips name a.name.now ∙ sym f)
      by name false f =
          has.has name ∙ (sym (or_false (list_any (bytes_eq name) (front attributes i)))
          ∙ ap (λ b. list_any (bytes_eq name) (front attributes i) || (b || false)) (f ∙ bytes_eq-flips a.name.now name))

-- The set has the numbers so far.
pub record HasNumbers (seen : BTreeSet ℕ) (before : List ℕ) : Type 0 where
  pub has : (n : ℕ) → contains_by (nat_cmp n) seen ≡ list_any (nat_eq n) before

pub has-no-numbers : (seen : BTreeSet ℕ) → seen.keys ≡ [] → HasNumbers seen []
has-no-numbers seen e = record { has = λ n. ap (list_any (is_at (nat_cmp n))) e }

is_eq-nat_cmp : (a b : ℕ) → is_eq (nat_cmp a b) ≡ nat_eq a b
is_eq-nat_cmp a b = grind (arith, nat_tests)

module _ (numbers : List ℕ) (i n : ℕ) (seen : BTreeSet ℕ) (target added : Bool) (l : i < length numbers) (e : n ≡ get_or numbers i n)
    (h : twice_behind nat_eq (take i numbers) (drop i numbers) ≡ target) (has : HasNumbers seen (take i numbers))
    (is : added ≡ not (contains_by (nat_cmp n) seen)) where
  counted : (list_any (nat_eq n) (take i numbers) || twice_behind nat_eq (take i numbers ++ n ∷ []) (drop (i + 1) numbers)) ≡ target
  counted =
      ap (λ x. list_any (nat_eq x) (take i numbers) || twice_behind nat_eq (take i numbers ++ x ∷ []) (drop (i + 1) numbers)) e
      ∙ (sym (ap (twice_behind nat_eq (take i numbers)) (drop_more numbers i n l)) ∙ h)

  numbers-more : take (i + 1) numbers ≡ take i numbers ++ n ∷ []
  numbers-more = take_more numbers i n l ∙ ap (λ x. take i numbers ++ x ∷ []) (sym e)

  number-added : added ≡ not (list_any (nat_eq n) (take i numbers))
  number-added = is ∙ ap not (has.has n)

  pub counted-found : added ≡ false → true ≡ target
  counted-found refused = by (list_any (nat_eq n) (take i numbers)) refl
    where
      by : (b : Bool) → list_any (nat_eq n) (take i numbers) ≡ b → true ≡ target
      by true t = sym (ap (λ b. b || twice_behind nat_eq (take i numbers ++ n ∷ []) (drop (i + 1) numbers)) t) ∙ counted
      by false t = absurd (true≢false (sym (ap not t) ∙ (sym number-added ∙ refused)))

  pub counted-new : added ≡ true → twice_behind nat_eq (take (i + 1) numbers) (drop (i + 1) numbers) ≡ target
  counted-new accepted = ap (λ x. twice_behind nat_eq x (drop (i + 1) numbers)) numbers-more ∙ by (list_any (nat_eq n) (take i numbers)) refl
    where
      by : (b : Bool) → list_any (nat_eq n) (take i numbers) ≡ b → twice_behind nat_eq (take i numbers ++ n ∷ []) (drop (i + 1) numbers) ≡ target
      by true t = absurd (true≢false (sym (sym (ap not t) ∙ (sym number-added ∙ accepted))))
      by false t = sym (ap (λ b. b || twice_behind nat_eq (take i numbers ++ n ∷ []) (drop (i + 1) numbers)) t) ∙ counted

  pub counts-more : (more : BTreeSet ℕ) → UpdatesBy nat_cmp (nat_cmp n) seen more true → HasNumbers more (take (i + 1) numbers)
  counts-more more updates = record {
    has = λ m.
        updates.0 m
        ∙ (by m (is_eq (nat_cmp n m)) (is_eq-nat_cmp n m)
        ∙ (sym (list_any-append (nat_eq m) (take i numbers) (n ∷ [])) ∙ ap (list_any (nat_eq m)) (sym numbers-more)));
  }
    where
      by : (m : ℕ) (b : Bool) → b ≡ nat_eq n m → (if b then true else contains_by (nat_cmp m) seen) ≡ (list_any (nat_eq m) (take i numbers) ||
          list_any (nat_eq m) (n ∷ []))
      by m true f = or_true (list_any (nat_eq m) (take i numbers)) (nat_eq m n) (nat_eq-flips m n ∙ sym f)
      by m false f =
          has.has m ∙ (sym (or_false (list_any (nat_eq m) (take i numbers))) ∙
          ap (λ b. list_any (nat_eq m) (take i numbers) || (b || false)) (f ∙ nat_eq-flips n m))
