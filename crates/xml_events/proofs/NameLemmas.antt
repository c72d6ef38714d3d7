-- A table of names, kept as namespace names and pairs, as the list of names that contracts see.
use Rattle.std.proofs.Common.{◌≡◌, ℕ, zero, suc, ◌+◌, ◌<◌, ◌≤◌, Bool, true, false, not, cond, ◌&&◌, ◌||◌, ◌==◌, List, [], ◌∷◌, ◌++◌, length, get_or, refl, sym}
use Rattle.std.proofs.Common.{ap, subst, ◌∙◌, arith, string_bytes, chars, true≢false, Some, None, Result, Ok, Err, IfOk, OnOk, OnErr, option_map, position}
use Rattle.std.proofs.Common.{if◌then◌else◌, inl, inr}
use Rattle.std.specs.Global.{Global}
use Rattle.std.specs.Prelude.{String}
use Rattle.std.specs.Str.{bytes_eq, IsUtf8}
use Rattle.std.specs.List.{list_any, position_or_len, slice_get}
use Rattle.std.proofs.lemmas.Str.{IsUtf8-string_bytes}
use Rattle.std.proofs.lemmas.List.{map-append, length-append, append-nil}
use Rattle.std.proofs.lemmas.List.Quantifiers.{position-Some}
use Rattle.std.proofs.lemmas.Option.{slice_get_within, get_or_from_slice_get, cond_some}
use Rattle.std.proofs.lemmas.Bool.{cases_lt}
use Rattle.std.proofs.lemmas.Bool.Decides.{nat_tests, same_from_decides, Decides-like, Decides-eqb}
use Rattle.std.proofs.lemmas.Slice.Eq.{bytes_eq-Decides}
use Rattle.inv_base.specs.Tree.{Name}
use Rattle.inv_base.proofs.TextLemmas.{same_chars}
use Rattle.xml_events.specs.declared.kept.Kept.{Kept}
use Rattle.xml_events.specs.Events.{name_at}
use Rattle.xml_events.specs.Names.{same_name, find_name, number_of, with_name, AreDistinct}
use Rattle.xml_events.specs.Places.{is_text, AddsText}
use Rattle.xml_events.specs.NameTables.{space_at, name_of, names_of, IsSpace, AreApart, AreWithin, AreKept, TakesSpace, is_kept, KeepsOne, known, added}
use Rattle.xml_events.proofs.DistinctLemmas.{distinct_kept}
use Rattle.xml_events.proofs.FlipLemmas.{bytes_eq-flips}
use Rattle.xml_events.proofs.PlaceLemmas.{position-cons, position-first, any-here, any-nowhere}

-- texts are equal where their characters are, also the other way round
same_text : (a b : List ℕ) → IsUtf8 a → IsUtf8 b → bytes_eq (chars a) (chars b) ≡ bytes_eq b a
same_text a b u v = bytes_eq-flips (chars a) (chars b) ∙ sym (same_chars b a v u)

or_false : (a b : Bool) → (a || b) ≡ false → (a ≡ false) × (b ≡ false)
or_false true b h = absurd (true≢false h)
or_false false b h = (refl, h)

-- Namespace names.
pub space-front : (spaces more : List (String Global)) (n : ℕ) → n < length spaces → space_at (spaces ++ more) n ≡ space_at spaces n
space-front [] more n h = absurd (omega arith)
space-front (space ∷ spaces) more zero h = refl
space-front (space ∷ spaces) more (suc n) h = space-front spaces more n (omega arith)

space-last : (spaces : List (String Global)) (space : String Global) (n : ℕ) → n ≡ length spaces →
    space_at (spaces ++ space ∷ []) n ≡ chars (string_bytes space)
space-last [] space n h = ap (space_at (space ∷ [])) h
space-last (first ∷ spaces) space zero h = absurd (omega arith)
space-last (first ∷ spaces) space (suc n) h = space-last spaces space n (omega arith)

space-get : (spaces : List (String Global)) (n : ℕ) (d : String Global) → n < length spaces → space_at spaces n ≡ chars (string_bytes (get_or spaces n d))
space-get [] n d h = absurd (omega arith)
space-get (space ∷ spaces) zero d h = refl
space-get (space ∷ spaces) (suc n) d h = space-get spaces n d (omega arith)

nowhere : (test : String Global → Bool) (n : ℕ) → position test [] ≡ Some n → ⊥
nowhere test n h = cc

-- one that is found
pub space-found : (spaces : List (String Global)) (uri : List ℕ) (n : ℕ) → Some n ≡ position (λ (s : String Global). bytes_eq uri (string_bytes s)) spaces →
    IsSpace spaces n (chars uri)
space-found [] uri n h = absurd (nowhere (λ (s : String Global). bytes_eq uri (string_bytes s)) n (sym h))
space-found (space ∷ spaces) uri n h =
    let p = position-Some (λ (s : String Global). bytes_eq uri (string_bytes s)) (space ∷ spaces) n space (sym h) in
    record {
      within = p.0;
      is = space-get (space ∷ spaces) n space p.0 ∙ ap chars (sym ((bytes_eq-Decides uri (string_bytes (get_or (space ∷ spaces) n space))).0 p.1));
    }

-- one that isn't there
space-absent : (spaces : List (String Global)) (uri : List ℕ) → IsUtf8 uri → list_any (λ (s : String Global). bytes_eq uri (string_bytes s)) spaces ≡ false →
    (k : ℕ) → k < length spaces → space_at spaces k ≡ chars uri → ⊥
space-absent [] uri u h k l e = omega arith
space-absent (space ∷ spaces) uri u h zero l e =
    let p = or_false (bytes_eq uri (string_bytes space)) _ h in
    true≢false (sym ((bytes_eq-Decides (chars (string_bytes space)) (chars uri)).1 e) ∙
    (same_text (string_bytes space) uri (IsUtf8-string_bytes space) u ∙ p.0))
space-absent (space ∷ spaces) uri u h (suc k) l e =
    let p = or_false (bytes_eq uri (string_bytes space)) _ h in space-absent spaces uri u p.1 k (omega arith) e

apart-more : (spaces : List (String Global)) (space : String Global) → AreApart spaces →
    ((k : ℕ) → k < length spaces → space_at spaces k ≡ chars (string_bytes space) → ⊥) → AreApart (spaces ++ space ∷ [])
apart-more spaces space apart new i j h k e =
    let l : length (spaces ++ space ∷ []) ≡ length spaces + 1 = length-append spaces (space ∷ []) in
    elim (cases_lt i (length spaces)) [
      | inl a ↦ elim (cases_lt j (length spaces)) [
        | inl b ↦ apart i j a b (sym (space-front spaces (space ∷ []) i a) ∙ (e ∙ space-front spaces (space ∷ []) j b))
        | inr b ↦ absurd (new i a (sym (space-front spaces (space ∷ []) i a) ∙ (e ∙ space-last spaces space j (omega (arith, l, k)))))
      ]
      | inr a ↦ elim (cases_lt j (length spaces)) [
        | inl b ↦ absurd (new j b (sym (space-front spaces (space ∷ []) j b) ∙ (sym e ∙ space-last spaces space i (omega (arith, l, h)))))
        | inr b ↦ omega (arith, l, h, k)
      ]
    ]

-- what a look-up says of a name that is there
pub takes-found : {E : Type 0} (spaces : List (String Global)) (uri : List ℕ) (n : ℕ) → AreApart spaces →
    Some n ≡ position (λ (s : String Global). bytes_eq uri (string_bytes s)) spaces
    → TakesSpace {E = E} (Ok n) (chars uri) spaces spaces
takes-found spaces uri n apart h = record { apart = apart; more = []; grown = sym (append-nil spaces); number = space-found spaces uri n h }

-- one that was added
pub takes-new : {E : Type 0} (spaces after : List (String Global)) (uri : List ℕ) (n : ℕ) → AreApart spaces → IsUtf8 uri → None ≡ position (is_text uri) spaces
    → n ≡ length spaces → AddsText uri spaces after
    → TakesSpace {E = E} (Ok n) (chars uri) spaces after
takes-new {E} spaces after uri n apart u absent at adds =
    let space = adds.last in
    let l : length (spaces ++ space ∷ []) ≡ length spaces + 1 = length-append spaces (space ∷ []) in
    subst (λ x. TakesSpace {E = E} (Ok n) (chars uri) spaces x) (sym adds.added) (record {
      apart = apart-more spaces space apart (λ k h e. space-absent spaces uri u (any-nowhere (is_text uri) spaces (sym absent)) k h (e ∙ ap chars adds.is));
      more = space ∷ [];
      grown = refl;
      number = record { within = omega (arith, at, l); is = space-last spaces space n at ∙ ap chars adds.is };
    })

pub takes-none : {E : Type 0} (spaces after : List (String Global)) (uri : List ℕ) (error : E) → AreApart spaces → after ≡ spaces →
    TakesSpace (Err error) uri spaces after
takes-none {E} spaces after uri error apart is =
    subst (λ x. TakesSpace {E = E} (Err error) uri spaces x) (sym is) (record { apart = apart; more = []; grown = sym (append-nil spaces); number = tt })

-- Names in more namespaces.
pub within-more : (n m : ℕ) (keys : List Kept) → n ≤ m → AreWithin n keys → AreWithin m keys
within-more n m [] h w = tt
within-more n m (kept ∷ keys) h w = (omega (arith, w.0), within-more n m keys h w.1)

within-push : (n : ℕ) (keys : List Kept) (kept : Kept) → AreWithin n keys → kept.space < n → AreWithin n (keys ++ kept ∷ [])
within-push n [] kept w h = (h, tt)
within-push n (k ∷ keys) kept w h = (w.0, within-push n keys kept w.1 h)

names-grown : (spaces more : List (String Global)) (keys : List Kept) → AreWithin (length spaces) keys → names_of (spaces ++ more) keys ≡ names_of spaces keys
names-grown spaces more [] w = refl
names-grown spaces more (kept ∷ keys) w =
    let named : List ℕ → Name = λ uri. record { uri = uri; local = chars (string_bytes kept.local) } in
    ap (λ uri. named uri ∷ names_of (spaces ++ more) keys) (space-front spaces more kept.space w.0) ∙
    ap (λ names. name_of spaces kept ∷ names) (names-grown spaces more keys w.1)

-- More namespaces change no name.
pub kept-behind : (spaces grown more : List (String Global)) (keys : List Kept) → AreKept spaces keys → AreApart grown → grown ≡ spaces ++ more →
    AreKept grown keys × (names_of grown keys ≡ names_of spaces keys)
kept-behind spaces grown more keys kept apart is =
    let same : names_of grown keys ≡ names_of spaces keys = ap (λ x. names_of x keys) is ∙ names-grown spaces more keys kept.within in
    let l : length grown ≡ length spaces + length more = ap length is ∙ length-append spaces more in (
      record {
        apart = apart;
        within = within-more (length spaces) (length grown) keys (omega (arith, l)) kept.within;
        distinct =
            subst AreDistinct (sym same) kept.distinct;
      },
      same,
    )

pub kept-grown : {E : Type 0} (result : Result ℕ E) (uri : List ℕ) (spaces after : List (String Global)) (keys : List Kept) → AreKept spaces keys →
    TakesSpace result uri spaces after
    → AreKept after keys × (names_of after keys ≡ names_of spaces keys)
kept-grown result uri spaces after keys kept takes = kept-behind spaces after takes.more keys kept takes.apart takes.grown

-- The test of kept names says which are the name.
tests-name : (spaces : List (String Global)) (apart : AreApart spaces) (n : ℕ) (uri local : List ℕ) → IsSpace spaces n uri → IsUtf8 local
    → (kept : Kept) → kept.space < length spaces → is_kept n local kept ≡ same_name (name_of spaces kept) (record { uri = uri; local = chars local })
tests-name spaces apart n uri local space u kept within =
    let numbers : (n == kept.space) ≡ bytes_eq (space_at spaces kept.space) uri =
    same_from_decides _ _ (Decides-eqb n kept.space)
    (Decides-like _ (λ e. apart n kept.space space.within within (space.is ∙ sym e)) (λ e. ap (space_at spaces) (sym e) ∙ space.is)
    (bytes_eq-Decides (space_at spaces kept.space) uri)) in
    ap (λ b. b && bytes_eq local (string_bytes kept.local)) numbers
    ∙ ap (λ b. bytes_eq (space_at spaces kept.space) uri && b) (sym (same_text (string_bytes kept.local) local (IsUtf8-string_bytes kept.local) u))

module _ (spaces : List (String Global)) (test : Kept → Bool) (name : Name) (each : (kept : Kept) → kept.space < length spaces →
    test kept ≡ same_name (name_of spaces kept) name) where
  place-cons : (k : Kept) (keys : List Kept) → test k ≡ false → position_or_len test (k ∷ keys) ≡ 1 + position_or_len test keys
  place-cons k keys e = grind (arith, nat_tests)

  place-first : (k : Kept) (keys : List Kept) → test k ≡ true → position_or_len test (k ∷ keys) ≡ 0
  place-first k keys e = grind (arith, nat_tests)

  -- the number of a name is where it is first found
  pub number_of-at : (keys : List Kept) → AreWithin (length spaces) keys → number_of name (names_of spaces keys) ≡ position_or_len test keys
  number_of-at [] w = refl
  number_of-at (k ∷ keys) w = by (test k) refl (number_of-at keys w.1)
    where
      by : (b : Bool) → test k ≡ b → number_of name (names_of spaces keys) ≡ position_or_len test keys →
          number_of name (names_of spaces (k ∷ keys)) ≡ position_or_len test (k ∷ keys)
      by true e rest = ap (λ b. if b then 0 else 1 + number_of name (names_of spaces keys)) (sym (each k w.0) ∙ e) ∙ sym (place-first k keys e)
      by false e rest = ap (λ b. if b then 0 else 1 + number_of name (names_of spaces keys)) (sym (each k w.0) ∙ e) ∙
          (ap (λ n. 1 + n) rest ∙ sym (place-cons k keys e))

  find_name-at : (keys : List Kept) → AreWithin (length spaces) keys → find_name name (names_of spaces keys) ≡ position test keys
  find_name-at [] w = refl
  find_name-at (k ∷ keys) w = by (test k) refl (find_name-at keys w.1)
    where
      by : (b : Bool) → test k ≡ b → find_name name (names_of spaces keys) ≡ position test keys →
          find_name name (names_of spaces (k ∷ keys)) ≡ position test (k ∷ keys)
      by true e rest = ap (λ b. if b then Some 0 else option_map (λ n. n + 1) (find_name name (names_of spaces keys))) (sym (each k w.0) ∙ e) ∙
          sym (position-first test k keys e)
      by false e rest = ap (λ b. if b then Some 0 else option_map (λ n. n + 1) (find_name name (names_of spaces keys))) (sym (each k w.0) ∙ e) ∙
          (ap (option_map (λ n. n + 1)) rest ∙ sym (position-cons test k keys e))

  -- a name that is there leaves the table as it was
  with_name-known : (keys : List Kept) → AreWithin (length spaces) keys → list_any test keys ≡ true →
      with_name (names_of spaces keys) name ≡ names_of spaces keys
  with_name-known [] w h = absurd (true≢false (sym h))
  with_name-known (k ∷ keys) w h = by (test k) refl (λ e. with_name-known keys w.1 (rw e at h))
    where
      by : (b : Bool) → test k ≡ b → (test k ≡ false → with_name (names_of spaces keys) name ≡ names_of spaces keys) →
          with_name (names_of spaces (k ∷ keys)) name ≡ names_of spaces (k ∷ keys)
      by true e rest = rw (sym (each k w.0), e) refl
      by false e rest = rw (sym (each k w.0), e) (ap (λ names. name_of spaces k ∷ names) (rest e))

  -- a new one goes last
  with_name-new : (keys : List Kept) → AreWithin (length spaces) keys → list_any test keys ≡ false →
      with_name (names_of spaces keys) name ≡ names_of spaces keys ++ name ∷ []
  with_name-new [] w h = refl
  with_name-new (k ∷ keys) w h = by (test k) refl (λ e. with_name-new keys w.1 (rw e at h))
    where
      by : (b : Bool) → test k ≡ b → (test k ≡ false → with_name (names_of spaces keys) name ≡ names_of spaces keys ++ name ∷ []) →
          with_name (names_of spaces (k ∷ keys)) name ≡ names_of spaces (k ∷ keys) ++ name ∷ []
      by true e rest = absurd (true≢false (rw e at h))
      by false e rest = rw (sym (each k w.0), e) (ap (λ names. name_of spaces k ∷ names) (rest e))

  pub found_sought : (keys : List Kept) (i j : ℕ) (names : List Name) → AreWithin (length spaces) keys → names_of spaces keys ≡ names →
      Some i ≡ position test keys → j ≡ i → Some j ≡ find_name name names
  found_sought keys i j names w view at same = ap Some same ∙ (at ∙ (sym (find_name-at keys w) ∙ ap (find_name name) view))

  pub not_found : (keys : List Kept) (names : List Name) → AreWithin (length spaces) keys → names_of spaces keys ≡ names → None ≡ position test keys →
      None ≡ find_name name names
  not_found keys names w view at = at ∙ (sym (find_name-at keys w) ∙ ap (find_name name) view)

place_behind : (test : Kept → Bool) (keys : List Kept) → list_any test keys ≡ false → position_or_len test keys ≡ length keys
place_behind test [] h = refl
place_behind test (k ∷ keys) h =
    let p = or_false (test k) (list_any test keys) h in ap (λ b. cond (not b) (1 + position_or_len test keys) 0) p.0 ∙
    (ap (λ n. 1 + n) (place_behind test keys p.1) ∙ (let e : 1 + length keys ≡ suc (length keys) = omega arith in e))

-- the number of a new name is how many there are
pub new_place : (test : Kept → Bool) (keys : List Kept) (i : ℕ) → None ≡ position test keys → i ≡ length keys → i ≡ position_or_len test keys
new_place test keys i absent at = at ∙ sym (place_behind test keys (any-nowhere test keys (sym absent)))

-- the number of one that is there is its place
pub found_place : (test : Kept → Bool) (keys : List Kept) (i : ℕ) → Some i ≡ position test keys → i ≡ position_or_len test keys
found_place test keys i at = sym (cond_some _ _ _ (sym at)).1

pub still_known : (space : ℕ) (local : List ℕ) (keys : List Kept) (i : ℕ) → Some i ≡ position (is_kept space local) keys → KeepsOne space local keys keys
still_known space local keys i at = known (any-here (is_kept space local) keys i (sym at))

pub if_ok : {T E P : Type 0} (r : Result T E) → P → OnOk r P
if_ok (Ok x) p = p
if_ok (Err e) p = tt

-- What is kept once a name is numbered.
module _ (old : List Name) (spaces : List (String Global)) (keys : List Kept) (n : ℕ) (uri local : List ℕ) (kept : AreKept spaces keys)
    (view : names_of spaces keys ≡ old) (space : IsSpace spaces n uri)
    (u : IsUtf8 local) where
  abbrev sought : Name
  sought = record { uri = uri; local = chars local }

  each : (k : Kept) → k.space < length spaces → is_kept n local k ≡ same_name (name_of spaces k) sought
  each = tests-name spaces kept.apart n uri local space u

  pub numbered : (id : ℕ) → id ≡ position_or_len (is_kept n local) keys → id ≡ number_of sought old
  numbered id is = is ∙ (sym (number_of-at spaces (is_kept n local) sought each keys kept.within) ∙ ap (number_of sought) view)

  pub named : (all : List Kept) → KeepsOne n local keys all → names_of spaces all ≡ with_name old sought
  named all (known h) = sym (with_name-known spaces (is_kept n local) sought each keys kept.within h) ∙ ap (λ x. with_name x sought) view
  named all (added k h same text) =
      map-append (name_of spaces) keys (k ∷ [])
      ∙ (ap (λ x. names_of spaces keys ++ x ∷ []) (is k same text) ∙
      (sym (with_name-new spaces (is_kept n local) sought each keys kept.within h) ∙ ap (λ x. with_name x sought) view))
    where
      is : (k : Kept) → k.space ≡ n → string_bytes k.local ≡ local → name_of spaces k ≡ sought
      is k same text =
          let both : List ℕ → List ℕ → Name = λ x y. record { uri = x; local = y } in
          ap (λ x. both x (chars (string_bytes k.local))) (ap (space_at spaces) same ∙ space.is) ∙ ap (λ y. both uri (chars y)) text

  pub still-kept : (all : List Kept) → KeepsOne n local keys all → AreKept spaces all
  still-kept all k = record {
    apart = kept.apart;
    within = inside all k;
    distinct = distinct_kept (names_of spaces keys) (names_of spaces all) old sought kept.distinct view (named all k);
  }
    where
      inside : (all : List Kept) → KeepsOne n local keys all → AreWithin (length spaces) all
      inside all (known h) = kept.within
      inside all (added x h same text) = within-push (length spaces) keys x kept.within (subst (λ m. m < length spaces) (sym same) space.within)

-- What is known of a table whose names were asked for one more, in more namespaces.
module _ {E : Type 0} (result : Result ℕ E) (old : List Name) (spaces grown : List (String Global)) (keys after : List Kept) (n : ℕ) (uri local : List ℕ)
    (kept : AreKept spaces keys)
    (view : names_of spaces keys ≡ old) (takes : TakesSpace {E = E} (Ok n) uri spaces grown) (u : IsUtf8 local) where
  abbrev wanted : Name
  wanted = record { uri = uri; local = chars local }

  pub answers-number : IfOk result (λ id. id ≡ position_or_len (is_kept n local) keys) → IfOk result (λ id. id ≡ number_of wanted old)
  answers-number = by result
    where
      by : (r : Result ℕ E) → IfOk r (λ id. id ≡ position_or_len (is_kept n local) keys) → IfOk r (λ id. id ≡ number_of wanted old)
      by (Ok id) is =
          let k = kept-grown (Ok n) uri spaces grown keys kept takes in numbered old grown keys n uri local k.0 (k.1 ∙ view) takes.number u id is
      by (Err e) is = tt

  pub answers-names : OnOk result (KeepsOne n local keys after) → OnOk result (names_of grown after ≡ with_name old wanted)
  answers-names = by result
    where
      by : (r : Result ℕ E) → OnOk r (KeepsOne n local keys after) → OnOk r (names_of grown after ≡ with_name old wanted)
      by (Ok id) is =
          let k = kept-grown (Ok n) uri spaces grown keys kept takes in named old grown keys n uri local k.0 (k.1 ∙ view) takes.number u after is
      by (Err e) is = tt

  pub stays-kept : OnOk result (KeepsOne n local keys after) → OnErr result (after ≡ keys) → AreKept grown after
  stays-kept = by result
    where
      by : (r : Result ℕ E) → OnOk r (KeepsOne n local keys after) → OnErr r (after ≡ keys) → AreKept grown after
      by (Ok id) is same =
          let k = kept-grown (Ok n) uri spaces grown keys kept takes in still-kept old grown keys n uri local k.0 (k.1 ∙ view) takes.number u after is
      by (Err e) is same = let k = kept-grown (Ok n) uri spaces grown keys kept takes in subst (AreKept grown) (sym same) k.0

  pub still-named : OnErr result (after ≡ keys) → OnErr result (names_of grown after ≡ old)
  still-named = by result
    where
      by : (r : Result ℕ E) → OnErr r (after ≡ keys) → OnErr r (names_of grown after ≡ old)
      by (Ok id) same = tt
      by (Err e) same = ap (names_of grown) same ∙ ((kept-grown (Ok n) uri spaces grown keys kept takes).1 ∙ view)

-- What a look-up of a name says, by the number of its namespace name.
module _ (spaces : List (String Global)) (keys : List Kept) (names : List Name) (n : ℕ) (uri : List ℕ) {local : List ℕ} (kept : AreKept spaces keys)
    (view : names_of spaces keys ≡ names)
    (space : IsSpace spaces n uri) (u : IsUtf8 local) where
  pub sought-here : (i j : ℕ) → Some i ≡ position (is_kept n local) keys → j ≡ i → Some j ≡ find_name (record { uri = uri; local = chars local }) names
  sought-here i j at same =
      found_sought spaces (is_kept n local) (record { uri = uri; local = chars local })
      (tests-name spaces kept.apart n uri local space u) keys i j names kept.within view at same

  pub sought-nowhere : None ≡ position (is_kept n local) keys → None ≡ find_name (record { uri = uri; local = chars local }) names
  sought-nowhere at = not_found spaces (is_kept n local) (record { uri = uri; local = chars local })
      (tests-name spaces kept.apart n uri local space u) keys names kept.within view at

-- A name in a namespace that isn't kept isn't in the table.
module _ (spaces : List (String Global)) (uri local : List ℕ) (u : IsUtf8 uri) (absent : None ≡ position (is_text uri) spaces) where
  abbrev lacking : Name
  lacking = record { uri = chars uri; local = chars local }

  differs : (kept : Kept) → kept.space < length spaces → same_name (name_of spaces kept) lacking ≡ false
  differs kept h = by (bytes_eq (space_at spaces kept.space) (chars uri)) refl
    where
      by : (b : Bool) → bytes_eq (space_at spaces kept.space) (chars uri) ≡ b → same_name (name_of spaces kept) lacking ≡ false
      by true e = absurd (space-absent spaces uri u (any-nowhere (is_text uri) spaces (sym absent)) kept.space h
          ((bytes_eq-Decides (space_at spaces kept.space) (chars uri)).0 e))
      by false e = ap (λ b. b && bytes_eq (chars (string_bytes kept.local)) (chars local)) e

  none_there : (keys : List Kept) → AreWithin (length spaces) keys → find_name lacking (names_of spaces keys) ≡ None
  none_there [] w = refl
  none_there (k ∷ keys) w =
      ap (λ b. if b then Some 0 else option_map (λ n. n + 1) (find_name lacking (names_of spaces keys))) (differs k w.0) ∙
      ap (option_map (λ n. n + 1)) (none_there keys w.1)

  pub not_in_space : (keys : List Kept) (names : List Name) → AreWithin (length spaces) keys → names_of spaces keys ≡ names → None ≡ find_name lacking names
  not_in_space keys names w view = sym (none_there keys w) ∙ ap (find_name lacking) view

-- a name of the table by its number
name_at_key : (spaces : List (String Global)) (keys : List Kept) (n : ℕ) (d : Kept) → n < length keys →
    name_at (names_of spaces keys) n ≡ name_of spaces (get_or keys n d)
name_at_key spaces [] n d h = absurd (omega arith)
name_at_key spaces (k ∷ keys) zero d h = refl
name_at_key spaces (k ∷ keys) (suc n) d h = name_at_key spaces keys n d (omega arith)

pub name_at-kept : (spaces : List (String Global)) (keys : List Kept) (i : ℕ) (key : Kept) (names : List Name) (n : ℕ) → slice_get keys i ≡ Some key →
    names_of spaces keys ≡ names → i ≡ n → name_of spaces key ≡ name_at names n
name_at-kept spaces keys i key names n at view same =
    sym (ap (λ x. name_at x n) (sym view)
    ∙ (ap (name_at (names_of spaces keys)) (sym same) ∙
    (name_at_key spaces keys i key (slice_get_within keys i key at) ∙ ap (name_of spaces) (get_or_from_slice_get keys i key key at))))

pub within-kept : (n : ℕ) (keys : List Kept) (i : ℕ) (key : Kept) → slice_get keys i ≡ Some key → AreWithin n keys → key.space < n
within-kept n [] i key h w = cc
within-kept n (k ∷ keys) zero key h w = let same : k ≡ key = cc in subst (λ (x : Kept). x.space < n) same w.0
within-kept n (k ∷ keys) (suc i) key h w = within-kept n keys i key h w.1

pub space-kept : (spaces : List (String Global)) (i : ℕ) (space : String Global) → i < length spaces → space ≡ get_or spaces i space →
    chars (string_bytes space) ≡ space_at spaces i
space-kept spaces i space h e = ap (λ s. chars (string_bytes s)) e ∙ sym (space-get spaces i space h)
