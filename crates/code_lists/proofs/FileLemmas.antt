-- A file of code lists, as `toml` holds it and as its members.
use Rattle.std.proofs.Common.{◌≡◌, ℕ, Bool, true, false, List, [], ◌∷◌, ◌++◌, map, Option, Some, None, option_map, Result, Ok, Err, Less, refl, sym, ap, ◌∙◌}
use Rattle.std.proofs.Common.{if◌then◌else◌, String, string_bytes, codes, chars, append-nil, append_assoc, subst, find, filter}
use Rattle.std.specs.Global.{Global}
use Rattle.std.specs.Str.{IsUtf8, is_utf8}
use Rattle.std.proofs.lemmas.Str.{IsUtf8-from_is_utf8, is_utf8-from_IsUtf8}
use Rattle.std.specs.List.{AllByRecursion}
use Rattle.std.specs.List.Sorted.{IsStrictlySortedBy}
use Rattle.std.specs.Map.{keys_of as entry_keys}
use Rattle.std.specs.String.{string_cmp}
use Rattle.std.specs.Ordering.{is_lt}
use Rattle.std.proofs.lemmas.List.{map-append}
use Rattle.std.proofs.lemmas.Option.{same_Some}
use Rattle.toml.specs.Data.{Data, string, integer, float, boolean, datetime, array, table, Items, item, Members, member, as_str, as_array}
use Rattle.toml.specs.View.{view, members_view}
use Rattle.toml.specs.Parse.{parse_document}
use Rattle.toml.proofs.Views.{Entry}
use Rattle.code_lists.specs.declared.names.List.{List as CodeList}
use Rattle.code_lists.specs.declared.fault.ListFault.{ListFault}
use Rattle.code_lists.specs.declared.fault.ListFault.TheVariants.{NotToml, NotALists, BadCode}
use Rattle.code_lists.specs.ListNames.{list_named}
use Rattle.code_lists.specs.Codes.{is_code, with_code}
use Rattle.code_lists.specs.CodeFiles.{Lists, Offence, built_in_lists, code_of, with_items, given, first_of, first_fault, offences, given_lists, lists_table}
use Rattle.code_lists.specs.CodeFiles.{document_offences, document_of, file_lists}
use Rattle.code_lists.specs.Keys as keys
use Rattle.code_lists.specs.Keys.{keys_of}
use Rattle.code_lists.proofs.KeyLemmas.{key_cmp, keys-view}
use Rattle.code_lists.proofs.OffenceLemmas.{skip_all}

-- the document that bytes are, by what `toml` says
pub document_read : (bytes : List ℕ) (m : Members) → IsUtf8 bytes × (parse_document bytes ≡ Some m) → document_of bytes ≡ Some m
document_read bytes m h = rw (is_utf8-from_IsUtf8 bytes h.0) h.1

pub document_refused : (bytes : List ℕ) → (IsUtf8 bytes → parse_document bytes ≡ None) → document_of bytes ≡ None
document_refused bytes h = by (is_utf8 bytes) refl
  where
    by : (b : Bool) → is_utf8 bytes ≡ b → document_of bytes ≡ None
    by true e = rw e (h (IsUtf8-from_is_utf8 bytes e))
    by false e = rw e refl

-- the codes of an array, item by item
pub code_of_text : (d : Data) (text : List ℕ) → as_str d ≡ Some text → code_of d ≡ (if is_code (chars text) then Some (chars text) else None)
code_of_text (string s) text h = rw (same_Some _ _ h) refl
code_of_text (integer z) text h = cc
code_of_text (float x) text h = cc
code_of_text (boolean b) text h = cc
code_of_text (datetime x) text h = cc
code_of_text (array x) text h = cc
code_of_text (table x) text h = cc

pub code_of_none : (d : Data) → as_str d ≡ None → code_of d ≡ None
code_of_none (string s) h = cc
code_of_none (integer z) h = refl
code_of_none (float x) h = refl
code_of_none (boolean b) h = refl
code_of_none (datetime x) h = refl
code_of_none (array x) h = refl
code_of_none (table x) h = refl

pub with_items-code : (codes : List (List ℕ)) (d : Data) (ds : Items) (code : List ℕ) → code_of d ≡ Some code →
    with_items codes (item d ds) ≡ with_items (with_code codes code) ds
with_items-code codes d ds code h = rw h refl

pub with_items-none : (codes : List (List ℕ)) (d : Data) (ds : Items) → code_of d ≡ None → with_items codes (item d ds) ≡ None
with_items-none codes d ds h = rw h refl

-- what a key gives
module _ (key : List ℕ) (d : Data) where
  pub given-codes : (list : CodeList) (items : Items) (codes : List (List ℕ)) → list_named key ≡ Some list → as_array d ≡ Some items →
      with_items [] items ≡ Some codes → given key d ≡ Ok (list, codes)
  given-codes list items codes a b c = rw (a, b, c) refl

  pub given-bad : (list : CodeList) (items : Items) → list_named key ≡ Some list → as_array d ≡ Some items → with_items [] items ≡ None →
      given key d ≡ Err (BadCode (chars key))
  given-bad list items a b c = rw (a, b, c) refl

  pub given-unnamed : list_named key ≡ None → given key d ≡ Err (NotALists (chars key))
  given-unnamed a = rw a refl

  pub given-no_array : as_array d ≡ None → given key d ≡ Err (NotALists (chars key))
  given-no_array b = by (list_named key) refl
    where
      by : (named : Option CodeList) → list_named key ≡ named → given key d ≡ Err (NotALists (chars key))
      by None a = rw a refl
      by (Some list) a = rw (a, b) refl

-- the offences of members, behind a key that gives a list and behind one that gives none
pub offences-given : (key : List ℕ) (d : Data) (ms : Members) (l : CodeList × List (List ℕ)) → given key d ≡ Ok l → offences (member key d ms) ≡ offences ms
offences-given key d ms l h = rw h refl

pub given_lists-given : (key : List ℕ) (d : Data) (ms : Members) (l : CodeList × List (List ℕ)) → given key d ≡ Ok l →
    given_lists (member key d ms) ≡ l ∷ given_lists ms
given_lists-given key d ms l h = rw h refl

pub offences-fault : (key : List ℕ) (d : Data) (ms : Members) (f : ListFault) → given key d ≡ Err f → offences (member key d ms) ≡ (key, f) ∷ offences ms
offences-fault key d ms f h = rw h refl

-- the offences of later keys
offences_after : (k : String Global) (es : List Entry) → AllByRecursion (λ y. string_cmp k y ≡ Less) (entry_keys es) →
    AllByRecursion (λ (x : Offence). key_cmp (string_bytes k) x.0 ≡ Less) (offences (members_view es))
offences_after k [] h = tt
offences_after k (e ∷ es) h = by (given (string_bytes e.0) (view e.1)) refl (offences_after k es h.1)
  where
    by : (r : Result (CodeList × List (List ℕ)) ListFault) → given (string_bytes e.0) (view e.1) ≡ r →
        AllByRecursion (λ (x : Offence). key_cmp (string_bytes k) x.0 ≡ Less) (offences (members_view es))
        → AllByRecursion (λ (x : Offence). key_cmp (string_bytes k) x.0 ≡ Less) (offences (members_view (e ∷ es)))
    by (Ok l) g rest = subst (λ os. AllByRecursion (λ (x : Offence). key_cmp (string_bytes k) x.0 ≡ Less) os)
        (sym (offences-given (string_bytes e.0) (view e.1) (members_view es) l g)) rest
    by (Err f) g rest = subst (λ os. AllByRecursion (λ (x : Offence). key_cmp (string_bytes k) x.0 ≡ Less) os)
        (sym (offences-fault (string_bytes e.0) (view e.1) (members_view es) f g)) (h.0, rest)

-- of ascending keys the first is the first that offends, if it does
pub fault_here : (e : Entry) (es : List Entry) (f : ListFault) → IsStrictlySortedBy string_cmp (entry_keys (e ∷ es)) →
    given (string_bytes e.0) (view e.1) ≡ Err f → first_fault (offences (members_view (e ∷ es))) ≡ Some f
unfolding IsStrictlySortedBy
fault_here e es f s g =
    let o : Offence = (string_bytes e.0, f) in
    let rest = offences (members_view es) in
    let alone : first_of (o ∷ rest) ≡ Some o = ap (λ os. first_of (o ∷ os)) (sym (append-nil rest)) ∙ skip_all o rest [] (offences_after e.0 es s.0) in
    ap (λ os. first_fault os) (offences-fault (string_bytes e.0) (view e.1) (members_view es) f g) ∙ ap (option_map (λ (o : Offence). o.1)) alone

pub later_keys : (e : Entry) (es : List Entry) → IsStrictlySortedBy string_cmp (entry_keys (e ∷ es)) → IsStrictlySortedBy string_cmp (entry_keys es)
unfolding IsStrictlySortedBy
later_keys e es s = s.1

-- the key isn't `lists`
abbrev pub is_other : List ℕ → Bool
is_other = keys.is_other (codes "lists" ∷ [])

abbrev pub not_a_list : List ℕ → Offence
not_a_list key = (key, NotALists (chars key))

abbrev texts : List (String Global) → List (List ℕ)
texts ks = map string_bytes ks

others_after : (k : String Global) (ks : List (String Global)) → AllByRecursion (λ y. string_cmp k y ≡ Less) ks
    → AllByRecursion (λ (x : Offence). key_cmp (string_bytes k) x.0 ≡ Less) (map not_a_list (filter is_other (texts ks)))
others_after k [] h = tt
others_after k (y ∷ ks) h = by (is_other (string_bytes y)) refl (others_after k ks h.1)
  where
    by : (b : Bool) → is_other (string_bytes y) ≡ b → AllByRecursion (λ (x : Offence). key_cmp (string_bytes k) x.0 ≡ Less)
        (map not_a_list (filter is_other (texts ks)))
        → AllByRecursion (λ (x : Offence). key_cmp (string_bytes k) x.0 ≡ Less) (map not_a_list (filter is_other (texts (y ∷ ks))))
    by true e rest = rw e (h.0, rest)
    by false e rest = rw e rest

-- the first of the other keys is the first that offends, but for what else there is
first_other : (ks : List (String Global)) (os : List Offence) (key : List ℕ) → IsStrictlySortedBy string_cmp ks → find is_other (texts ks) ≡ Some key
    → first_of (map not_a_list (filter is_other (texts ks)) ++ os) ≡ first_of (not_a_list key ∷ os)
unfolding IsStrictlySortedBy
first_other [] os key s f = cc
first_other (y ∷ ks) os key s f = by (is_other (string_bytes y)) refl (first_other ks os key s.1)
  where
    by : (b : Bool) → is_other (string_bytes y) ≡ b →
        (find is_other (texts ks) ≡ Some key → first_of (map not_a_list (filter is_other (texts ks)) ++ os) ≡ first_of (not_a_list key ∷ os)) →
        first_of (map not_a_list (filter is_other (texts (y ∷ ks))) ++ os) ≡ first_of (not_a_list key ∷ os)
    by true e rest =
        let same : string_bytes y ≡ key = same_Some _ _ (rw e at f) in
        rw e (skip_all (not_a_list (string_bytes y)) (map not_a_list (filter is_other (texts ks))) os (others_after y ks s.0) ∙
        ap (λ k. first_of (not_a_list k ∷ os)) same)
    by false e rest = rw e (rest (rw e at f))

no_others : (ks : List (List ℕ)) → find is_other ks ≡ None → filter is_other ks ≡ []
no_others [] f = refl
no_others (k ∷ ks) f = by (is_other k) refl (no_others ks)
  where
    by : (b : Bool) → is_other k ≡ b → (find is_other ks ≡ None → filter is_other ks ≡ []) → filter is_other (k ∷ ks) ≡ []
    by true e rest = let impossible : Some k ≡ None = rw e at f in cc
    by false e rest = rw e (rest (rw e at f))

-- what a document without the table lacks
abbrev missing : Option Members → List (List ℕ)
missing lists = elim lists [ None ↦ codes "lists" ∷ [] | Some ms ↦ [] ]

module _ (es : List Entry) where
  parts : first_of (document_offences (members_view es)) ≡ first_of (map not_a_list (filter is_other (texts (entry_keys es))) ++
      map not_a_list (missing (lists_table (members_view es))))
  parts = ap first_of (map-append not_a_list (filter is_other (keys_of (members_view es))) (missing (lists_table (members_view es)))
      ∙ ap (λ ks. map not_a_list (filter is_other ks) ++ map not_a_list (missing (lists_table (members_view es)))) (keys-view es))

  module _ (sorted : IsStrictlySortedBy string_cmp (entry_keys es)) where
    with_other : (key : List ℕ) → find is_other (keys_of (members_view es)) ≡ Some key →
        first_of (document_offences (members_view es)) ≡ first_of (not_a_list key ∷ map not_a_list (missing (lists_table (members_view es))))
    with_other key f = parts ∙ first_other (entry_keys es) (map not_a_list (missing (lists_table (members_view es)))) key sorted
        (ap (find is_other) (sym (keys-view es)) ∙ f)

    -- a table, and another key
    pub other_offends : (ms : Members) (key : List ℕ) → lists_table (members_view es) ≡ Some ms → find is_other (keys_of (members_view es)) ≡ Some key →
        first_of (document_offences (members_view es)) ≡ Some (not_a_list key)
    other_offends ms key t f = with_other key f ∙ ap (λ m. first_of (not_a_list key ∷ map not_a_list (missing m))) t

    -- no table, and another key, which is first or isn't
    pub other_first : (key : List ℕ) → lists_table (members_view es) ≡ None → find is_other (keys_of (members_view es)) ≡ Some key →
        is_lt (key_cmp (codes "lists") key) ≡ false → first_of (document_offences (members_view es)) ≡ Some (not_a_list key)
    other_first key t f o = with_other key f ∙ (ap (λ m. first_of (not_a_list key ∷ map not_a_list (missing m))) t ∙
        ap (λ b. Some (if b then not_a_list (codes "lists") else not_a_list key)) o)

    pub lists_first : (key : List ℕ) → lists_table (members_view es) ≡ None → find is_other (keys_of (members_view es)) ≡ Some key →
        is_lt (key_cmp (codes "lists") key) ≡ true → first_of (document_offences (members_view es)) ≡ Some (not_a_list (codes "lists"))
    lists_first key t f o = with_other key f ∙ (ap (λ m. first_of (not_a_list key ∷ map not_a_list (missing m))) t ∙
        ap (λ b. Some (if b then not_a_list (codes "lists") else not_a_list key)) o)

  without_other : find is_other (keys_of (members_view es)) ≡ None →
      first_of (document_offences (members_view es)) ≡ first_of (map not_a_list (missing (lists_table (members_view es))))
  without_other f = ap (λ ks. first_of (map not_a_list (ks ++ missing (lists_table (members_view es))))) (no_others (keys_of (members_view es)) f)

  -- the table alone, and nothing at all
  pub no_offence : (ms : Members) → lists_table (members_view es) ≡ Some ms → find is_other (keys_of (members_view es)) ≡ None →
      first_of (document_offences (members_view es)) ≡ None
  no_offence ms t f = without_other f ∙ ap (λ m. first_of (map not_a_list (missing m))) t

  pub lists_missing : lists_table (members_view es) ≡ None → find is_other (keys_of (members_view es)) ≡ None →
      first_of (document_offences (members_view es)) ≡ Some (not_a_list (codes "lists"))
  lists_missing t f = without_other f ∙ ap (λ m. first_of (map not_a_list (missing m))) t

-- a turn of the walk over the table
module _ (it : List Entry) (e : Entry) (rest es : List Entry) (step : it ≡ e ∷ rest) (sorted : IsStrictlySortedBy string_cmp (entry_keys it))
    (same : offences (members_view it) ≡ offences (members_view es)) (name : List ℕ) (is : name ≡ string_bytes e.0) where
  pub fault_met : (f : ListFault) → given name (view e.1) ≡ Err f → first_fault (offences (members_view es)) ≡ Some f
  fault_met f g =
      ap (λ os. first_fault os) (sym same ∙ ap (λ es. offences (members_view es)) step)
      ∙ fault_here e rest f (subst (λ es. IsStrictlySortedBy string_cmp (entry_keys es)) step sorted) (ap (λ k. given k (view e.1)) (sym is) ∙ g)

  pub list_met : (l : CodeList × List (List ℕ)) (found more base : Lists) → given name (view e.1) ≡ Ok l → found ++ given_lists (members_view it) ≡ base ++
      given_lists (members_view es) → more ≡ found ++ l ∷ []
      → IsStrictlySortedBy string_cmp (entry_keys rest) ×
      ((offences (members_view rest) ≡ offences (members_view es)) × (more ++ given_lists (members_view rest) ≡ base ++ given_lists (members_view es)))
  list_met l found more base g sofar added =
      let here : given (string_bytes e.0) (view e.1) ≡ Ok l = ap (λ k. given k (view e.1)) (sym is) ∙ g in (
        later_keys e rest (subst (λ es. IsStrictlySortedBy string_cmp (entry_keys es)) step sorted),
        (
          sym (offences-given (string_bytes e.0) (view e.1) (members_view rest) l here) ∙ (ap (λ es. offences (members_view es)) (sym step) ∙ same),
          ap (λ x. x ++ given_lists (members_view rest)) added
              ∙ (append_assoc found (l ∷ []) (given_lists (members_view rest))
              ∙ (ap (λ x. found ++ x) (sym (given_lists-given (string_bytes e.0) (view e.1) (members_view rest) l here) ∙
              ap (λ es. given_lists (members_view es)) (sym step))
              ∙ sofar)),
        ),
      )

-- the lists of a file, or its first fault, by its parts
abbrev judged : Option ListFault → Option Members → Result Lists ListFault
judged first lists = elim first [
  | Some fault ↦ Err fault
  | None ↦ elim lists [
    | None ↦ Err (NotALists (codes "lists"))
    | Some ms ↦ elim (first_fault (offences ms)) [ Some fault ↦ Err fault | None ↦ Ok (built_in_lists ++ given_lists ms) ]
  ]
]

abbrev judged_table : Option ListFault → Members → Result Lists ListFault
judged_table first ms = elim first [ Some fault ↦ Err fault | None ↦ Ok (built_in_lists ++ given_lists ms) ]

module _ (bytes : List ℕ) where
  file-of : (read : Option Members) → document_of bytes ≡ read →
      file_lists bytes ≡ elim read [ None ↦ Err NotToml | Some document ↦ judged (first_fault (document_offences document)) (lists_table document) ]
  file-of read h = ap (λ read. elim read [ None ↦ Err NotToml | Some document ↦ judged (first_fault (document_offences document)) (lists_table document) ]) h

  pub file-no_toml : document_of bytes ≡ None → file_lists bytes ≡ Err NotToml
  file-no_toml h = file-of None h

  module _ (document : Members) (read : document_of bytes ≡ Some document) where
    pub file-other : (o : Offence) → first_of (document_offences document) ≡ Some o → file_lists bytes ≡ Err o.1
    file-other o h = file-of (Some document) read ∙ ap (λ first. judged (option_map (λ (o : Offence). o.1) first) (lists_table document)) h

    module _ (alone : first_of (document_offences document) ≡ None) (ms : Members) (there : lists_table document ≡ Some ms) where
      file-table : file_lists bytes ≡ judged_table (first_fault (offences ms)) ms
      file-table = file-of (Some document) read ∙ (ap (λ first. judged (option_map (λ (o : Offence). o.1) first) (lists_table document)) alone ∙
          ap (judged None) there)

      pub file-fault : (f : ListFault) → first_fault (offences ms) ≡ Some f → file_lists bytes ≡ Err f
      file-fault f h = file-table ∙ ap (λ first. judged_table first ms) h

      pub file-lists : first_fault (offences ms) ≡ None → file_lists bytes ≡ Ok (built_in_lists ++ given_lists ms)
      file-lists h = file-table ∙ ap (λ first. judged_table first ms) h
