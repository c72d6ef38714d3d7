-- The terms of a file are an extension.
use Rattle.std.proofs.Common.{◌≡◌, ℕ, ℤ, Bool, true, false, not, ◌&&◌, ◌||◌, ◌==◌, nat_lt, nat_le, ◌<◌, ◌≤◌, ◌+◌, List, [], ◌∷◌, length, Option, Some, None}
use Rattle.std.proofs.Common.{Result, Ok, Err, refl, sym, ap, ◌∙◌, arith, find, codes, chars, is_some, suc, le-leb, subst, bytes_eq, if◌then◌else◌}
use Rattle.std.specs.Prelude.{pos, negsuc}
use Rattle.std.specs.Option.{option_map, option_and_then}
use Rattle.std.specs.List.{list_all, list_any, slice_split, before_first, after_first, count_by}
use Rattle.std.proofs.lemmas.Bool.{and_parts, false≢true}
use Rattle.std.proofs.lemmas.Bool.Decides.{nat_tests}
use Rattle.std.proofs.lemmas.List.Splits.{length-slice_split}
use Rattle.std.proofs.lemmas.Option.{cond_some, option_and_then_some, same_Some, none-some}
use Rattle.toml.specs.Data.{Data, Items, no_items, item, Members, get_member, as_str, as_integer, as_table}
use Rattle.code_lists.specs.CodeFiles.{document_of}
use Rattle.term_table.specs.declared.terms.DataType.{DataType}
use Rattle.term_table.specs.Rows.{is_base64}
use Rattle.bind_rows.specs.declared.names.Namespace.{Namespace}
use Rattle.bind_rows.specs.declared.names.Namespace.TheVariants as spaces
use Rattle.bind_rows.specs.declared.names.ElementName.{ElementName}
use Rattle.bind_rows.specs.Namespaces.{prefix_of}
use Rattle.bind_rows.specs.Same.{same_namespace}
use Rattle.extension_files.specs.declared.terms.ExtPlace.{ExtPlace}
use Rattle.extension_files.specs.declared.terms.ExtTerm.{ExtTerm}
use Rattle.extension_files.specs.declared.terms.Paths.{Paths}
use Rattle.extension_files.specs.declared.fault.ExtFault.{ExtFault}
use Rattle.extension_files.specs.declared.fault.ExtFault.TheVariants.{NotToml, NotAnExtension, BadTerm, Memory}
use Rattle.extension_files.specs.Words.{place_named, data_type_named, word_of_letter, added_data_types}
use Rattle.extension_files.specs.PathTexts.{is_slash, is_colon, is_local, parts_of, name_of, names_of, path_of}
use Rattle.extension_files.specs.TermTables.{ubl_spaces, cii_spaces, text_at, integer_at, number_above, number_of, place_of, data_type_of, head_in}
use Rattle.extension_files.specs.TermTables.{other_key_of}
use Rattle.extension_files.specs.TermTables.{head_of, path_at, has_path, some_paths, paths_of, term_of}
use Rattle.code_lists.specs.Keys.{other_key}
use Rattle.extension_files.specs.ExtensionFiles.{value_term, before_terms, terms_from, term_tables, document_terms, file_terms}
use Rattle.extension_files.specs.Extensions.{is_name, is_path, is_path_or_none, are_paths, are_terms, is_extension}
use Rattle.extension_files.proofs.PathLemmas.{make, parts-fine}
use Rattle.extension_files.proofs.TableLemmas.{Head, at_key, second, third, made}
use Rattle.extension_files.proofs.FileLemmas.{Terms, behind-none, tables-turn, tables-bad, tables-end, rest_of, document-other, document-none, document-tables}
use Rattle.extension_files.proofs.FileLemmas.{file-no_toml, file-document}

-- what is found passes what all pass
found-all : {X : Type 0} (p q : X → Bool) (xs : List X) (x : X) → find p xs ≡ Some x → list_all q xs ≡ true → q x ≡ true
found-all p q [] x f h = cc
found-all p q (y ∷ ys) x f h = by (p y) refl (and_parts (q y) (list_all q ys) h) (found-all p q ys x)
  where
    by : (b : Bool) → p y ≡ b → (q y ≡ true) × (list_all q ys ≡ true) → (find p ys ≡ Some x → list_all q ys ≡ true → q x ≡ true) → q x ≡ true
    by true e parts rest = ap q (sym (same_Some _ _ (rw e at f))) ∙ parts.0
    by false e parts rest = rest (rw e at f) parts.1

-- what is found is there
found-any : {X : Type 0} (p : X → Bool) (same : X → X → Bool) (itself : (x : X) → same x x ≡ true) (xs : List X) (x : X) → find p xs ≡ Some x →
    list_any (same x) xs ≡ true
found-any p same itself [] x f = cc
found-any p same itself (y ∷ ys) x f = by (p y) refl (found-any p same itself ys x)
  where
    or_true : (b : Bool) → (b || true) ≡ true
    or_true true = refl
    or_true false = refl

    by : (b : Bool) → p y ≡ b → (find p ys ≡ Some x → list_any (same x) ys ≡ true) → list_any (same x) (y ∷ ys) ≡ true
    by true e rest = ap (λ b. b || list_any (same x) ys) (ap (same x) (same_Some _ _ (rw e at f)) ∙ itself x)
    by false e rest = ap (λ b. same x y || b) (rest (rw e at f)) ∙ or_true (same x y)

namespace-itself : (space : Namespace) → same_namespace space space ≡ true
namespace-itself spaces.UblInvoice = refl
namespace-itself spaces.UblCreditNote = refl
namespace-itself spaces.UblAggregate = refl
namespace-itself spaces.UblBasic = refl
namespace-itself spaces.CiiInvoice = refl
namespace-itself spaces.CiiAggregate = refl
namespace-itself spaces.CiiUnqualified = refl
namespace-itself spaces.CiiQualified = refl

join-by : (a b : Bool) → a ≡ true → b ≡ true → (a && b) ≡ true
join-by a b h k = ap (λ x. x && b) h ∙ k

-- names of a path
name-fine : (spaces : List Namespace) (text : List ℕ) (name : ElementName) → name_of spaces text ≡ Some name → is_name spaces name ≡ true
name-fine spaces text name h = by (parts_of spaces text) refl
  where
    fine : (parts : Namespace × List ℕ) → parts_of spaces text ≡ Some parts → is_name spaces (make parts) ≡ true
    fine parts e =
        let (local, space) = parts-fine spaces (before_first is_colon text) (after_first is_colon text) parts.0 parts.1 e in
        join-by _ _ (found-any (λ space. bytes_eq (prefix_of space) (before_first is_colon text)) same_namespace namespace-itself spaces parts.0 space) local

    by : (o : Option (Namespace × List ℕ)) → parts_of spaces text ≡ o → is_name spaces name ≡ true
    by None e = absurd (none-some name (ap (option_map make) (sym e) ∙ h))
    by (Some parts) e = ap (is_name spaces) (sym (same_Some (make parts) name (ap (option_map make) (sym e) ∙ h))) ∙ fine parts e

abbrev joined : Option (List ElementName) → Option ElementName → Option (List ElementName)
joined more name = option_and_then (λ name. option_map (λ names. name ∷ names) more) name

names-fine : (spaces : List Namespace) (texts : List (List ℕ)) (names : List ElementName) → names_of spaces texts ≡ Some names → (length names ≡ length texts) ×
    (list_all (is_name spaces) names ≡ true)
names-fine spaces [] names h = let none : [] ≡ names = same_Some _ _ h in (ap length (sym none), ap (list_all (is_name spaces)) (sym none))
names-fine spaces (text ∷ texts) names h = by (name_of spaces text) (names_of spaces texts) refl refl (names-fine spaces texts)
  where
    by : (name : Option ElementName) (more : Option (List ElementName)) → name_of spaces text ≡ name → names_of spaces texts ≡ more
        → ((names : List ElementName) → names_of spaces texts ≡ Some names → (length names ≡ length texts) × (list_all (is_name spaces) names ≡ true))
        → (length names ≡ length (text ∷ texts)) × (list_all (is_name spaces) names ≡ true)
    by None more e f rest = absurd (none-some names (ap (joined (names_of spaces texts)) (sym e) ∙ h))
    by (Some name) None e f rest =
        absurd (none-some names (ap (option_map (λ names. name ∷ names)) (sym f) ∙ (ap (joined (names_of spaces texts)) (sym e) ∙ h)))
    by (Some name) (Some more) e f rest =
        let is : (name ∷ more) ≡ names = same_Some (name ∷ more) names (ap (option_map (λ names. name ∷ names)) (sym f) ∙
        (ap (joined (names_of spaces texts)) (sym e) ∙ h)) in
        let (count, fine) = rest more f in
        (ap length (sym is) ∙ ap suc count, ap (list_all (is_name spaces)) (sym is) ∙ join-by _ _ (name-fine spaces text name e) fine)

abbrev limited : Option (List ElementName) → Bool → Option (List ElementName)
limited names b = if b then names else None

path-fine : (spaces : List Namespace) (text : List ℕ) (names : List ElementName) → path_of spaces text ≡ Some names → is_path spaces names ≡ true
path-fine spaces text names h = by (nat_le (length (slice_split is_slash text)) 20) refl
  where
    by : (b : Bool) → nat_le (length (slice_split is_slash text)) 20 ≡ b → is_path spaces names ≡ true
    by false e = absurd (none-some names (ap (limited (names_of spaces (slice_split is_slash text))) (sym e) ∙ h))
    by true e =
        let (count, fine) = names-fine spaces (slice_split is_slash text) names (ap (limited (names_of spaces (slice_split is_slash text))) (sym e) ∙ h) in
        let some : nat_le 1 (count_by is_slash text + 1) ≡ true = le-leb 1 (count_by is_slash text + 1) (omega arith) in
        let low : nat_le 1 (length names) ≡ true = ap (nat_le 1) (count ∙ length-slice_split is_slash text) ∙ some in
        let high : nat_le (length names) 20 ≡ true = ap (λ n. nat_le n 20) count ∙ e in
        join-by _ _ low (join-by _ _ high fine)

-- a path at a key
given-fine : (spaces : List Namespace) (d : Data) (path : Option (List ElementName)) → option_map Some (option_and_then (path_of spaces) (as_str d)) ≡ Some path
    → is_path_or_none spaces path ≡ true
given-fine spaces d path h = by (option_and_then (path_of spaces) (as_str d)) refl
  where
    by : (o : Option (List ElementName)) → option_and_then (path_of spaces) (as_str d) ≡ o → is_path_or_none spaces path ≡ true
    by None e = absurd (none-some _ (ap (option_map Some) (sym e) ∙ h))
    by (Some names) e = ap (is_path_or_none spaces) (sym (same_Some _ _ (ap (option_map Some) (sym e) ∙ h)))
        ∙ option_and_then_some (path_of spaces) (as_str d) names e (λ text there is. path-fine spaces text names is)

key-fine : (spaces : List Namespace) (key : List ℕ) (ms : Members) (path : Option (List ElementName)) → path_at spaces key ms ≡ Some path →
    is_path_or_none spaces path ≡ true
key-fine spaces key ms path h = by (get_member key ms) refl
  where
    by : (o : Option Data) → get_member key ms ≡ o → is_path_or_none spaces path ≡ true
    by None e = ap (is_path_or_none spaces) (sym (same_Some None path (ap (at_key spaces key ms) (sym e) ∙ h)))
    by (Some d) e = given-fine spaces d path (ap (at_key spaces key ms) (sym e) ∙ h)

all-fine : (all paths : Paths) → is_path_or_none ubl_spaces all.ubl ≡ true → is_path_or_none ubl_spaces all.credit_note ≡ true →
    is_path_or_none cii_spaces all.cii ≡ true
    → some_paths all ≡ Some paths → are_paths paths ≡ true
all-fine all paths a b c h =
    let (some, is) = cond_some (has_path all) all paths h in
    ap are_paths (sym is) ∙ join-by _ _ a (join-by _ _ b (join-by _ _ c some))

paths-fine : (ms : Members) (paths : Paths) → paths_of ms ≡ Some paths → are_paths paths ≡ true
paths-fine ms paths h =
    option_and_then_some (λ ubl. second ms ubl (path_at ubl_spaces (codes "cn") ms)) (path_at ubl_spaces (codes "ubl") ms) paths h
    (λ ubl at_ubl h. option_and_then_some (λ credit_note. third ms ubl credit_note (path_at cii_spaces (codes "cii") ms))
    (path_at ubl_spaces (codes "cn") ms) paths h
    (λ credit_note at_credit_note h. option_and_then_some (λ cii. some_paths (record { ubl = ubl; credit_note = credit_note; cii = cii }))
    (path_at cii_spaces (codes "cii") ms) paths h
    (λ cii at_cii h. all-fine (record { ubl = ubl; credit_note = credit_note; cii = cii }) paths (key-fine ubl_spaces (codes "ubl") ms ubl at_ubl)
    (key-fine ubl_spaces (codes "cn") ms credit_note at_credit_note) (key-fine cii_spaces (codes "cii") ms cii at_cii) h)))

-- the number and the type of a term
number-fine : (before : ℕ) (z : ℤ) (n : ℕ) → number_above before z ≡ Some n → (nat_lt before n ≡ true) × (nat_le n 99 ≡ true)
number-fine before (pos m) n h =
    let (fine, is) = cond_some (nat_lt before m && nat_le m 99) m n h in
    let (above, most) = and_parts (nat_lt before m) (nat_le m 99) fine in
    (ap (nat_lt before) (sym is) ∙ above, ap (λ n. nat_le n 99) (sym is) ∙ most)
number-fine before (negsuc m) n h = absurd (none-some _ h)

record IsFine (before : ℕ) (term : ExtTerm) : Type 0 where
  above : nat_lt before term.number ≡ true
  most : nat_le term.number 99 ≡ true
  data_type : not (is_base64 term.data_type) ≡ true
  paths : are_paths term.paths ≡ true

abbrev IsFineHead : ℕ → Head → Type 0
IsFineHead before head = (nat_lt before head.0 ≡ true) × (nat_le head.0 99 ≡ true) × (not (is_base64 head.2) ≡ true)

head-parts : (before : ℕ) (ms : Members) (head : Head) → head_in before ms ≡ Some head → IsFineHead before head
head-parts before ms head h =
    option_and_then_some (λ number. option_and_then (λ place. option_map (λ data_type. (number, place, data_type)) (data_type_of ms)) (place_of ms))
    (number_of before ms) head h
    (λ number at_number h. option_and_then_some (λ place. option_map (λ data_type. (number, place, data_type)) (data_type_of ms)) (place_of ms) head h
    (λ place at_place h. by number place (number_at number at_number) (data_type_of ms) refl h))
  where
    number_at : (n : ℕ) → number_of before ms ≡ Some n → (nat_lt before n ≡ true) × (nat_le n 99 ≡ true)
    number_at n e = option_and_then_some (number_above before) (integer_at (codes "number") ms) n e (λ z there is. number-fine before z n is)

    letter_at : (data_type : DataType) → data_type_of ms ≡ Some data_type → not (is_base64 data_type) ≡ true
    letter_at data_type e =
        option_and_then_some data_type_named (text_at (codes "type") ms) data_type e
        (λ word there is. found-all (λ data_type. bytes_eq (word_of_letter data_type) word) (λ data_type. not (is_base64 data_type)) added_data_types
        data_type is refl)

    by : (number : ℕ) (place : ExtPlace) → (nat_lt before number ≡ true) × (nat_le number 99 ≡ true) → (o : Option DataType) → data_type_of ms ≡ o
        → option_map (λ data_type. (number, place, data_type)) (data_type_of ms) ≡ Some head → IsFineHead before head
    by number place fine None e h = absurd (none-some _ (ap (option_map (λ data_type. (number, place, data_type))) (sym e) ∙ h))
    by number place fine (Some data_type) e h =
        let is : ◌≡◌ {A = Head} (number, place, data_type) head = same_Some _ _ (ap (option_map (λ data_type. (number, place, data_type))) (sym e) ∙ h) in
        let all : IsFineHead before (number, place, data_type) = (fine.0, fine.1, letter_at data_type e) in
        subst (IsFineHead before) is all

abbrev unless : Option Head → Bool → Option Head
unless head b = if b then None else head

head-fine : (before : ℕ) (ms : Members) (head : Head) → head_of before ms ≡ Some head → IsFineHead before head
head-fine before ms head h = by (is_some (other_key_of ms)) refl
  where
    by : (b : Bool) → is_some (other_key_of ms) ≡ b → IsFineHead before head
    by false e = head-parts before ms head (ap (unless (head_in before ms)) (sym e) ∙ h)
    by true e = absurd (none-some head (ap (unless (head_in before ms)) (sym e) ∙ h))

term-fine : (before : ℕ) (ms : Members) (term : ExtTerm) → term_of before ms ≡ Some term → IsFine before term
term-fine before ms term h =
    option_and_then_some (λ (head : Head). made before ms head (paths_of ms)) (head_of before ms) term h
    (λ head at_head h. by head (head-fine before ms head at_head) (paths_of ms) refl h)
  where
    by : (head : Head) → IsFineHead before head → (o : Option Paths) → paths_of ms ≡ o → made before ms head (paths_of ms) ≡ Some term → IsFine before term
    by head fine None e h = absurd (none-some term (ap (made before ms head) (sym e) ∙ h))
    by head fine (Some paths) e h =
        let whole : ExtTerm = record { number = head.0; place = head.1; data_type = head.2; paths = paths } in
        let is : whole ≡ term = same_Some whole term (ap (made before ms head) (sym e) ∙ h) in
        subst (IsFine before) is (record { above = fine.0; most = fine.1; data_type = fine.2; paths = paths-fine ms paths e })

value-fine : (before : ℕ) (d : Data) (term : ExtTerm) → value_term before d ≡ Some term → IsFine before term
value-fine before d term h = option_and_then_some (term_of before) (as_table d) term h (λ ms there is. term-fine before ms term is)

pub value-rises : (before : ℕ) (d : Data) (term : ExtTerm) → Some term ≡ value_term before d → (before < term.number) × (term.number ≤ 99)
value-rises before d term h =
    let fine = value-fine before d term (sym h) in
    let above : before < term.number = lt-from before term.number fine.above in
    let most : term.number ≤ 99 = le-from term.number 99 fine.most in
    (above, most)
  where
    lt-from : (a b : ℕ) → nat_lt a b ≡ true → a < b
    lt-from a b h = grind (arith, nat_tests)

    le-from : (a b : ℕ) → nat_le a b ≡ true → a ≤ b
    le-from a b h = grind (arith, nat_tests)

-- so the terms of tables rise and are fine
abbrev AreFine : Items → Type 0
AreFine ds = (before place : ℕ) (terms : List ExtTerm) → terms_from before place ds ≡ Ok terms → are_terms before terms ≡ true

joined-fine : (before place : ℕ) (ds : Items) (term : ExtTerm) (terms : List ExtTerm) → IsFine before term → AreFine ds
    → (r : Terms) → terms_from term.number (place + 1) ds ≡ r → before_terms term r ≡ Ok terms → are_terms before terms ≡ true
joined-fine before place ds term terms fine rest (Ok more) e g =
    let is : (term ∷ more) ≡ terms = cc in
    ap (are_terms before) (sym is)
    ∙ join-by _ _ fine.above (join-by _ _ fine.most (join-by _ _ fine.data_type (join-by _ _ fine.paths (rest term.number (place + 1) more e))))
joined-fine before place ds term terms fine rest (Err fault) e g = cc

pub terms-fine : (ds : Items) → AreFine ds
terms-fine no_items before place terms h = let none : [] ≡ terms = cc in ap (are_terms before) (sym none)
terms-fine (item d ds) before place terms h = by (value_term before d) refl (terms-fine ds)
  where
    by : (o : Option ExtTerm) → value_term before d ≡ o → AreFine ds → are_terms before terms ≡ true
    by None e rest = let bad : ◌≡◌ {A = Terms} (Err (BadTerm place)) (Ok terms) = ap (rest_of before place d ds []) (sym e) ∙ h in cc
    by (Some term) e rest = joined-fine before place ds term terms (value-fine before d term e) rest (terms_from term.number (place + 1) ds) refl
        (ap (rest_of before place d ds []) (sym e) ∙ h)

-- a file by its document
module _ (bytes : List ℕ) (document : Members) (read : document_of bytes ≡ Some document) where
  pub file-terms : (terms : List ExtTerm) → document_terms document ≡ Ok terms → file_terms bytes ≡ Ok terms
  file-terms terms h = file-document bytes document read ∙ h

  pub file-fault : (fault : ExtFault) → ((fault ≡ Memory → ⊥) → document_terms document ≡ Err fault) → (fault ≡ Memory → ⊥) → file_terms bytes ≡ Err fault
  file-fault fault h other = file-document bytes document read ∙ h other

-- what it gives is an extension
pub document-fine : (document : Members) (terms : List ExtTerm) → document_terms document ≡ Ok terms → is_extension terms ≡ true
document-fine document terms h = by (other_key (codes "term" ∷ []) document) (term_tables document) refl refl
  where
    by : (key : Option (List ℕ)) (tables : Option Items) → other_key (codes "term" ∷ []) document ≡ key → term_tables document ≡ tables →
        is_extension terms ≡ true
    by (Some key) tables e f = let bad : ◌≡◌ {A = Terms} (Err (NotAnExtension (chars key))) (Ok terms) = sym (document-other document key (sym e)) ∙ h in cc
    by None None e f = let bad : ◌≡◌ {A = Terms} (Err (NotAnExtension (chars (codes "term")))) (Ok terms) = sym (document-none document (sym e) (sym f)) ∙ h in
        cc
    by None (Some tables) e f = terms-fine tables 0 1 terms (sym (document-tables document (sym e) tables (sym f)) ∙ h)

-- so is what a file gives
pub file-fine : (bytes : List ℕ) (terms : List ExtTerm) → file_terms bytes ≡ Ok terms → is_extension terms ≡ true
file-fine bytes terms h = by (document_of bytes) refl
  where
    by : (o : Option Members) → document_of bytes ≡ o → is_extension terms ≡ true
    by None e = let bad : ◌≡◌ {A = Terms} (Err NotToml) (Ok terms) = sym (file-no_toml bytes e) ∙ h in cc
    by (Some document) e = document-fine document terms (sym (file-document bytes document e) ∙ h)

pub ruleset files = (file-no_toml, file-terms, file-fault, document-fine)

pub ruleset turns = (behind-none, tables-turn, tables-bad, tables-end, value-rises)
