-- The names of an added row's path can be written in the documents of its table, and aren't long.
use Rattle.std.proofs.Common.{◌≡◌, ℕ, ◌+◌, ◌<◌, ◌≤◌, Bool, true, false, not, ◌&&◌, ◌||◌, List, [], ◌∷◌, ◌++◌, length, map, codes, Some, None, refl, sym, ap}
use Rattle.std.proofs.Common.{◌∙◌, arith, le-leb, lt-ltb}
use Rattle.std.specs.Prelude.{◌==◌, nat_lt, nat_le}
use Rattle.std.specs.List.{list_all, list_any}
use Rattle.std.specs.Char.{is_ascii_alphabetic, is_ascii_alphanumeric}
use Rattle.std.specs.Str.{IsAscii, encode_utf8_all}
use Rattle.std.proofs.lemmas.Bool.{ltb-true, leb-true, eqb-true, false≢true}
use Rattle.std.proofs.lemmas.Str.{encodes-IsAscii}
use Rattle.std.proofs.lemmas.Str.Ascii.{IsAscii-nil, IsAscii-cons}
use lib.Utf8.{encode}
use Rattle.inv_base.specs.Characters.{is_within, is_name_start, is_name_char}
use Rattle.xml_tokens.specs.WrittenNames as tokens
use Rattle.xml_write.specs.Canonical.{element_name}
use Rattle.xml_laws.specs.Writable.{is_element_name, is_short}
use Rattle.bind_rows.specs.declared.names.ElementName.{ElementName}
use Rattle.bind_rows.specs.declared.names.Namespace.{Namespace}
use Rattle.bind_rows.specs.declared.names.Namespace.TheVariants as spaces
use Rattle.bind_rows.specs.declared.rows.Row.{Row}
use Rattle.bind_rows.specs.declared.rows.Step.{Step}
use Rattle.bind_rows.specs.declared.tables.DocumentType.{DocumentType}
use Rattle.bind_rows.specs.declared.tables.DocumentType.TheVariants as document_type
use Rattle.bind_rows.specs.Added.{built}
use Rattle.bind_rows.specs.Namespaces.{declarations_of}
use Rattle.bind_rows.specs.Same.{same_namespace}
use Rattle.extension_files.specs.declared.terms.ExtPlace.{ExtPlace}
use Rattle.extension_files.specs.declared.terms.ExtPlace.TheVariants as places
use Rattle.extension_files.specs.Extensions.{is_name}
use Rattle.extension_files.specs.PathTexts.{is_local}
use Rattle.bind_table.specs.declared.extending.AddedTerm.{AddedTerm}
use Rattle.bind_table.specs.Extending.{context_path, names_for, greatest, path_of}
use Rattle.bind_table.specs.Laid.{is_ncname, is_declared, is_plain_start, is_plain_char}
use Rattle.ubl_binding.specs.Tables.{invoice_listing, invoice_rows, credit_note_listing, credit_note_rows}
use Rattle.cii_binding.specs.Table.{cii_listing, cii_rows}
use Rattle.bind_meaning.specs.Tables.{rows_of}
use Rattle.bind_meaning.specs.Trees.{name_of}
use Rattle.bind_write.specs.Documents.{declared_for, declarations_for, root_namespace}
use Rattle.written_laws.specs.Readable.{reading_limits}
use Rattle.bind_run.specs.Extensions.{outer_of}
use Rattle.extension_laws.specs.Joins.{are_writable}
use Rattle.extension_laws.proofs.AddLemmas.{both}
use Rattle.extension_laws.proofs.NewLemmas.{path-names}
use Rattle.bind_run.proofs.RoomLemmas.{spaces_for, IsOfFile}

and-so : (a b : Bool) → a ≡ true → b ≡ true → (a && b) ≡ true
and-so a b h k = ap (λ x. x && b) h ∙ k

all-mono : {X : Type 0} (p q : X → Bool) (xs : List X) → ((x : X) → p x ≡ true → q x ≡ true) → list_all p xs ≡ true → list_all q xs ≡ true
all-mono p q [] f h = refl
all-mono p q (x ∷ xs) f h = let w = both (p x) (list_all p xs) h in and-so (q x) (list_all q xs) (f x w.0) (all-mono p q xs f w.1)

all-both : {X : Type 0} (p : X → Bool) (xs ys : List X) → list_all p xs ≡ true → list_all p ys ≡ true → list_all p (xs ++ ys) ≡ true
all-both p [] ys h k = k
all-both p (x ∷ xs) ys h k = let w = both (p x) (list_all p xs) h in and-so (p x) (list_all p (xs ++ ys)) w.0 (all-both p xs ys w.1 k)

-- ---- letters and digits

abbrev further_starts : ℕ → Bool
further_starts c =
    is_within 0xC0 0xD6 c || (is_within 0xD8 0xF6 c
    || (is_within 0xF8 0x2FF c || (is_within 0x370 0x37D c || (is_within 0x37F 0x1FFF c || (is_within 0x200C 0x200D c
    || (is_within 0x2070 0x218F c || (is_within 0x2C00 0x2FEF c || (is_within 0x3001 0xD7FF c || (is_within 0xF900 0xFDCF c
    || (is_within 0xFDF0 0xFFFD c || is_within 0x10000 0xEFFFF c))))))))))

abbrev further_chars : ℕ → Bool
further_chars c = c == 0xB7 || (is_within 0x300 0x36F c || is_within 0x203F 0x2040 c)

begins-by : (a b m r : Bool) → (a || b) ≡ true → (a || (m || (b || r))) ≡ true
begins-by true b m r h = refl
begins-by false true true r h = refl
begins-by false true false r h = refl
begins-by false false m r h = absurd (false≢true h)

goes-on : (p x y z : Bool) → (p || (x || (y || (true || z)))) ≡ true
goes-on true x y z = refl
goes-on false true y z = refl
goes-on false false true z = refl
goes-on false false false z = refl

goes-by : (d a b m r x y z : Bool) → ((d || a) || b) ≡ true → ((a || (m || (b || r))) || (x || (y || (d || z)))) ≡ true
goes-by true a b m r x y z h = goes-on (a || (m || (b || r))) x y z
goes-by false true b m r x y z h = refl
goes-by false false true true r x y z h = refl
goes-by false false true false r x y z h = refl
goes-by false false false m r x y z h = absurd (false≢true h)

data_type-begins : (c : ℕ) → is_ascii_alphabetic c ≡ true → is_name_start c ≡ true
unfolding is_name_start
data_type-begins c h = begins-by (is_within 0x41 0x5A c) (is_within 0x61 0x7A c) (c == 0x5F) (further_starts c) h

data_type-goes-on : (c : ℕ) → is_ascii_alphanumeric c ≡ true → is_name_char c ≡ true
unfolding is_name_start is_name_char
data_type-goes-on c h =
    goes-by (is_within 0x30 0x39 c) (is_within 0x41 0x5A c) (is_within 0x61 0x7A c) (c == 0x5F) (further_starts c) (c == 0x2D) (c == 0x2E) (further_chars c) h

-- none of them is a colon
no-colon : (p : ℕ → Bool) (c : ℕ) → p 0x3A ≡ false → p c ≡ true → not (c == 0x3A) ≡ true
no-colon p c none h = by (c == 0x3A) refl
  where
    by : (b : Bool) → (c == 0x3A) ≡ b → not b ≡ true
    by false e = refl
    by true e = absurd (false≢true (sym none ∙ (ap p (sym (eqb-true c 0x3A e)) ∙ h)))

-- and all are ASCII
within-low : (low high c : ℕ) → high < 128 → is_within low high c ≡ true → nat_lt c 128 ≡ true
within-low low high c l h =
    let m = leb-true c high (both (nat_le low c) (nat_le c high) h).1 in
    lt-ltb c 128 (omega (arith, m, l))

or-either : (a b : Bool) → (a || b) ≡ true → (Q : Type 0) → (a ≡ true → Q) → (b ≡ true → Q) → Q
or-either true b h Q f g = f refl
or-either false b h Q f g = g h

alphabetic-low : (c : ℕ) → is_ascii_alphabetic c ≡ true → nat_lt c 128 ≡ true
alphabetic-low c h =
    or-either (is_within 65 90 c) (is_within 97 122 c) h (nat_lt c 128 ≡ true) (within-low 65 90 c (omega arith)) (within-low 97 122 c (omega arith))

alphanumeric-low : (c : ℕ) → is_ascii_alphanumeric c ≡ true → nat_lt c 128 ≡ true
alphanumeric-low c h =
    or-either (is_within 48 57 c || is_within 65 90 c) (is_within 97 122 c) h (nat_lt c 128 ≡ true)
    (λ k. or-either (is_within 48 57 c) (is_within 65 90 c) k (nat_lt c 128 ≡ true) (within-low 48 57 c (omega arith)) (within-low 65 90 c (omega arith)))
    (within-low 97 122 c (omega arith))

-- ---- a local name

record IsLocal (local : List ℕ) : Type 0 where
  written : tokens.is_ncname local ≡ true
  plain : is_ncname local ≡ true
  low : list_all (λ c. nat_lt c 128) local ≡ true
  few : length local ≤ 100

local-is : (local : List ℕ) → is_local local ≡ true → IsLocal local
local-is [] h = absurd (false≢true h)
local-is (c ∷ cs) h =
    let first = both (is_ascii_alphabetic c) _ h in
    let rest = both (nat_le (length cs) 99) (list_all is_ascii_alphanumeric cs) first.1 in
    let few = leb-true (length cs) 99 rest.0 in
    record {
      written = and-so (is_name_start c) (list_all is_name_char cs) (data_type-begins c first.0)
          (all-mono is_ascii_alphanumeric is_name_char cs data_type-goes-on rest.1);
      plain =
          and-so (is_plain_start c) (list_all is_plain_char cs)
          (and-so (is_name_start c) (not (c == 0x3A)) (data_type-begins c first.0) (no-colon is_ascii_alphabetic c refl first.0))
          (all-mono is_ascii_alphanumeric is_plain_char cs
          (λ d k. and-so (is_name_char d) (not (d == 0x3A)) (data_type-goes-on d k) (no-colon is_ascii_alphanumeric d refl k)) rest.1);
      low = and-so (nat_lt c 128) (list_all (λ c. nat_lt c 128) cs) (alphabetic-low c first.0)
          (all-mono is_ascii_alphanumeric (λ c. nat_lt c 128) cs alphanumeric-low rest.1);
      few = omega (arith, few);
    }

ascii : (bytes : List ℕ) → list_all (λ b. nat_lt b 128) bytes ≡ true → IsAscii bytes
ascii [] e = IsAscii-nil
ascii (b ∷ bytes) e = let parts = both (nat_lt b 128) (list_all (λ b. nat_lt b 128) bytes) e in
    IsAscii-cons b bytes (ltb-true b 128 parts.0) (ascii bytes parts.1)

length-both : {X : Type 0} (xs ys : List X) → length (xs ++ ys) ≡ length xs + length ys
length-both [] ys = omega arith
length-both (x ∷ xs) ys = let e = length-both xs ys in omega (arith, e)

long-enough : 104 ≤ reading_limits.name
long-enough = leb-true 104 reading_limits.name refl

short : (prefix local : List ℕ) → list_all (λ c. nat_lt c 128) prefix ≡ true → nat_le (length prefix) 4 ≡ true → IsLocal local
    → is_short reading_limits (prefix ++ local) ≡ true
short prefix local low few l =
    let e = ap length (encodes-IsAscii (prefix ++ local) (ascii (prefix ++ local) (all-both (λ c. nat_lt c 128) prefix local low l.low))) in
    let n = length-both prefix local in
    let m = leb-true (length prefix) 4 few in
    let k = l.few in
    let o = long-enough in
    le-leb (length (encode_utf8_all (prefix ++ local))) reading_limits.name (omega (arith, e, n, m, k, o))

-- ---- the names of a table's documents

abbrev pub root_for : DocumentType → Namespace
root_for document_type.Invoice = spaces.UblInvoice
root_for document_type.CreditNote = spaces.UblCreditNote
root_for document_type.Cii = spaces.CiiInvoice

abbrev can_be_named : Namespace → ElementName → Bool
can_be_named root name = is_element_name (declarations_of root) (name_of name) && is_short reading_limits (element_name (declarations_of root) (name_of name))

abbrev can_be_written : Namespace → ElementName → Bool
can_be_written root name = is_ncname name.local && is_declared root name.namespace

abbrev fits : Namespace → ElementName → Bool
fits root name = can_be_named root name && can_be_written root name

fits-by : (prefix local : List ℕ) → list_all (λ c. nat_lt c 128) prefix ≡ true → nat_le (length prefix) 4 ≡ true → IsLocal local
    → (((tokens.is_ncname local && true) && is_short reading_limits (prefix ++ local)) && (is_ncname local && true)) ≡ true
fits-by prefix local low few l =
    and-so ((tokens.is_ncname local && true) && is_short reading_limits (prefix ++ local)) (is_ncname local && true)
    (and-so (tokens.is_ncname local && true) (is_short reading_limits (prefix ++ local)) (and-so (tokens.is_ncname local) true l.written refl)
    (short prefix local low few l))
    (and-so (is_ncname local) true l.plain refl)

abbrev named : Namespace → List ℕ → ElementName
named space local = record { namespace = space; local = local }

fits-in : (table : DocumentType) (space : Namespace) (local : List ℕ) → list_any (same_namespace space) (spaces_for table) ≡ true → IsLocal local
    → fits (root_for table) (named space local) ≡ true
fits-in document_type.Invoice spaces.UblAggregate local h l = fits-by (codes "cac:") local refl refl l
fits-in document_type.Invoice spaces.UblBasic local h l = fits-by (codes "cbc:") local refl refl l
fits-in document_type.Invoice spaces.UblInvoice local h l = absurd (false≢true h)
fits-in document_type.Invoice spaces.UblCreditNote local h l = absurd (false≢true h)
fits-in document_type.Invoice spaces.CiiInvoice local h l = absurd (false≢true h)
fits-in document_type.Invoice spaces.CiiAggregate local h l = absurd (false≢true h)
fits-in document_type.Invoice spaces.CiiUnqualified local h l = absurd (false≢true h)
fits-in document_type.Invoice spaces.CiiQualified local h l = absurd (false≢true h)
fits-in document_type.CreditNote spaces.UblAggregate local h l = fits-by (codes "cac:") local refl refl l
fits-in document_type.CreditNote spaces.UblBasic local h l = fits-by (codes "cbc:") local refl refl l
fits-in document_type.CreditNote spaces.UblInvoice local h l = absurd (false≢true h)
fits-in document_type.CreditNote spaces.UblCreditNote local h l = absurd (false≢true h)
fits-in document_type.CreditNote spaces.CiiInvoice local h l = absurd (false≢true h)
fits-in document_type.CreditNote spaces.CiiAggregate local h l = absurd (false≢true h)
fits-in document_type.CreditNote spaces.CiiUnqualified local h l = absurd (false≢true h)
fits-in document_type.CreditNote spaces.CiiQualified local h l = absurd (false≢true h)
fits-in document_type.Cii spaces.CiiInvoice local h l = fits-by (codes "rsm:") local refl refl l
fits-in document_type.Cii spaces.CiiAggregate local h l = fits-by (codes "ram:") local refl refl l
fits-in document_type.Cii spaces.CiiUnqualified local h l = fits-by (codes "udt:") local refl refl l
fits-in document_type.Cii spaces.CiiQualified local h l = fits-by (codes "qdt:") local refl refl l
fits-in document_type.Cii spaces.UblInvoice local h l = absurd (false≢true h)
fits-in document_type.Cii spaces.UblCreditNote local h l = absurd (false≢true h)
fits-in document_type.Cii spaces.UblAggregate local h l = absurd (false≢true h)
fits-in document_type.Cii spaces.UblBasic local h l = absurd (false≢true h)

name-fits : (table : DocumentType) (name : ElementName) → is_name (spaces_for table) name ≡ true → fits (root_for table) name ≡ true
name-fits table name h =
    let w = both (list_any (same_namespace name.namespace) (spaces_for table)) (is_local name.local) h in
    fits-in table name.namespace name.local w.0 (local-is name.local w.1)

-- ---- the names that lead to a place, computed

abbrev leads : DocumentType → ExtPlace → List ElementName
leads table place = map (λ (s : Step). s.name) (context_path (rows_of table) (outer_of place) None)

invoice-root : list_all (fits spaces.UblInvoice) (map (λ (s : Step). s.name) (context_path invoice_rows (outer_of places.Root) None)) ≡ true
unfolding encode is_name_start is_name_char invoice_listing invoice_rows
invoice-root = refl

invoice-line : list_all (fits spaces.UblInvoice) (map (λ (s : Step). s.name) (context_path invoice_rows (outer_of places.Line) None)) ≡ true
unfolding encode is_name_start is_name_char invoice_listing invoice_rows
invoice-line = refl

credit_note-root : list_all (fits spaces.UblCreditNote) (map (λ (s : Step). s.name) (context_path credit_note_rows (outer_of places.Root) None)) ≡ true
unfolding encode is_name_start is_name_char credit_note_listing credit_note_rows
credit_note-root = refl

credit_note-line : list_all (fits spaces.UblCreditNote) (map (λ (s : Step). s.name) (context_path credit_note_rows (outer_of places.Line) None)) ≡ true
unfolding encode is_name_start is_name_char credit_note_listing credit_note_rows
credit_note-line = refl

cii-root : list_all (fits spaces.CiiInvoice) (map (λ (s : Step). s.name) (context_path cii_rows (outer_of places.Root) None)) ≡ true
unfolding encode is_name_start is_name_char cii_listing cii_rows
cii-root = refl

cii-line : list_all (fits spaces.CiiInvoice) (map (λ (s : Step). s.name) (context_path cii_rows (outer_of places.Line) None)) ≡ true
unfolding encode is_name_start is_name_char cii_listing cii_rows
cii-line = refl

leads-fit : (table : DocumentType) (place : ExtPlace) → list_all (fits (root_for table)) (leads table place) ≡ true
leads-fit document_type.Invoice places.Root = invoice-root
leads-fit document_type.Invoice places.Line = invoice-line
leads-fit document_type.CreditNote places.Root = credit_note-root
leads-fit document_type.CreditNote places.Line = credit_note-line
leads-fit document_type.Cii places.Root = cii-root
leads-fit document_type.Cii places.Line = cii-line

-- ---- so the names of a path

by-names : (p : ElementName → Bool) (path : List Step) → list_all p (map (λ (s : Step). s.name) path) ≡ true → list_all (λ (s : Step). p s.name) path ≡ true
by-names p [] h = refl
by-names p (s ∷ path) h =
    let w = both (p s.name) (list_all p (map (λ (t : Step). t.name) path)) h in
    and-so (p s.name) (list_all (λ (t : Step). p t.name) path) w.0 (by-names p path w.1)

module _ (table : DocumentType) (rows : List Row) (a : AddedTerm) (file : IsOfFile table a) (own : built rows ≡ rows_of table) where
  abbrev steps : List Step
  steps = path_of rows (greatest rows) [] (names_for (built rows) a)

  names-fit : list_all (fits (root_for table)) (names_for (built rows) a) ≡ true
  names-fit =
      all-both (fits (root_for table)) (map (λ (s : Step). s.name) (context_path (built rows) a.outer a.inner)) a.names
      ((λ i. list_all (fits (root_for table)) (map (λ (s : Step). s.name) (context_path (own i) (file.outer i) (file.inner i)))) ∙ leads-fit table file.place)
      (all-mono (is_name (spaces_for table)) (fits (root_for table)) a.names (name-fits table) file.names)

  steps-fit : list_all (λ (s : Step). fits (root_for table) s.name) steps ≡ true
  steps-fit =
      by-names (fits (root_for table)) steps
      (ap (list_all (fits (root_for table))) (path-names rows (greatest rows) [] (names_for (built rows) a)) ∙ names-fit)

  pub are-named : root_namespace rows ≡ Some (root_for table)
      → list_all (λ (s : Step). is_element_name (declarations_for rows) (name_of s.name) &&
      is_short reading_limits (element_name (declarations_for rows) (name_of s.name))) steps ≡ true
  are-named root =
      ap (λ o. list_all (λ (s : Step). is_element_name (declared_for o) (name_of s.name) &&
      is_short reading_limits (element_name (declared_for o) (name_of s.name))) steps) root
      ∙ all-mono (λ (s : Step). fits (root_for table) s.name) (λ (s : Step). can_be_named (root_for table) s.name) steps
      (λ s h. (both (can_be_named (root_for table) s.name) (can_be_written (root_for table) s.name) h).0) steps-fit

  pub are-written : root_namespace rows ≡ Some (root_for table) → are_writable (root_namespace rows) steps ≡ true
  are-written root =
      ap (λ o. are_writable o steps) root
      ∙ all-mono (λ (s : Step). fits (root_for table) s.name) (λ (s : Step). can_be_written (root_for table) s.name) steps
      (λ s h. (both (can_be_named (root_for table) s.name) (can_be_written (root_for table) s.name) h).1) steps-fit
