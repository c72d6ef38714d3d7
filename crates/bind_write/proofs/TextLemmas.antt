-- Texts in UTF-8.
use Rattle.std.proofs.Common.{◌≡◌, ℕ, suc, zero, Bool, true, false, ◌&&◌, List, [], ◌∷◌, ◌++◌, Option, Some, None, refl, ap, sym, ◌∙◌, arith, append_assoc}
use Rattle.std.specs.Prelude.{encode_utf8_all, slice_get, nat_lt, codes}
use Rattle.std.specs.List.{list_all}
use Rattle.std.specs.Str.{chars, IsUtf8}
use Rattle.std.proofs.lemmas.Str.{encodes-append, encodes-IsAscii, encode_ascii}
use Rattle.inv_base.proofs.TextLemmas.{encode-chars}
use Rattle.xml_write.specs.Canonical.{qualified}
use Rattle.xml_write.specs.Calls.{call_declare, encoded}
use Rattle.xml_write.proofs.EncodingLemmas.{encodes-qualified}
use Rattle.bind_rows.specs.declared.names.Namespace.{Namespace}
use Rattle.bind_rows.specs.declared.names.Namespace.TheVariants as spaces
use Rattle.bind_rows.specs.Namespaces.{prefix_of, uri_of}
use Rattle.inv_terms.specs.declared.values.Value.{Value}
use Rattle.inv_terms.specs.Values.{spelled}
use Rattle.bind_rows.specs.declared.names.Leaf.TheVariants as leaves
use Rattle.bind_rows.specs.declared.rows.Form.{Form}
use Rattle.bind_rows.specs.declared.rows.Form.TheVariants as forms
use Rattle.bind_rows.specs.declared.rows.Row.{Row}
use Rattle.bind_meaning.specs.Writing.{coded_note}
use Rattle.bind_meaning.specs.Currencies.{currency_id}
use Rattle.bind_write.specs.Sources.{is_note, is_plain_leaf, has_plain_attribute}
use Rattle.bind_write.specs.Cells.{subject_text}
use Rattle.bind_write.proofs.WordLemmas.{ascii}

-- a text by its characters
pub text-bytes : (text cs : List ℕ) → IsUtf8 text → chars text ≡ cs → text ≡ encode_utf8_all cs
text-bytes text cs u e = sym (encode-chars text u) ∙ ap encode_utf8_all e

hash : encode_utf8_all (35 ∷ []) ≡ 35 ∷ []
hash = encodes-IsAscii (35 ∷ []) (ascii (35 ∷ []) refl)

after_hash : (cs : List ℕ) → encode_utf8_all (35 ∷ cs) ≡ (35 ∷ []) ++ encode_utf8_all cs
after_hash cs = ap (λ x. x ++ encode_utf8_all cs) (encode_ascii 35 (omega arith))

pub subject-bytes : (code : Value) → (35 ∷ []) ++ (encode_utf8_all (spelled code) ++ (35 ∷ [])) ≡ encode_utf8_all (subject_text code)
subject-bytes code =
    sym (after_hash (spelled code ++ 35 ∷ []) ∙ ap (λ x. (35 ∷ []) ++ x) (encodes-append (spelled code) (35 ∷ []) ∙
    ap (λ x. encode_utf8_all (spelled code) ++ x) hash))

pub note-bytes : (subject : Option Value) (code : Value) (text : List ℕ) → subject ≡ Some code → encode_utf8_all (subject_text code) ++
    encode_utf8_all text ≡ encode_utf8_all (coded_note subject text)
note-bytes subject code text e =
    sym (encodes-append (subject_text code) text) ∙ (ap (λ x. encode_utf8_all (35 ∷ x)) (append_assoc (spelled code) (35 ∷ []) text) ∙
    ap (λ x. encode_utf8_all (coded_note x text)) (sym e))

pub plain-note : (subject : Option Value) (text : List ℕ) → subject ≡ None → text ≡ coded_note subject text
plain-note subject text e = ap (λ x. coded_note x text) (sym e)

pub currency-bytes : encode_utf8_all currency_id ≡ currency_id
currency-bytes = encodes-IsAscii currency_id (ascii currency_id refl)

-- ---- rows of a table

both : (a b : Bool) → (a && b) ≡ true → (a ≡ true) × (b ≡ true)
both true b e = (refl, e)
both false b e = cc

all-at : {A : Type 0} (p : A → Bool) (xs : List A) (k : ℕ) (x : A) → list_all p xs ≡ true → slice_get xs k ≡ Some x → p x ≡ true
all-at p [] k x a e = cc
all-at p (y ∷ ys) zero x a e = let same : y ≡ x = cc in ap p (sym same) ∙ (both (p y) (list_all p ys) a).0
all-at p (y ∷ ys) (suc k) x a e = all-at p ys k x (both (p y) (list_all p ys) a).1 e

plain_form : (local : List ℕ) (form : Form) → is_plain_leaf (leaves.Attribute local) form ≡ true → is_note form ≡ false
plain_form local forms.Model e = refl
plain_form local forms.PlainDate e = refl
plain_form local forms.DueDateTypeCode e = refl
plain_form local forms.CodedNote e = cc
plain_form local (forms.Typed data_type) e = refl
plain_form local forms.TypedPlainDate e = refl

pub row-plain : (rows : List Row) (k : ℕ) (row : Row) (local : List ℕ) → list_all has_plain_attribute rows ≡ true → Some row ≡ slice_get rows k →
    row.leaf ≡ leaves.Attribute local → is_note row.form ≡ false
row-plain rows k row local a e l = plain_form local row.form (ap (λ x. is_plain_leaf x row.form) (sym l) ∙ all-at has_plain_attribute rows k row a (sym e))

-- ---- names

prefix-ascii : (space : Namespace) → encode_utf8_all (prefix_of space) ≡ prefix_of space
prefix-ascii spaces.UblInvoice = refl
prefix-ascii spaces.UblCreditNote = refl
prefix-ascii spaces.UblAggregate = encodes-IsAscii (codes "cac") (ascii (codes "cac") refl)
prefix-ascii spaces.UblBasic = encodes-IsAscii (codes "cbc") (ascii (codes "cbc") refl)
prefix-ascii spaces.CiiInvoice = encodes-IsAscii (codes "rsm") (ascii (codes "rsm") refl)
prefix-ascii spaces.CiiAggregate = encodes-IsAscii (codes "ram") (ascii (codes "ram") refl)
prefix-ascii spaces.CiiUnqualified = encodes-IsAscii (codes "udt") (ascii (codes "udt") refl)
prefix-ascii spaces.CiiQualified = encodes-IsAscii (codes "qdt") (ascii (codes "qdt") refl)

pub name-is : (space : Namespace) (prefix local cs : List ℕ) → prefix ≡ prefix_of space → IsUtf8 local → chars local ≡ cs
    → qualified prefix local ≡ encode_utf8_all (qualified (prefix_of space) cs)
name-is space prefix local cs p u e =
    ap (λ x. qualified x local) (p ∙ sym (prefix-ascii space)) ∙
    (ap (qualified (encode_utf8_all (prefix_of space))) (text-bytes local cs u e) ∙ sym (encodes-qualified (prefix_of space) cs))

uri-ascii : (space : Namespace) → list_all (λ b. nat_lt b 128) (uri_of space) ≡ true
uri-ascii spaces.UblInvoice = refl
uri-ascii spaces.UblCreditNote = refl
uri-ascii spaces.UblAggregate = refl
uri-ascii spaces.UblBasic = refl
uri-ascii spaces.CiiInvoice = refl
uri-ascii spaces.CiiAggregate = refl
uri-ascii spaces.CiiUnqualified = refl
uri-ascii spaces.CiiQualified = refl

pub declaration-is : (space : Namespace) (prefix uri : List ℕ) → prefix ≡ prefix_of space → uri ≡ uri_of space →
    call_declare prefix uri ∷ [] ≡ encoded (call_declare (prefix_of space) (uri_of space)) ∷ []
declaration-is space prefix uri p u =
    ap (λ x. call_declare x uri ∷ []) (p ∙ sym (prefix-ascii space))
    ∙ ap (λ x. call_declare (encode_utf8_all (prefix_of space)) x ∷ []) (u ∙ sym (encodes-IsAscii (uri_of space) (ascii (uri_of space) (uri-ascii space))))
