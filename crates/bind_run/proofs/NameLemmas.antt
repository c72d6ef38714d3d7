-- Names of a document by their bytes, and by their characters.
use Rattle.std.proofs.Common.{◌≡◌, ℕ, true, List, [], ◌∷◌, refl, sym, ap, ◌∙◌}
use Rattle.std.specs.Prelude.{nat_lt, bytes_eq, chars}
use Rattle.std.specs.Str.{IsUtf8, IsAscii}
use Rattle.std.proofs.lemmas.Bool.{and_parts, ltb-true}
use Rattle.std.proofs.lemmas.Bool.Decides.{same_from_decides, Decides-like}
use Rattle.std.proofs.lemmas.Str.{encodes-chars, chars-IsAscii}
use Rattle.std.proofs.lemmas.Str.Ascii.{IsAscii-nil, IsAscii-cons, encodes-IsAscii}
use Rattle.std.proofs.lemmas.Slice.Eq.{bytes_eq-Decides}
use Rattle.bind_rows.specs.declared.names.Namespace.{Namespace}
use Rattle.bind_rows.specs.declared.names.Namespace.TheVariants as spaces
use Rattle.bind_rows.specs.Namespaces.{uri_of}
use Rattle.bind_run.specs.Ascii.{is_ascii}
use lib.Utf8.{encodes}

ascii : (bytes : List ℕ) → is_ascii bytes ≡ true → IsAscii bytes
ascii [] e = IsAscii-nil
ascii (b ∷ bytes) e = let parts = and_parts (nat_lt b 128) (is_ascii bytes) e in IsAscii-cons b bytes (ltb-true b 128 parts.0) (ascii bytes parts.1)

-- a text is a word of ASCII by its bytes where it is by its characters
pub is-word : (word text : List ℕ) → is_ascii word ≡ true → IsUtf8 text → bytes_eq text word ≡ bytes_eq word (chars text)
is-word word text h u =
    let a = ascii word h in
    same_from_decides _ _ (bytes_eq-Decides text word)
    (Decides-like _ (λ e. sym (encodes-chars text u) ∙ (ap encodes (sym e) ∙ encodes-IsAscii word a)) (λ e. sym (chars-IsAscii word a) ∙ ap chars (sym e))
    (bytes_eq-Decides word (chars text)))

pub uris-ascii : (namespace : Namespace) → is_ascii (uri_of namespace) ≡ true
uris-ascii spaces.UblInvoice = refl
uris-ascii spaces.UblCreditNote = refl
uris-ascii spaces.UblAggregate = refl
uris-ascii spaces.UblBasic = refl
uris-ascii spaces.CiiInvoice = refl
uris-ascii spaces.CiiAggregate = refl
uris-ascii spaces.CiiUnqualified = refl
uris-ascii spaces.CiiQualified = refl
