-- How long texts are with their escapes.
use Rattle.std.proofs.Common.{◌≡◌, ℕ, ◌+◌, ◌*◌, ◌^◌, ◌<◌, ◌≤◌, ◌==◌, Bool, true, false, List, [], ◌∷◌, ◌++◌, length, take, get_or, ap, ◌∙◌, length-append}
use Rattle.std.proofs.Common.{append-nil, lit≤, subst, arith}
use Rattle.std.specs.Prelude.{codes, if◌then◌else◌}
use Rattle.std.proofs.lemmas.Grind.{flat_map-append}
use Rattle.std.proofs.lemmas.List.{take_more}
use Rattle.xml_write.specs.declared.escape.Within.{Within}
use Rattle.xml_write.specs.declared.escape.Within.TheVariants as within
use Rattle.xml_write.specs.Escapes.{in_text, in_value, escape_of, escaped}

-- one byte at least, and no more than six
abbrev pub IsShort : List ℕ → Type 0
IsShort text = (1 ≤ length text) × (length text ≤ 6)

short_if : (b : Bool) (s t : List ℕ) → IsShort s → IsShort t → IsShort (if b then s else t)
short_if true s t p q = p
short_if false s t p q = q

in_text-short : (c : ℕ) → IsShort (in_text c)
unfolding in_text
in_text-short c =
    short_if (c == 0x26) (codes "&amp;") _ (lit≤ tt, lit≤ tt)
    (short_if (c == 0x3C) (codes "&lt;") _ (lit≤ tt, lit≤ tt)
    (short_if (c == 0x3E) (codes "&gt;") _ (lit≤ tt, lit≤ tt)
    (short_if (c == 0xD) (codes "&#xD;") (c ∷ []) (lit≤ tt, lit≤ tt) (lit≤ tt, lit≤ tt))))

in_value-short : (c : ℕ) → IsShort (in_value c)
unfolding in_value
in_value-short c =
    short_if (c == 0x22) (codes "&quot;") _ (lit≤ tt, lit≤ tt)
    (short_if (c == 0x9) (codes "&#x9;") _ (lit≤ tt, lit≤ tt)
    (short_if (c == 0xA) (codes "&#xA;") (in_text c) (lit≤ tt, lit≤ tt) (in_text-short c)))

pub escape-short : (w : Within) (c : ℕ) → IsShort (escape_of w c)
escape-short within.Text c = in_text-short c
escape-short within.Value c = in_value-short c

pub escaped_long : (w : Within) (text : List ℕ) → length text ≤ length (escaped w text)
escaped_long w [] = lit≤ tt
escaped_long w (c ∷ text) =
    let apart = length-append (escape_of w c) (escaped w text) in
    let one = (escape-short w c).0 in
    let rest = escaped_long w text in
    omega arith

-- a byte more is measured
pub next_length : (w : Within) (text : List ℕ) (i : ℕ) → i < length text → length (escaped w (take (i + 1) text)) ≡ length (escaped w (take i text)) + length
    (escape_of w (get_or text i 0))
next_length w text i h =
    ap (λ t. length (escaped w t)) (take_more text i 0 h)
    ∙ (ap length (flat_map-append (escape_of w) (take i text) (get_or text i 0 ∷ []))
    ∙ (length-append (escaped w (take i text)) (escape_of w (get_or text i 0) ++ [])
    ∙ ap (λ t. length (escaped w (take i text)) + length t) (append-nil (escape_of w (get_or text i 0)))))

pub next_fits : (w : Within) (bytes : List ℕ) (i n r : ℕ) → i < length bytes → n ≤ 6 * i → length bytes < 268435456 →
    r ≡ length (escape_of w (get_or bytes i 0)) → n + r < 2 ^ 64
next_fits w bytes i n r below many few is = let short = (escape-short w (get_or bytes i 0)).1 in omega arith

pub next_measured : (w : Within) (bytes text : List ℕ) (i n r : ℕ) → bytes ≡ text → i < length bytes → n ≡ length (escaped w (take i text)) → n ≤ 6 * i
    → r ≡ length (escape_of w (get_or bytes i 0)) → (n + r ≡ length (escaped w (take (i + 1) text))) × (n + r ≤ 6 * (i + 1))
next_measured w bytes text i n r same below so many is =
    let here : i < length text = subst (λ t. i < length t) same below in
    let more = next_length w text i here in
    let one : r ≡ length (escape_of w (get_or text i 0)) = is ∙ ap (λ t. length (escape_of w (get_or t i 0))) same in
    let short = (escape-short w (get_or text i 0)).1 in
    (omega arith, omega arith)
