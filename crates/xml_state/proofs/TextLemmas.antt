-- Line ends of a text.
use Rattle.std.proofs.Common.{suc, ◌+◌, ◌<◌, length, get_or, drop, ◌≡◌, ℕ, ◌==◌, Bool, true, false, ◌&&◌, List, [], ◌∷◌, ◌++◌, refl, sym, ap, ◌∙◌, arith}
use Rattle.std.proofs.Common.{if◌then◌else◌}
use Rattle.std.specs.List.{list_any}
use Rattle.std.specs.Str.{chars, IsUtf8}
use lib.Utf8.{encode}
use Rattle.std.proofs.lemmas.Bool.Decides.{nat_tests}
use Rattle.std.proofs.lemmas.Str.{chars-append, chars_past_char, chars-nil}
use Rattle.std.proofs.lemmas.List.{append_assoc, append-nil, drop_more, at_drop_all}
use Rattle.std.proofs.lemmas.Bool.{true≢false, or_parts, eqb-true, eq-eqb, ne_eqb}
use Rattle.xml_tokens.specs.Markup.{with_line_feeds}
use Rattle.xml_tokens.specs.Searches.{begins_with}
use Rattle.xml_state.specs.LineEnds.{line_piece, read_lines}

-- a text without CR is itself
pub no_returns : (text : List ℕ) → list_any (λ c. c == 0xD) text ≡ false → with_line_feeds text ≡ text
no_returns [] h = refl
no_returns (c ∷ text) h =
    let parts = or_parts (c == 0xD) (list_any (λ c. c == 0xD) text) h in
    ap (λ (b : Bool). if b then (if begins_with (0xA ∷ []) text then with_line_feeds text else 0xA ∷ with_line_feeds text) else c ∷ with_line_feeds text)
    parts.0
    ∙ ap (λ x. c ∷ x) (no_returns text parts.1)

and_false : (a : Bool) → (a && false) ≡ false
and_false true = refl
and_false false = refl

and_true : (a : Bool) → (a && true) ≡ a
and_true true = refl
and_true false = refl

abbrev choose : {A : Type 0} → Bool → A → A → A
choose b x y = if b then x else y

piece_return : (is_behind : Bool) (c : ℕ) → (c == 0xD) ≡ true → line_piece is_behind c ≡ 0xA ∷ []
piece_return is_behind c e = ap (λ b. choose b (0xA ∷ []) (choose ((c == 0xA) && is_behind) [] (c ∷ []))) e

piece_plain : (c : ℕ) → (c == 0xD) ≡ false → line_piece false c ≡ c ∷ []
piece_plain c e = ap (λ b. choose b (0xA ∷ []) (choose ((c == 0xA) && false) [] (c ∷ []))) e ∙ ap (λ b. choose b [] (c ∷ [])) (and_false (c == 0xA))

piece_behind : (c : ℕ) (b : Bool) → (c == 0xD) ≡ false → (c == 0xA) ≡ b → line_piece true c ≡ choose b [] (c ∷ [])
piece_behind c b e f = ap (λ b. choose b (0xA ∷ []) (choose ((c == 0xA) && true) [] (c ∷ []))) e ∙ ap (λ b. choose b [] (c ∷ [])) (and_true (c == 0xA) ∙ f)

not_both : (c : ℕ) → (c == 0xA) ≡ true → (c == 0xD) ≡ false
not_both c e = let f : c ≡ 0xA = eqb-true c 0xA e in ap (λ x. x == 0xD) f

-- the same, and behind a CR that was told as LF
pub record LinesAre (text : List ℕ) : Type 0 where
  pub plain : read_lines false text ≡ with_line_feeds text
  pub behind : 0xA ∷ read_lines true text ≡ choose (begins_with (0xA ∷ []) text) (with_line_feeds text) (0xA ∷ with_line_feeds text)

feeds_return : (c : ℕ) (text : List ℕ) → (c == 0xD) ≡ true → with_line_feeds (c ∷ text) ≡ choose (begins_with (0xA ∷ []) text) (with_line_feeds text)
    (0xA ∷ with_line_feeds text)
feeds_return c text e = ap (λ b. choose b (choose (begins_with (0xA ∷ []) text) (with_line_feeds text) (0xA ∷ with_line_feeds text)) (c ∷ with_line_feeds text))
    e

feeds_plain : (c : ℕ) (text : List ℕ) → (c == 0xD) ≡ false → with_line_feeds (c ∷ text) ≡ c ∷ with_line_feeds text
feeds_plain c text e = ap (λ b. choose b (choose (begins_with (0xA ∷ []) text) (with_line_feeds text) (0xA ∷ with_line_feeds text)) (c ∷ with_line_feeds text))
    e

lines_plain : (c : ℕ) (text : List ℕ) → LinesAre text → (b : Bool) → (c == 0xD) ≡ b → read_lines false (c ∷ text) ≡ with_line_feeds (c ∷ text)
lines_plain c text are true e =
    ap (λ x. x ++ read_lines (c == 0xD) text) (piece_return false c e) ∙ (ap (λ b. 0xA ∷ read_lines b text) e ∙ (are.behind ∙ sym (feeds_return c text e)))
lines_plain c text are false e =
    ap (λ x. x ++ read_lines (c == 0xD) text) (piece_plain c e) ∙ (ap (λ b. c ∷ read_lines b text) e ∙ (ap (λ x. c ∷ x) are.plain ∙ sym (feeds_plain c text e)))

lines_behind : (c : ℕ) (text : List ℕ) → LinesAre text → (a b : Bool) → (c == 0xD) ≡ a → (c == 0xA) ≡ b
    → 0xA ∷ read_lines true (c ∷ text) ≡ choose (begins_with (0xA ∷ []) (c ∷ text)) (with_line_feeds (c ∷ text)) (0xA ∷ with_line_feeds (c ∷ text))
lines_behind c text are true true e f = absurd (true≢false (sym e ∙ not_both c f))
lines_behind c text are true false e f =
    ap (λ x. 0xA ∷ (x ++ read_lines (c == 0xD) text)) (piece_return true c e)
    ∙ (ap (λ b. 0xA ∷ (0xA ∷ read_lines b text)) e
    ∙ (ap (λ x. 0xA ∷ x) (are.behind ∙ sym (feeds_return c text e))
    ∙ sym (ap (λ b. choose b (with_line_feeds (c ∷ text)) (0xA ∷ with_line_feeds (c ∷ text))) (and_true (c == 0xA) ∙ f))))
lines_behind c text are false true e f =
    ap (λ x. 0xA ∷ (x ++ read_lines (c == 0xD) text)) (piece_behind c true e f)
    ∙ (ap (λ b. 0xA ∷ read_lines b text) e
    ∙ (ap (λ x. 0xA ∷ x) are.plain
    ∙ (ap (λ x. x ∷ with_line_feeds text) (sym (eqb-true c 0xA f))
    ∙ (sym (feeds_plain c text e) ∙ sym (ap (λ b. choose b (with_line_feeds (c ∷ text)) (0xA ∷ with_line_feeds (c ∷ text))) (and_true (c == 0xA) ∙ f))))))
lines_behind c text are false false e f =
    ap (λ x. 0xA ∷ (x ++ read_lines (c == 0xD) text)) (piece_behind c false e f)
    ∙ (ap (λ b. 0xA ∷ (c ∷ read_lines b text)) e
    ∙ (ap (λ x. 0xA ∷ (c ∷ x)) are.plain
    ∙ (ap (λ x. 0xA ∷ x) (sym (feeds_plain c text e)) ∙
    sym (ap (λ b. choose b (with_line_feeds (c ∷ text)) (0xA ∷ with_line_feeds (c ∷ text))) (and_true (c == 0xA) ∙ f)))))

pub lines_are : (text : List ℕ) → LinesAre text
lines_are [] = record { plain = refl; behind = refl }
lines_are (c ∷ text) = let are = lines_are text in record { plain = lines_plain c text are _ refl; behind = lines_behind c text are _ _ refl refl }

-- a character is added to a text
pub added : (text more : List ℕ) (c : ℕ) → IsUtf8 text → IsUtf8 (encode c) → more ≡ text ++ encode c → chars more ≡ chars text ++ c ∷ []
added text more c u v e =
    ap chars e ∙ (chars-append text (encode c) u ∙ ap (λ x. chars text ++ x) (chars_past_char (encode c) [] c v (sym (append-nil (encode c))) ∙
    ap (λ x. c ∷ x) chars-nil))

-- one character of the loop
pub lines-more : (all before more : List ℕ) (n c : ℕ) (is_behind : Bool) (target : List ℕ) → (n < length all) × (c ≡ get_or all n c) → before ++
    read_lines is_behind (drop n all) ≡ target
    → more ≡ before ++ line_piece is_behind c → more ++ read_lines (c == 0xD) (drop (n + 1) all) ≡ target
lines-more all before more n c is_behind target turn h e =
    ap (λ x. x ++ read_lines (c == 0xD) (drop (n + 1) all)) e
    ∙ (append_assoc before (line_piece is_behind c) (read_lines (c == 0xD) (drop (n + 1) all))
    ∙ (ap (λ (x : ℕ). before ++ read_lines is_behind (x ∷ drop (n + 1) all)) turn.1
    ∙ (sym (ap (λ x. before ++ read_lines is_behind x) (drop_more all n c turn.0)) ∙ h)))

pub lines-end : (all text : List ℕ) (n : ℕ) (is_behind : Bool) → n ≡ length all → text ++ read_lines is_behind (drop n all) ≡ read_lines false all →
    text ≡ with_line_feeds all
lines-end all text n is_behind e h =
    sym (append-nil text) ∙ (ap (λ x. text ++ x) (sym (at_drop_all (read_lines is_behind) all n (omega arith))) ∙ (h ∙ (lines_are all).plain))

-- what is added
pub added-return : (text more : List ℕ) (c : ℕ) (is_behind : Bool) → IsUtf8 text → IsUtf8 (encode 0xA) → more ≡ text ++ encode 0xA → c ≡ 0xD →
    chars more ≡ chars text ++ line_piece is_behind c
added-return text more c is_behind u v e is = added text more 0xA u v e ∙ ap (λ x. chars text ++ x) (sym (piece_return is_behind c (eq-eqb c 0xD is)))

pub added-character : (text more : List ℕ) (c : ℕ) (is_behind : Bool) → IsUtf8 text → IsUtf8 (encode c) → more ≡ text ++ encode c → (c ≡ 0xD → ⊥) →
    ((c == 0xA) && is_behind) ≡ false → chars more ≡ chars text ++ line_piece is_behind c
added-character text more c is_behind u v e other alone =
    added text more c u v e
    ∙ ap (λ x. chars text ++ x) (sym (ap (λ b. choose b (0xA ∷ []) (choose ((c == 0xA) && is_behind) [] (c ∷ []))) (ne_eqb c 0xD other) ∙
    ap (λ b. choose b [] (c ∷ [])) alone))

some_is : (n : ℕ) → (suc n == 0) ≡ false
some_is n = grind (arith, nat_tests)

-- a text is empty where it is with its line ends as LF
pub empty_lines : (text : List ℕ) → (length (with_line_feeds text) == 0) ≡ (length text == 0)
empty_lines [] = refl
empty_lines (c ∷ text) =
    ap (λ x. length x == 0) (sym (lines_are (c ∷ text)).plain) ∙ (by (c == 0xD) refl ∙ sym (some_is (length text)))
  where
    by : (b : Bool) → (c == 0xD) ≡ b → (length (read_lines false (c ∷ text)) == 0) ≡ false
    by true e = ap (λ x. length (x ++ read_lines (c == 0xD) text) == 0) (piece_return false c e) ∙ some_is (length (read_lines (c == 0xD) text))
    by false e = ap (λ x. length (x ++ read_lines (c == 0xD) text) == 0) (piece_plain c e) ∙ some_is (length (read_lines (c == 0xD) text))
