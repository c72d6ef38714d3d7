-- Names, judged by their first character and by all of them.
use Rattle.std.proofs.Common.{◌≡◌, ℕ, ◌&&◌, ◌||◌, Bool, true, false, not, List, [], ◌∷◌, refl, ap, ◌∙◌, sym}
use Rattle.std.specs.Prelude.{◌==◌}
use Rattle.std.specs.List.{list_any, list_all}
use Rattle.std.proofs.lemmas.Bool.{ne_eqb, true≢false}
use Rattle.inv_base.specs.Characters.{is_within, is_name_start, is_name_char}
use Rattle.bind_rows.specs.declared.names.Namespace.{Namespace}
use Rattle.bind_rows.specs.declared.names.Namespace.TheVariants as spaces
use Rattle.bind_rows.specs.Same.{same_namespace}
use Rattle.bind_rows.specs.Namespaces.{declared_by}
use Rattle.bind_table.specs.Laid.{is_plain_start, is_plain_char, is_ncname, is_declared}
use Rattle.laid_tables.specs.Lines.{begins_as_name}

start-goes_on : (c : ℕ) → is_name_start c ≡ true → is_name_char c ≡ true
unfolding is_name_char
start-goes_on c h =
    ap (λ t. t || (c == 0x2D || (c == 0x2E || (is_within 0x30 0x39 c || (c == 0xB7 || (is_within 0x300 0x36F c || is_within 0x203F 0x2040 c)))))) h

-- A test that the colon fails doesn't ask for the colon.
uncoloned : (p : ℕ → Bool) (c : ℕ) (b : Bool) → p 0x3A ≡ false → p c ≡ b → (p c && not (c == 0x3A)) ≡ p c
uncoloned p c true f h = ap (λ x. x && not (c == 0x3A)) h ∙ (ap not (ne_eqb c 0x3A (λ e. true≢false (sym h ∙ (ap p e ∙ f)))) ∙ sym h)
uncoloned p c false f h = ap (λ x. x && not (c == 0x3A)) h ∙ sym h

plain-start : (c : ℕ) → is_plain_start c ≡ is_name_start c
unfolding is_name_start
plain-start c = uncoloned is_name_start c (is_name_start c) refl refl

plain-char : (c : ℕ) → is_plain_char c ≡ is_name_char c
unfolding is_name_char is_name_start
plain-char c = uncoloned is_name_char c (is_name_char c) refl refl

plain-chars : (text : List ℕ) → list_all is_name_char text ≡ list_all is_plain_char text
plain-chars [] = refl
plain-chars (c ∷ text) = ap (λ b. b && list_all is_name_char text) (sym (plain-char c)) ∙ ap (λ b. is_plain_char c && b) (plain-chars text)

pub ncname-goes_on : (text : List ℕ) → begins_as_name text ≡ true → list_all is_name_char text ≡ is_ncname text
ncname-goes_on [] h = cc
ncname-goes_on (c ∷ text) h =
    ap (λ b. b && list_all is_name_char text) (start-goes_on c h ∙ sym (plain-start c ∙ h)) ∙ ap (λ b. is_plain_start c && b) (plain-chars text)

or_false : (a : Bool) → (a || false) ≡ a
or_false true = refl
or_false false = refl

three : (a b c : Bool) → (a || (b || (c || false))) ≡ (a || (b || c))
three a b c = ap (λ x. a || (b || x)) (or_false c)

four : (a b c d : Bool) → (a || (b || (c || (d || false)))) ≡ (a || (b || (c || d)))
four a b c d = ap (λ x. a || (b || (c || x))) (or_false d)

pub declared-among : (root other : Namespace) → list_any (same_namespace other) (declared_by root) ≡ is_declared root other
declared-among spaces.UblInvoice other = let is = same_namespace other in three (is spaces.UblInvoice) (is spaces.UblAggregate) (is spaces.UblBasic)
declared-among spaces.UblCreditNote other = let is = same_namespace other in three (is spaces.UblCreditNote) (is spaces.UblAggregate) (is spaces.UblBasic)
declared-among spaces.CiiInvoice other =
    let is = same_namespace other in four (is spaces.CiiInvoice) (is spaces.CiiAggregate) (is spaces.CiiUnqualified) (is spaces.CiiQualified)
declared-among spaces.UblAggregate other = refl
declared-among spaces.UblBasic other = refl
declared-among spaces.CiiAggregate other = refl
declared-among spaces.CiiUnqualified other = refl
declared-among spaces.CiiQualified other = refl

-- the first of two tests, by its value
pub one-holds : (r a b : Bool) → r ≡ a → r ≡ true → r ≡ (a || b)
one-holds r a b e h = h ∙ ap (λ x. x || b) (sym h ∙ e)

pub other-holds : (r a b t : Bool) → r ≡ a → r ≡ false → t ≡ b → t ≡ (a || b)
other-holds r a b t e h f = f ∙ ap (λ x. x || b) (sym h ∙ e)
