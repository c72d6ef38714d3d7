-- Comments and instructions.
use Rattle.std.proofs.Common.{◌≡◌, ℕ, suc, ◌+◌, ◌-◌, ◌==◌, Bool, true, false, not, ◌&&◌, List, [], ◌∷◌, ◌++◌, length, get_or, refl, sym, ap, ◌∙◌, arith, Option}
use Rattle.std.proofs.Common.{Some, None, option_map, Result, Ok, Err, is_none, subst, nat_eq, drop, cond, if◌then◌else◌}
use Rattle.std.specs.Str.{chars, IsUtf8, bytes_eq}
use Rattle.std.specs.List.{list_all, prefix_len}
use Rattle.std.proofs.lemmas.Str.{chars-nil}
use Rattle.std.proofs.lemmas.List.{drop_at}
use Rattle.std.proofs.Math.Dec.{eqb-suc-zero}
use lib.Pointwise.{pointwise_long}
use Rattle.inv_base.specs.Characters.{is_white_space}
use Rattle.xml_tokens.specs.Literals.{behind_white_space}
use Rattle.xml_tokens.proofs.NameLemmas.{xml-told}
use Rattle.std.specs.Prelude.{codes}
use Rattle.xml_tokens.specs.declared.kind.XmlKind.{XmlKind}
use Rattle.xml_tokens.specs.declared.kind.XmlKind.TheVariants.{BadMarkup, BadDeclaration}
use Rattle.xml_tokens.specs.Markup as markup
use Rattle.xml_tokens.specs.Searches.{begins_with, place_of}
use Rattle.xml_tokens.specs.Seen.{seen_token}
use Rattle.xml_tokens.specs.Told.{Tells, tells_token, tells_kind, IsTarget, aside_if}
use Rattle.xml_tokens.specs.declared.token.Token.{Token}
use Rattle.xml_tokens.specs.declared.token.Token.TheVariants.{Aside}

pub tells-right : (token : Token) (r : Result markup.Token XmlKind) → Ok (seen_token token) ≡ r → Tells (Ok token) r
tells-right token r e = subst (λ x. Tells (Ok token) x) e (tells_token token)

pub tells-wrong : (kind : XmlKind) (r : Result markup.Token XmlKind) → Err kind ≡ r → Tells (Err kind) r
tells-wrong kind r e = subst (λ x. Tells (Err kind) x) e (tells_kind kind)

abbrev no_place : Bool → Option ℕ → Bool
no_place t x = is_none {T = ℕ} (elim t [ true ↦ Some 0 | false ↦ option_map (λ n. 1 + n) x ])

no-place-more : (x : Option ℕ) → no_place false x ≡ is_none x
no-place-more None = refl
no-place-more (Some n) = refl

pub comment-told : (inside : List ℕ) → is_none (place_of (codes "--") (inside ++ codes "-")) ≡ (is_none (place_of (codes "--") inside) &&
    not (get_or inside (length inside - 1) 0 == 0x2D))
comment-told [] = refl
comment-told (b ∷ []) = by (b == 0x2D)
  where
    by : (t : Bool) → no_place (t && true) None ≡ (no_place (t && false) None && not t)
    by true = refl
    by false = refl
comment-told (b ∷ (d ∷ rest)) =
    let last : length (b ∷ (d ∷ rest)) - 1 ≡ suc (length (d ∷ rest) - 1) = omega arith in
    by (begins_with (codes "--") (b ∷ (d ∷ rest))) (begins_with (codes "--") (b ∷ (d ∷ (rest ++ codes "-")))) refl (comment-told (d ∷ rest))
    ∙ ap (λ n. is_none (place_of (codes "--") (b ∷ (d ∷ rest))) && not (get_or (b ∷ (d ∷ rest)) n 0 == 0x2D)) (sym last)
  where
    by : (t u : Bool) → t ≡ u → is_none (place_of (codes "--") ((d ∷ rest) ++ codes "-")) ≡ (is_none (place_of (codes "--") (d ∷ rest)) &&
        not (get_or (d ∷ rest) (length (d ∷ rest) - 1) 0 == 0x2D))
        → no_place u (place_of (codes "--") ((d ∷ rest) ++ codes "-")) ≡ (no_place t (place_of (codes "--") (d ∷ rest)) &&
        not (get_or (d ∷ rest) (length (d ∷ rest) - 1) 0 == 0x2D))
    by true true e h = refl
    by false false e h = no-place-more (place_of (codes "--") ((d ∷ rest) ++ codes "-")) ∙
        (h ∙ ap (λ t. t && not (get_or (d ∷ rest) (length (d ∷ rest) - 1) 0 == 0x2D)) (sym (no-place-more (place_of (codes "--") (d ∷ rest)))))
    by true false e h = cc
    by false true e h = cc

pub tells-if : (right : Bool) (kind : XmlKind) → Tells (aside_if right kind) (markup.if_right right markup.an_aside kind)
tells-if true kind = tells_token Aside
tells-if false kind = tells_kind kind

-- a comment
pub tells-comment : (inside : List ℕ) (right : Bool) → right ≡ is_none (place_of (codes "--") (inside ++ codes "-")) →
    Tells (aside_if right BadMarkup) (markup.comment inside)
unfolding markup.comment
tells-comment inside right e = subst (λ t. Tells (aside_if right BadMarkup) (markup.if_right t markup.an_aside BadMarkup)) e (tells-if right BadMarkup)

-- an instruction by its target
abbrev by_target : Bool → Bool → Bool → Result markup.Token XmlKind
by_target t u v = if t then markup.if_right u markup.an_aside BadDeclaration else markup.if_right v markup.an_aside BadMarkup

pub tells-declaration : (may_declare : Bool) (inside target rest : List ℕ) (right : Bool) → IsUtf8 target → IsTarget inside target rest →
    bytes_eq target (codes "xml") ≡ true → right ≡ (may_declare && markup.is_declaration rest)
    → Tells (aside_if right BadDeclaration) (markup.instruction may_declare inside)
unfolding markup.instruction
tells-declaration may_declare inside target rest right u is e f =
    let whole_target = markup.target_of (chars inside) in
    let long : length target ≡ 3 = pointwise_long nat_eq target (codes "xml") e in
    let behind : drop 3 inside ≡ rest = ap (drop 3) is.whole ∙ drop_at target rest 3 long in
    let spelled : bytes_eq whole_target (codes "xml") ≡ true = ap (λ x. bytes_eq x (codes "xml")) (sym is.target) ∙ (xml-told target u ∙ e) in
    subst (λ t. Tells (aside_if right BadDeclaration)
    (by_target t (may_declare && markup.is_declaration (drop 3 inside))
    (markup.is_target whole_target && markup.ends_target (drop (length whole_target) (chars inside))))) (sym spelled)
    (subst (λ x. Tells (aside_if right BadDeclaration) (markup.if_right (may_declare && markup.is_declaration x) markup.an_aside BadDeclaration)) (sym behind)
    (subst (λ t. Tells (aside_if right BadDeclaration) (markup.if_right t markup.an_aside BadDeclaration)) f (tells-if right BadDeclaration)))

pub tells-instruction : (may_declare : Bool) (inside target rest : List ℕ) (right : Bool) → IsUtf8 target → IsTarget inside target rest →
    bytes_eq target (codes "xml") ≡ false → right ≡ (markup.is_target (chars target) && markup.ends_target (chars rest))
    → Tells (aside_if right BadMarkup) (markup.instruction may_declare inside)
unfolding markup.instruction
tells-instruction may_declare inside target rest right u is e f =
    let whole_target = markup.target_of (chars inside) in
    let spelled : bytes_eq whole_target (codes "xml") ≡ false = ap (λ x. bytes_eq x (codes "xml")) (sym is.target) ∙ (xml-told target u ∙ e) in
    let same : right ≡ (markup.is_target whole_target && markup.ends_target (drop (length whole_target) (chars inside))) =
    f ∙ (ap (λ x. markup.is_target x && markup.ends_target (chars rest)) is.target ∙ ap (λ x. markup.is_target whole_target && markup.ends_target x) is.behind)
    in
    subst (λ t. Tells (aside_if right BadMarkup) (by_target t (may_declare && markup.is_declaration (drop 3 inside))
    (markup.is_target whole_target && markup.ends_target (drop (length whole_target) (chars inside))))) (sym spelled)
    (subst (λ t. Tells (aside_if right BadMarkup) (markup.if_right t markup.an_aside BadMarkup)) same (tells-if right BadMarkup))

pub ends-nothing : (rest : List ℕ) → rest ≡ [] → true ≡ markup.ends_target (chars rest)
ends-nothing rest e = ap (λ x. markup.ends_target x) (sym (ap chars e ∙ chars-nil))

-- white space alone
pub blank-told : (bytes : List ℕ) → (length (behind_white_space bytes) == 0) ≡ list_all is_white_space bytes
blank-told [] = refl
blank-told (b ∷ bytes) = by (is_white_space b) (blank-told bytes)
  where
    by : (t : Bool) → (length (behind_white_space bytes) == 0) ≡ list_all is_white_space bytes →
        (length (drop (cond t (1 + prefix_len is_white_space bytes) 0) (b ∷ bytes)) == 0) ≡ (t && list_all is_white_space bytes)
    by true e =
        let one : 1 + prefix_len is_white_space bytes ≡ suc (prefix_len is_white_space bytes) = omega arith in
        ap (λ n. length (drop n (b ∷ bytes)) == 0) one ∙ e
    by false e = eqb-suc-zero (length bytes)
