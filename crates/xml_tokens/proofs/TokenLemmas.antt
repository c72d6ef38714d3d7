-- Tokens by their first byte.
use Rattle.std.proofs.Common.{◌≡◌, ◌≢◌, ℕ, ◌<◌, ◌==◌, ◌&&◌, not, Bool, true, false, List, [], ◌∷◌, length, take, drop, ◌-◌, get_or, refl, sym, ap, ◌∙◌, arith}
use Rattle.std.proofs.Common.{Some, None, if◌then◌else◌, subst}
use Rattle.std.specs.Prelude.{codes}
use Rattle.std.proofs.lemmas.Bool.Decides.{nat_tests}
use Rattle.std.proofs.lemmas.List.{nil_from_length, take_rest}
use Rattle.inv_base.specs.Characters.{is_char}
use Rattle.xml_tokens.specs.declared.encoding.Begun.TheVariants as found
use Rattle.xml_tokens.specs.declared.kind.XmlKind.TheVariants.{BadMarkup, BadChar, NotUtf8, BadReference}
use Rattle.xml_tokens.specs.Searches.{begins_with, ends_inside}
use Rattle.xml_tokens.specs.Encoding as encoding
use Rattle.xml_tokens.specs.References.{reference_at, if_char}
use Rattle.xml_tokens.specs.Markup as markup
use Rattle.xml_tokens.specs.Beginnings as spec
use Rattle.xml_tokens.specs.declared.beginning.Position.{Position}
use Rattle.xml_tokens.specs.Seen.{Shows, shows_good, shows_bad, shows_later}
use Rattle.xml_tokens.specs.Told.{BeginsTag, begins_tag}
use Rattle.xml_tokens.specs.declared.token.Token.TheVariants as tokens
use Rattle.xml_tokens.specs.declared.beginning.Beginning.{Beginning}
use Rattle.xml_tokens.specs.declared.beginning.Beginning.TheVariants.{Good, Bad, Later}

pub shows-same : (found : Beginning) (x y : spec.Beginning) → x ≡ y → Shows found x → Shows found y
shows-same found x y e shows = subst (λ z. Shows found z) e shows

pub begins-tag : (bytes : List ℕ) → 0 < length bytes → get_or bytes 0 0 ≢ 0x21 → get_or bytes 0 0 ≢ 0x3F → BeginsTag bytes
begins-tag [] h e f = absurd (omega arith)
begins-tag (b ∷ bytes) h e f =
    let x : (b == 0x21) ≡ false = grind (arith, nat_tests) in
    let y : (b == 0x3F) ≡ false = grind (arith, nat_tests) in
    begins_tag b bytes x y

pub no-markup : (p : Position) (bytes : List ℕ) → length bytes ≡ 0 → Shows Later (spec.markup_at p bytes)
no-markup p bytes e = shows-same Later spec.later (spec.markup_at p bytes) (sym (ap (spec.markup_at p) (nil_from_length bytes e))) shows_later

-- `]`
abbrev bracketed : Bool → Bool → spec.Beginning
bracketed t u = elim t [ true ↦ spec.bad BadMarkup 3 | false ↦ elim u [ true ↦ spec.later | false ↦ spec.good (markup.a_character 0x5D) 1 ] ]

pub bracket-bad : (ended : Bool) (bytes : List ℕ) → begins_with (codes "]>") bytes ≡ true → Shows (Bad BadMarkup 3) (spec.bracket_at ended bytes)
bracket-bad ended bytes e = shows-same _ _ _ (sym (ap (λ t. bracketed t (not ended && ends_inside (codes "]>") bytes)) e)) (shows_bad BadMarkup 3)

pub bracket-later : (ended : Bool) (bytes : List ℕ) → begins_with (codes "]>") bytes ≡ false → (not ended && ends_inside (codes "]>") bytes) ≡ true →
    Shows Later (spec.bracket_at ended bytes)
bracket-later ended bytes e f = shows-same Later spec.later _
    (sym (ap (λ t. bracketed t (not ended && ends_inside (codes "]>") bytes)) e ∙ ap (λ u. bracketed false u) f)) shows_later

pub bracket-good : (ended : Bool) (bytes : List ℕ) → begins_with (codes "]>") bytes ≡ false → (not ended && ends_inside (codes "]>") bytes) ≡ false →
    Shows (Good (tokens.Character 93) 1) (spec.bracket_at ended bytes)
bracket-good ended bytes e f = shows-same _ _ _ (sym (ap (λ t. bracketed t (not ended && ends_inside (codes "]>") bytes)) e ∙ ap (λ u. bracketed false u) f))
    (shows_good (tokens.Character 93) 1)

-- CR
abbrev lined : Bool → spec.Beginning
lined t = elim t [ true ↦ spec.good (markup.a_character 0xA) 2 | false ↦ spec.good (markup.a_character 0xA) 1 ]

pub line-end-two : (ended : Bool) (bytes : List ℕ) → 0 < length bytes → get_or bytes 0 0 ≡ 10 →
    Shows (Good (tokens.Character 10) 2) (spec.line_end_at ended bytes)
line-end-two ended [] h e = absurd (omega arith)
line-end-two ended (b ∷ bytes) h e = shows-same _ _ _ (sym (ap (λ t. lined t) (is b e))) (shows_good (tokens.Character 10) 2)
  where
    is : (b : ℕ) → b ≡ 10 → (b == 0xA) ≡ true
    is b e = grind (arith, nat_tests)

pub line-end-one : (ended : Bool) (bytes : List ℕ) → 0 < length bytes → get_or bytes 0 0 ≢ 10 →
    Shows (Good (tokens.Character 10) 1) (spec.line_end_at ended bytes)
line-end-one ended [] h e = absurd (omega arith)
line-end-one ended (b ∷ bytes) h e = shows-same _ _ _ (sym (ap (λ t. lined t) (isnt b e))) (shows_good (tokens.Character 10) 1)
  where
    isnt : (b : ℕ) → b ≢ 10 → (b == 0xA) ≡ false
    isnt b e = grind (arith, nat_tests)

pub line-end-ended : (bytes : List ℕ) → length bytes ≡ 0 → Shows (Good (tokens.Character 10) 1) (spec.line_end_at true bytes)
line-end-ended bytes e = shows-same _ _ _ (sym (ap (spec.line_end_at true) (nil_from_length bytes e))) (shows_good (tokens.Character 10) 1)

pub line-end-later : (bytes : List ℕ) → length bytes ≡ 0 → Shows Later (spec.line_end_at false bytes)
line-end-later bytes e = shows-same _ _ _ (sym (ap (spec.line_end_at false) (nil_from_length bytes e))) shows_later

-- References.
pub reference-to : (bytes : List ℕ) (c n : ℕ) → found.Character c n ≡ reference_at bytes →
    Shows (Good (tokens.Reference c) n) (spec.reference_token (reference_at bytes))
reference-to bytes c n e = shows-same _ _ _ (ap spec.reference_token e) (shows_good (tokens.Reference c) n)

pub reference-broken : (bytes : List ℕ) (n : ℕ) → found.Broken n ≡ reference_at bytes → Shows (Bad BadReference n) (spec.reference_token (reference_at bytes))
reference-broken bytes n e = shows-same _ _ _ (ap spec.reference_token e) (shows_bad BadReference n)

pub reference-later : (bytes : List ℕ) → found.Unfinished ≡ reference_at bytes → Shows Later (spec.reference_token (reference_at bytes))
reference-later bytes e = shows-same _ _ _ (ap spec.reference_token e) shows_later

-- Characters.
abbrev charred : Bool → ℕ → ℕ → spec.Beginning
charred t c n = elim t [ true ↦ spec.good (markup.a_character c) n | false ↦ spec.bad BadChar n ]

char-some : (t : Bool) (c d : ℕ) → Some d ≡ (if t then Some c else None) → (t ≡ true) × (d ≡ c)
char-some true c d e = (refl, (let f : d ≡ c = cc in f))
char-some false c d e = cc

char-none : (t : Bool) (c : ℕ) → None ≡ (if t then Some c else None) → t ≡ false
char-none true c e = cc
char-none false c e = refl

pub character-good : (b : ℕ) (bytes : List ℕ) (c n d : ℕ) → found.Character c n ≡ encoding.character_at b bytes → Some d ≡ if_char c →
    Shows (Good (tokens.Character d) n) (spec.character_token (encoding.character_at b bytes))
character-good b bytes c n d e f =
    let is = char-some (is_char c) c d f in
    shows-same _ _ _ (ap (λ x. spec.good (markup.a_character x) n) is.1 ∙ (sym (ap (λ t. charred t c n) is.0) ∙ ap spec.character_token e))
    (shows_good (tokens.Character d) n)

pub character-bad : (b : ℕ) (bytes : List ℕ) (c n : ℕ) → found.Character c n ≡ encoding.character_at b bytes → None ≡ if_char c →
    Shows (Bad BadChar n) (spec.character_token (encoding.character_at b bytes))
character-bad b bytes c n e f = shows-same _ _ _ (sym (ap (λ t. charred t c n) (char-none (is_char c) c f)) ∙ ap spec.character_token e) (shows_bad BadChar n)

pub character-broken : (b : ℕ) (bytes : List ℕ) (n : ℕ) → found.Broken n ≡ encoding.character_at b bytes →
    Shows (Bad NotUtf8 n) (spec.character_token (encoding.character_at b bytes))
character-broken b bytes n e = shows-same _ _ _ (ap spec.character_token e) (shows_bad NotUtf8 n)

pub character-later : (b : ℕ) (bytes : List ℕ) → found.Unfinished ≡ encoding.character_at b bytes →
    Shows Later (spec.character_token (encoding.character_at b bytes))
character-later b bytes e = shows-same _ _ _ (ap spec.character_token e) shows_later

-- What begins with a byte.
abbrev begun : Bool → Bool → Bool → Bool → Bool → Position → Bool → ℕ → List ℕ → spec.Beginning
begun t1 t2 t3 t4 t5 p ended b bytes = elim t1 [
  | true ↦ spec.markup_at p bytes
  | false ↦ elim t2 [
    | true ↦ spec.reference_token (reference_at bytes)
    | false ↦ elim t3 [
      | true ↦ spec.bracket_at ended bytes
      | false ↦ elim t4 [
        | true ↦ spec.line_end_at ended bytes
        | false ↦ elim t5 [ true ↦ spec.good markup.a_mark 3 | false ↦ spec.character_token (encoding.character_at b bytes) ]
      ]
    ]
  ]
]

pub begin-nothing : (p : Position) (ended : Bool) (bytes : List ℕ) → length bytes ≡ 0 → Shows Later (spec.beginning p ended bytes)
unfolding spec.beginning
begin-nothing p ended bytes e = shows-same Later spec.later (spec.beginning p ended bytes)
    (sym (ap (spec.beginning p ended) (nil_from_length bytes e))) shows_later

pub begin-markup : (p : Position) (ended : Bool) (bytes rest : List ℕ) (b : ℕ) → bytes ≡ b ∷ rest → b ≡ 0x3C →
    spec.markup_at p rest ≡ spec.beginning p ended bytes
unfolding spec.beginning
begin-markup p ended bytes rest b e f = sym (ap (spec.beginning p ended) e ∙ ap (λ c. spec.beginning p ended (c ∷ rest)) f)

pub begin-reference : (p : Position) (ended : Bool) (bytes rest : List ℕ) (b : ℕ) → bytes ≡ b ∷ rest → b ≡ 38 →
    spec.reference_token (reference_at rest) ≡ spec.beginning p ended bytes
unfolding spec.beginning
begin-reference p ended bytes rest b e f = sym (ap (spec.beginning p ended) e ∙ ap (λ c. spec.beginning p ended (c ∷ rest)) f)

pub begin-bracket : (p : Position) (ended : Bool) (bytes rest : List ℕ) (b : ℕ) → bytes ≡ b ∷ rest → b ≡ 93 →
    spec.bracket_at ended rest ≡ spec.beginning p ended bytes
unfolding spec.beginning
begin-bracket p ended bytes rest b e f = sym (ap (spec.beginning p ended) e ∙ ap (λ c. spec.beginning p ended (c ∷ rest)) f)

pub begin-line-end : (p : Position) (ended : Bool) (bytes rest : List ℕ) (b : ℕ) → bytes ≡ b ∷ rest → b ≡ 13 →
    spec.line_end_at ended rest ≡ spec.beginning p ended bytes
unfolding spec.beginning
begin-line-end p ended bytes rest b e f = sym (ap (spec.beginning p ended) e ∙ ap (λ c. spec.beginning p ended (c ∷ rest)) f)

pub begin-other : (p : Position) (ended : Bool) (bytes rest : List ℕ) (b : ℕ) (mark : Bool) → bytes ≡ b ∷ rest → b ≢ 0x3C → b ≢ 38 → b ≢ 93 → b ≢ 13 →
    spec.begins_with_mark p bytes ≡ mark
    → begun false false false false mark p ended b rest ≡ spec.beginning p ended bytes
unfolding spec.beginning
begin-other p ended bytes rest b mark e n1 n2 n3 n4 m =
    let e1 : (b == 0x3C) ≡ false = grind (arith, nat_tests) in
    let e2 : (b == 0x26) ≡ false = grind (arith, nat_tests) in
    let e3 : (b == 0x5D) ≡ false = grind (arith, nat_tests) in
    let e4 : (b == 0xD) ≡ false = grind (arith, nat_tests) in
    sym (ap (spec.beginning p ended) e
    ∙ (ap (λ t. begun t (b == 0x26) (b == 0x5D) (b == 0xD) (spec.begins_with_mark p (b ∷ rest)) p ended b rest) e1
    ∙ (ap (λ t. begun false t (b == 0x5D) (b == 0xD) (spec.begins_with_mark p (b ∷ rest)) p ended b rest) e2
    ∙ (ap (λ t. begun false false t (b == 0xD) (spec.begins_with_mark p (b ∷ rest)) p ended b rest) e3
    ∙ (ap (λ t. begun false false false t (spec.begins_with_mark p (b ∷ rest)) p ended b rest) e4
    ∙ ap (λ t. begun false false false false t p ended b rest) (ap (spec.begins_with_mark p) (sym e) ∙ m))))))

pub first-split : (bytes : List ℕ) → 0 < length bytes → bytes ≡ get_or bytes 0 0 ∷ take (length bytes - 1) (drop 1 bytes)
first-split [] h = absurd (omega arith)
first-split (b ∷ bytes) h = ap (λ x. b ∷ x) (sym (take_rest (b ∷ bytes) 1))
