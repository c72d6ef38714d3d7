-- Extents: what is read of them, and how far they were searched.
use Rattle.std.proofs.Common.{◌≡◌, ℕ, zero, suc, ◌+◌, ◌-◌, ◌≤◌, ◌==◌, ◌||◌, Bool, true, false, List, [], ◌∷◌, ◌++◌, length, take, drop, refl, sym, ap, ◌∙◌}
use Rattle.std.proofs.Common.{arith, Option, Some, None, Result, Ok, Err, if◌then◌else◌, subst, inl, inr}
use Rattle.std.specs.Prelude.{codes, IfOk}
use Rattle.std.specs.List.{list_all}
use Rattle.std.specs.Str.{chars, is_utf8, IsUtf8}
use Rattle.std.proofs.lemmas.List.{take_all, length-append}
use Rattle.std.proofs.lemmas.Bool.{cases_lt}
use Rattle.std.proofs.lemmas.Str.{IsUtf8-from_is_utf8, is_utf8-from_IsUtf8}
use Rattle.inv_base.specs.Characters.{is_char}
use Rattle.xml_tokens.specs.declared.kind.XmlKind.{XmlKind}
use Rattle.xml_tokens.specs.declared.kind.XmlKind.TheVariants.{NotUtf8, BadChar, TagTooLong, Doctype, BadMarkup}
use Rattle.xml_tokens.specs.Searches.{begins_with, place_of, TagEnd, behind, none_within, none_yet, tag_end}
use Rattle.xml_tokens.specs.Markup as markup
use Rattle.xml_tokens.specs.Tags.{tag}
use Rattle.xml_tokens.specs.Beginnings.{Beginning, bad, later, of_length, extent, extent_through, tag_at, comment_or_section_at, may_declare, markup_at}
use Rattle.xml_tokens.specs.Beginnings.{beginning, greatest_tag}
use Rattle.xml_tokens.specs.declared.beginning.Position.{Position}
use Rattle.xml_tokens.specs.declared.beginning.Position.TheVariants.{Farther}
use Rattle.xml_tokens.specs.Seen.{Shows, shows_good, shows_bad, shows_later}
use Rattle.xml_tokens.specs.Searching.{Searched, Fits, IsSearched, Keeps, open_quote, quote_after}
use Rattle.xml_tokens.specs.Told.{Tells, tells_token, tells_kind, IsRight, IsWrong, no_utf8, no_chars, beginning_of, are_chars, BeginsTag, begins_tag, ShowsTag}
use Rattle.xml_tokens.specs.Told.{shows_tag, Ends, ends_behind, ends_not_within, ends_not_yet, shared_with_any, ends_inside_any}
use Rattle.xml_tokens.specs.declared.scanning.TagEnd.TheVariants.{Behind, NoneWithin, NoneYet}
use Rattle.xml_tokens.specs.declared.token.Token.{Token}
use Rattle.xml_tokens.specs.declared.beginning.Beginning as code
use Rattle.xml_tokens.specs.declared.beginning.Beginning.TheVariants.{Good, Bad, Later}

-- Texts.
pub right-text : (inside text : List ℕ) → text ≡ inside → IsUtf8 inside → are_chars text ≡ true → IsRight inside text
right-text inside text e u h = record { same = e; utf8 = is_utf8-from_IsUtf8 inside u; characters = ap are_chars (sym e) ∙ h }

pub wrong-chars : (inside text : List ℕ) → text ≡ inside → IsUtf8 inside → are_chars text ≡ false → IsWrong inside BadChar
wrong-chars inside text e u h = no_chars (is_utf8-from_IsUtf8 inside u) (ap are_chars (sym e) ∙ h)

pub wrong-bytes : (inside : List ℕ) → ¬ (IsUtf8 inside) → IsWrong inside NotUtf8
wrong-bytes inside n = no_utf8 (by (is_utf8 inside) refl)
  where
    by : (t : Bool) → is_utf8 inside ≡ t → t ≡ false
    by false e = refl
    by true e = absurd (n (IsUtf8-from_is_utf8 inside e))

-- What is read of an extent.
abbrev judged : ℕ → Bool → Bool → Result markup.Token XmlKind → Beginning
judged n t u r = elim t [ false ↦ bad NotUtf8 n | true ↦ elim u [ false ↦ bad BadChar n | true ↦ of_length n r ] ]

pub extent-right : (n : ℕ) (inside text : List ℕ) (grammar : List ℕ → Result markup.Token XmlKind) (r : Result Token XmlKind) → IsRight inside text →
    Tells r (grammar text) → Shows (beginning_of n r) (extent n inside grammar)
unfolding extent
extent-right n inside text grammar r right told =
    subst (λ t. Shows (beginning_of n r) (judged n t (list_all is_char (chars inside)) (grammar inside))) (sym right.utf8)
    (subst (λ u. Shows (beginning_of n r) (judged n true u (grammar inside))) (sym right.characters)
    (by r (grammar inside) (subst (λ x. Tells r (grammar x)) right.same told)))
  where
    by : (r : Result Token XmlKind) (x : Result markup.Token XmlKind) → Tells r x → Shows (beginning_of n r) (of_length n x)
    by r x (tells_token token) = shows_good token n
    by r x (tells_kind kind) = shows_bad kind n

pub extent-wrong : (n : ℕ) (inside : List ℕ) (grammar : List ℕ → Result markup.Token XmlKind) (kind : XmlKind) → IsWrong inside kind →
    Shows (Bad kind n) (extent n inside grammar)
unfolding extent
extent-wrong n inside grammar kind (no_utf8 e) = subst (λ t. Shows (Bad NotUtf8 n) (judged n t (list_all is_char (chars inside)) (grammar inside))) (sym e)
    (shows_bad NotUtf8 n)
extent-wrong n inside grammar kind (no_chars e f) =
    subst (λ t. Shows (Bad BadChar n) (judged n t (list_all is_char (chars inside)) (grammar inside))) (sym e)
    (subst (λ u. Shows (Bad BadChar n) (judged n true u (grammar inside))) (sym f) (shows_bad BadChar n))

-- an extent is never unfinished
never-later : (n : ℕ) (r : Result markup.Token XmlKind) → of_length n r ≡ later → ⊥
never-later n (Ok token) e = cc
never-later n (Err kind) e = cc

extent-ended : (n : ℕ) (inside : List ℕ) (grammar : List ℕ → Result markup.Token XmlKind) → extent n inside grammar ≡ later → ⊥
unfolding extent
extent-ended n inside grammar e = by (is_utf8 inside) (list_all is_char (chars inside)) e
  where
    by : (t u : Bool) → judged n t u (grammar inside) ≡ later → ⊥
    by false u e = cc
    by true false e = cc
    by true true e = never-later n (grammar inside) e

-- Extents that end with a string.
module _ (string : List ℕ) (opening : ℕ) (grammar : List ℕ → Result markup.Token XmlKind) where
  abbrev pub through : Option ℕ → List ℕ → Beginning
  through x bytes = elim x [ None ↦ later | (Some n) ↦ extent (opening + (n + length string)) (take n bytes) grammar ]

  pub through-right : (bytes inside text : List ℕ) (n : ℕ) (r : Result Token XmlKind) → Some n ≡ place_of string bytes → inside ≡ take n bytes →
      IsRight inside text → Tells r (grammar text) → Shows (beginning_of (opening + (n + length string)) r) (extent_through string opening bytes grammar)
  through-right bytes inside text n r e f right told =
      subst (λ x. Shows (beginning_of (opening + (n + length string)) r) (through x bytes)) e
      (subst (λ x. Shows (beginning_of (opening + (n + length string)) r) (extent (opening + (n + length string)) x grammar)) f
      (extent-right (opening + (n + length string)) inside text grammar r right told))

  pub through-wrong : (bytes inside : List ℕ) (n : ℕ) (kind : XmlKind) → Some n ≡ place_of string bytes → inside ≡ take n bytes → IsWrong inside kind →
      Shows (Bad kind (opening + (n + length string))) (extent_through string opening bytes grammar)
  through-wrong bytes inside n kind e f wrong =
      subst (λ x. Shows (Bad kind (opening + (n + length string))) (through x bytes)) e
      (subst (λ x. Shows (Bad kind (opening + (n + length string))) (extent (opening + (n + length string)) x grammar)) f
      (extent-wrong (opening + (n + length string)) inside grammar kind wrong))

  pub through-open : (bytes : List ℕ) → None ≡ place_of string bytes → extent_through string opening bytes grammar ≡ later
  through-open bytes e = ap (λ x. through x bytes) (sym e)

  pub through-vain : (bytes : List ℕ) → extent_through string opening bytes grammar ≡ later → place_of string bytes ≡ None
  through-vain bytes e = by (place_of string bytes) e
    where
      by : (x : Option ℕ) → through x bytes ≡ later → x ≡ None
      by None e = refl
      by (Some n) e = absurd (extent-ended (opening + (n + length string)) (take n bytes) grammar e)

take-behind : (front bytes : List ℕ) (n : ℕ) → length front ≤ n → take n (front ++ bytes) ≡ front ++ take (n - length front) bytes
take-behind [] bytes n h = let e : n ≡ n - 0 = omega arith in ap (λ k. take k bytes) e
take-behind (b ∷ front) bytes zero h = absurd (omega arith)
take-behind (b ∷ front) bytes (suc n) h =
    let e : n - length front ≡ suc n - suc (length front) = omega arith in
    ap (λ x. b ∷ x) (take-behind front bytes n (omega arith) ∙ ap (λ k. front ++ take k bytes) e)

-- How far such an extent was searched.
module _ (front string : List ℕ) (grammar : List ℕ → Result markup.Token XmlKind)
    (computes : (bytes : List ℕ) → beginning Farther false (front ++ bytes) ≡ extent_through string (length front) bytes grammar)
    (unquoted : (bytes : List ℕ) → open_quote (front ++ bytes) ≡ None) where
  vain-in : (s : Searched) (bytes : List ℕ) → Fits s (front ++ bytes) → place_of string (take (s.searched - length front) bytes) ≡ None
  vain-in s bytes fits = elim (cases_lt s.searched (length front)) [
    | inl short ↦ (let none : s.searched - length front ≡ 0 = omega arith in ap (λ n. place_of string (take n bytes)) none)
    | inr long ↦ through-vain string (length front) grammar (take (s.searched - length front) bytes)
        (sym (computes (take (s.searched - length front) bytes)) ∙
        (ap (beginning Farther false) (sym (take-behind front bytes s.searched long)) ∙ fits.in_vain))
  ]

  within-in : (s : Searched) (bytes : List ℕ) → Fits s (front ++ bytes) → s.searched - length front ≤ length bytes
  within-in s bytes fits = omega (arith, fits.within, length-append front bytes)

  searched-out : (s : Searched) (bytes : List ℕ) → s.searched ≡ length front + length bytes → s.quote ≡ None → None ≡ place_of string bytes →
      IsSearched s (front ++ bytes)
  searched-out s bytes e q none =
      let long : length (front ++ bytes) ≡ length front + length bytes = length-append front bytes in
      let all : take s.searched (front ++ bytes) ≡ front ++ bytes = take_all s.searched (front ++ bytes) (omega (arith, long)) in
      record {
        fits = record {
          within = omega (arith, long);
          in_vain = ap (beginning Farther false) all ∙ (computes bytes ∙ through-open string (length front) grammar bytes none);
          quote = q ∙ sym (ap open_quote all ∙ unquoted bytes);
        };
        all = λ _. omega (arith, long);
      }

abbrev comment_front : List ℕ
comment_front = 0x3C ∷ (0x21 ∷ (0x2D ∷ (0x2D ∷ [])))

comment-computes : (bytes : List ℕ) → beginning Farther false (comment_front ++ bytes) ≡ extent_through (codes "-->") 4 bytes markup.comment
unfolding beginning
comment-computes bytes = refl

comment-unquoted : (bytes : List ℕ) → open_quote (comment_front ++ bytes) ≡ None
comment-unquoted bytes = refl

pub comment-vain : (s : Searched) (bytes : List ℕ) → Fits s (comment_front ++ bytes) → place_of (codes "-->") (take (s.searched - 4) bytes) ≡ None
comment-vain = vain-in comment_front (codes "-->") markup.comment comment-computes comment-unquoted

pub comment-within : (s : Searched) (bytes : List ℕ) → Fits s (comment_front ++ bytes) → s.searched - 4 ≤ length bytes
comment-within = within-in comment_front (codes "-->") markup.comment comment-computes comment-unquoted

pub comment-out : (s : Searched) (bytes : List ℕ) → s.searched ≡ 4 + length bytes → s.quote ≡ None → None ≡ place_of (codes "-->") bytes →
    IsSearched s (comment_front ++ bytes)
comment-out = searched-out comment_front (codes "-->") markup.comment comment-computes comment-unquoted

abbrev section_front : List ℕ
section_front = 0x3C ∷ (0x21 ∷ (0x5B ∷ (0x43 ∷ (0x44 ∷ (0x41 ∷ (0x54 ∷ (0x41 ∷ (0x5B ∷ []))))))))

section-computes : (bytes : List ℕ) → beginning Farther false (section_front ++ bytes) ≡ extent_through (codes "]]>") 9 bytes markup.section
unfolding beginning
section-computes bytes = refl

section-unquoted : (bytes : List ℕ) → open_quote (section_front ++ bytes) ≡ None
section-unquoted bytes = refl

pub section-vain : (s : Searched) (bytes : List ℕ) → Fits s (section_front ++ bytes) → place_of (codes "]]>") (take (s.searched - 9) bytes) ≡ None
section-vain = vain-in section_front (codes "]]>") markup.section section-computes section-unquoted

pub section-within : (s : Searched) (bytes : List ℕ) → Fits s (section_front ++ bytes) → s.searched - 9 ≤ length bytes
section-within = within-in section_front (codes "]]>") markup.section section-computes section-unquoted

pub section-out : (s : Searched) (bytes : List ℕ) → s.searched ≡ 9 + length bytes → s.quote ≡ None → None ≡ place_of (codes "]]>") bytes →
    IsSearched s (section_front ++ bytes)
section-out = searched-out section_front (codes "]]>") markup.section section-computes section-unquoted

abbrev instruction_front : List ℕ
instruction_front = 0x3C ∷ (0x3F ∷ [])

instruction-computes : (bytes : List ℕ) → beginning Farther false (instruction_front ++ bytes) ≡ extent_through (codes "?>") 2 bytes (markup.instruction false)
unfolding beginning
instruction-computes bytes = refl

instruction-unquoted : (bytes : List ℕ) → open_quote (instruction_front ++ bytes) ≡ None
instruction-unquoted bytes = refl

pub instruction-vain : (s : Searched) (bytes : List ℕ) → Fits s (instruction_front ++ bytes) → place_of (codes "?>") (take (s.searched - 2) bytes) ≡ None
instruction-vain = vain-in instruction_front (codes "?>") (markup.instruction false) instruction-computes instruction-unquoted

pub instruction-within : (s : Searched) (bytes : List ℕ) → Fits s (instruction_front ++ bytes) → s.searched - 2 ≤ length bytes
instruction-within = within-in instruction_front (codes "?>") (markup.instruction false) instruction-computes instruction-unquoted

pub instruction-out : (s : Searched) (bytes : List ℕ) → s.searched ≡ 2 + length bytes → s.quote ≡ None → None ≡ place_of (codes "?>") bytes →
    IsSearched s (instruction_front ++ bytes)
instruction-out = searched-out instruction_front (codes "?>") (markup.instruction false) instruction-computes instruction-unquoted

-- How far a tag was searched.
abbrev pub tagged : TagEnd → List ℕ → Beginning
tagged x bytes = elim x [ none_within ↦ bad TagTooLong greatest_tag | none_yet ↦ later | (behind n) ↦ extent (n + 2) (take n bytes) tag ]

not-yet : (bytes : List ℕ) → tag_at bytes ≡ later → tag_end bytes None 262143 ≡ none_yet
not-yet bytes e = by (tag_end bytes None 262143) e
  where
    by : (x : TagEnd) → tagged x bytes ≡ later → x ≡ none_yet
    by none_within e = cc
    by none_yet e = refl
    by (behind n) e = absurd (extent-ended (n + 2) (take n bytes) tag e)

abbrev by_first : Bool → Bool → Position → List ℕ → List ℕ → Beginning
by_first t u position rest whole = elim t [
  | true ↦ comment_or_section_at rest
  | false ↦ elim u [ true ↦ extent_through (codes "?>") 2 rest (markup.instruction (may_declare position)) | false ↦ tag_at whole ]
]

pub markup-tag : (position : Position) (c : ℕ) (rest : List ℕ) → (c == 0x21) ≡ false → (c == 0x3F) ≡ false → markup_at position (c ∷ rest) ≡ tag_at (c ∷ rest)
markup-tag position c rest e f = ap (λ t. by_first t (c == 0x3F) position rest (c ∷ rest)) e ∙ ap (λ u. by_first false u position rest (c ∷ rest)) f

tag-computes : (c : ℕ) (rest : List ℕ) → (c == 0x21) ≡ false → (c == 0x3F) ≡ false → beginning Farther false (0x3C ∷ (c ∷ rest)) ≡ tag_at (c ∷ rest)
unfolding beginning
tag-computes c rest e f = markup-tag Farther c rest e f

tag-quote : (c : ℕ) (rest : List ℕ) → (c == 0x21) ≡ false → (c == 0x3F) ≡ false → open_quote (0x3C ∷ (c ∷ rest)) ≡ quote_after None (c ∷ rest)
tag-quote c rest e f = ap (λ t. if t || c == 0x3F then None else quote_after None (c ∷ rest)) e ∙ ap (λ t. if t then None else quote_after None (c ∷ rest)) f

pub record TagVain (s : Searched) (bytes : List ℕ) : Type 0 where
  pub within : s.searched - 1 ≤ length bytes
  pub in_vain : tag_end (take (s.searched - 1) bytes) None 262143 ≡ none_yet
  pub quote : s.quote ≡ quote_after None (take (s.searched - 1) bytes)

pub tag-in : (s : Searched) (bytes : List ℕ) → BeginsTag bytes → Fits s (0x3C ∷ bytes) → TagVain s bytes
tag-in s bytes (begins_tag c rest e f) fits = by s.searched refl
  where
    by : (n : ℕ) → s.searched ≡ n → TagVain s (c ∷ rest)
    by zero h =
        let none : s.searched - 1 ≡ 0 = omega arith in
        record {
          within = omega arith;
          in_vain = ap (λ k. tag_end (take k (c ∷ rest)) None 262143) none;
          quote = fits.quote ∙ (ap (λ k. open_quote (take k (0x3C ∷ (c ∷ rest)))) h ∙ sym (ap (λ k. quote_after None (take k (c ∷ rest))) none));
        }
    by (suc zero) h =
        let none : s.searched - 1 ≡ 0 = omega arith in
        record {
          within = omega arith;
          in_vain = ap (λ k. tag_end (take k (c ∷ rest)) None 262143) none;
          quote = fits.quote ∙ (ap (λ k. open_quote (take k (0x3C ∷ (c ∷ rest)))) h ∙ sym (ap (λ k. quote_after None (take k (c ∷ rest))) none));
        }
    by (suc (suc k)) h =
        let some : s.searched - 1 ≡ suc k = omega arith in
        let within : s.searched ≤ suc (suc (length rest)) = fits.within in
        record {
          within = omega arith;
          in_vain = ap (λ n. tag_end (take n (c ∷ rest)) None 262143) some ∙
              not-yet (c ∷ take k rest) (sym (tag-computes c (take k rest) e f) ∙
              (ap (λ n. beginning Farther false (take n (0x3C ∷ (c ∷ rest)))) (sym h) ∙ fits.in_vain));
          quote = fits.quote ∙ (ap (λ n. open_quote (take n (0x3C ∷ (c ∷ rest)))) h ∙
              (tag-quote c (take k rest) e f ∙ sym (ap (λ n. quote_after None (take n (c ∷ rest))) some)));
        }

pub tag-out : (s : Searched) (bytes : List ℕ) → BeginsTag bytes → s.searched ≡ 1 + length bytes → s.quote ≡ quote_after None bytes →
    tag_end bytes None 262143 ≡ none_yet → IsSearched s (0x3C ∷ bytes)
tag-out s bytes (begins_tag c rest e f) h q none =
    let all : take s.searched (0x3C ∷ (c ∷ rest)) ≡ 0x3C ∷ (c ∷ rest) = take_all s.searched (0x3C ∷ (c ∷ rest)) (omega arith) in
    record {
      fits = record {
        within = omega arith;
        in_vain = ap (beginning Farther false) all ∙ (tag-computes c rest e f ∙ ap (λ x. tagged x (c ∷ rest)) none);
        quote = q ∙ sym (ap open_quote all ∙ tag-quote c rest e f);
      };
      all = λ _. omega arith;
    }

-- What a tag shows by its end.
pub tag-shown : (found : code.Beginning) (bytes inside : List ℕ) (n : ℕ) → tag_end bytes None 262143 ≡ behind n → inside ≡ take n bytes →
    ShowsTag found (n + 2) inside → Shows found (tag_at bytes)
tag-shown found bytes inside n e f (shows_tag found' n' inside' shows) =
    subst (λ x. Shows found (tagged x bytes)) (sym e) (subst (λ x. Shows found (extent (n + 2) x tag)) f shows)

shows-nothing : (x : Beginning) → Shows Later x → x ≡ later
shows-nothing x shows_later = refl

-- What has an end is a token or a fault, behind which nothing is kept.
pub ended-kept : (found : code.Beginning) (s : Searched) (n : ℕ) (inside bytes : List ℕ) → ShowsTag found n inside → Keeps found s bytes
ended-kept found s n inside bytes (shows_tag (Good token k) n' inside' shows) = tt
ended-kept found s n inside bytes (shows_tag (Bad kind k) n' inside' shows) = tt
ended-kept found s n inside bytes (shows_tag Later n' inside' shows) = absurd (extent-ended n inside tag (shows-nothing (extent n inside tag) shows))

pub tag-too-far : (bytes : List ℕ) → tag_end bytes None 262143 ≡ none_within → Shows (Bad TagTooLong 262144) (tag_at bytes)
tag-too-far bytes e = subst (λ x. Shows (Bad TagTooLong 262144) (tagged x bytes)) (sym e) (shows_bad TagTooLong 262144)

pub tag-open : (bytes : List ℕ) → tag_end bytes None 262143 ≡ none_yet → Shows Later (tag_at bytes)
tag-open bytes e = subst (λ x. Shows Later (tagged x bytes)) (sym e) shows_later

pub ends-behind : (bytes : List ℕ) (n : ℕ) → Ends bytes 262143 (Behind n) → tag_end bytes None 262143 ≡ behind n
ends-behind bytes n (ends_behind m e h) = e

pub ends-within : (bytes : List ℕ) → Ends bytes 262143 NoneWithin → tag_end bytes None 262143 ≡ none_within
ends-within bytes (ends_not_within e) = e

pub ends-yet : (bytes : List ℕ) (quote : Option ℕ) → Ends bytes 262143 (NoneYet quote) → (tag_end bytes None 262143 ≡ none_yet) ×
    (quote ≡ quote_after None bytes)
ends-yet bytes quote (ends_not_yet q e f) = (e, f)

pub if-ok : {T E : Type 0} (r : Result T E) (P Q : T → Type 0) → ((x : T) → P x → Q x) → IfOk r P → IfOk r Q
if-ok (Ok x) P Q f p = f x p
if-ok (Err e) P Q f p = tt

-- What is behind `<!` is none of the three, or isn't yet.
abbrev chosen : Bool → Bool → Bool → Bool → ℕ → List ℕ → Beginning
chosen t1 t2 t3 inside n bytes = elim t1 [
  | true ↦ extent_through (codes "-->") 4 (drop 2 bytes) markup.comment
  | false ↦ elim t2 [
    | true ↦ extent_through (codes "]]>") 9 (drop 7 bytes) markup.section
    | false ↦ elim t3 [ true ↦ bad Doctype 9 | false ↦ elim inside [ true ↦ later | false ↦ bad BadMarkup (3 + n) ] ]
  ]
]

chosen-by : (bytes : List ℕ) (t1 t2 t3 inside : Bool) → begins_with (codes "--") bytes ≡ t1 → begins_with (codes "[CDATA[") bytes ≡ t2 →
    begins_with (codes "DOCTYPE") bytes ≡ t3 → ends_inside_any bytes ≡ inside
    → comment_or_section_at bytes ≡ chosen t1 t2 t3 inside (shared_with_any bytes) bytes
chosen-by bytes t1 t2 t3 inside e1 e2 e3 e4 =
    ap (λ t. chosen t (begins_with (codes "[CDATA[") bytes) (begins_with (codes "DOCTYPE") bytes) (ends_inside_any bytes) (shared_with_any bytes) bytes) e1
    ∙ (ap (λ t. chosen t1 t (begins_with (codes "DOCTYPE") bytes) (ends_inside_any bytes) (shared_with_any bytes) bytes) e2
    ∙ (ap (λ t. chosen t1 t2 t (ends_inside_any bytes) (shared_with_any bytes) bytes) e3
    ∙ ap (λ t. chosen t1 t2 t3 t (shared_with_any bytes) bytes) e4))

pub doctype-shown : (bytes : List ℕ) → begins_with (codes "--") bytes ≡ false → begins_with (codes "[CDATA[") bytes ≡ false →
    begins_with (codes "DOCTYPE") bytes ≡ true → Shows (Bad Doctype 9) (comment_or_section_at bytes)
doctype-shown bytes e1 e2 e3 = subst (λ x. Shows (Bad Doctype 9) x) (sym (chosen-by bytes false false true _ e1 e2 e3 refl)) (shows_bad Doctype 9)

pub inside-shown : (bytes : List ℕ) → begins_with (codes "--") bytes ≡ false → begins_with (codes "[CDATA[") bytes ≡ false →
    begins_with (codes "DOCTYPE") bytes ≡ false → ends_inside_any bytes ≡ true → Shows Later (comment_or_section_at bytes)
inside-shown bytes e1 e2 e3 e4 = subst (λ x. Shows Later x) (sym (chosen-by bytes false false false true e1 e2 e3 e4)) shows_later

pub other-shown : (bytes : List ℕ) (n : ℕ) → begins_with (codes "--") bytes ≡ false → begins_with (codes "[CDATA[") bytes ≡ false →
    begins_with (codes "DOCTYPE") bytes ≡ false → ends_inside_any bytes ≡ false → n ≡ shared_with_any bytes
    → Shows (Bad BadMarkup (3 + n)) (comment_or_section_at bytes)
other-shown bytes n e1 e2 e3 e4 e5 = subst (λ x. Shows (Bad BadMarkup (3 + n)) x) (sym (chosen-by bytes false false false false e1 e2 e3 e4))
    (subst (λ m. Shows (Bad BadMarkup (3 + n)) (bad BadMarkup (3 + m))) e5 (shows_bad BadMarkup (3 + n)))
