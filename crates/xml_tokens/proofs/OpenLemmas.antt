-- What an open comment or instruction begins with further bytes hangs on what is kept of it alone.
use Rattle.std.proofs.Common.{◌≡◌, ℕ, zero, suc, ◌+◌, ◌==◌, Bool, true, false, not, ◌&&◌, ◌||◌, List, [], ◌∷◌, ◌++◌, length, take, drop, refl, sym, ap, ◌∙◌}
use Rattle.std.proofs.Common.{arith, if◌then◌else◌, Option, Some, None, option_and_then, take-append-drop, true≢false}
use Rattle.std.specs.Prelude.{codes}
use Rattle.std.specs.Str.{chars, bytes_eq, is_utf8, IsUtf8}
use Rattle.std.specs.List.{list_all}
use Rattle.std.proofs.lemmas.Str.{IsUtf8-from_is_utf8, chars-encodes, encode_ascii}
use Rattle.std.proofs.Math.Dec.{eqb-suc-zero}
use lib.Utf8.{encode, encodes}
use Rattle.inv_base.specs.Characters.{is_char, is_white_space}
use Rattle.xml_tokens.specs.declared.kind.XmlKind.TheVariants.{BadDeclaration, BadMarkup}
use Rattle.xml_tokens.specs.declared.comments.InComment.{InComment}
use Rattle.xml_tokens.specs.declared.instructions.InInstruction.{InInstruction}
use Rattle.xml_tokens.specs.declared.asides.Inner.{Inner}
use Rattle.xml_tokens.specs.declared.asides.Inner.TheVariants.{Comment, Instruction}
use Rattle.xml_tokens.specs.declared.asides.OpenAside.{OpenAside}
use Rattle.xml_tokens.specs.declared.beginning.Position.{Position}
use Rattle.xml_tokens.specs.declared.beginning.Position.TheVariants.{AtStart, BehindMark, Farther}
use Rattle.xml_tokens.specs.Searches.{begins_with, ends_inside, place_of, behind_string}
use Rattle.xml_tokens.specs.Literals.{begins_with_space, behind_white_space, literal_at}
use Rattle.xml_tokens.specs.Markup.{an_aside, if_right, comment, instruction, target_of, is_target, ends_target, is_declaration, behind_literal}
use Rattle.xml_tokens.specs.Markup.{behind_optional, is_version, is_encoding, is_yes_or_no}
use Rattle.xml_tokens.specs.Beginnings.{Beginning, later, may_declare, extent, extent_through, beginning}
use Rattle.xml_tokens.specs.Comments as comments
use Rattle.xml_tokens.specs.Instructions as instructions
use Rattle.xml_tokens.specs.Asides.{begun, Course, stays_open, ends_with, course, begins_by, if_open, may_be_declaration, open_aside}
use Rattle.xml_tokens.proofs.CutLemmas.{begins-front}
use Rattle.xml_tokens.proofs.AsideLemmas.{shown, going_on, course-append}
use Rattle.xml_tokens.proofs.CommentLemmas.{comment-course}
use Rattle.xml_tokens.proofs.InstructionLemmas.{instruction-course}

-- The bytes spell a word and white space, or may go on to it.
abbrev spells_ahead : List ℕ → List ℕ → Bool
spells_ahead word bytes = begins_with word bytes && ends_target (drop (length word) bytes)

abbrev may_spell : List ℕ → List ℕ → Bool
may_spell word bytes = ends_inside word bytes || spells_ahead word bytes

-- What may not spell them never will.
never-spells : (word bytes more : List ℕ) → may_spell word bytes ≡ false → may_spell word (bytes ++ more) ≡ false
never-spells [] [] more e = absurd (true≢false e)
never-spells [] (b ∷ bytes) more e = ap (λ t. t || is_white_space b) (eqb-suc-zero (length (bytes ++ more)) ∙ sym (eqb-suc-zero (length bytes))) ∙ e
never-spells (c ∷ word) [] more e = absurd (true≢false e)
never-spells (c ∷ word) (b ∷ bytes) more e = by (b == c) e (never-spells word bytes more)
  where
    by : (t : Bool) → ((t && ends_inside word bytes) || ((t && begins_with word bytes) && ends_target (drop (length word) bytes))) ≡ false
        → (may_spell word bytes ≡ false → may_spell word (bytes ++ more) ≡ false)
        → ((t && ends_inside word (bytes ++ more)) || ((t && begins_with word (bytes ++ more)) && ends_target (drop (length word) (bytes ++ more)))) ≡ false
    by true e rest = rest e
    by false e rest = refl

or-right : (t u : Bool) → (t || u) ≡ false → u ≡ false
or-right true u e = absurd (true≢false e)
or-right false u e = e

not-declared : (p : Position) (bytes more : List ℕ) → may_be_declaration p bytes ≡ false → may_be_declaration p (bytes ++ more) ≡ false
not-declared AtStart bytes more e = never-spells (codes "<?xml") bytes more e
not-declared BehindMark bytes more e = never-spells (codes "<?xml") bytes more e
not-declared Farther bytes more e = refl

-- A target `xml` stands at the front of the bytes.
front-spelled : (word : List ℕ) (k : ℕ) (cs : List ℕ) → bytes_eq (take k cs) word ≡ true → begins_with word cs ≡ true
front-spelled [] k cs e = refl
front-spelled (c ∷ word) zero [] e = absurd (true≢false (sym e))
front-spelled (c ∷ word) (suc k) [] e = absurd (true≢false (sym e))
front-spelled (c ∷ word) zero (b ∷ cs) e = absurd (true≢false (sym e))
front-spelled (c ∷ word) (suc k) (b ∷ cs) e = by (b == c) e (front-spelled word k cs)
  where
    by : (t : Bool) → (t && bytes_eq (take k cs) word) ≡ true → (bytes_eq (take k cs) word ≡ true → begins_with word cs ≡ true) →
        (t && begins_with word cs) ≡ true
    by true e rest = rest e
    by false e rest = absurd (true≢false (sym e))

encodes-xml : (r : List ℕ) → encodes (codes "xml" ++ r) ≡ 0x78 ∷ (0x6D ∷ (0x6C ∷ encodes r))
encodes-xml r =
    let x : encode 0x78 ≡ 0x78 ∷ [] = encode_ascii 0x78 (omega arith) in
    let m : encode 0x6D ≡ 0x6D ∷ [] = encode_ascii 0x6D (omega arith) in
    let l : encode 0x6C ≡ 0x6C ∷ [] = encode_ascii 0x6C (omega arith) in
    λ i. x i ++ (m i ++ (l i ++ encodes r))

-- what stands behind it
record IsXml (inside : List ℕ) : Type 0 where
  rest : List ℕ
  is : inside ≡ 0x78 ∷ (0x6D ∷ (0x6C ∷ rest))

target-xml : (inside : List ℕ) → IsUtf8 inside → bytes_eq (target_of (chars inside)) (codes "xml") ≡ true → IsXml inside
target-xml inside u e =
    let cs = chars inside in
    let same : u.0 ≡ cs = sym (chars-encodes u.0 u.1.0) ∙ ap chars u.1.1 in
    let front : take 3 cs ≡ codes "xml" = begins-front (codes "xml") cs (front-spelled (codes "xml") _ cs e) in
    let whole : cs ≡ codes "xml" ++ drop 3 cs = sym (take-append-drop 3 cs) ∙ ap (λ x. x ++ drop 3 cs) front in
    record { rest = encodes (drop 3 cs); is = sym u.1.1 ∙ (ap encodes (same ∙ whole) ∙ encodes-xml (drop 3 cs)) }

no-space : (r tail : List ℕ) → ends_target (r ++ tail) ≡ false → begins_with_space r ≡ false
no-space [] tail e = refl
no-space (b ∷ r) tail e = or-right (length (b ∷ (r ++ tail)) == 0) (is_white_space b) e

no-declaration : (r : List ℕ) → begins_with_space r ≡ false → is_declaration r ≡ false
unfolding is_declaration
no-declaration r e = ap (λ t. elim (if t then option_and_then (behind_literal is_version)
    (option_and_then literal_at (behind_string (codes "version") (behind_white_space r))) else None) [
      | None ↦ false
      | (Some rest) ↦ list_all is_white_space (behind_optional (codes "standalone") is_yes_or_no (behind_optional (codes "encoding") is_encoding rest))
    ]) e

-- An instruction that can't be the declaration is one by the definition as if none might stand there.
module _ (p : Position) (inside tail all : List ℕ) (parts : all ≡ inside ++ tail) (other : (may_declare p && may_spell (codes "xml") all) ≡ false) where
  ahead : (q : Position) → (may_declare q && may_spell (codes "xml") all) ≡ false → IsXml inside → (may_declare q && is_declaration (drop 3 inside)) ≡ false
  ahead q o xml = by (may_declare q) o
    where
      spelt : may_spell (codes "xml") all ≡ ends_target (xml.rest ++ tail)
      spelt = ap (may_spell (codes "xml")) (parts ∙ ap (λ x. x ++ tail) xml.is)

      by : (t : Bool) → (t && may_spell (codes "xml") all) ≡ false → (t && is_declaration (drop 3 inside)) ≡ false
      by true e = ap (λ x. is_declaration (drop 3 x)) xml.is ∙ no-declaration xml.rest (no-space xml.rest tail (sym spelt ∙ e))
      by false e = refl

  undeclared : IsUtf8 inside → instruction (may_declare p) inside ≡ instruction false inside
  unfolding instruction
  undeclared u = by (bytes_eq (target_of (chars inside)) (codes "xml")) refl
    where
      by : (t : Bool) → bytes_eq (target_of (chars inside)) (codes "xml") ≡ t
          → (if t then if_right (may_declare p && is_declaration (drop 3 inside)) an_aside BadDeclaration else if_right
          (is_target (target_of (chars inside)) && ends_target (drop (length (target_of (chars inside))) (chars inside))) an_aside BadMarkup)
          ≡ (if t then if_right false an_aside BadDeclaration else if_right
          (is_target (target_of (chars inside)) && ends_target (drop (length (target_of (chars inside))) (chars inside))) an_aside BadMarkup)
      by true e = ap (λ t. if_right t an_aside BadDeclaration) (ahead p other (target-xml inside u e))
      by false e = refl

  undeclared-extent : (n : ℕ) → extent n inside (instruction (may_declare p)) ≡ extent n inside (instruction false)
  unfolding extent
  undeclared-extent n = by (is_utf8 inside) refl
    where
      by : (t : Bool) → is_utf8 inside ≡ t → shown n t (list_all is_char (chars inside)) (instruction (may_declare p) inside) ≡ shown n t
          (list_all is_char (chars inside)) (instruction false inside)
      by true e = ap (shown n true (list_all is_char (chars inside))) (undeclared (IsUtf8-from_is_utf8 inside e))
      by false e = refl

-- an instruction by its end
abbrev through : Bool → List ℕ → Option ℕ → Beginning
through declare all x = elim x [ None ↦ later | (Some n) ↦ extent (2 + (n + length (codes "?>"))) (take n all) (instruction declare) ]

undeclared-through : (p : Position) (all : List ℕ) → (may_declare p && may_spell (codes "xml") all) ≡ false
    → extent_through (codes "?>") 2 all (instruction (may_declare p)) ≡ extent_through (codes "?>") 2 all (instruction false)
undeclared-through p all other = by (place_of (codes "?>") all)
  where
    by : (x : Option ℕ) → through (may_declare p) all x ≡ through false all x
    by None = refl
    by (Some n) = undeclared-extent p (take n all) (drop n all) all (sym (take-append-drop n all)) other (2 + (n + length (codes "?>")))

-- What is open is known by how it began and what stands inside.
pub record IsOpen (p : Position) (bytes : List ℕ) (aside : OpenAside) : Type 0 where
  pub came : ℕ
  pub inner : Inner
  pub inside : List ℕ
  pub behind : List ℕ
  pub first : bytes ≡ 0x3C ∷ behind
  pub long : came + length inside ≡ length bytes
  pub leads : course came (begun inner) inside ≡ stays_open aside
  pub begins : (e : Bool) (more : List ℕ) → beginning p e (bytes ++ more) ≡ begins_by (course came (begun inner) (inside ++ more))
  pub grows : (more : List ℕ) → open_aside p (bytes ++ more) ≡ if_open (course came (begun inner) (inside ++ more))

open-leads : (x : Course) (aside : OpenAside) → if_open x ≡ Some aside → x ≡ stays_open aside
open-leads (stays_open other) aside e = let same : other ≡ aside = cc e in ap stays_open same
open-leads (ends_with fault n) aside e = absurd (cc e)

abbrev opens_comment : List ℕ → List ℕ
opens_comment inside = 0x3C ∷ (0x21 ∷ (0x2D ∷ (0x2D ∷ inside)))

abbrev opens_instruction : List ℕ → List ℕ
opens_instruction inside = 0x3C ∷ (0x3F ∷ inside)

comment-begins : (p : Position) (e : Bool) (inside : List ℕ) → beginning p e (opens_comment inside) ≡ extent_through (codes "-->") 4 inside comment
unfolding beginning
comment-begins p e inside = refl

comment-grows : (p : Position) (inside : List ℕ) → open_aside p (opens_comment inside) ≡ if_open (course 4 (begun (Comment comments.begun)) inside)
unfolding open_aside
comment-grows p inside = refl

instruction-begins : (p : Position) (e : Bool) (inside : List ℕ) → beginning p e (opens_instruction inside) ≡ extent_through (codes "?>") 2 inside
    (instruction (may_declare p))
unfolding beginning
instruction-begins p e inside = refl

instruction-grows : (p : Position) (inside : List ℕ) → may_be_declaration p (opens_instruction inside) ≡ false →
    open_aside p (opens_instruction inside) ≡ if_open (course 2 (begun (Instruction instructions.begun)) inside)
unfolding open_aside
instruction-grows p inside e = ap (λ t. elim (not t) [ true ↦ if_open (course 2 (begun (Instruction instructions.begun)) inside) | false ↦ None ]) e

open-comment : (p : Position) (bytes : List ℕ) (aside : OpenAside) → begins_with (codes "<!--") bytes ≡ true →
    if_open (course 4 (begun (Comment comments.begun)) (drop 4 bytes)) ≡ Some aside → IsOpen p bytes aside
open-comment p bytes aside t e =
    let inside = drop 4 bytes in
    let is : bytes ≡ opens_comment inside = sym (take-append-drop 4 bytes) ∙ ap (λ x. x ++ inside) (begins-front (codes "<!--") bytes t) in
    record {
      came = 4;
      inner = Comment comments.begun;
      inside = inside;
      behind = 0x21 ∷ (0x2D ∷ (0x2D ∷ inside));
      first = is;
      long = omega (arith, ap length is);
      leads = open-leads (course 4 (begun (Comment comments.begun)) inside) aside e;
      begins = λ ended more. ap (λ x. beginning p ended (x ++ more)) is ∙ (comment-begins p ended (inside ++ more) ∙ sym (comment-course (inside ++ more)));
      grows = λ more. ap (λ x. open_aside p (x ++ more)) is ∙ comment-grows p (inside ++ more);
    }

open-instruction : (p : Position) (bytes : List ℕ) (aside : OpenAside) → begins_with (codes "<?") bytes ≡ true → may_be_declaration p bytes ≡ false
    → if_open (course 2 (begun (Instruction instructions.begun)) (drop 2 bytes)) ≡ Some aside → IsOpen p bytes aside
open-instruction p bytes aside t none e =
    let inside = drop 2 bytes in
    let is : bytes ≡ opens_instruction inside = sym (take-append-drop 2 bytes) ∙ ap (λ x. x ++ inside) (begins-front (codes "<?") bytes t) in
    let other : (more : List ℕ) → may_be_declaration p (opens_instruction (inside ++ more)) ≡ false =
    λ more. ap (λ x. may_be_declaration p (x ++ more)) (sym is) ∙ not-declared p bytes more none in
    record {
      came = 2;
      inner = Instruction instructions.begun;
      inside = inside;
      behind = 0x3F ∷ inside;
      first = is;
      long = omega (arith, ap length is);
      leads = open-leads (course 2 (begun (Instruction instructions.begun)) inside) aside e;
      begins = λ ended more.
          ap (λ x. beginning p ended (x ++ more)) is
          ∙ (instruction-begins p ended (inside ++ more) ∙ (undeclared-through p (inside ++ more) (other more) ∙ sym (instruction-course (inside ++ more))));
      grows = λ more. ap (λ x. open_aside p (x ++ more)) is ∙ instruction-grows p (inside ++ more) (other more);
    }

both : (t u : Bool) → (t && not u) ≡ true → (t ≡ true) × (u ≡ false)
both true true e = absurd (true≢false (sym e))
both true false e = (refl, refl)
both false u e = absurd (true≢false (sym e))

pub open-is : (p : Position) (bytes : List ℕ) (aside : OpenAside) → open_aside p bytes ≡ Some aside → IsOpen p bytes aside
unfolding open_aside
open-is p bytes aside e = by (begins_with (codes "<!--") bytes) refl (begins_with (codes "<?") bytes && not (may_be_declaration p bytes)) refl e
  where
    by : (t : Bool) → begins_with (codes "<!--") bytes ≡ t → (u : Bool) → (begins_with (codes "<?") bytes && not (may_be_declaration p bytes)) ≡ u
        → (elim t [
          | true ↦ if_open (course 4 (begun (Comment comments.begun)) (drop 4 bytes))
          | false ↦ elim u [ true ↦ if_open (course 2 (begun (Instruction instructions.begun)) (drop 2 bytes)) | false ↦ None ]
        ]) ≡ Some aside → IsOpen p bytes aside
    by true t u v f = open-comment p bytes aside t f
    by false t true v f = let is = both (begins_with (codes "<?") bytes) (may_be_declaration p bytes) v in open-instruction p bytes aside is.0 is.1 f
    by false t false v f = absurd (cc f)

module _ (p : Position) (bytes more : List ℕ) (aside : OpenAside) (is : open_aside p bytes ≡ Some aside) where
  leads-on : course (open-is p bytes aside is).came (begun (open-is p bytes aside is).inner) ((open-is p bytes aside is).inside ++ more) ≡ course
      (length bytes) aside more
  leads-on =
      let o = open-is p bytes aside is in
      course-append o.came (begun o.inner) o.inside more ∙ (ap (λ x. going_on x (o.came + length o.inside) more) o.leads ∙ ap (λ k. course k aside more) o.long)

  -- What it begins with further bytes ..
  pub open-begins : (e : Bool) → beginning p e (bytes ++ more) ≡ begins_by (course (length bytes) aside more)
  open-begins e = (open-is p bytes aside is).begins e more ∙ ap begins_by leads-on

  -- .. and what it is with them.
  pub open-grows : open_aside p (bytes ++ more) ≡ if_open (course (length bytes) aside more)
  open-grows = (open-is p bytes aside is).grows more ∙ ap if_open leads-on

-- What the code finds of bytes that may be one.
abbrev by_tests : Bool → Bool → List ℕ → Option OpenAside
by_tests t u bytes = elim t [
  | true ↦ if_open (course 4 (begun (Comment comments.begun)) (drop 4 bytes))
  | false ↦ elim u [ true ↦ if_open (course 2 (begun (Instruction instructions.begun)) (drop 2 bytes)) | false ↦ None ]
]

by-tests : (p : Position) (bytes : List ℕ) (t u : Bool) → begins_with (codes "<!--") bytes ≡ t →
    (begins_with (codes "<?") bytes && not (may_be_declaration p bytes)) ≡ u → open_aside p bytes ≡ by_tests t u bytes
unfolding open_aside
by-tests p bytes t u e f = λ i. by_tests (e i) (f i) bytes

pub not-open : (p : Position) (bytes : List ℕ) → begins_with (codes "<!--") bytes ≡ false →
    (begins_with (codes "<?") bytes && not (may_be_declaration p bytes)) ≡ false → open_aside p bytes ≡ None
not-open p bytes e f = by-tests p bytes false false e f

-- what is begun, as the code has it
begun-as : (position : ℕ) (bytes behind : List ℕ) (inner other : Inner) (found : Option OpenAside) (k : ℕ) → inner ≡ other → behind ≡ drop k bytes →
    found ≡ if_open (course position (begun inner) behind)
    → if_open (course position (begun other) (drop k bytes)) ≡ found
begun-as position bytes behind inner other found k same is opened = sym (opened ∙ (λ i. if_open (course position (begun (same i)) (is i))))

pub comment-by : (p : Position) (bytes behind : List ℕ) (inner : InComment) (found : Option OpenAside) → begins_with (codes "<!--") bytes ≡ true →
    inner ≡ comments.begun → behind ≡ drop 4 bytes
    → found ≡ if_open (course 4 (begun (Comment inner)) behind) → open_aside p bytes ≡ found
comment-by p bytes behind inner found e same is opened =
    by-tests p bytes true (begins_with (codes "<?") bytes && not (may_be_declaration p bytes)) e refl
    ∙ begun-as 4 bytes behind (Comment inner) (Comment comments.begun) found 4 (ap Comment same) is opened

pub instruction-by : (p : Position) (bytes behind : List ℕ) (inner : InInstruction) (found : Option OpenAside) → begins_with (codes "<!--") bytes ≡ false →
    (begins_with (codes "<?") bytes && not (may_be_declaration p bytes)) ≡ true
    → inner ≡ instructions.begun → behind ≡ drop 2 bytes → found ≡ if_open (course 2 (begun (Instruction inner)) behind) → open_aside p bytes ≡ found
instruction-by p bytes behind inner found e f same is opened =
    by-tests p bytes false true e f ∙ begun-as 2 bytes behind (Instruction inner) (Instruction instructions.begun) found 2 (ap Instruction same) is opened
