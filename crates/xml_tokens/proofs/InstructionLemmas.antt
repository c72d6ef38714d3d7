-- An instruction that is read byte by byte is the instruction of the definition.
use Rattle.std.proofs.Common.{◌≡◌, ℕ, suc, ◌+◌, ◌==◌, Bool, true, false, not, ◌&&◌, ◌||◌, List, [], ◌∷◌, ◌++◌, map, length, take, drop, refl, sym, ap, ◌∙◌}
use Rattle.std.proofs.Common.{subst, arith, if◌then◌else◌, cond, Option, Some, None, option_map, option_and_then}
use Rattle.std.specs.Char.{encode_utf8, to_ascii_lowercase}
use Rattle.std.specs.Prelude.{codes}
use Rattle.std.specs.Str.{chars, bytes_eq}
use Rattle.std.specs.List.{list_all, prefix_len}
use Rattle.std.proofs.Math.Dec.{eqb-suc-zero}
use Rattle.std.proofs.lemmas.Bool.Decides.{nat_tests}
use Rattle.inv_base.specs.Characters.{is_char, is_white_space, is_name_start, is_name_char}
use Rattle.inv_base.proofs.TextLemmas.{both}
use Rattle.xml_tokens.specs.declared.kind.XmlKind.{XmlKind}
use Rattle.xml_tokens.specs.declared.kind.XmlKind.TheVariants.{BadDeclaration, BadMarkup}
use Rattle.xml_tokens.specs.declared.spelling.Spelling.{Spelling}
use Rattle.xml_tokens.specs.declared.spelling.Spelling.TheVariants.{Between}
use Rattle.xml_tokens.specs.declared.instructions.Letters.{Letters}
use Rattle.xml_tokens.specs.declared.instructions.Letters.TheVariants.{Zero, One, Two, Three, Other}
use Rattle.xml_tokens.specs.declared.instructions.Naming.{Naming}
use Rattle.xml_tokens.specs.declared.instructions.Naming.TheVariants.{Empty, Good, Bad}
use Rattle.xml_tokens.specs.declared.instructions.Written.{Written}
use Rattle.xml_tokens.specs.declared.instructions.Target.{Target}
use Rattle.xml_tokens.specs.declared.instructions.Target.TheVariants.{Going, Ended}
use Rattle.xml_tokens.specs.declared.asides.Inner.TheVariants.{Instruction}
use Rattle.xml_tokens.specs.declared.asides.OpenAside.{OpenAside}
use Rattle.xml_tokens.specs.Searches.{begins_with, place_of}
use Rattle.xml_tokens.specs.References.{if_char}
use Rattle.xml_tokens.specs.WrittenNames.{is_ncname}
use Rattle.xml_tokens.specs.Markup.{an_aside, if_right, target_of, is_target, ends_target, instruction}
use Rattle.xml_tokens.specs.Beginnings.{Beginning, later, of_length, extent, extent_through}
use Rattle.xml_tokens.specs.Spelling.{spelling_behind, ended, is_wrong}
use Rattle.xml_tokens.specs.Instructions.{goes_on, letters_behind, are_three, named_if, naming_behind, is_good, written_behind, target_fault, target_behind}
use Rattle.xml_tokens.specs.Instructions.{target_with, fault_of_target, no_target, begun}
use Rattle.xml_tokens.specs.Asides.{fault_by, fault_inside, ends_with, course, begins_by, ended_char}
use Rattle.xml_tokens.specs.Asides as asides
use Rattle.xml_tokens.proofs.Utf8Lemmas.{Stands, stands-begun, spelling_all, characters, characters-told, with_ended, wrong_all, wrong-told, stands-all}
use Rattle.xml_tokens.proofs.AsideLemmas.{IsTail, verdict}

-- What is left of the word, and of a name, behind what has come.
abbrev spelled : Letters → List ℕ → Bool
spelled Zero cs = bytes_eq cs (codes "xml")
spelled One cs = bytes_eq cs (codes "ml")
spelled Two cs = bytes_eq cs (codes "l")
spelled Three cs = bytes_eq cs []
spelled Other cs = false

spelled-nothing : (letters : Letters) → spelled letters [] ≡ are_three letters
spelled-nothing Zero = refl
spelled-nothing One = refl
spelled-nothing Two = refl
spelled-nothing Three = refl
spelled-nothing Other = refl

spelled-if : (t : Bool) (next : Letters) (cs : List ℕ) → (t && spelled next cs) ≡ spelled (if t then next else Other) cs
spelled-if true next cs = refl
spelled-if false next cs = refl

spelled-more : (letters : Letters) (c : ℕ) (cs : List ℕ) → spelled letters (c ∷ cs) ≡ spelled (letters_behind letters c) cs
spelled-more Zero c cs = spelled-if (c == 0x78) One cs
spelled-more One c cs = spelled-if (c == 0x6D) Two cs
spelled-more Two c cs = spelled-if (c == 0x6C) Three cs
spelled-more Three c cs = refl
spelled-more Other c cs = refl

abbrev named : Naming → List ℕ → Bool
named Empty cs = is_ncname cs
named Good cs = list_all is_name_char cs
named Bad cs = false

named-nothing : (naming : Naming) → named naming [] ≡ is_good naming
named-nothing Empty = refl
named-nothing Good = refl
named-nothing Bad = refl

named-if : (t : Bool) (cs : List ℕ) → (t && list_all is_name_char cs) ≡ named (named_if t) cs
named-if true cs = refl
named-if false cs = refl

named-more : (naming : Naming) (c : ℕ) (cs : List ℕ) → named naming (c ∷ cs) ≡ named (naming_behind naming c) cs
named-more Empty c cs = named-if (is_name_start c) cs
named-more Good c cs = named-if (is_name_char c) cs
named-more Bad c cs = refl

-- The fault by the rest of the target and what is behind it.
abbrev by_tests : Bool → Bool → Bool → Bool → Option XmlKind
by_tests exact good folded right = if exact then Some BadDeclaration else (if (good && not folded) && right then None else Some BadMarkup)

abbrev judged_by : Written → List ℕ → List ℕ → Option XmlKind
judged_by w target cs = by_tests (spelled w.exact target) (named w.naming target) (spelled w.folded (map to_ascii_lowercase target))
    (ends_target (drop (length target) cs))

abbrev judged : Written → List ℕ → Option XmlKind
judged w cs = judged_by w (target_of cs) cs

judged-nothing : (w : Written) (cs : List ℕ) → judged_by w [] cs ≡ target_fault w (ends_target cs)
judged-nothing w cs = λ i. by_tests (spelled-nothing w.exact i) (named-nothing w.naming i) (spelled-nothing w.folded i) (ends_target cs)

-- the target behind characters
abbrev pub behind_all : Target → List ℕ → Target
behind_all target [] = target
behind_all target (c ∷ cs) = behind_all (target_behind target c) cs

ended-stays : (fault : Option XmlKind) (cs : List ℕ) → fault_of_target (behind_all (Ended fault) cs) ≡ fault
ended-stays fault [] = refl
ended-stays fault (c ∷ cs) = ended-stays fault cs

target-more : (c : ℕ) (cs : List ℕ) → goes_on c ≡ true → target_of (c ∷ cs) ≡ c ∷ target_of cs
target-more c cs e =
    let one : 1 + prefix_len goes_on cs ≡ suc (prefix_len goes_on cs) = omega arith in
    ap (λ t. take (cond t (1 + prefix_len goes_on cs) 0) (c ∷ cs)) e ∙ ap (λ n. take n (c ∷ cs)) one

target-none : (c : ℕ) (cs : List ℕ) → goes_on c ≡ false → target_of (c ∷ cs) ≡ []
target-none c cs e = ap (λ t. take (cond t (1 + prefix_len goes_on cs) 0) (c ∷ cs)) e

judged-more : (w : Written) (c : ℕ) (cs : List ℕ) → goes_on c ≡ true → judged w (c ∷ cs) ≡ judged (written_behind w c) cs
judged-more w c cs e =
    let target = target_of cs in
    ap (λ t. judged_by w t (c ∷ cs)) (target-more c cs e)
    ∙ (λ i. by_tests (spelled-more w.exact c target i) (named-more w.naming c target i)
    (spelled-more w.folded (to_ascii_lowercase c) (map to_ascii_lowercase target) i) (ends_target (drop (length target) cs)))

judged-last : (w : Written) (c : ℕ) (cs : List ℕ) → goes_on c ≡ false → judged w (c ∷ cs) ≡ target_fault w (is_white_space c)
judged-last w c cs e =
    ap (λ t. judged_by w t (c ∷ cs)) (target-none c cs e)
    ∙ (judged-nothing w (c ∷ cs) ∙ ap (λ t. target_fault w (t || is_white_space c)) (eqb-suc-zero (length cs)))

pub target-judged : (w : Written) (cs : List ℕ) → fault_of_target (behind_all (Going w) cs) ≡ judged w cs
target-judged w [] = sym (judged-nothing w [])
target-judged w (c ∷ cs) = by (goes_on c) refl (λ v. target-judged v cs)
  where
    by : (t : Bool) → goes_on c ≡ t → ((v : Written) → fault_of_target (behind_all (Going v) cs) ≡ judged v cs)
        → fault_of_target (behind_all (if t then Going (written_behind w c) else Ended (target_fault w (is_white_space c))) cs) ≡ judged w (c ∷ cs)
    by true e rest = rest (written_behind w c) ∙ sym (judged-more w c cs e)
    by false e rest = ended-stays (target_fault w (is_white_space c)) cs ∙ sym (judged-last w c cs e)

-- The own fault of an instruction is that of the definition.
own-shown : (n : ℕ) (exact right : Bool) → begins_by (ends_with (if exact then Some BadDeclaration else (if right then None else Some BadMarkup)) n)
    ≡ of_length n (if exact then if_right false an_aside BadDeclaration else if_right right an_aside BadMarkup)
own-shown n true right = refl
own-shown n false true = refl
own-shown n false false = refl

pub instruction-own : (n : ℕ) (inside : List ℕ) → begins_by (ends_with (fault_of_target (behind_all no_target (chars inside))) n) ≡ of_length n
    (instruction false inside)
unfolding instruction
instruction-own n inside =
    let cs = chars inside in
    let target = target_of cs in
    ap (λ f. begins_by (ends_with f n)) (target-judged (record { naming = Empty; exact = Zero; folded = Zero }) cs)
    ∙ own-shown n (bytes_eq target (codes "xml")) (is_target target && ends_target (drop (length target) cs))

-- the target behind bytes
abbrev target_all : Target → Spelling → List ℕ → Target
target_all target u [] = target
target_all target u (b ∷ bytes) = target_all (target_with target (ended_char u b)) (spelling_behind u b) bytes

-- Where all are Chars, it is that behind the characters.
target-told : (target : Target) (u : Spelling) (bytes : List ℕ) → list_all is_char (characters u bytes) ≡ true →
    target_all target u bytes ≡ behind_all target (characters u bytes)
target-told target u [] all = refl
target-told target u (b ∷ bytes) all = by (ended u b) all (λ t. target-told t (spelling_behind u b) bytes)
  where
    by : (o : Option ℕ) → list_all is_char (with_ended o (characters (spelling_behind u b) bytes)) ≡ true
        → ((t : Target) → list_all is_char (characters (spelling_behind u b) bytes) ≡ true →
        target_all t (spelling_behind u b) bytes ≡ behind_all t (characters (spelling_behind u b) bytes))
        → target_all (target_with target (option_and_then if_char o)) (spelling_behind u b) bytes ≡ behind_all target
        (with_ended o (characters (spelling_behind u b) bytes))
    by None all rest = rest target all
    by (Some c) all rest =
        let is = both (is_char c) (list_all is_char (characters (spelling_behind u b) bytes)) all in
        ap (λ t. target_all (target_with target (if t then Some c else None)) (spelling_behind u b) bytes) is.0 ∙ rest (target_behind target c) is.1

-- the target before the last byte
abbrev before_all : Target → Target → Spelling → List ℕ → Target
before_all before target u [] = before
before_all before target u (b ∷ bytes) = before_all target (target_with target (ended_char u b)) (spelling_behind u b) bytes

before-last : (before target : Target) (u : Spelling) (bytes : List ℕ) (b : ℕ) → before_all before target u (bytes ++ (b ∷ [])) ≡ target_all target u bytes
before-last before target u [] b = refl
before-last before target u (c ∷ bytes) b = before-last target (target_with target (ended_char u c)) (spelling_behind u c) bytes b

-- where it ends: how many bytes stand before the `>`, behind a `?` or not
abbrev one_on : Option ℕ → Option ℕ
one_on x = option_map (λ n. 1 + n) x

abbrev here_or : Bool → Option ℕ → Option ℕ
here_or t x = elim t [ true ↦ Some 0 | false ↦ one_on x ]

abbrev end_from : Bool → List ℕ → Option ℕ
end_from asked [] = None
end_from asked (b ∷ bytes) = elim (asked && b == 0x3E) [ true ↦ Some 0 | false ↦ one_on (end_from (b == 0x3F) bytes) ]

is-asked : (b : ℕ) → (b == 0x3F) ≡ true → b ≡ 0x3F
is-asked b e = grind (arith, nat_tests)

-- the first `?>`
end-found : (bytes : List ℕ) → (end_from false bytes ≡ one_on (place_of (codes "?>") bytes)) × (end_from true bytes ≡ place_of (codes "?>") (0x3F ∷ bytes))
end-found [] = (refl, refl)
end-found (b ∷ bytes) = by (b == 0x3F) refl (end-found bytes)
  where
    place-other : (b == 0x3F) ≡ false → place_of (codes "?>") (b ∷ bytes) ≡ one_on (place_of (codes "?>") bytes)
    place-other e = ap (λ t. elim (t && begins_with (codes ">") bytes) [ true ↦ Some 0 | false ↦ one_on (place_of (codes "?>") bytes) ]) e

    end-of : (t : Bool) → (b == 0x3F) ≡ t → (end_from false bytes ≡ one_on (place_of (codes "?>") bytes)) ×
        (end_from true bytes ≡ place_of (codes "?>") (0x3F ∷ bytes)) → end_from t bytes ≡ place_of (codes "?>") (b ∷ bytes)
    end-of true e rest = rest.1 ∙ ap (λ x. place_of (codes "?>") (x ∷ bytes)) (sym (is-asked b e))
    end-of false e rest = rest.0 ∙ sym (place-other e)

    closed : (t : Bool) (x y : Option ℕ) → x ≡ y → here_or t x ≡ here_or (t && true) y
    closed true x y e = refl
    closed false x y e = ap one_on e

    by : (t : Bool) → (b == 0x3F) ≡ t → (end_from false bytes ≡ one_on (place_of (codes "?>") bytes)) ×
        (end_from true bytes ≡ place_of (codes "?>") (0x3F ∷ bytes))
        → (end_from false (b ∷ bytes) ≡ one_on (place_of (codes "?>") (b ∷ bytes))) × (end_from true (b ∷ bytes) ≡ place_of (codes "?>") (0x3F ∷ (b ∷ bytes)))
    by t e rest =
        let same : end_from (b == 0x3F) bytes ≡ place_of (codes "?>") (b ∷ bytes) = ap (λ t. end_from t bytes) e ∙ end-of t e rest in
        (ap one_on same, closed (b == 0x3E) (end_from (b == 0x3F) bytes) (place_of (codes "?>") (b ∷ bytes)) same)

-- inside an instruction
abbrev an_instruction : Spelling → Bool → Target → Target → Bool → OpenAside
an_instruction u wrong before target asked = record {
  spelling = u;
  has_wrong = wrong;
  inner =
      Instruction (record { before = before; target = target; is_asked = asked });
}

-- where it ends, by its end and the bytes before it
abbrev closes : ℕ → Spelling → Bool → Target → Target → Option ℕ → List ℕ → Beginning
closes n u wrong before target None bytes = later
closes n u wrong before target (Some k) bytes =
    begins_by (ends_with (fault_by (spelling_all u (take k bytes)) (wrong_all u wrong (take k bytes))
    (fault_of_target (before_all before target u (take k bytes)))) (n + (k + 1)))

closes-farther : (n : ℕ) (u : Spelling) (wrong : Bool) (before target : Target) (b : ℕ) (bytes : List ℕ) (x : Option ℕ)
    → closes (n + 1) (spelling_behind u b) (wrong || is_wrong (ended u b)) target (target_with target (ended_char u b)) x bytes ≡ closes n u wrong before target
    (one_on x) (b ∷ bytes)
closes-farther n u wrong before target b bytes None = refl
closes-farther n u wrong before target b bytes (Some k) =
    let same : (n + 1) + (k + 1) ≡ n + ((1 + k) + 1) = omega arith in
    let one : suc k ≡ 1 + k = omega arith in
    ap (λ m. begins_by (ends_with (fault_by (spelling_all (spelling_behind u b) (take k bytes))
    (wrong_all (spelling_behind u b) (wrong || is_wrong (ended u b)) (take k bytes))
    (fault_of_target (before_all target (target_with target (ended_char u b)) (spelling_behind u b) (take k bytes)))) m)) same
    ∙ ap (λ j. begins_by (ends_with (fault_by (spelling_all u (take j (b ∷ bytes))) (wrong_all u wrong (take j (b ∷ bytes)))
    (fault_of_target (before_all before target u (take j (b ∷ bytes))))) (n + ((1 + k) + 1)))) one

course-closes : (n : ℕ) (u : Spelling) (wrong : Bool) (before target : Target) (asked : Bool) (bytes : List ℕ)
    → begins_by (course n (an_instruction u wrong before target asked) bytes) ≡ closes n u wrong before target (end_from asked bytes) bytes
course-closes n u wrong before target asked [] = refl
course-closes n u wrong before target asked (b ∷ bytes) =
    by (asked && b == 0x3E) (course-closes (n + 1) (spelling_behind u b) (wrong || is_wrong (ended u b)) target (target_with target (ended_char u b))
    (b == 0x3F) bytes)
  where
    by : (t : Bool)
        → begins_by (course (n + 1) (an_instruction (spelling_behind u b) (wrong || is_wrong (ended u b)) target (target_with target (ended_char u b))
        (b == 0x3F)) bytes)
        ≡ closes (n + 1) (spelling_behind u b) (wrong || is_wrong (ended u b)) target (target_with target (ended_char u b)) (end_from (b == 0x3F) bytes) bytes
        → begins_by (elim t [
          | true ↦ ends_with (fault_inside (an_instruction u wrong before target asked)) (n + 1)
          | false ↦ course (n + 1) (an_instruction (spelling_behind u b) (wrong || is_wrong (ended u b)) target (target_with target (ended_char u b))
              (b == 0x3F)) bytes
        ])
        ≡ closes n u wrong before target (elim t [ true ↦ Some 0 | false ↦ one_on (end_from (b == 0x3F) bytes) ]) (b ∷ bytes)
    by true is = refl
    by false is = is ∙ closes-farther n u wrong before target b bytes (end_from (b == 0x3F) bytes)

abbrev question : List ℕ
question = 0x3F ∷ []

question-tail : IsTail question
unfolding encode_utf8 chars is_char
question-tail = record { utf8 = (question, (refl, refl)); told = refl }

-- Before the end stands a `?`.
ends-in-question : (bytes : List ℕ) (n : ℕ) → place_of (codes "?>") bytes ≡ Some n → take (suc n) bytes ≡ take n bytes ++ question
ends-in-question [] n e = absurd (cc e)
ends-in-question (b ∷ bytes) n e = by (ends-in-question bytes) (b == 0x3F) (begins_with (codes ">") bytes) (place_of (codes "?>") bytes) refl refl e
  where
    here : (n : ℕ) → (b == 0x3F) ≡ true → Some 0 ≡ Some n → take (suc n) (b ∷ bytes) ≡ take n (b ∷ bytes) ++ question
    here n t f = let none : 0 ≡ n = cc f in subst (λ k. take (suc k) (b ∷ bytes) ≡ take k (b ∷ bytes) ++ question) none (ap (λ x. x ∷ []) (is-asked b t))

    there : ((m : ℕ) → place_of (codes "?>") bytes ≡ Some m → take (suc m) bytes ≡ take m bytes ++ question) → (n : ℕ) (x : Option ℕ) →
        place_of (codes "?>") bytes ≡ x → one_on x ≡ Some n
        → take (suc n) (b ∷ bytes) ≡ take n (b ∷ bytes) ++ question
    there rest n None p f = absurd (cc f)
    there rest n (Some m) p f =
        let one : 1 + m ≡ n = cc f in
        let is : suc m ≡ n = omega arith in
        subst (λ k. take (suc k) (b ∷ bytes) ≡ take k (b ∷ bytes) ++ question) is (ap (λ x. b ∷ x) (rest m p))

    by : ((m : ℕ) → place_of (codes "?>") bytes ≡ Some m → take (suc m) bytes ≡ take m bytes ++ question)
        → (t u : Bool) (x : Option ℕ) → (b == 0x3F) ≡ t → place_of (codes "?>") bytes ≡ x → (elim (t && u) [ true ↦ Some 0 | false ↦ one_on x ]) ≡ Some n
        → take (suc n) (b ∷ bytes) ≡ take n (b ∷ bytes) ++ question
    by rest true true x t p f = here n t f
    by rest true false x t p f = there rest n x p f
    by rest false u x t p f = there rest n x p f

-- Read byte by byte it is the instruction of the definition, where none may declare.
pub instruction-course : (bytes : List ℕ) → begins_by (course 2 (asides.begun (Instruction begun)) bytes) ≡ extent_through (codes "?>") 2 bytes
    (instruction false)
instruction-course bytes =
    course-closes 2 Between false no_target no_target false bytes
    ∙ (ap (λ x. closes 2 Between false no_target no_target x bytes) (end-found bytes).0 ∙ by (place_of (codes "?>") bytes) refl)
  where
    by : (x : Option ℕ) → place_of (codes "?>") bytes ≡ x
        → closes 2 Between false no_target no_target
        (one_on x) bytes ≡ (elim x [ None ↦ later | (Some n) ↦ extent (2 + (n + length (codes "?>"))) (take n bytes) (instruction false) ])
    by None e = refl
    by (Some n) e =
        let one : 1 + n ≡ suc n = omega arith in
        let inside = take n bytes in
        let front = inside ++ question in
        let is : take (1 + n) bytes ≡ front = ap (λ k. take k bytes) one ∙ ends-in-question bytes n e in
        let u = spelling_all Between front in
        let cs = characters Between front in
        let wrong = wrong_all Between false front in
        let own = fault_of_target (before_all no_target no_target Between front) in
        let stands : Stands front u cs = stands-all [] Between [] front stands-begun in
        let same : 2 + ((1 + n) + 1) ≡ 2 + (n + 2) = omega arith in
        let k = 2 + (n + 2) in
        ap (λ x. begins_by (ends_with (fault_by (spelling_all Between x) (wrong_all Between false x)
        (fault_of_target (before_all no_target no_target Between x))) (2 + ((1 + n) + 1)))) is
        ∙ (ap (λ m. begins_by (ends_with (fault_by u wrong own) m)) same
        ∙ verdict question question-tail inside k (instruction false) u cs wrong own stands (wrong-told Between false front)
        (λ w all.
        let told = characters-told inside w in
        ap (λ t. begins_by (ends_with (fault_of_target t) k)) (before-last no_target no_target Between inside 0x3F ∙
        (target-told no_target Between inside (ap (list_all is_char) told ∙ all) ∙ ap (behind_all no_target) told))
        ∙ instruction-own k inside))
