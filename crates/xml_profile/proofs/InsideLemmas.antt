-- One turn inside a comment or instruction.
use Rattle.std.proofs.Common.{◌≡◌, ℕ, ◌+◌, ◌≤◌, Bool, true, false, nat_le, List, [], ◌∷◌, ◌++◌, length, drop, refl, sym, ap, ◌∙◌, subst, arith, Option, Some}
use Rattle.std.proofs.Common.{None, if◌then◌else◌, drop-drop, drop_at, append-nil}
use Rattle.std.proofs.lemmas.List.{length-append}
use Rattle.std.proofs.lemmas.Bool.Decides.{nat_tests}
use Rattle.xml_tokens.specs.declared.kind.XmlKind.{XmlKind}
use Rattle.xml_tokens.specs.declared.kind.XmlKind.TheVariants.{TooLong}
use Rattle.xml_tokens.specs.declared.asides.OpenAside.{OpenAside}
use Rattle.xml_tokens.specs.declared.beginning.Position.{Position}
use Rattle.xml_tokens.specs.Markup.{an_aside}
use Rattle.xml_tokens.specs.Beginnings.{later, good, beginning, sure_length}
use Rattle.xml_tokens.specs.Asides.{open_aside, Course, stays_open, ends_with, course, begins_by, if_open}
use Rattle.xml_tokens.specs.Searching.{fresh}
use Rattle.xml_tokens.proofs.OpenLemmas.{open-is, open-begins, open-grows}
use Rattle.xml_events.specs.Events.{Event, TakesAll}
use Rattle.xml_state.specs.Faults.{fault_at}
use Rattle.xml_state.specs.Taking.{Advances}
use Rattle.xml_state.specs.declared.limits.Limits.{Limits}
use Rattle.xml_state.specs.declared.fault.XmlFault.{XmlFault}
use Rattle.xml_state.specs.States.{State}
use Rattle.xml_profile.specs.TokenByToken.{waits, stops_at, read}
use Rattle.xml_profile.specs.Courses.{GoesOn, Breaks, IsInside, StaysInside}
use Rattle.xml_profile.specs.declared.cursor.Cursor.{Cursor}
use Rattle.xml_profile.specs.declared.cursor.Inside.{Inside}
use Rattle.xml_profile.proofs.TurnLemmas.{read-unfinished, breaks-at, goes-on, advanced, is-beyond, is-bad}

-- No bytes are none.
pub open-nothing : (position : Position) (bytes : List ℕ) → length bytes ≡ 0 → open_aside position bytes ≡ None
unfolding open_aside
open-nothing position [] is = refl
open-nothing position (b ∷ bytes) is = absurd (omega arith)

-- An open comment or instruction begins with `<`.
pub open-first : (position : Position) (bytes more : List ℕ) (aside : OpenAside) → open_aside position bytes ≡ Some aside → (a : List ℕ) ×
    (bytes ++ more ≡ 0x3C ∷ a)
open-first position bytes more aside is =
    let o = open-is position bytes aside is in
    (o.behind ++ more, ap (λ x. x ++ more) o.first)

-- What begins with `<` and isn't whole.
read-open : (e : Bool) (limits : Limits) (s : State) (place : ℕ) (bytes a : List ℕ) (test : Bool) → bytes ≡ 0x3C ∷ a → beginning s.position e bytes ≡ later →
    nat_le (place + length bytes) limits.bytes ≡ test
    → read e limits s place 0 bytes ≡ (if test then record { events = []; stands = waits s place bytes } else stops_at TooLong limits.bytes)
read-open e limits s place bytes a test is none room =
    let P : List ℕ → Type 0 = λ x. beginning s.position e x ≡ later → nat_le (place + length x) limits.bytes ≡ test
    → read e limits s place 0 x ≡ (if test then record { events = []; stands = waits s place x } else stops_at TooLong limits.bytes) in
    subst P (sym is) (λ l r. read-unfinished e limits s place 0x3C a (length (0x3C ∷ a)) test l (sure a) r) none room
  where
    sure : (a : List ℕ) (c : ℕ) (more : List ℕ) → (0x3C ∷ a) ≡ c ∷ more → length (0x3C ∷ a) ≡ sure_length c more
    sure a c more same =
        let first : 0x3C ≡ c = cc same in
        let rest : a ≡ more = cc same in
        let one : length (0x3C ∷ a) ≡ 1 + length a = omega arith in
        one ∙ (λ i. sure_length (first i) (rest i))

module _ (e : Bool) (limits : Limits) (old : Cursor) (held : Inside) (bytes piece : List ℕ) (is : IsInside old.open_elements.position held bytes) where
  -- What it begins with the piece.
  pub inside-begins : (x : Course) → course (length bytes) held.aside piece ≡ x → beginning old.open_elements.position e (bytes ++ piece) ≡ begins_by x
  inside-begins x leads = open-begins old.open_elements.position bytes piece held.aside is.aside e ∙ ap begins_by leads

  -- It ends in the piece.
  pub inside-closed : (fault : Option XmlKind) (len : ℕ) → course (length bytes) held.aside piece ≡ ends_with fault (length bytes + len)
      → beginning old.open_elements.position e (bytes ++ piece) ≡ begins_by (ends_with fault (held.came + len))
  inside-closed fault len leads = inside-begins (ends_with fault (length bytes + len)) leads ∙ ap (λ n. begins_by (ends_with fault (n + len))) is.came

  -- It is open behind the piece.
  pub inside-stays : (longer : Inside) (before after : List Event → Type 0) → course (length bytes) held.aside piece ≡ stays_open longer.aside →
      longer.came ≡ held.came + length piece
      → nat_le (old.place + (held.came + length piece)) limits.bytes ≡ true → TakesAll [] before after →
      StaysInside e limits old old longer (bytes ++ piece) before after
  inside-stays longer before after leads came room told =
      let first = open-first old.open_elements.position bytes piece held.aside is.aside in
      let long : length (bytes ++ piece) ≡ longer.came = length-append bytes piece ∙ (ap (λ n. n + length piece) is.came ∙ sym came) in
      let fits : nat_le (old.place + length (bytes ++ piece)) limits.bytes ≡ true = ap (λ n. nat_le (old.place + n) limits.bytes) (long ∙ came) ∙ room in
      let ends : old.place + longer.came ≤ limits.bytes = grind (arith, nat_tests) in
      record {
        same = refl;
        is = read-open e limits old.open_elements old.place (bytes ++ piece) first.0 true first.1 (inside-begins (stays_open longer.aside) leads) fits;
        inside = record { aside = open-grows old.open_elements.position bytes piece held.aside is.aside ∙ ap if_open leads; came = long };
        within = ends;
        told = told;
      }

  -- It would end beyond the limit.
  pub inside-beyond : (longer : OpenAside) (before after : List Event → Type 0) → course (length bytes) held.aside piece ≡ stays_open longer →
      nat_le (old.place + (held.came + length piece)) limits.bytes ≡ false
      → TakesAll [] before after → Breaks e limits old (bytes ++ piece) before after (fault_at TooLong limits.bytes)
  inside-beyond longer before after leads room told =
      let first = open-first old.open_elements.position bytes piece held.aside is.aside in
      let long : length (bytes ++ piece) ≡ held.came + length piece = length-append bytes piece ∙ ap (λ n. n + length piece) is.came in
      let beyond : nat_le (old.place + length (bytes ++ piece)) limits.bytes ≡ false = ap (λ n. nat_le (old.place + n) limits.bytes) long ∙ room in
      breaks-at e limits old (bytes ++ piece) before after (fault_at TooLong limits.bytes)
      (read-open e limits old.open_elements old.place (bytes ++ piece) first.0 false first.1 (inside-begins (stays_open longer) leads) beyond) told

  -- Where the input ends, it isn't whole.
  pub inside-unended : old.place + held.came ≤ limits.bytes →
      read e limits old.open_elements old.place 0 (bytes ++ []) ≡ record { events = []; stands = waits old.open_elements old.place bytes }
  inside-unended within =
      let first = open-first old.open_elements.position bytes [] held.aside is.aside in
      let all : bytes ++ [] ≡ bytes = append-nil bytes in
      let fits : nat_le (old.place + length bytes) limits.bytes ≡ true = let came : length bytes ≡ held.came = is.came in grind (arith, nat_tests) in
      let none : beginning old.open_elements.position e bytes ≡ later = ap (beginning old.open_elements.position e) (sym all) ∙
      open-begins old.open_elements.position bytes [] held.aside is.aside e in
      ap (read e limits old.open_elements old.place 0) all ∙ read-open e limits old.open_elements old.place bytes first.0 true (sym all ∙ first.1) none fits

-- The end is beyond the limit.
pub close-beyond : (e : Bool) (limits : Limits) (old : Cursor) (bytes : List ℕ) (before after : List Event → Type 0) (fault : Option XmlKind) (n : ℕ)
    → beginning old.open_elements.position e bytes ≡ begins_by (ends_with fault n) → nat_le (old.place + n) limits.bytes ≡ false → TakesAll [] before after →
    Breaks e limits old bytes before after (fault_at TooLong limits.bytes)
close-beyond e limits old bytes before after None n is room told = is-beyond e limits old bytes before after an_aside n is room told
close-beyond e limits old bytes before after (Some kind) n is room told =
    is-bad e limits old bytes before after kind n (fault_at TooLong limits.bytes) is
    (sym (ap (λ t. if t then fault_at kind old.place else fault_at TooLong limits.bytes) room)) told

-- It is wrong.
pub close-wrong : (e : Bool) (limits : Limits) (old : Cursor) (bytes : List ℕ) (before after : List Event → Type 0) (found : Option XmlKind) (kind : XmlKind)
    (n : ℕ) (fault : XmlFault) → found ≡ Some kind
    → beginning old.open_elements.position e bytes ≡ begins_by (ends_with found n) → nat_le (old.place + n) limits.bytes ≡ true → fault
    ≡ fault_at kind old.place →
    TakesAll [] before after → Breaks e limits old bytes before after fault
close-wrong e limits old bytes before after found kind n fault same is room shown told =
    is-bad e limits old bytes before after kind n fault (is ∙ ap (λ f. begins_by (ends_with f n)) same)
    (shown ∙ sym (ap (λ t. if t then fault_at kind old.place else fault_at TooLong limits.bytes) room)) told

-- It is right.
pub close-right : (e : Bool) (position : Position) (bytes : List ℕ) (found : Option XmlKind) (n : ℕ) → found ≡ None →
    beginning position e bytes ≡ begins_by (ends_with found n) → beginning position e bytes ≡ good an_aside n
close-right e position bytes found n same is = is ∙ ap (λ f. begins_by (ends_with f n)) same

pub close-behind : (bytes piece behind : List ℕ) (came len : ℕ) → length bytes ≡ came → behind ≡ drop len piece → behind ≡ drop (came + len) (bytes ++ piece)
close-behind bytes piece behind came len long is = is ∙ (ap (drop len) (sym (drop_at bytes piece came long)) ∙ drop-drop len came (bytes ++ piece))

-- Behind it reading goes on.
pub passed-aside : (e : Bool) (limits : Limits) (old new : Cursor) (bytes behind : List ℕ) (before after : List Event
    → Type 0) (open_elements : State) (n : ℕ) →
    beginning old.open_elements.position e bytes ≡ good an_aside n
    → old.place + n ≤ limits.bytes → Advances limits old.open_elements open_elements an_aside old.place before after → behind ≡ drop n bytes →
    new ≡ record { open_elements = open_elements; place = old.place + n; search = fresh }
    → GoesOn e limits old new bytes behind before after
passed-aside e limits old new bytes behind before after open_elements n is room advances rest same =
    let within : nat_le (old.place + n) limits.bytes ≡ true = grind (arith, nat_tests) in
    (advanced e limits bytes before after old new _ behind same (goes-on e limits old bytes before after an_aside n open_elements behind is within advances
    rest)).1
