-- The reader that is given a file's pieces, and the document that it tells.
use Rattle.std.proofs.Common.{◌≡◌, ℕ, ◌+◌, ◌-◌, ◌<◌, Bool, true, false, nat_le, List, [], ◌++◌, length, take, drop, length-append, append-nil, refl, ap, sym}
use Rattle.std.proofs.Common.{subst, ◌∙◌, arith, Option, Some, None, Ok, Err}
use Rattle.std.specs.Prelude.{Result, ◌≢◌, ◌≤◌}
use Rattle.std.proofs.lemmas.Bool.Decides.{nat_tests}
use Rattle.std.proofs.lemmas.List.{take-append-drop, take-append-le}
use Rattle.std.proofs.lemmas.Option.{none-some}
use Rattle.inv_base.specs.Outside.{ShelfView, WhereTold, ahead_of}
use Rattle.inv_base.specs.Tree.{Name}
use Rattle.xml_tokens.specs.Asides.{open_aside}
use Rattle.xml_events.specs.Events.{Event, with_events}
use Rattle.xml_state.specs.declared.limits.Limits.{Limits}
use Rattle.xml_state.specs.declared.fault.TheConstants.XmlFault.{WANT_OF_MEMORY}
use Rattle.xml_state.specs.declared.fault.XmlFault.{XmlFault}
use Rattle.xml_profile.specs.Profile.{settled_of, settled_fault, first_fault, document, names_of, tree_of}
use Rattle.xml_profile.specs.Profile as profile
use Rattle.xml_profile.specs.Readers.{Progress, HasRead, HasMemory, Moves, Tells, Finishes, Fails, of_document, of_memory, unread, fault_of_reader}
use Rattle.xml_profile.specs.TokenByToken.{Standing, waits, stopped, read, resume, read_front, read_whole}
use Rattle.xml_profile.specs.Keeping.{kept_of, fault_of_kept, bytes_taken}
use Rattle.xml_profile.proofs.KeptLemmas.{fault-kept, taken-kept}
use Rattle.node_arena.specs.Document.{Built, Document, built}
use Rattle.node_arena.specs.Document as arena
use Rattle.node_arena.specs.Moves.{HasNodesOf, IsWhole}
use Rattle.xml_document.specs.Loading.{HasFed, IsRefused, StopsInTime, IsLoaded, IsLoadedAndGiven, IsBuilt}
use Rattle.xml_document.proofs.LengthLemmas.{IsShort, short_front}
use Rattle.xml_document.proofs.ReadingLemmas.{ahead_of-nil, ahead_of-append, read_all}

-- What a reader's fault says of it.
pub going_reader : (reader : Progress) → fault_of_reader reader ≡ None → HasMemory reader
going_reader reader is = λ lacks. let other : ◌≡◌ {A = Option XmlFault} None (Some WANT_OF_MEMORY) = sym is ∙ lacks in cc

pub stopped_reader : (reader : Progress) (told : XmlFault) → fault_of_reader reader ≡ Some told → told ≢ WANT_OF_MEMORY → HasMemory reader
stopped_reader reader told is found = λ lacks. found (let same : ◌≡◌ {A = Option XmlFault} (Some told) (Some WANT_OF_MEMORY) = sym is ∙ lacks in cc)

-- Behind some pieces: what was fed stands before what is left, no fault is settled, and a receiver has taken what was
-- told.
pub record Feeding (begun now : ShelfView) (limits : Limits) (reader : Progress) (before after : List Event → Type 0) : Type 0 where
  pub held : now.held ≡ begun.held
  pub opens : now.opens ≡ begun.opens
  pub faults : now.faults ≡ begun.faults
  pub fed : List ℕ
  pub content : begun.left ≡ ahead_of fed now.left
  pub kept : reader.limits ≡ limits
  pub read : HasRead reader fed
  pub going : fault_of_kept reader.stands ≡ None
  pub events : Moves [] (read_front limits fed).events before after

pub feeding_nothing : (begun : ShelfView) (reader : Progress) (before : List Event → Type 0) → HasRead reader [] →
    Feeding begun begun reader.limits reader before before
unfolding read resume
feeding_nothing begun reader before read = record {
  held = refl;
  opens = refl;
  faults = refl;
  fed = [];
  content = ahead_of-nil begun.left [] refl;
  kept = refl;
  read = read;
  going = ap fault_of_kept read.stands ∙ fault-kept (read_front reader.limits []).stands;
  events = λ first taken. taken;
}

-- Behind one more piece.
pub feeding_more : (begun now after : ShelfView) (limits : Limits) (old new : Progress) (piece : List ℕ) (before mid behind : List Event → Type 0)
    → (so_far : Feeding begun now limits old before mid) → after.held ≡ now.held → after.opens ≡ now.opens → after.faults ≡ now.faults →
    now.left ≡ ahead_of piece after.left
    → new.limits ≡ old.limits → fault_of_reader new ≡ None
    → (HasMemory new → (fed : List ℕ) → HasRead old fed → HasRead new (fed ++ piece))
    → ((fed : List ℕ) → HasRead old fed → Tells new fed (fed ++ piece) mid behind)
    → Feeding begun after limits new before behind
feeding_more begun now after limits old new piece before mid behind so_far held opens faults left kept none read told =
    let going = going_reader new none in
    let same : new.limits ≡ limits = kept ∙ so_far.kept in
    let tells : Moves (read_front new.limits so_far.fed).events (read_front new.limits (so_far.fed ++ piece)).events mid behind =
    (told so_far.fed so_far.read).all going in
    let moves : Moves (read_front limits so_far.fed).events (read_front limits (so_far.fed ++ piece)).events mid behind =
    subst (λ l. Moves (read_front l so_far.fed).events (read_front l (so_far.fed ++ piece)).events mid behind) same tells in
    record {
      held = held ∙ so_far.held;
      opens = opens ∙ so_far.opens;
      faults = faults ∙ so_far.faults;
      fed = so_far.fed ++ piece;
      content = ahead_of-append so_far.fed piece (so_far.fed ++ piece) begun.left now.left after.left so_far.content left refl;
      kept = same;
      read = read going so_far.fed so_far.read;
      going = none;
      events = λ first taken. moves first (so_far.events first taken);
    }

-- The same, how many bytes were fed, and a receiver of bytes has taken them.
pub record Counting (count : ℕ) (begun now : ShelfView) (limits : Limits) (reader : Progress) (before after : List Event → Type 0)
    (bytes_before bytes_after : List ℕ → Type 0) : Type 0 where
  pub feeding : Feeding begun now limits reader before after
  pub counted : count ≡ length feeding.fed
  pub given : bytes_before [] → bytes_after feeding.fed

pub counting_nothing : (begun : ShelfView) (reader : Progress) (before : List Event → Type 0) (bytes_before : List ℕ → Type 0) → HasRead reader []
    → Counting 0 begun begun reader.limits reader before before bytes_before bytes_before
unfolding feeding_nothing
counting_nothing begun reader before bytes_before read = record { feeding = feeding_nothing begun reader before read; counted = refl; given = λ taken. taken }

pub counting_more : (count new_count : ℕ) (begun now after : ShelfView) (limits : Limits) (old new : Progress) (piece : List ℕ)
    (before mid behind : List Event → Type 0)
    (bytes_before bytes_mid bytes_behind : List ℕ → Type 0)
    → (so_far : Counting count begun now limits old before mid bytes_before bytes_mid) → new_count ≡ count + length piece
    → after.held ≡ now.held → after.opens ≡ now.opens → after.faults ≡ now.faults → now.left ≡ ahead_of piece after.left
    → new.limits ≡ old.limits → fault_of_reader new ≡ None
    → (HasMemory new → (fed : List ℕ) → HasRead old fed → HasRead new (fed ++ piece))
    → ((fed : List ℕ) → HasRead old fed → Tells new fed (fed ++ piece) mid behind)
    → ((fed : List ℕ) → bytes_mid fed → bytes_behind (fed ++ piece))
    → Counting new_count begun after limits new before behind bytes_before bytes_behind
unfolding feeding_more
counting_more count new_count begun now after limits old new piece before mid behind bytes_before bytes_mid bytes_behind so_far more held opens faults left kept
    none read told given = record {
      feeding = feeding_more begun now after limits old new piece before mid behind so_far.feeding held opens faults left kept none read told;
      counted = more ∙ (ap (λ n. n + length piece) so_far.counted ∙ sym (length-append so_far.feeding.fed piece));
      given = λ taken. given so_far.feeding.fed (so_far.given taken);
    }

-- What is kept tells how many bytes were read.
short_kept : (limits : Limits) (n : ℕ) (s : Standing) → IsShort limits n s → fault_of_kept (kept_of s) ≡ None → (bytes_taken (kept_of s) ≡ n) ×
    (n ≤ limits.bytes + 1)
short_kept limits n (waits s place rest) short none = let is = short refl in (taken-kept s place rest ∙ is.0, is.1)
short_kept limits n (stopped fault) short none = absurd (none-some fault (sym none))

-- The measure falls: the piece isn't empty, and what isn't refused is short.
pub feeding_falls : (limits : Limits) (old new : Progress) (fed piece : List ℕ) → old.limits ≡ limits → HasRead old fed → fault_of_kept old.stands ≡ None
    → new.limits ≡ old.limits → HasRead new (fed ++ piece) → fault_of_kept new.stands ≡ None → 0 < length piece
    → new.limits.bytes + 2 - bytes_taken new.stands < old.limits.bytes + 2 - bytes_taken old.stands
feeding_falls limits old new fed piece kept read going same more goes some =
    let a = short old fed read going in
    let b = short new (fed ++ piece) more goes in
    let long : length (fed ++ piece) ≡ length fed + length piece = length-append fed piece in
    let bytes : new.limits.bytes ≡ old.limits.bytes = ap (λ (l : Limits). l.bytes) same in
    omega (arith, a.0, a.1, b.0, b.1)
  where
    short : (reader : Progress) (fed : List ℕ) → HasRead reader fed → fault_of_kept reader.stands ≡ None
        → (bytes_taken reader.stands ≡ length fed) × (length fed ≤ reader.limits.bytes + 1)
    short reader fed read = subst (λ s. fault_of_kept s ≡ None → (bytes_taken s ≡ length fed) × (length fed ≤ reader.limits.bytes + 1)) (sym read.stands)
        (short_kept reader.limits (length fed) (read_front reader.limits fed).stands (short_front reader.limits fed))

-- At the end of the input all was fed.
pub fed_whole : (count : ℕ) (begun now after : ShelfView) (limits : Limits) (reader : Progress) (front : List ℕ) (before behind : List Event → Type 0)
    (bytes_before bytes_behind : List ℕ → Type 0)
    → (all : Counting count begun now limits reader before behind bytes_before bytes_behind) → now.left ≡ ahead_of front after.left → front ≡ [] →
    WhereTold after.left (λ rest. length rest ≡ 0)
    → HasFed count begun.left after.left reader before behind bytes_before bytes_behind
unfolding settled_fault
fed_whole count begun now after limits reader front before behind bytes_before bytes_behind all left none end = let so_far = all.feeding in record {
  fed = so_far.fed;
  counted = all.counted;
  read = so_far.read;
  events = subst (λ l. Moves [] (read_front l so_far.fed).events before behind) (sym so_far.kept) so_far.events;
  whole = read_all begun.left now.left after.left so_far.fed front so_far.content left none end;
  content = ahead_of-append so_far.fed front so_far.fed begun.left now.left after.left so_far.content left
      (sym (ap (λ x. so_far.fed ++ x) none ∙ append-nil so_far.fed));
  going = sym (ap fault_of_kept so_far.read.stands ∙ fault-kept (read_front reader.limits so_far.fed).stands) ∙ so_far.going;
  given = all.given;
}

-- A fault that is settled stays settled.
abbrev pub Stays : Type 0
Stays = (limits : Limits) (bytes more : List ℕ) (fault : XmlFault) → settled_fault limits bytes ≡ Some fault → settled_fault limits (bytes ++ more) ≡ Some fault

-- So the fronts whose fault is settled are longer than one that settles none.
module _ (limits : Limits) (stays : Stays) (front last : List ℕ) (going : settled_fault limits front ≡ None) (short : length last ≤ 65536) where
  none_settled : (n : ℕ) (f : Option XmlFault) → settled_fault limits (take n front) ≡ f → settled_fault limits (take n front) ≡ None
  none_settled n None is = is
  none_settled n (Some fault) is =
      let whole : settled_fault limits front ≡ Some fault =
      ap (settled_fault limits) (sym (take-append-drop n front)) ∙ stays limits (take n front) (drop n front) fault is in
      absurd (none-some fault (sym going ∙ whole))

  farther : (n : ℕ) (rest : List ℕ) → settled_fault limits (take n ((front ++ last) ++ rest)) ≢ None → (t : Bool) → nat_le n (length front) ≡ t →
      length (front ++ last) ≤ n + 65535
  farther n rest settled true h =
      let within : n ≤ length front = grind (arith, nat_tests, h) in
      let long : length (front ++ last) ≡ length front + length last = length-append front last in
      let same : take n ((front ++ last) ++ rest) ≡ take n front = take-append-le n (front ++ last) rest (omega arith) ∙ take-append-le n front last within in
      absurd (settled (ap (settled_fault limits) same ∙ none_settled n (settled_fault limits (take n front)) refl))
  farther n rest settled false h =
      let past : length front < n = grind (arith, nat_tests, h) in
      let long : length (front ++ last) ≡ length front + length last = length-append front last in
      omega (arith, past, long, short)

  pub stops_in_time : (told left : Option (List ℕ)) → told ≡ ahead_of (front ++ last) left → StopsInTime limits told left
  stops_in_time told left read = record { front = front; last = last; read = read; going = going; short = short; few = by left read }
    where
      by : (left : Option (List ℕ)) → told ≡ ahead_of (front ++ last) left
          → WhereTold told (λ content. (n : ℕ) → settled_fault limits (take n content) ≢ None → length (front ++ last) ≤ n + 65535)
      by None read = λ content is n settled. let gone : ◌≡◌ {A = Option (List ℕ)} None (Some content) = sym read ∙ is in cc
      by (Some rest) read = λ content is n settled.
          let same : content ≡ (front ++ last) ++ rest = cc in
          farther n rest (λ none. settled (ap (λ bytes. settled_fault limits (take n bytes)) same ∙ none)) (nat_le n (length front)) refl

-- Reading stops with the piece that settles a fault ..
pub stops_with_piece : (begun now after : ShelfView) (limits : Limits) (reader : Progress) (piece : List ℕ) (before behind : List Event → Type 0) → Stays
    → Feeding begun now limits reader before behind → now.left ≡ ahead_of piece after.left → length piece ≤ 65536 → StopsInTime limits begun.left after.left
unfolding settled_fault
stops_with_piece begun now after limits reader piece before behind stays so_far left short =
    stops_in_time limits stays so_far.fed piece
    (sym (ap fault_of_kept (so_far.read.stands ∙ ap (λ l. kept_of (read_front l so_far.fed).stands) so_far.kept) ∙
    fault-kept (read_front limits so_far.fed).stands) ∙ so_far.going) short begun.left after.left
    (ahead_of-append so_far.fed piece (so_far.fed ++ piece) begun.left now.left after.left so_far.content left refl)

-- .. or at the end.
pub stops_at_end : (count : ℕ) (limits : Limits) (told left : Option (List ℕ)) (reader : Progress) (before behind : List Event → Type 0)
    (bytes_before bytes_behind : List ℕ → Type 0)
    → Stays → reader.limits ≡ limits → HasFed count told left reader before behind bytes_before bytes_behind → StopsInTime limits told left
stops_at_end count limits told left reader before behind bytes_before bytes_behind stays kept fed =
    stops_in_time limits stays fed.fed [] (ap (λ l. settled_fault l fed.fed) (sym kept) ∙ fed.going) (omega arith) told left
    (fed.content ∙ ap (λ bytes. ahead_of bytes left) (sym (append-nil fed.fed)))

-- A fault that is settled is the first of what was fed and what is left.
pub refused_settled : (limits : Limits) (told left : Option (List ℕ)) (reader : Progress) (fed : List ℕ) (fault : XmlFault) → told ≡ ahead_of fed left
    → reader.limits ≡ limits → HasRead reader fed → fault_of_kept reader.stands ≡ Some fault
    → ((limits : Limits) (bytes more : List ℕ) (fault : XmlFault) → settled_fault limits bytes ≡ Some fault → first_fault limits (bytes ++ more) ≡ Some fault)
    → IsRefused limits told fault
unfolding settled_fault
refused_settled limits told left reader fed fault content kept read settled law = by left content
  where
    now : settled_fault limits fed ≡ Some fault
    now = sym (fault-kept (read_front limits fed).stands) ∙
        (ap fault_of_kept (ap (λ l. kept_of (read_front l fed).stands) (sym kept) ∙ sym read.stands) ∙ settled)

    by : (left : Option (List ℕ)) → told ≡ ahead_of fed left → IsRefused limits told fault
    by None content = record { content = fed; is = ap (first_fault limits) (sym (append-nil fed)) ∙ law limits fed [] fault now; whole = λ bytes is. cc }
    by (Some rest) content = record { content = fed ++ rest; is = law limits fed rest fault now; whole = λ bytes is. cc }

-- The first fault of a whole input.
pub refused_whole : (limits : Limits) (told : Option (List ℕ)) (fed : List ℕ) (before after : List Event → Type 0) (answer : XmlFault) →
    Fails limits fed before after answer
    → answer ≢ WANT_OF_MEMORY → WhereTold told (λ content. fed ≡ content) → IsRefused limits told answer
refused_whole limits told fed before after answer (of_document fault first moves) other whole = record { content = fed; is = first; whole = whole }
refused_whole limits told fed before after answer (of_memory moves) other whole = absurd (other refl)

-- The same of a reader that has these limits.
pub refused_at_end : (limits l : Limits) (told : Option (List ℕ)) (fed : List ℕ) (before after : List Event → Type 0) (fault answer : XmlFault) → l ≡ limits →
    Fails l fed before after fault
    → fault ≢ WANT_OF_MEMORY → answer ≡ fault → WhereTold told (λ content. fed ≡ content) → IsRefused limits told answer
refused_at_end limits l told fed before after fault answer kept fails other same whole =
    subst (λ x. IsRefused x told answer) kept (subst (λ x. IsRefused l told x) (sym same) (refused_whole l told fed before after fault fails other whole))

-- A document that was read and has built its nodes.
abbrev by_fault : Limits → List ℕ → Option XmlFault → Result profile.Document XmlFault
by_fault limits bytes f = elim f [
  | (Some fault) ↦ Err fault
  | None ↦ Ok (record { events = with_events [] (read_whole limits bytes).events; names = names_of (read_whole limits bytes).stands })
]

abbrev pub told_whole : Limits → List ℕ → profile.Document
told_whole limits bytes = record { events = with_events [] (read_whole limits bytes).events; names = names_of (read_whole limits bytes).stands }

-- The events of a whole document were taken, and have built it; and its bytes were.
pub record Wholly (count : ℕ) (limits : Limits) (told : Option (List ℕ)) (names : List Name) (b : Built)
    (bytes_before bytes_after : List ℕ → Type 0) : Type 0 where
  pub fed : List ℕ
  pub counted : count ≡ length fed
  pub whole : WhereTold told (λ content. fed ≡ content)
  pub is : document limits fed ≡ Ok (told_whole limits fed)
  pub named : names ≡ (told_whole limits fed).names
  pub events : b ≡ built (told_whole limits fed).events
  pub made : IsBuilt (told_whole limits fed) (built (told_whole limits fed).events)
  pub given : bytes_before [] → bytes_after fed

pub read_wholly : (count : ℕ) (limits : Limits) (told left : Option (List ℕ)) (reader : Progress) (first mid last : Built) (names : List Name)
    (bytes_before bytes_after : List ℕ → Type 0) → reader.limits ≡ limits → first ≡ arena.begun
    → (all : HasFed count told left reader (λ events. first ≡ built events) (λ events. mid ≡ built events) bytes_before bytes_after)
    → Finishes reader.limits all.fed names (λ events. mid ≡ built events) (λ events. last ≡ built events)
    → ((found : profile.Document) → document limits all.fed ≡ Ok found → IsBuilt found (built found.events))
    → Wholly count limits told names last bytes_before bytes_after
unfolding built document
read_wholly count limits told left reader first mid last names bytes_before bytes_after kept is all ends law =
    let none : first_fault limits all.fed ≡ None = ap (λ l. first_fault l all.fed) (sym kept) ∙ ends.document in
    let document_is : document limits all.fed ≡ Ok (told_whole limits all.fed) = ap (by_fault limits all.fed) none in
    let behind : last ≡ built (told_whole reader.limits all.fed).events = ends.told [] (all.events [] is) in
    record {
      fed = all.fed;
      counted = all.counted;
      whole = all.whole;
      is = document_is;
      named = ends.named ∙ ap (λ l. (told_whole l all.fed).names) kept;
      events = behind ∙ ap (λ l. built (told_whole l all.fed).events) kept;
      made = law (told_whole limits all.fed) document_is;
      given = all.given;
    }

pub wholly_built : (count : ℕ) (limits : Limits) (told : Option (List ℕ)) (names : List Name) (b : Built) (bytes_before bytes_after : List ℕ → Type 0) →
    Wholly count limits told names b bytes_before bytes_after → IsWhole names b
wholly_built count limits told names b bytes_before bytes_after wholly =
    subst (λ all. IsWhole all b) (sym wholly.named) (subst (IsWhole (told_whole limits wholly.fed).names) (sym wholly.events) wholly.made.whole)

wholly_loaded : (count : ℕ) (limits : Limits) (told : Option (List ℕ)) (names : List Name) (b : Built) (doc : Document)
    (bytes_before bytes_after : List ℕ → Type 0)
    → Wholly count limits told names b bytes_before bytes_after → doc ≡ record { nodes = b.nodes; names = names } → IsLoaded limits told doc
wholly_loaded count limits told names b doc bytes_before bytes_after wholly is =
    let found = told_whole limits wholly.fed in
    let as_built : Built → List Name → Document = λ c all. record { nodes = c.nodes; names = all } in
    let made : doc ≡ as_built (built found.events) found.names = is ∙ (ap (as_built b) wholly.named ∙ ap (λ c. as_built c found.names) wholly.events) in
    record {
      content = wholly.fed;
      found = found;
      is = wholly.is;
      exactly = made;
      of_tree = subst (λ (d : Document). HasNodesOf d (tree_of found)) (sym made) wholly.made.of_tree;
      whole = wholly.whole;
    }

pub wholly_given : (count : ℕ) (limits : Limits) (told : Option (List ℕ)) (names : List Name) (b : Built) (doc : Document)
    (bytes_before bytes_after : List ℕ → Type 0)
    → Wholly count limits told names b bytes_before bytes_after → doc ≡ record { nodes = b.nodes; names = names }
    → IsLoadedAndGiven limits told count doc bytes_before bytes_after
unfolding wholly_loaded
wholly_given count limits told names b doc bytes_before bytes_after wholly is = record {
  sized = record { loaded = wholly_loaded count limits told names b doc bytes_before bytes_after wholly is; counted = wholly.counted };
  given = wholly.given;
}

-- A reader that was given nothing has read nothing.
pub read_nothing : (limits : Limits) (reader : Progress) → reader ≡ unread limits → HasRead reader []
unfolding read resume open_aside
read_nothing limits reader is = subst (λ (r : Progress). HasRead r []) (sym is) (record { stands = refl })
