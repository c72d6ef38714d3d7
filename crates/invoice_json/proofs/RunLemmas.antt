-- The calls of runs of entries, from the first entry to the last: what each makes behind the one before.
use Rattle.std.proofs.Common.{◌≡◌, ℕ, Bool, true, false, List, [], ◌∷◌, ◌++◌, Option, Some, None, refl, sym, ap, ◌∙◌, append_assoc, drop}
use Rattle.std.specs.Prelude.{bytes_eq, if◌then◌else◌, ◌==◌}
use Rattle.std.proofs.lemmas.Bool.{false≢true}
use Rattle.std.proofs.lemmas.Slice.Eq.{bytes_eq-Decides}
use Rattle.term_table.specs.declared.contexts.Slot.{Slot}
use Rattle.term_table.specs.Groups.{same_group}
use Rattle.term_table.proofs.GroupLemmas.{both, same_group_is}
use Rattle.inv_terms.specs.declared.entries.Entry.{Entry}
use Rattle.json_text.specs.declared.state.Container.TheVariants.{Object, Array}
use Rattle.json_text.specs.Json.{Json, nothing, an_object}
use Rattle.json_text.specs.Calls.{Call, call_name, call_begin, call_end, calls_of}
use Rattle.invoice_json.specs.InvoiceJson.{array_name, in_one_array, in_one_object, in_front_of, with_member}
use Rattle.invoice_json.specs.Streaming.{entry_calls, leave_calls, enter_calls}

-- ---- one occurrence stands in one array

bytes_eq-itself : (bytes : List ℕ) → bytes_eq bytes bytes ≡ true
bytes_eq-itself bytes = (bytes_eq-Decides bytes bytes).1 refl

pub object-array : (a b : Option Slot) → in_one_object a b ≡ true → in_one_array a b ≡ true
object-array None b e = absurd (false≢true e)
object-array (Some a) None e = absurd (false≢true e)
object-array (Some a) (Some b) e =
    let group = same_group_is a.group b.group (both (same_group a.group b.group) (a.index == b.index) e).0 in
    ap (λ g. bytes_eq (array_name a.group) (array_name g)) (sym group) ∙ bytes_eq-itself (array_name a.group)

-- ---- runs

-- Runs begin with this element.
pub record Begins (x : Entry) (runs : List (List Entry)) : Type 0 where
  pub run : List Entry
  pub more : List (List Entry)
  pub is : runs ≡ (x ∷ run) ∷ more

pub in_front-begins : (t : Entry → Entry → Bool) (x : Entry) (runs : List (List Entry)) → Begins x (in_front_of t x runs)
in_front-begins t x [] = record { run = []; more = []; is = refl }
in_front-begins t x ([] ∷ more) = record { run = []; more = more; is = refl }
in_front-begins t x ((y ∷ ys) ∷ more) = by (t x y)
  where
    by : (b : Bool) → Begins x (if b then (x ∷ y ∷ ys) ∷ more else (x ∷ []) ∷ (y ∷ ys) ∷ more)
    by true = record { run = y ∷ ys; more = more; is = refl }
    by false = record { run = []; more = (y ∷ ys) ∷ more; is = refl }

pub in_front-joined : (t : Entry → Entry → Bool) (x y : Entry) (ys : List Entry) (more runs : List (List Entry)) → runs ≡ (y ∷ ys) ∷ more → t x y ≡ true
    → in_front_of t x runs ≡ (x ∷ y ∷ ys) ∷ more
in_front-joined t x y ys more runs is e =
    ap (in_front_of t x) is ∙ ap (λ b. if b then (x ∷ y ∷ ys) ∷ more else (x ∷ []) ∷ (y ∷ ys) ∷ more) e

pub in_front-apart : (t : Entry → Entry → Bool) (x y : Entry) (ys : List Entry) (more runs : List (List Entry)) → runs ≡ (y ∷ ys) ∷ more → t x y ≡ false
    → in_front_of t x runs ≡ (x ∷ []) ∷ runs
in_front-apart t x y ys more runs is e =
    ap (in_front_of t x) is ∙ (ap (λ b. if b then (x ∷ y ∷ ys) ∷ more else (x ∷ []) ∷ (y ∷ ys) ∷ more) e ∙ ap (λ rs. (x ∷ []) ∷ rs) (sym is))

-- ---- entries one behind another

-- what each makes behind the one before, and what ends behind the last one
abbrev pub stream : (Entry → Entry → List Call) → (Entry → List Call) → Entry → List Entry → List Call
stream next end before [] = end before
stream next end before (x ∷ xs) = next before x ++ stream next end x xs

-- a level of occurrences: the slot of an entry there, and how entries inside one occurrence are written
pub record Level : Type 0 where
  pub slot : Entry → Option Slot
  pub inside : List Entry → Json
  pub first : Entry → List Call
  pub next : Entry → Entry → List Call
  pub end : Entry → List Call

-- The calls of what stands inside an occurrence are those.
abbrev pub Inside : Level → Type 0
Inside v = (x : Entry) (xs : List Entry) → calls_of (v.inside (x ∷ xs)) ≡ v.first x ++ stream v.next v.end x xs

-- an entry where its slot is known, and what ends behind one
abbrev pub content_by : List Call → List Call → Option Slot → List Call
content_by alone inside None = alone
content_by alone inside (Some slot) = inside

abbrev pub leaving_by : List Call → Option Slot → Option Slot → List Call
leaving_by end now None = []
leaving_by end now (Some slot) = end ++ leave_calls (Some slot) now

abbrev pub content : Level → Entry → List Call
content v x = content_by (entry_calls x) (v.first x) (v.slot x)

-- the calls at this level
abbrev pub own_first : Level → Entry → List Call
own_first v x = enter_calls None (v.slot x) ++ content v x

abbrev pub own_next : Level → Entry → Entry → List Call
own_next v before x =
    if in_one_object (v.slot before) (v.slot x)
    then v.next before x
    else leaving_by (v.end before) (v.slot x) (v.slot before) ++ (enter_calls (v.slot before) (v.slot x) ++ content v x)

abbrev pub own_end : Level → Entry → List Call
own_end v before = leaving_by (v.end before) None (v.slot before)

-- ---- the cases

cancel : (a b c : List Call) → a ++ b ≡ a ++ c → b ≡ c
cancel [] b c e = e
cancel (x ∷ a) b c e = cancel a b c (ap (drop 1) e)

enter-apart : (a b : Option Slot) → in_one_array a b ≡ false → enter_calls a b ≡ enter_calls None b
enter-apart a None e = refl
enter-apart a (Some slot) e =
    ap (λ kept. (if kept then [] else call_name (array_name slot.group) ∷ call_begin Array ∷ []) ++ call_begin Object ∷ []) e

apart_lists : (fx ex p c s r : List Call) (o a : Call)
    → ((fx ++ ex) ++ o ∷ []) ++ a ∷ ((p ++ c) ++ (s ++ r)) ≡ fx ++ ((((ex ++ o ∷ a ∷ []) ++ (p ++ c)) ++ s) ++ r)
apart_lists fx ex p c s r o a = simp append_assoc

-- another array, or none
pub apart : (a b : Option Slot) (x : Entry) (inside whole : Json) (fx ex c n s r : List Call)
    → in_one_array a b ≡ false
    → in_one_object a b ≡ false
    → calls_of inside ≡ fx ++ ex
    → calls_of whole ≡ (enter_calls None b ++ c) ++ (s ++ r)
    → calls_of (with_member a x (an_object None inside nothing) whole)
    ≡ (enter_calls None a ++ content_by (entry_calls x) fx a)
    ++ (((if in_one_object a b then n else leaving_by ex b a ++ (enter_calls a b ++ c)) ++ s) ++ r)
apart None b x inside whole fx ex c n s r array object one after =
    ap (λ calls. entry_calls x ++ calls) (after ∙ sym (append_assoc (enter_calls None b ++ c) s r))
apart (Some slot) b x inside whole fx ex c n s r array object one after =
    let begin : List Call → List Call = λ calls. call_name (array_name slot.group) ∷ call_begin Array ∷ call_begin Object ∷ calls in
    let between : (ex ++ call_end Object ∷ call_end Array ∷ []) ++ (enter_calls None b ++ c)
    ≡ (if in_one_object (Some slot) b then n else leaving_by ex b (Some slot) ++ (enter_calls (Some slot) b ++ c))
    = sym
    (ap (λ q. if q then n else leaving_by ex b (Some slot) ++ (enter_calls (Some slot) b ++ c)) object
    ∙ (ap (λ q. (ex ++ call_end Object ∷ (if q then [] else call_end Array ∷ [])) ++ (enter_calls (Some slot) b ++ c)) array
    ∙ ap (λ calls. (ex ++ call_end Object ∷ call_end Array ∷ []) ++ (calls ++ c)) (enter-apart (Some slot) b array))) in
    ap (λ calls. begin ((calls ++ call_end Object ∷ []) ++ call_end Array ∷ calls_of whole)) one
    ∙ (ap (λ calls. begin (((fx ++ ex) ++ call_end Object ∷ []) ++ call_end Array ∷ calls)) after
    ∙ (ap begin (apart_lists fx ex (enter_calls None b) c s r (call_end Object) (call_end Array))
    ∙ ap (λ calls. begin (fx ++ ((calls ++ s) ++ r))) between))

beside_lists : (fx ex j w fy s r : List Call) (o e b : Call) → j ++ e ∷ w ≡ b ∷ (fy ++ (s ++ r))
    → ((fx ++ ex) ++ o ∷ j) ++ e ∷ w ≡ fx ++ ((((ex ++ o ∷ []) ++ b ∷ fy) ++ s) ++ r)
beside_lists fx ex j w fy s r o e b h =
    append_assoc (fx ++ ex) (o ∷ j) (e ∷ w) ∙ (ap (λ calls. (fx ++ ex) ++ o ∷ calls) h ∙ simp append_assoc)

-- another object of the same array
pub beside : (a b : Option Slot) (x y : Entry) (inside others whole : Json) (fx ex ey fy n s r : List Call)
    → in_one_array a b ≡ true
    → in_one_object a b ≡ false
    → calls_of inside ≡ fx ++ ex
    → calls_of (with_member b y others whole) ≡ (enter_calls None b ++ content_by ey fy b) ++ (s ++ r)
    → calls_of (with_member a x (an_object None inside others) whole)
    ≡ (enter_calls None a ++ content_by (entry_calls x) fx a)
    ++ (((if in_one_object a b then n else leaving_by ex b a ++ (enter_calls a b ++ content_by ey fy b)) ++ s) ++ r)
beside None b x y inside others whole fx ex ey fy n s r array object one after = absurd (false≢true array)
beside (Some slot) None x y inside others whole fx ex ey fy n s r array object one after = absurd (false≢true array)
beside (Some slot) (Some other) x y inside others whole fx ex ey fy n s r array object one after =
    let begin : List Call → List Call = λ calls. call_name (array_name slot.group) ∷ call_begin Array ∷ call_begin Object ∷ calls in
    let name : List Call = call_name (array_name other.group) ∷ call_begin Array ∷ [] in
    let between : (ex ++ call_end Object ∷ []) ++ call_begin Object ∷ fy
    ≡ (if in_one_object (Some slot) (Some other)
    then n
    else leaving_by ex (Some other) (Some slot) ++ (enter_calls (Some slot) (Some other) ++ fy))
    = sym
    (ap (λ q. if q then n else leaving_by ex (Some other) (Some slot) ++ (enter_calls (Some slot) (Some other) ++ fy)) object
    ∙ ap (λ q. (ex ++ call_end Object ∷ (if q then [] else call_end Array ∷ []))
    ++ (((if q then [] else name) ++ call_begin Object ∷ []) ++ fy)) array) in
    ap (λ calls. begin ((calls ++ call_end Object ∷ calls_of others) ++ call_end Array ∷ calls_of whole)) one
    ∙ (ap begin (beside_lists fx ex (calls_of others) (calls_of whole) fy s r (call_end Object) (call_end Array) (call_begin Object) (ap (drop 2) after))
    ∙ ap (λ calls. begin (fx ++ ((calls ++ s) ++ r))) between)

within_lists : (fx fy nxy i q w s r : List Call) (o e : Call) → ((fy ++ i) ++ o ∷ q) ++ e ∷ w ≡ fy ++ (s ++ r)
    → ((fx ++ (nxy ++ i)) ++ o ∷ q) ++ e ∷ w ≡ fx ++ ((nxy ++ s) ++ r)
within_lists fx fy nxy i q w s r o e h =
    let left : (i ++ o ∷ q) ++ e ∷ w ≡ s ++ r =
    cancel fy _ _ (sym (append_assoc fy (i ++ o ∷ q) (e ∷ w)) ∙ (ap (λ calls. calls ++ e ∷ w) (sym (append_assoc fy i (o ∷ q))) ∙ h)) in
    let regroup : ((fx ++ (nxy ++ i)) ++ o ∷ q) ++ e ∷ w ≡ fx ++ (nxy ++ ((i ++ o ∷ q) ++ e ∷ w)) = simp append_assoc in
    regroup ∙ (ap (λ calls. fx ++ (nxy ++ calls)) left ∙ ap (λ calls. fx ++ calls) (sym (append_assoc nxy s r)))

-- the same object
pub within : (a b : Option Slot) (x y : Entry) (both_inside inside others whole : Json) (fx i ey fy nxy m s r : List Call)
    → in_one_object a b ≡ true
    → calls_of both_inside ≡ fx ++ (nxy ++ i)
    → calls_of inside ≡ fy ++ i
    → calls_of (with_member b y (an_object None inside others) whole) ≡ (enter_calls None b ++ content_by ey fy b) ++ (s ++ r)
    → calls_of (with_member a x (an_object None both_inside others) whole)
    ≡ (enter_calls None a ++ content_by (entry_calls x) fx a) ++ (((if in_one_object a b then nxy else m) ++ s) ++ r)
within None b x y both_inside inside others whole fx i ey fy nxy m s r object all one after = absurd (false≢true object)
within (Some slot) None x y both_inside inside others whole fx i ey fy nxy m s r object all one after = absurd (false≢true object)
within (Some slot) (Some other) x y both_inside inside others whole fx i ey fy nxy m s r object all one after =
    let begin : List Call → List Call = λ calls. call_name (array_name slot.group) ∷ call_begin Array ∷ call_begin Object ∷ calls in
    let known : ((fy ++ i) ++ call_end Object ∷ calls_of others) ++ call_end Array ∷ calls_of whole ≡ fy ++ (s ++ r) =
    ap (λ calls. (calls ++ call_end Object ∷ calls_of others) ++ call_end Array ∷ calls_of whole) (sym one) ∙ ap (drop 3) after in
    ap (λ calls. begin ((calls ++ call_end Object ∷ calls_of others) ++ call_end Array ∷ calls_of whole)) all
    ∙ (ap begin (within_lists fx fy nxy i (calls_of others) (calls_of whole) s r (call_end Object) (call_end Array) known)
    ∙ ap (λ q. begin (fx ++ (((if q then nxy else m) ++ s) ++ r))) (sym object))
