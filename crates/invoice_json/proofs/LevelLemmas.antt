-- The calls of a level's members are made entry by entry.
use Rattle.std.proofs.Common.{◌≡◌, Bool, true, false, List, [], ◌∷◌, ◌++◌, Option, Some, None, refl, sym, ap, ◌∙◌, append_assoc}
use Rattle.std.proofs.lemmas.Bool.{false≢true}
use Rattle.term_table.specs.declared.contexts.Slot.{Slot}
use Rattle.inv_terms.specs.declared.entries.Entry.{Entry}
use Rattle.json_text.specs.declared.state.Container.TheVariants.{Object, Array}
use Rattle.json_text.specs.Json.{Json, nothing, an_object}
use Rattle.json_text.specs.Calls.{Call, call_name, call_begin, call_end, calls_of}
use Rattle.invoice_json.specs.InvoiceJson.{array_name, in_one_array, in_one_object, runs_by, objects, with_member, with_runs, with_entries}
use Rattle.invoice_json.specs.Streaming.{entry_calls, enter_calls}
use Rattle.invoice_json.proofs.RunLemmas.{object-array, Begins, in_front-begins, in_front-joined, in_front-apart, stream, Level, Inside}
use Rattle.invoice_json.proofs.RunLemmas.{content_by, leaving_by, content, own_first, own_next, own_end, apart, beside, within}

-- what is to be shown of the entries
abbrev Streams : Level → Json → Entry → List Entry → Type 0
Streams v rest x xs = calls_of (with_entries v.slot v.inside (x ∷ xs) rest) ≡ own_first v x ++ (stream (own_next v) (own_end v) x xs ++ calls_of rest)

abbrev arrays : Level → Entry → Entry → Bool
arrays v a b = in_one_array (v.slot a) (v.slot b)

abbrev objects_by : Level → Entry → Entry → Bool
objects_by v a b = in_one_object (v.slot a) (v.slot b)

-- one entry alone
alone_by : (a : Option Slot) (x : Entry) (inside rest : Json) (fx ex : List Call) → calls_of inside ≡ fx ++ ex
    → calls_of (with_member a x (an_object None inside nothing) rest)
    ≡ (enter_calls None a ++ content_by (entry_calls x) fx a) ++ (leaving_by ex None a ++ calls_of rest)
alone_by None x inside rest fx ex e = refl
alone_by (Some slot) x inside rest fx ex e =
    let begin : List Call → List Call = λ calls. call_name (array_name slot.group) ∷ call_begin Array ∷ call_begin Object ∷ calls in
    let lists : ((fx ++ ex) ++ call_end Object ∷ []) ++ call_end Array ∷ calls_of rest
    ≡ fx ++ ((ex ++ call_end Object ∷ call_end Array ∷ []) ++ calls_of rest) = simp append_assoc in
    ap (λ calls. begin ((calls ++ call_end Object ∷ []) ++ call_end Array ∷ calls_of rest)) e ∙ ap begin lists

-- what is to be shown of an entry in front of others, by the runs
abbrev Continues : Level → Json → Entry → Entry → List Entry → List (List Entry) → Type 0
Continues v rest x y ys runs =
    calls_of (with_runs v.slot v.inside runs rest)
    ≡ own_first v x ++ ((own_next v x y ++ stream (own_next v) (own_end v) y ys) ++ calls_of rest)

-- what is known of the others
abbrev Known : Level → Json → Entry → List Entry → List (List Entry) → Type 0
Known v rest y ys runs = calls_of (with_runs v.slot v.inside runs rest) ≡ own_first v y ++ (stream (own_next v) (own_end v) y ys ++ calls_of rest)

single : (v : Level) → Inside v → (x : Entry) → calls_of (v.inside (x ∷ [])) ≡ v.first x ++ v.end x
single v inside x = inside x []

-- in another array
in_other : (v : Level) → Inside v → (rest : Json) (x y : Entry) (ys : List Entry) (runs : List (List Entry))
    → arrays v x y ≡ false → Known v rest y ys runs → Continues v rest x y ys ((x ∷ []) ∷ runs)
in_other v inside rest x y ys runs e known =
    apart (v.slot x) (v.slot y) x (v.inside (x ∷ [])) (with_runs v.slot v.inside runs rest) (v.first x) (v.end x) (content v y) (v.next x y)
    (stream (own_next v) (own_end v) y ys) (calls_of rest) e (not_object (v.slot x) (v.slot y) e) (single v inside x) known
  where
    not_object : (a b : Option Slot) → in_one_array a b ≡ false → in_one_object a b ≡ false
    not_object a b h = by (in_one_object a b) refl
      where
        by : (q : Bool) → in_one_object a b ≡ q → q ≡ false
        by true k = absurd (false≢true (sym h ∙ object-array a b k))
        by false k = refl

-- in the same array, by the runs of objects in it
in_same : (v : Level) → Inside v → (rest : Json) (x y : Entry) (ys run : List Entry) (more : List (List Entry))
    → arrays v x y ≡ true → Known v rest y ys ((y ∷ run) ∷ more) → Continues v rest x y ys ((x ∷ y ∷ run) ∷ more)
in_same v inside rest x y ys run more e known = by (in_one_object (v.slot x) (v.slot y)) refl
  where
    begins : Begins y (runs_by (objects_by v) (y ∷ run))
    begins = in_front-begins (objects_by v) y (runs_by (objects_by v) run)

    shown : (rs : List (List Entry)) → runs_by (objects_by v) (x ∷ y ∷ run) ≡ rs
        → calls_of (with_member (v.slot x) x (objects v.inside rs) (with_runs v.slot v.inside more rest))
        ≡ own_first v x ++ ((own_next v x y ++ stream (own_next v) (own_end v) y ys) ++ calls_of rest)
        → Continues v rest x y ys ((x ∷ y ∷ run) ∷ more)
    shown rs is h = ap (λ r. calls_of (with_member (v.slot x) x (objects v.inside r) (with_runs v.slot v.inside more rest))) is ∙ h

    by : (q : Bool) → in_one_object (v.slot x) (v.slot y) ≡ q → Continues v rest x y ys ((x ∷ y ∷ run) ∷ more)
    by false k =
        shown ((x ∷ []) ∷ runs_by (objects_by v) (y ∷ run))
        (in_front-apart (objects_by v) x y begins.run begins.more (runs_by (objects_by v) (y ∷ run)) begins.is k)
        (beside (v.slot x) (v.slot y) x y (v.inside (x ∷ [])) (objects v.inside (runs_by (objects_by v) (y ∷ run))) (with_runs v.slot v.inside more rest)
        (v.first x) (v.end x) (entry_calls y) (v.first y) (v.next x y) (stream (own_next v) (own_end v) y ys) (calls_of rest) e k
        (single v inside x) known)
    by true k =
        shown ((x ∷ y ∷ begins.run) ∷ begins.more)
        (in_front-joined (objects_by v) x y begins.run begins.more (runs_by (objects_by v) (y ∷ run)) begins.is k)
        (within (v.slot x) (v.slot y) x y (v.inside (x ∷ y ∷ begins.run)) (v.inside (y ∷ begins.run)) (objects v.inside begins.more)
        (with_runs v.slot v.inside more rest) (v.first x) (stream v.next v.end y begins.run) (entry_calls y) (v.first y) (v.next x y)
        (leaving_by (v.end x) (v.slot y) (v.slot x) ++ (enter_calls (v.slot x) (v.slot y) ++ content v y)) (stream (own_next v) (own_end v) y ys)
        (calls_of rest) k (inside x (y ∷ begins.run)) (inside y begins.run)
        (ap (λ r. calls_of (with_member (v.slot y) y (objects v.inside r) (with_runs v.slot v.inside more rest))) (sym begins.is) ∙ known))

-- an entry in front of others
in_front : (v : Level) → Inside v → (rest : Json) (x y : Entry) (ys : List Entry) → Known v rest y ys (runs_by (arrays v) (y ∷ ys))
    → Streams v rest x (y ∷ ys)
in_front v inside rest x y ys known = by (arrays v x y) refl
  where
    begins : Begins y (runs_by (arrays v) (y ∷ ys))
    begins = in_front-begins (arrays v) y (runs_by (arrays v) ys)

    shown : (rs : List (List Entry)) → runs_by (arrays v) (x ∷ y ∷ ys) ≡ rs → Continues v rest x y ys rs → Streams v rest x (y ∷ ys)
    shown rs is h = ap (λ r. calls_of (with_runs v.slot v.inside r rest)) is ∙ h

    by : (q : Bool) → arrays v x y ≡ q → Streams v rest x (y ∷ ys)
    by false k =
        shown ((x ∷ []) ∷ runs_by (arrays v) (y ∷ ys))
        (in_front-apart (arrays v) x y begins.run begins.more (runs_by (arrays v) (y ∷ ys)) begins.is k)
        (in_other v inside rest x y ys (runs_by (arrays v) (y ∷ ys)) k known)
    by true k =
        shown ((x ∷ y ∷ begins.run) ∷ begins.more)
        (in_front-joined (arrays v) x y begins.run begins.more (runs_by (arrays v) (y ∷ ys)) begins.is k)
        (in_same v inside rest x y ys begins.run begins.more k (ap (λ r. calls_of (with_runs v.slot v.inside r rest)) (sym begins.is) ∙ known))

-- The calls of a level's members are made entry by entry.
pub level-streams : (v : Level) → Inside v → (rest : Json) (x : Entry) (xs : List Entry) → Streams v rest x xs
level-streams v inside rest x [] = alone_by (v.slot x) x (v.inside (x ∷ [])) rest (v.first x) (v.end x) (single v inside x)
level-streams v inside rest x (y ∷ ys) = in_front v inside rest x y ys (level-streams v inside rest y ys)
