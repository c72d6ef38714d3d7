-- What rules put, and the first of each.
use Rattle.std.proofs.Common.{◌≡◌, ℕ, ◌+◌, ◌<◌, ◌≤◌, Bool, true, false, ◌||◌, not, cond, nat_eq, eqb-true, List, [], ◌∷◌, ◌++◌, map, length, get_or, take, find}
use Rattle.std.proofs.Common.{Option, Some, None, option_to_list, refl, ap, sym, subst, ◌∙◌, append_assoc, append-nil, if◌then◌else◌}
use Rattle.std.specs.Prelude.{flat_map}
use Rattle.std.specs.List.{list_any}
use Rattle.std.proofs.lemmas.List.{take_more, take_all}
use Rattle.std.proofs.lemmas.List.Folds.{list_any-append}
use Rattle.std.proofs.lemmas.Grind.{flat_map-append}
use Rattle.std.proofs.lemmas.Bool.{false≢true, not-true}
use Rattle.indexmap.specs.IndexSet.{insert_key}
use Rattle.schematron_graph.specs.declared.part.Part.{Part}
use Rattle.schematron_graph.specs.declared.part.Part.TheVariants.{Puts}
use Rattle.schematron_graph.specs.declared.part.Thing.{Thing}
use Rattle.schematron_graph.specs.Rules.{things_put, expansion}
use Rattle.schematron_graph.specs.Firsts.{firsts_behind, firsts}
use Rattle.schematron_meaning.specs.Entries.{Entry}
use Rattle.schematron_meaning.specs.Lookup.{at_node}
use Rattle.schematron_meaning.specs.Expansion.{File, Inclusion, put_at, put_at_stand}
use Rattle.schematron_expansion.specs.Seen.{first_puts_behind, Tells}
use Rattle.schematron_expansion.proofs.ChainLemmas.{itself}

-- ---- one item more

flat_on : {L X : Type 0} (g : L → List X) (xs : List L) (i : ℕ) (x : L) (found more : List X) → i < length xs → found ≡ flat_map g (take i xs)
    → more ≡ found ++ g (get_or xs i x) → more ≡ flat_map g (take (i + 1) xs)
flat_on g xs i x found more within h m = m ∙ (ap (λ ys. ys ++ g (get_or xs i x)) h
    ∙ (ap (λ ys. flat_map g (take i xs) ++ ys) (sym (append-nil (g (get_or xs i x))))
    ∙ sym (ap (flat_map g) (take_more xs i x within) ∙ flat_map-append g (take i xs) (get_or xs i x ∷ []))))

-- ---- things of one rule

-- what stands at the number of a thing
abbrev pub at_thing : File → Option ℕ → Thing → List Inclusion
at_thing file stand thing = map (put_at_stand stand) (at_node file.entries thing.number)

things_are : (file : File) (rule : ℕ) → expansion file.bodies (Puts rule ∷ []) ≡ things_put file.bodies rule
things_are file rule = append-nil (things_put file.bodies rule)

pub things_on : (file : File) (stand : Option ℕ) (things : List Thing) (i : ℕ) (t : Thing) (before found more : List Inclusion) → i < length things
    → found ≡ before ++ flat_map (at_thing file stand) (take i things)
    → more ≡ found ++ at_thing file stand (get_or things i t) → more ≡ before ++ flat_map (at_thing file stand) (take (i + 1) things)
things_on file stand things i t before found more within h m =
    let g = at_thing file stand in
    m ∙ (ap (λ ys. ys ++ g (get_or things i t)) h ∙ (append_assoc before (flat_map g (take i things)) (g (get_or things i t))
    ∙ ap (λ ys. before ++ ys) (flat_on g things i t (flat_map g (take i things)) (flat_map g (take i things) ++ g (get_or things i t)) within refl refl)))

-- all were gone over
gone_through : {X : Type 0} (xs ys : List X) (i : ℕ) → ys ≡ xs → length ys ≤ i → take i ys ≡ xs
gone_through xs ys i is h = take_all i ys h ∙ is

pub put_all : (file : File) (stand : Option ℕ) (rule : ℕ) (graph : List (List Part)) (things lent : List Thing) (i : ℕ) (before found : List Inclusion)
    → graph ≡ file.bodies → things ≡ expansion graph (Puts rule ∷ []) → lent ≡ things
    → length lent ≤ i → found ≡ before ++ flat_map (at_thing file stand) (take i lent) → found ≡ before ++ put_at file stand (Some rule)
put_all file stand rule graph things lent i before found g is l all h =
    h ∙ ap (λ ts. before ++ flat_map (at_thing file stand) ts) (gone_through things lent i l all
    ∙ (is ∙ (ap (λ b. expansion b (Puts rule ∷ [])) g ∙ things_are file rule)))

-- ---- the first of each

-- what is first, by whether the number was told
abbrev put_if : Inclusion → List Inclusion → List Inclusion → Bool → List Inclusion
put_if inclusion old new true = old
put_if inclusion old new false = inclusion ∷ new

abbrev thing_if : Thing → List Thing → List Thing → Bool → List Thing
thing_if thing old new true = old
thing_if thing old new false = thing ∷ new

told_put : (inclusion : Inclusion) (inclusions : List Inclusion) (told : List ℕ) → list_any (nat_eq inclusion.entry.number) told ≡ true
    → first_puts_behind told (inclusion ∷ inclusions) ≡ first_puts_behind told inclusions
told_put inclusion inclusions told h = ap (put_if inclusion (first_puts_behind told inclusions) (first_puts_behind (inclusion.entry.number ∷ told)
    inclusions)) h

new_put : (inclusion : Inclusion) (inclusions : List Inclusion) (told : List ℕ) → list_any (nat_eq inclusion.entry.number) told ≡ false
    → first_puts_behind told (inclusion ∷ inclusions) ≡ inclusion ∷ first_puts_behind (inclusion.entry.number ∷ told) inclusions
new_put inclusion inclusions told h = ap (put_if inclusion (first_puts_behind told inclusions) (first_puts_behind (inclusion.entry.number ∷ told) inclusions)) h

-- both tell the same numbers
abbrev Alike : List ℕ → List ℕ → Type 0
Alike told other = (n : ℕ) → list_any (nat_eq n) told ≡ list_any (nat_eq n) other

alike_more : (m : ℕ) (told other : List ℕ) → Alike told other → Alike (m ∷ told) (m ∷ other)
alike_more m told other h n = ap (λ b. nat_eq n m || b) (h n)

alike_first : (told other : List ℕ) (inclusions : List Inclusion) → Alike told other → first_puts_behind told inclusions ≡ first_puts_behind other inclusions
alike_first told other [] h = refl
alike_first told other (inclusion ∷ inclusions) h = (λ i. put_if inclusion (alike_first told other inclusions h i)
    (alike_first (inclusion.entry.number ∷ told) (inclusion.entry.number ∷ other) inclusions (alike_more inclusion.entry.number told other h) i) (h
    inclusion.entry.number i))

or_true : (b c : Bool) → c ≡ true → (b || c) ≡ true
or_true true c h = refl
or_true false c h = h

or_same : (b c : Bool) → (b || (c || false)) ≡ (c || b)
or_same true true = refl
or_same true false = refl
or_same false true = refl
or_same false false = refl

alike_last : (m : ℕ) (told : List ℕ) → Alike (told ++ m ∷ []) (m ∷ told)
alike_last m told n = list_any-append (nat_eq n) told (m ∷ []) ∙ or_same (list_any (nat_eq n) told) (nat_eq n m)

-- ---- telling

tells_both : (told more most : List ℕ) (found longer longest inclusions others : List Inclusion) → Tells told found more longer inclusions
    → Tells more longer most longest others
    → Tells told found most longest (inclusions ++ others)
tells_both told more most found longer longest inclusions others h k rest =
    k rest ∙ (h (others ++ rest) ∙ ap (λ ps. found ++ first_puts_behind told ps) (sym (append_assoc inclusions others rest)))

tells_new : (told more : List ℕ) (found longer : List Inclusion) (inclusion : Inclusion) → list_any (nat_eq inclusion.entry.number) told ≡ false → more
    ≡ told ++ inclusion.entry.number ∷ []
    → longer ≡ found ++ inclusion ∷ []
    → Tells told found more longer (inclusion ∷ [])
tells_new told more found longer inclusion is m l rest = (λ i. l i ++ first_puts_behind (m i) rest)
    ∙ (append_assoc found (inclusion ∷ []) (first_puts_behind (told ++ inclusion.entry.number ∷ []) rest)
    ∙ ap (λ ps. found ++ ps) (ap (λ ps. inclusion ∷ ps) (alike_first (told ++ inclusion.entry.number ∷ []) (inclusion.entry.number ∷ told) rest
    (alike_last inclusion.entry.number told)) ∙ sym (new_put inclusion rest told is)))

-- the number was put in
pub tells_put : (told more : List ℕ) (found longer : List Inclusion) (inclusion : Inclusion) (n : ℕ) (added : Bool) → n ≡ inclusion.entry.number
    → added ≡ not (list_any (nat_eq n) told) → added ≡ true → more ≡ insert_key nat_eq told n
    → longer ≡ found ++ inclusion ∷ [] → Tells told found more longer (inclusion ∷ [])
tells_put told more found longer inclusion n added is a put_in m l =
    let none : list_any (nat_eq n) told ≡ false = not-true (list_any (nat_eq n) told) (sym a ∙ put_in) in
    tells_new told more found longer inclusion (ap (λ k. list_any (nat_eq k) told) (sym is) ∙ none) (m ∙ (ap (λ b. if b then told else told ++ n ∷ []) none
    ∙ ap (λ k. told ++ k ∷ []) is)) l

pub tells_on : (file : File) (stand : Option ℕ) (things : List Thing) (i : ℕ) (t : Thing) (told more most : List ℕ) (found longer longest : List Inclusion)
    → i < length things
    → Tells told found more longer (flat_map (at_thing file stand) (take i things)) → Tells more longer most longest (at_thing file stand (get_or things i t))
    → Tells told found most longest (flat_map (at_thing file stand) (take (i + 1) things))
tells_on file stand things i t told more most found longer longest within h k =
    let g = at_thing file stand in
    subst (Tells told found most longest) (flat_on g things i t (flat_map g (take i things)) (flat_map g (take i things) ++ g (get_or things i t)) within refl
    refl)
    (tells_both told more most found longer longest (flat_map g (take i things)) (g (get_or things i t)) h k)

-- ---- copies within one rule

passes : (test : Entry → Bool) (es : List Entry) (e : Entry) → find test es ≡ Some e → test e ≡ true
passes test [] e h = cc
passes test (x ∷ es) e h = by (test x) refl h (passes test es e)
  where
    by : (b : Bool) → test x ≡ b → cond b (Some x) (find test es) ≡ Some e → (find test es ≡ Some e → test e ≡ true) → test e ≡ true
    by true is k rest = let same : x ≡ e = cc in subst (λ y. test y ≡ true) same is
    by false is k rest = rest k

module _ (file : File) (stand : Option ℕ) where
  -- the first entry of a number
  abbrev one : ℕ → Option Entry
  one n = find (λ (e : Entry). nat_eq e.number n) file.entries

  abbrev put_of : Option Entry → List Inclusion
  put_of o = map (put_at_stand stand) (option_to_list o)

  -- the number was told, unless nothing has it
  abbrev GoneOver : List ℕ → ℕ → Option Entry → Type 0
  GoneOver told n None = Unit {0}
  GoneOver told n (Some e) = list_any (nat_eq n) told ≡ true

  abbrev Covered : List ℕ → List ℕ → Type 0
  Covered seen told = (n : ℕ) → list_any (nat_eq n) seen ≡ true → GoneOver told n (one n)

  gone_more : (told more : List ℕ) (n : ℕ) (o : Option Entry) → (list_any (nat_eq n) told ≡ true → list_any (nat_eq n) more ≡ true)
      → GoneOver told n o → GoneOver more n o
  gone_more told more n None grows h = tt
  gone_more told more n (Some e) grows h = grows h

  covered_more : (n : ℕ) (seen told more : List ℕ) → Covered seen told → ((m : ℕ) → list_any (nat_eq m) told ≡ true → list_any (nat_eq m) more ≡ true)
      → GoneOver more n (one n) → Covered (n ∷ seen) more
  covered_more n seen told more h grows here m k = by (nat_eq m n) refl k
    where
      by : (b : Bool) → nat_eq m n ≡ b → (b || list_any (nat_eq m) seen) ≡ true → GoneOver more m (one m)
      by true is j = subst (λ x. GoneOver more x (one x)) (sym (eqb-true m n is)) here
      by false is j = gone_more told more m (one m) (grows m) (h m j)

  gone_first : (told : List ℕ) (n : ℕ) (o : Option Entry) → one n ≡ o → GoneOver told n o → (rest : List Inclusion)
      → first_puts_behind told (put_of o ++ rest) ≡ first_puts_behind told rest
  gone_first told n None is h rest = refl
  gone_first told n (Some e) is h rest =
      told_put (put_at_stand stand e) rest told (ap (λ m. list_any (nat_eq m) told)
      (eqb-true e.number n (passes (λ (x : Entry). nat_eq x.number n) file.entries e is)) ∙ h)

  -- of these things copies may go, where these numbers were seen and those told
  abbrev Same : List Thing → List Inclusion → List ℕ → List ℕ → Type 0
  Same things rest seen told = first_puts_behind told (flat_map (at_thing file stand) (firsts_behind seen things) ++ rest) ≡ first_puts_behind told
      (flat_map (at_thing file stand) things ++ rest)

  copy_seen : (t : Thing) (things : List Thing) (seen told : List ℕ) (rest : List Inclusion) → list_any (nat_eq t.number) seen ≡ true
      → GoneOver told t.number (one t.number) → Same things rest seen told
      → Same (t ∷ things) rest seen told
  copy_seen t things seen told rest is h same =
      ap (λ b. first_puts_behind told (flat_map (at_thing file stand) (thing_if t (firsts_behind seen things) (firsts_behind (t.number ∷ seen) things) b)
      ++ rest)) is
      ∙ (same ∙ sym (ap (first_puts_behind told) (append_assoc (at_thing file stand t) (flat_map (at_thing file stand) things) rest)
      ∙ gone_first told t.number (one t.number) refl h (flat_map (at_thing file stand) things ++ rest)))

  -- what is new: nothing has the number, or it was told, or it is told now
  new_none : (n : ℕ) (front back : List Inclusion) (seen told : List ℕ) → one n ≡ None → Covered seen told
      → ((r : List ℕ) → Covered (n ∷ seen) r → first_puts_behind r front ≡ first_puts_behind r back)
      → first_puts_behind told front ≡ first_puts_behind told back
  new_none n front back seen told is h later = later told (covered_more n seen told told h (λ m k. k) (subst (GoneOver told n) (sym is) tt))

  new_some : (n : ℕ) (front back : List Inclusion) (seen told : List ℕ) (e : Entry) (b : Bool) → one n ≡ Some e
      → list_any (nat_eq e.number) told ≡ b → Covered seen told
      → ((r : List ℕ) → Covered (n ∷ seen) r → first_puts_behind r front ≡ first_puts_behind r back)
      → first_puts_behind told (put_at_stand stand e ∷ front) ≡ first_puts_behind told (put_at_stand stand e ∷ back)
  new_some n front back seen told e true is k h later =
      let same : e.number ≡ n = eqb-true e.number n (passes (λ (x : Entry). nat_eq x.number n) file.entries e is) in
      let here : list_any (nat_eq n) told ≡ true = ap (λ m. list_any (nat_eq m) told) (sym same) ∙ k in
      told_put (put_at_stand stand e) front told k ∙ (later told (covered_more n seen told told h (λ m j. j) (subst (GoneOver told n) (sym is) here))
      ∙ sym (told_put (put_at_stand stand e) back told k))
  new_some n front back seen told e false is k h later =
      let same : e.number ≡ n = eqb-true e.number n (passes (λ (x : Entry). nat_eq x.number n) file.entries e is) in
      let here : list_any (nat_eq n) (e.number ∷ told) ≡ true = ap (λ b. b || list_any (nat_eq n) told) (ap (nat_eq n) same ∙ itself n) in
      new_put (put_at_stand stand e) front told k
      ∙ (ap (λ ps. put_at_stand stand e ∷ ps) (later (e.number ∷ told) (covered_more n seen told (e.number ∷ told) h
      (λ m j. or_true (nat_eq m e.number) (list_any (nat_eq m) told) j) (subst (GoneOver (e.number ∷ told) n) (sym is) here)))
      ∙ sym (new_put (put_at_stand stand e) back told k))

  new_first : (n : ℕ) (front back : List Inclusion) (seen told : List ℕ) (o : Option Entry) → one n ≡ o → Covered seen told
      → ((r : List ℕ) → Covered (n ∷ seen) r → first_puts_behind r front ≡ first_puts_behind r back)
      → first_puts_behind told (put_of o ++ front) ≡ first_puts_behind told (put_of o ++ back)
  new_first n front back seen told None is h later = new_none n front back seen told is h later
  new_first n front back seen told (Some e) is h later = new_some n front back seen told e (list_any (nat_eq e.number) told) is refl h later

  copy_new : (t : Thing) (things : List Thing) (seen told : List ℕ) (rest : List Inclusion) → list_any (nat_eq t.number) seen ≡ false → Covered seen told
      → ((s r : List ℕ) → Covered s r → Same things rest s r)
      → Same (t ∷ things) rest seen told
  copy_new t things seen told rest is h later =
      let front : List Inclusion = flat_map (at_thing file stand) (firsts_behind (t.number ∷ seen) things) in
      let back : List Inclusion = flat_map (at_thing file stand) things in
      ap (λ b. first_puts_behind told (flat_map (at_thing file stand) (thing_if t (firsts_behind seen things) (firsts_behind (t.number ∷ seen) things) b)
      ++ rest)) is
      ∙ (ap (first_puts_behind told) (append_assoc (at_thing file stand t) front rest)
      ∙ (new_first t.number (front ++ rest) (back ++ rest) seen told (one t.number) refl h (λ r c. later (t.number ∷ seen) r c)
      ∙ sym (ap (first_puts_behind told) (append_assoc (at_thing file stand t) back rest))))

  copies : (things : List Thing) (seen told : List ℕ) (rest : List Inclusion) → Covered seen told → Same things rest seen told
  copies [] seen told rest h = refl
  copies (t ∷ things) seen told rest h = by (list_any (nat_eq t.number) seen) refl (λ s r c. copies things s r rest c)
    where
      by : (b : Bool) → list_any (nat_eq t.number) seen ≡ b → ((s r : List ℕ) → Covered s r → Same things rest s r) → Same (t ∷ things) rest seen told
      by true is later = copy_seen t things seen told rest is (h t.number is) (later seen told h)
      by false is later = copy_new t things seen told rest is h later

  none_seen : (told : List ℕ) → Covered [] told
  none_seen told n h = absurd (false≢true h)

  -- the first things of a rule tell what all of them do
  tells_firsts : (things all : List Thing) (told more : List ℕ) (found longer : List Inclusion) → things ≡ firsts all
      → Tells told found more longer (flat_map (at_thing file stand) things)
      → Tells told found more longer (flat_map (at_thing file stand) all)
  tells_firsts things all told more found longer is h rest = h rest
      ∙ (ap (λ ts. found ++ first_puts_behind told (flat_map (at_thing file stand) ts ++ rest)) is
      ∙ ap (λ ps. found ++ ps) (copies all [] told rest (none_seen told)))

  pub tells_rule : (rule : ℕ) (graph : List (List Part)) (things lent : List Thing) (i : ℕ) (told more : List ℕ) (found longer : List Inclusion) → graph
      ≡ file.bodies
      → things ≡ firsts (expansion graph (Puts rule ∷ [])) → lent ≡ things
      → length lent ≤ i → Tells told found more longer (flat_map (at_thing file stand) (take i lent))
      → Tells told found more longer (put_at file stand (Some rule))
  tells_rule rule graph things lent i told more found longer g is l all h =
      tells_firsts things (things_put file.bodies rule) told more found longer
      (is ∙ ap firsts (ap (λ b. expansion b (Puts rule ∷ [])) g ∙ things_are file rule))
      (subst (λ ts. Tells told found more longer (flat_map (at_thing file stand) ts)) (gone_through things lent i l all) h)
