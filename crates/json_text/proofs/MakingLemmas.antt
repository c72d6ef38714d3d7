-- Values that a pen wrote, side by side and inside one another.
use Rattle.std.proofs.Common.{◌≡◌, ℕ, ◌+◌, ◌-◌, ◌<◌, ◌≤◌, Bool, false, List, [], ◌∷◌, ◌++◌, Option, Some, None, length, get_or, drop}
use Rattle.std.proofs.Common.{refl, ap, sym, ◌∙◌, subst, append_assoc, append-nil, arith}
use Rattle.std.specs.Prelude.{encode_utf8_all, flat_map}
use Rattle.std.proofs.lemmas.List.{drop_more, drop_all}
use Rattle.inv_base.specs.Outside.{SinkView}
use Rattle.inv_base.specs.Printing.{Printed, Prints}
use Rattle.json_text.specs.declared.pen.JsonPen.{JsonPen}
use Rattle.json_text.specs.declared.state.JsonState.{JsonState}
use Rattle.json_text.specs.declared.state.Container.{Container}
use Rattle.json_text.specs.declared.state.Container.TheVariants.{Object, Array}
use Rattle.json_text.specs.Json.{Json, nothing, a_text, a_number, an_array, an_object}
use Rattle.json_text.specs.Layout.{document}
use Rattle.json_text.specs.Calls.{Call, call_text, call_number, call_begin, call_end, call_finish, calls_of, name_calls, fresh, appended_by, state_behind}
use Rattle.json_text.specs.Making.{followed_by, joined, each}
use Rattle.json_text.specs.Made.{Made, Wrote, Began}
use Rattle.json_text.proofs.CallsLemmas.{document_calls-append}
use Rattle.json_text.proofs.MadeLemmas.{Made-nil, Made-one, Made-append, Made-same, printed}

within : (name : List Call) (kind : Container) (inside : List Call) (values others : Json)
    → calls_of (followed_by values others) ≡ calls_of values ++ calls_of others
    → name ++ call_begin kind ∷ (inside ++ call_end kind ∷ calls_of (followed_by values others))
    ≡ (name ++ call_begin kind ∷ (inside ++ call_end kind ∷ calls_of values)) ++ calls_of others
within name kind inside values others e =
    ap (λ calls. name ++ call_begin kind ∷ (inside ++ call_end kind ∷ calls)) e
    ∙ (ap (λ calls. name ++ call_begin kind ∷ calls) (sym (append_assoc inside (call_end kind ∷ calls_of values) (calls_of others)))
    ∙ sym (append_assoc name (call_begin kind ∷ (inside ++ call_end kind ∷ calls_of values)) (calls_of others)))

-- The calls of values that stand behind others.
pub calls_of-followed : (values others : Json) → calls_of (followed_by values others) ≡ calls_of values ++ calls_of others
calls_of-followed nothing others = refl
calls_of-followed (a_text name characters rest) others =
    ap (λ calls. name_calls name ++ calls) (ap (λ calls. call_text characters ∷ calls) (calls_of-followed rest others))
    ∙ sym (append_assoc (name_calls name) (call_text characters ∷ calls_of rest) (calls_of others))
calls_of-followed (a_number name n rest) others =
    ap (λ calls. name_calls name ++ calls) (ap (λ calls. call_number n ∷ calls) (calls_of-followed rest others))
    ∙ sym (append_assoc (name_calls name) (call_number n ∷ calls_of rest) (calls_of others))
calls_of-followed (an_array name inside rest) others =
    within (name_calls name) Array (calls_of inside) rest others (calls_of-followed rest others)
calls_of-followed (an_object name inside rest) others =
    within (name_calls name) Object (calls_of inside) rest others (calls_of-followed rest others)

pub Wrote-nil : (p : JsonPen) (r : SinkView) → Wrote nothing p p r r
Wrote-nil p r = record { made = Made-nil p r; depth = refl }

-- the same values in other words
pub Wrote-same : (values others : Json) (p q : JsonPen) (r s : SinkView) → values ≡ others → Wrote values p q r s → Wrote others p q r s
Wrote-same values others p q r s e wrote = subst (λ x. Wrote x p q r s) e wrote

-- values, and others behind them
pub Wrote-append : (values others : Json) (p q t : JsonPen) (r s u : SinkView) → Wrote values p q r s → Wrote others q t s u
    → Wrote (followed_by values others) p t r u
Wrote-append values others p q t r s u a b = record {
  made = Made-same _ _ p t r u (sym (calls_of-followed values others)) (Made-append (calls_of values) (calls_of others) p q t r s u a.made b.made);
  depth = b.depth ∙ a.depth;
}

-- ---- lists of what is said

pub followed-assoc : (a b c : Json) → followed_by (followed_by a b) c ≡ followed_by a (followed_by b c)
followed-assoc nothing b c = refl
followed-assoc (a_text name characters rest) b c = ap (a_text name characters) (followed-assoc rest b c)
followed-assoc (a_number name n rest) b c = ap (a_number name n) (followed-assoc rest b c)
followed-assoc (an_array name inside rest) b c = ap (an_array name inside) (followed-assoc rest b c)
followed-assoc (an_object name inside rest) b c = ap (an_object name inside) (followed-assoc rest b c)

pub each-append : {X : Type 0} (said : X → Json) (xs ys : List X) → each said (xs ++ ys) ≡ followed_by (each said xs) (each said ys)
each-append said [] ys = refl
each-append said (x ∷ xs) ys =
    ap (followed_by (said x)) (each-append said xs ys) ∙ sym (followed-assoc (said x) (each said xs) (each said ys))

-- said of each of what each of these gives
pub each-flat_map : {X Y : Type 0} (said : Y → Json) (given : X → List Y) (xs : List X)
    → each (λ x. each said (given x)) xs ≡ each said (flat_map given xs)
each-flat_map said given [] = refl
each-flat_map said given (x ∷ xs) =
    ap (followed_by (each said (given x))) (each-flat_map said given xs) ∙ sym (each-append said (given x) (flat_map given xs))

-- the last ones
pub Wrote-last : (values : Json) (p q : JsonPen) (r s : SinkView) → Wrote values p q r s → Wrote (joined (values ∷ [])) p q r s
Wrote-last values p q r s wrote = Wrote-append values nothing p q q r s s wrote (Wrote-nil q s)

-- ---- arrays and objects

-- what an array or object is made of
module _ (kind : Container) (name : Option (List ℕ)) (inside : Json) (p q t w : JsonPen) (r s u v : SinkView) where
  abbrev container_calls : List Call
  container_calls = name_calls name ++ call_begin kind ∷ (calls_of inside ++ call_end kind ∷ [])

  Made-container : Began name kind p q r s → Wrote inside q t s u
      → Prints (encode_utf8_all (appended_by t.state (call_end kind))) t.printer.failed w.printer.failed u v
      → w.state ≡ state_behind t.state (call_end kind)
      → Made container_calls p w r v
  Made-container begun wrote prints state =
      Made-same ((name_calls name ++ call_begin kind ∷ []) ++ (calls_of inside ++ call_end kind ∷ [])) container_calls p w r v
      (append_assoc (name_calls name) (call_begin kind ∷ []) (calls_of inside ++ call_end kind ∷ []))
      (Made-append (name_calls name ++ call_begin kind ∷ []) (calls_of inside ++ call_end kind ∷ []) p q w r s v begun.made
      (Made-append (calls_of inside) (call_end kind ∷ []) q t w s u v wrote.made (Made-one (call_end kind) t w u v prints state)))

  depth-container : Began name kind p q r s → Wrote inside q t s u → w.state ≡ state_behind t.state (call_end kind) → w.state.depth ≡ p.state.depth
  depth-container begun wrote state =
      let left : w.state.depth ≡ t.state.depth - 1 = ap (λ (state : JsonState). state.depth) state in
      let inner = wrote.depth in
      let outer = begun.depth in
      omega (arith, left, inner, outer)

pub Wrote-array : (name : Option (List ℕ)) (inside : Json) (p q t w : JsonPen) (r s u v : SinkView)
    → Began name Array p q r s → Wrote inside q t s u
    → Prints (encode_utf8_all (appended_by t.state (call_end Array))) t.printer.failed w.printer.failed u v
    → w.state ≡ state_behind t.state (call_end Array)
    → Wrote (an_array name inside nothing) p w r v
Wrote-array name inside p q t w r s u v begun wrote prints state = record {
  made = Made-container Array name inside p q t w r s u v begun wrote prints state;
  depth = depth-container Array name inside p q t w r s u v begun wrote state;
}

pub Wrote-object : (name : Option (List ℕ)) (inside : Json) (p q t w : JsonPen) (r s u v : SinkView)
    → Began name Object p q r s → Wrote inside q t s u
    → Prints (encode_utf8_all (appended_by t.state (call_end Object))) t.printer.failed w.printer.failed u v
    → w.state ≡ state_behind t.state (call_end Object)
    → Wrote (an_object name inside nothing) p w r v
Wrote-object name inside p q t w r s u v begun wrote prints state = record {
  made = Made-container Object name inside p q t w r s u v begun wrote prints state;
  depth = depth-container Object name inside p q t w r s u v begun wrote state;
}

-- The whole text of a value was printed.
pub Printed-document : (value : Json) (p q : JsonPen) (r s u : SinkView) (failed : Bool) → p.state ≡ fresh → p.printer.failed ≡ false
    → Wrote value p q r s
    → Prints (encode_utf8_all (appended_by q.state call_finish)) q.printer.failed failed s u
    → Printed failed (encode_utf8_all (document value)) r u
Printed-document value p q r s u failed is_fresh unfailed wrote finish =
    printed value p q r s u failed is_fresh unfailed (document_calls-append value) wrote.made finish

-- ---- loops

-- Whatever writes what is left, writes all.
pub record Leads (all : Json) (p : JsonPen) (r : SinkView) (left : Json) (q : JsonPen) (s : SinkView) : Type 0 where
  pub leads : (t : JsonPen) (u : SinkView) → Wrote left q t s u → Wrote all p t r u
  pub depth : q.state.depth ≡ p.state.depth

pub Leads-begin : (all : Json) (p : JsonPen) (r : SinkView) → Leads all p r all p r
Leads-begin all p r = record { leads = λ t u wrote. wrote; depth = refl }

pub Leads-same : (all left other : Json) (p q : JsonPen) (r s : SinkView) → left ≡ other → Leads all p r left q s → Leads all p r other q s
Leads-same all left other p q r s e ahead = subst (λ x. Leads all p r x q s) e ahead

pub Leads-step : (all values left : Json) (p q t : JsonPen) (r s u : SinkView) → Leads all p r (followed_by values left) q s → Wrote values q t s u
    → Leads all p r left t u
Leads-step all values left p q t r s u ahead wrote = record {
  leads = λ w v more. ahead.leads w v (Wrote-append values left q t w s u v wrote more);
  depth = wrote.depth ∙ ahead.depth;
}

pub Leads-end : (all : Json) (p q : JsonPen) (r s : SinkView) → Leads all p r nothing q s → Wrote all p q r s
Leads-end all p q r s ahead = ahead.leads q s (Wrote-nil q s)

-- A loop over what is said of each: one more, and its end.
pub Leads-next : {X : Type 0} (said : X → Json) (xs : List X) (k : ℕ) (x : X) (all : Json) (p q t : JsonPen) (r s u : SinkView)
    → k < length xs → x ≡ get_or xs k x
    → Leads all p r (each said (drop k xs)) q s → Wrote (said x) q t s u
    → Leads all p r (each said (drop (k + 1) xs)) t u
Leads-next said xs k x all p q t r s u h e ahead wrote =
    Leads-step all (said x) (each said (drop (k + 1) xs)) p q t r s u
    (Leads-same all _ _ p q r s (ap (each said) (drop_more xs k x h ∙ ap (λ y. y ∷ drop (k + 1) xs) (sym e))) ahead) wrote

pub Leads-all : {X : Type 0} (said : X → Json) (xs : List X) (k : ℕ) (all : Json) (p q : JsonPen) (r s : SinkView) → length xs ≤ k
    → Leads all p r (each said (drop k xs)) q s → Wrote all p q r s
Leads-all said xs k all p q r s h ahead = Leads-end all p q r s (Leads-same all _ nothing p q r s (ap (each said) (drop_all k xs h)) ahead)
