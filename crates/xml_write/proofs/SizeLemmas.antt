-- What a gauge has measured behind the calls of a document: the sizes of its canonical text.
use Rattle.std.proofs.Common.{◌≡◌, ℕ, ◌+◌, max, Bool, true, false, not, ◌&&◌, ◌==◌, List, [], ◌∷◌, ◌++◌, length, map, refl, ap, sym, ◌∙◌, subst, zero-add}
use Rattle.std.proofs.Common.{append_assoc, append-nil, length-append, arith}
use Rattle.std.specs.Prelude.{if◌then◌else◌}
use Rattle.std.specs.List.{flat_map}
use Rattle.std.proofs.lemmas.Grind.{flat_map-append}
use Rattle.std.proofs.lemmas.Str.{encodes-append}
use lib.Utf8.{encodes, encode}
use Rattle.inv_base.specs.Tree.{Forest, no_more, a_text, an_element, Name, Attribute, is_joined, begins_with_text, size}
use Rattle.xml_write.specs.declared.pen.PenState.{PenState}
use Rattle.xml_write.specs.declared.pen.PenState.TheVariants.{Fresh, InsideTag, PastTag}
use Rattle.xml_write.specs.declared.gauge.Gauge.{Gauge}
use Rattle.xml_write.specs.Escapes.{in_text}
use Rattle.xml_write.specs.Canonical.{Declaration, attribute_text, attributes_text, declarations_text, declaring_name, attribute_name, element_name}
use Rattle.xml_write.specs.Canonical.{is_childless}
use Rattle.xml_write.specs.Calls.{Call, call_start, call_attribute, call_declare, call_text, call_end, call_close, lead_in, content_text, behind_text, end_tag}
use Rattle.xml_write.specs.Calls.{appended_by, state_behind, appended_by_all, behind_all, encoded, attribute_calls, declare_calls, calls_inside, calls_of}
use Rattle.xml_write.specs.Sizes.{element_tags, forest_tags, canonical_tags, longest, stopped, tag_stopped, with_open_tag, with_last_tag, unmeasured, measured}
use Rattle.xml_write.specs.Sizes.{all_stopped, gauged, gauged_by_all}
use Rattle.xml_write.proofs.EncodingLemmas.{encodes-some, encodes-attribute_text, encodes-declaring_name, encodes-end_tag}

-- the calls with texts of characters, measured as they are made in UTF-8
abbrev pub told : Gauge → List Call → Gauge
told g [] = g
told g (call ∷ calls) = told (measured g (encoded call)) calls

pub told-append : (g : Gauge) (calls more : List Call) → told g (calls ++ more) ≡ told (told g calls) more
told-append g [] more = refl
told-append g (call ∷ calls) more = told-append (measured g (encoded call)) calls more

-- Numbers that stop at each call are those that stop at the end.

stopped-plus : (a b : ℕ) → stopped (stopped a + b) ≡ stopped (a + b)
stopped-plus a b = omega arith

tag_stopped-plus : (a b : ℕ) → tag_stopped (tag_stopped a + b) ≡ tag_stopped (a + b)
tag_stopped-plus a b = omega arith

stopped-open_tag : (s : PenState) (a l : ℕ) → tag_stopped (with_open_tag s (tag_stopped a) (tag_stopped l)) ≡ tag_stopped (with_open_tag s a l)
stopped-open_tag Fresh a l = omega arith
stopped-open_tag InsideTag a l = omega arith
stopped-open_tag PastTag a l = omega arith

stopped-last_tag : (s : PenState) (a n l : ℕ) → tag_stopped (with_last_tag s (tag_stopped a) n (tag_stopped l)) ≡ tag_stopped (with_last_tag s a n l)
stopped-last_tag Fresh a n l = omega arith
stopped-last_tag InsideTag a n l = omega arith
stopped-last_tag PastTag a n l = omega arith

stopped-stopped : (a : ℕ) → stopped (stopped a) ≡ stopped a
stopped-stopped a = omega arith

tag_stopped-stopped : (a : ℕ) → tag_stopped (tag_stopped a) ≡ tag_stopped a
tag_stopped-stopped a = omega arith

stopped-one_if_not : (b : Bool) (a : ℕ) → stopped (if b then stopped a else stopped a + 1) ≡ stopped (if b then a else a + 1)
stopped-one_if_not true a = stopped-stopped a
stopped-one_if_not false a = stopped-plus a 1

-- a gauge by its parts
abbrev gauge_of : PenState → Bool → ℕ → ℕ → ℕ → ℕ → Gauge
gauge_of s t a b c d = record { state = s; in_text = t; bytes = a; begun_tag = b; longest_tag = c; nodes = d }

same_gauge : (s : PenState) (t : Bool) {a a' b b' c c' d d' : ℕ} → a ≡ a' → b ≡ b' → c ≡ c' → d ≡ d' → gauge_of s t a b c d ≡ gauge_of s t a' b' c' d'
same_gauge s t p q r u = cc

pub gauged-stopped : (g : Gauge) (call : Call) → gauged (all_stopped g) call ≡ gauged g call
gauged-stopped g (call_start name) =
    same_gauge InsideTag false (stopped-plus g.bytes _) refl (stopped-open_tag g.state g.begun_tag g.longest_tag) (stopped-plus g.nodes 1)
gauged-stopped g (call_attribute name value) =
    same_gauge InsideTag false (stopped-plus g.bytes _) (tag_stopped-plus g.begun_tag _) (tag_stopped-stopped g.longest_tag) (stopped-plus g.nodes 1)
gauged-stopped g (call_declare prefix uri) =
    same_gauge InsideTag false (stopped-plus g.bytes _) (tag_stopped-plus g.begun_tag _) (tag_stopped-stopped g.longest_tag) (stopped-stopped g.nodes)
gauged-stopped g (call_text []) =
    same_gauge g.state g.in_text (stopped-stopped g.bytes) (tag_stopped-stopped g.begun_tag) (tag_stopped-stopped g.longest_tag) (stopped-stopped g.nodes)
gauged-stopped g (call_text (c ∷ text)) =
    same_gauge PastTag true (stopped-plus g.bytes _) refl (stopped-open_tag g.state g.begun_tag g.longest_tag) (stopped-one_if_not g.in_text g.nodes)
gauged-stopped g (call_end name) =
    same_gauge PastTag false (stopped-plus g.bytes _) refl (stopped-last_tag g.state g.begun_tag _ g.longest_tag) (stopped-stopped g.nodes)
gauged-stopped g call_close =
    same_gauge PastTag g.in_text (stopped-plus g.bytes 1) (tag_stopped-stopped g.begun_tag) (tag_stopped-stopped g.longest_tag) (stopped-stopped g.nodes)

pub gauged_by_all-stopped : (g : Gauge) (calls : List Call) → gauged_by_all (all_stopped g) (map encoded calls) ≡ all_stopped (told g calls)
gauged_by_all-stopped g [] = refl
gauged_by_all-stopped g (call ∷ calls) =
    ap (λ h. gauged_by_all h (map encoded calls)) (gauged-stopped g (encoded call)) ∙ gauged_by_all-stopped (measured g (encoded call)) calls

-- Bytes.

pub measured-state : (g : Gauge) (call : Call) → (measured g call).state ≡ state_behind g.state call
measured-state g (call_start name) = refl
measured-state g (call_attribute name value) = refl
measured-state g (call_declare prefix uri) = refl
measured-state g (call_text []) = refl
measured-state g (call_text (c ∷ text)) = refl
measured-state g (call_end name) = refl
measured-state g call_close = refl

measured-bytes : (g : Gauge) (call : Call) → (measured g call).bytes ≡ g.bytes + length (appended_by g.state call)
measured-bytes g (call_start name) = refl
measured-bytes g (call_attribute name value) = refl
measured-bytes g (call_declare prefix uri) = refl
measured-bytes g (call_text []) = omega arith
measured-bytes g (call_text (c ∷ text)) = refl
measured-bytes g (call_end name) = refl
measured-bytes g call_close = refl

pub told-bytes : (g : Gauge) (calls : List Call) → (told g calls).bytes ≡ g.bytes + length (appended_by_all g.state (map encoded calls))
told-bytes g [] = omega arith
told-bytes g (call ∷ calls) =
    let h : Gauge = measured g (encoded call) in
    let rest : List ℕ = appended_by_all (state_behind g.state (encoded call)) (map encoded calls) in
    let later : (told h calls).bytes ≡ h.bytes + length rest =
    told-bytes h calls ∙ ap (λ s. h.bytes + length (appended_by_all s (map encoded calls))) (measured-state g (encoded call)) in
    let now : h.bytes ≡ g.bytes + length (appended_by g.state (encoded call)) = measured-bytes g (encoded call) in
    let both : length (appended_by g.state (encoded call) ++ rest) ≡ length (appended_by g.state (encoded call)) + length rest =
    length-append (appended_by g.state (encoded call)) rest in
    omega arith

pub gauged_by_all-state : (g : Gauge) (calls : List Call) → (gauged_by_all g calls).state ≡ behind_all g.state calls
gauged_by_all-state g [] = refl
gauged_by_all-state g (call ∷ calls) =
    gauged_by_all-state (gauged g call) calls ∙ ap (λ s. behind_all s calls) (measured-state g call)

-- Nodes and tags.

-- A row of attributes and declarations in an open tag: they have this text and so many nodes.
pub record Attributed (g h : Gauge) (text : List ℕ) (count : ℕ) : Type 0 where
  pub state : h.state ≡ InsideTag
  pub in_text : h.in_text ≡ false
  pub begun : h.begun_tag ≡ g.begun_tag + length (encodes text)
  pub longest_tag : h.longest_tag ≡ g.longest_tag
  pub nodes : h.nodes ≡ g.nodes + count

Attributed-none : (g : Gauge) → g.state ≡ InsideTag → g.in_text ≡ false → Attributed g g [] 0
Attributed-none g p q = record { state = p; in_text = q; begun = omega arith; longest_tag = refl; nodes = omega arith }

Attributed-append : (g h k : Gauge) (a b : List ℕ) (m n : ℕ) → Attributed g h a m → Attributed h k b n → Attributed g k (a ++ b) (m + n)
Attributed-append g h k a b m n p q = record {
  state = q.state;
  in_text = q.in_text;
  begun = let e : length (encodes (a ++ b)) ≡ length (encodes a) + length (encodes b) = ap length (encodes-append a b) ∙
      length-append (encodes a) (encodes b) in omega (arith, p.begun, q.begun);
  longest_tag = q.longest_tag ∙ p.longest_tag;
  nodes = omega (arith, p.nodes, q.nodes);
}

attribute_calls-Attributed : (declarations : List Declaration) (attributes : List Attribute) (g : Gauge) → g.state ≡ InsideTag → g.in_text ≡ false
    → Attributed g (told g (attribute_calls declarations attributes)) (attributes_text declarations attributes) (length attributes)
attribute_calls-Attributed declarations [] g p q = Attributed-none g p q
attribute_calls-Attributed declarations (a ∷ attributes) g p q =
    let name : List ℕ = attribute_name declarations a.name in
    let h : Gauge = measured g (call_attribute (encodes name) (encodes a.value)) in
    let one : Attributed g h (attribute_text name a.value) 1 = record {
      state = refl;
      in_text = refl;
      begun = ap (λ t. g.begun_tag + length t) (sym (encodes-attribute_text name a.value));
      longest_tag = refl;
      nodes = refl;
    } in
    let all : Attributed g (told h (attribute_calls declarations attributes)) (attribute_text name a.value ++ attributes_text declarations attributes)
    (1 + length attributes) =
    Attributed-append g h _ _ _ 1 (length attributes) one (attribute_calls-Attributed declarations attributes h refl refl) in
    record { state = all.state; in_text = all.in_text; begun = all.begun; longest_tag = all.longest_tag; nodes = omega (arith, all.nodes) }

declare_calls-Attributed : (declarations : List Declaration) (g : Gauge) → g.state ≡ InsideTag → g.in_text ≡ false
    → Attributed g (told g (declare_calls declarations)) (declarations_text declarations) 0
declare_calls-Attributed [] g p q = Attributed-none g p q
declare_calls-Attributed (d ∷ declarations) g p q =
    let h : Gauge = measured g (call_declare (encodes d.prefix) (encodes d.uri)) in
    let one : Attributed g h (attribute_text (declaring_name d.prefix) d.uri) 0 = record {
      state = refl;
      in_text = refl;
      begun = ap (λ t. g.begun_tag + length t)
          (sym (encodes-attribute_text (declaring_name d.prefix) d.uri ∙ ap (λ name. attribute_text name (encodes d.uri)) (encodes-declaring_name d.prefix)));
      longest_tag = refl;
      nodes = omega arith;
    } in
    Attributed-append g h _ _ _ 0 0 one (declare_calls-Attributed declarations h refl refl)

longest-append : (a b : List (List ℕ)) → longest (a ++ b) ≡ max (longest a) (longest b)
longest-append [] b = omega arith
longest-append (x ∷ a) b = omega (arith, longest-append a b)

-- What the calls for what stands inside an element leave.
pub record Filled (declarations : List Declaration) (forest : Forest) (g h : Gauge) : Type 0 where
  -- without a node there is nothing to measure
  pub nothing : is_childless forest ≡ true → h ≡ g
  pub state : is_childless forest ≡ false → h.state ≡ PastTag
  pub longest_tag : is_childless forest ≡ false → h.longest_tag ≡ max (with_open_tag g.state g.begun_tag g.longest_tag)
      (longest (forest_tags declarations forest))
  pub nodes : is_joined forest ≡ true → (g.in_text && begins_with_text forest) ≡ false → h.nodes ≡ g.nodes + size forest

-- What the calls for one element leave, by its tags and how many nodes it has where it is joined.
pub record Ended (g h : Gauge) (tags : List (List ℕ)) (joined : Bool) (count : ℕ) : Type 0 where
  pub state : h.state ≡ PastTag
  pub in_text : h.in_text ≡ false
  pub longest_tag : h.longest_tag ≡ max (with_open_tag g.state g.begun_tag g.longest_tag) (longest tags)
  pub nodes : joined ≡ true → h.nodes ≡ g.nodes + count

-- the bytes of tags by their parts
tag-length : (name attributes end : List ℕ) → length (encodes (0x3C ∷ (name ++ (attributes ++ end)))) ≡ 1 +
    (length (encodes name) + (length (encodes attributes) + length (encodes end)))
unfolding encode
tag-length name attributes end =
    let e : length (encodes (name ++ (attributes ++ end))) ≡ length (encodes name) + length (encodes (attributes ++ end)) =
    ap length (encodes-append name (attributes ++ end)) ∙ length-append (encodes name) (encodes (attributes ++ end)) in
    let f : length (encodes (attributes ++ end)) ≡ length (encodes attributes) + length (encodes end) =
    ap length (encodes-append attributes end) ∙ length-append (encodes attributes) (encodes end) in
    omega arith

end_tag-length : (name : List ℕ) → length (encodes (end_tag name)) ≡ length (end_tag (encodes name))
end_tag-length name = ap length (encodes-end_tag name)

-- an element's tags, once it is known whether it has children
element-longest : (declarations : List Declaration) (inside : Forest) (before : ℕ) (name text : List ℕ) (g h : Gauge) (b : Bool)
    → g.state ≡ InsideTag → g.begun_tag ≡ 1 + (length (encodes name) + length (encodes text)) → g.longest_tag ≡ before
    → Filled declarations inside g h → is_childless inside ≡ b
    → with_last_tag h.state h.begun_tag (length (end_tag (encodes name))) h.longest_tag ≡ max before
    (longest (element_tags name text b (forest_tags declarations inside)))
unfolding encode
element-longest declarations inside before name text g h true p q r filled e =
    ap (λ k. let u : Gauge = k in with_last_tag u.state u.begun_tag (length (end_tag (encodes name))) u.longest_tag) (filled.nothing e)
    ∙ (ap (λ s. with_last_tag s g.begun_tag (length (end_tag (encodes name))) g.longest_tag) p
    ∙ (let t : length (encodes (0x3C ∷ (name ++ (text ++ 0x2F ∷ 0x3E ∷ [])))) ≡ 1 + (length (encodes name) + (length (encodes text) + 2)) =
    tag-length name text (0x2F ∷ 0x3E ∷ []) in
    omega arith))
element-longest declarations inside before name text g h false p q r filled e =
    ap (λ s. with_last_tag s h.begun_tag (length (end_tag (encodes name))) h.longest_tag) (filled.state e)
    ∙ (let begun : h.longest_tag ≡ max (max g.longest_tag (g.begun_tag + 1)) (longest (forest_tags declarations inside)) =
    filled.longest_tag e ∙ ap (λ s. max (with_open_tag s g.begun_tag g.longest_tag) (longest (forest_tags declarations inside))) p in
    let t : length (encodes (0x3C ∷ (name ++ (text ++ 0x3E ∷ [])))) ≡ 1 + (length (encodes name) + (length (encodes text) + 1)) =
    tag-length name text (0x3E ∷ []) in
    let all : longest (forest_tags declarations inside ++ end_tag name ∷ []) ≡ max (longest (forest_tags declarations inside))
    (max (length (encodes (end_tag name))) 0) =
    longest-append (forest_tags declarations inside) (end_tag name ∷ []) in
    let last : length (encodes (end_tag name)) ≡ length (end_tag (encodes name)) = end_tag-length name in
    omega arith)

-- the calls for one element, whose attributes have this text and count
element-Ended : (declarations : List Declaration) (inside : Forest) (g h : Gauge) (name text : List ℕ) (count : ℕ)
    → Attributed (measured g (call_start (encodes name))) h text count
    → Filled declarations inside h (told h (calls_inside declarations inside))
    → Ended g (measured (told h (calls_inside declarations inside)) (call_end (encodes name)))
    (element_tags name text (is_childless inside) (forest_tags declarations inside)) (is_joined inside) (1 + (count + size inside))
element-Ended declarations inside g h name text count row filled = record {
  state = refl;
  in_text = refl;
  longest_tag = element-longest declarations inside (with_open_tag g.state g.begun_tag g.longest_tag) name text h (told h (calls_inside declarations inside))
      (is_childless inside)
      row.state (omega (arith, row.begun)) row.longest_tag filled refl;
  nodes = λ joined.
      let all : (told h (calls_inside declarations inside)).nodes ≡ h.nodes + size inside =
      filled.nodes joined (ap (λ t. t && begins_with_text inside) row.in_text) in
      omega (arith, row.nodes);
}

-- a text with a character
text-measured : (g : Gauge) (t : List ℕ) → (length t == 0) ≡ false
    → measured g (call_text t) ≡ gauge_of PastTag true (g.bytes + length (content_text g.state t)) 0 (with_open_tag g.state g.begun_tag g.longest_tag)
    (if g.in_text then g.nodes else g.nodes + 1)
text-measured g [] e = cc
text-measured g (c ∷ t) e = refl

forest_tags-childless : (declarations : List Declaration) (forest : Forest) → is_childless forest ≡ true → forest_tags declarations forest ≡ []
forest_tags-childless declarations no_more e = refl
forest_tags-childless declarations (a_text [] rest) e = forest_tags-childless declarations rest e
forest_tags-childless declarations (a_text (c ∷ characters) rest) e = cc
forest_tags-childless declarations (an_element name attributes inside rest) e = cc

-- What follows a tag or a text, also where nothing does.
pub record Followed (declarations : List Declaration) (forest : Forest) (g h : Gauge) : Type 0 where
  pub state : h.state ≡ PastTag
  pub longest_tag : h.longest_tag ≡ max g.longest_tag (longest (forest_tags declarations forest))

filled-Followed : (declarations : List Declaration) (forest : Forest) (g h : Gauge) (b : Bool) → is_childless forest ≡ b → g.state ≡ PastTag →
    Filled declarations forest g h
    → Followed declarations forest g h
filled-Followed declarations forest g h true e p filled = record {
  state = ap (λ (k : Gauge). k.state) (filled.nothing e) ∙ p;
  longest_tag =
      ap (λ (k : Gauge). k.longest_tag) (filled.nothing e)
      ∙ (let none : longest (forest_tags declarations forest) ≡ 0 = ap longest (forest_tags-childless declarations forest e) in omega arith);
}
filled-Followed declarations forest g h false e p filled = record {
  state = filled.state e;
  longest_tag = filled.longest_tag e ∙ ap (λ s. max (with_open_tag s g.begun_tag g.longest_tag) (longest (forest_tags declarations forest))) p;
}

and-left : (a b : Bool) → (a && b) ≡ true → a ≡ true
and-left true b e = refl
and-left false b e = cc

and-right : (a b : Bool) → (a && b) ≡ true → b ≡ true
and-right true b e = e
and-right false b e = cc

not-true : (a : Bool) → not a ≡ true → a ≡ false
not-true true e = cc
not-true false e = refl

more_unless : (b c : Bool) (n k : ℕ) → (b && true) ≡ false → n ≡ (if b then k else k + 1) → n ≡ k + 1
more_unless true c n k e f = cc
more_unless false c n k e f = f

-- What the calls for what stands inside an element leave: it is filled with it.
pub calls_inside-Filled : (declarations : List Declaration) (forest : Forest) (g : Gauge) →
    Filled declarations forest g (told g (calls_inside declarations forest))
calls_inside-Filled declarations no_more g = record { nothing = λ _. refl; state = λ e. cc; longest_tag = λ e. cc; nodes = λ _ _. omega arith }
calls_inside-Filled declarations (a_text [] rest) g =
    let later : Filled declarations rest g (told g (calls_inside declarations rest)) = calls_inside-Filled declarations rest g in
    record { nothing = later.nothing; state = later.state; longest_tag = later.longest_tag; nodes = λ e _. cc }
calls_inside-Filled declarations (a_text (c ∷ characters) rest) g =
    let h : Gauge = measured g (call_text (encodes (c ∷ characters))) in
    let is : h ≡ gauge_of PastTag true (g.bytes + length (content_text g.state (encodes (c ∷ characters)))) 0 (with_open_tag g.state g.begun_tag g.longest_tag)
    (if g.in_text then g.nodes else g.nodes + 1) =
    text-measured g (encodes (c ∷ characters)) (encodes-some c characters) in
    let later : Filled declarations rest h (told h (calls_inside declarations rest)) = calls_inside-Filled declarations rest h in
    let followed : Followed declarations rest h (told h (calls_inside declarations rest)) =
    filled-Followed declarations rest h _ (is_childless rest) refl (ap (λ (k : Gauge). k.state) is) later in
    record {
      nothing = λ e. cc;
      state = λ _. followed.state;
      longest_tag = λ _. followed.longest_tag ∙ ap (λ (k : Gauge). max k.longest_tag (longest (forest_tags declarations rest))) is;
      nodes = λ joined apart.
          let both : (not (begins_with_text rest) && is_joined rest) ≡ true =
          and-right (not (length (c ∷ characters) == 0)) (not (begins_with_text rest) && is_joined rest) joined in
          let unfollowed : begins_with_text rest ≡ false = not-true (begins_with_text rest) (and-left (not (begins_with_text rest)) (is_joined rest) both) in
          let here : h.nodes ≡ g.nodes + 1 = more_unless g.in_text true h.nodes g.nodes apart (ap (λ (k : Gauge). k.nodes) is) in
          let all : (told h (calls_inside declarations rest)).nodes ≡ h.nodes + size rest =
          later.nodes (and-right (not (begins_with_text rest)) (is_joined rest) both)
          (ap (λ (k : Gauge). k.in_text && begins_with_text rest) is ∙ unfollowed) in
          omega arith;
    }
calls_inside-Filled declarations (an_element name attributes inside rest) g =
    let n : List ℕ = element_name declarations name in
    let tags : List (List ℕ) = element_tags n (attributes_text declarations attributes) (is_childless inside) (forest_tags declarations inside) in
    let row : List Call = attribute_calls declarations attributes in
    let h : Gauge = told (measured g (call_start (encodes n))) row in
    let k : Gauge = measured (told h (calls_inside declarations inside)) (call_end (encodes n)) in
    let ended : Ended g k tags (is_joined inside) (1 + (length attributes + size inside)) =
    element-Ended declarations inside g h n (attributes_text declarations attributes) (length attributes)
    (attribute_calls-Attributed declarations attributes (measured g (call_start (encodes n))) refl refl)
    (calls_inside-Filled declarations inside h) in
    let is : told g (calls_inside declarations (an_element name attributes inside rest)) ≡ told k (calls_inside declarations rest) =
    told-append (measured g (call_start (encodes n))) row (calls_inside declarations inside ++ call_end n ∷ calls_inside declarations rest)
    ∙ told-append h (calls_inside declarations inside) (call_end n ∷ calls_inside declarations rest) in
    let later : Filled declarations rest k (told k (calls_inside declarations rest)) = calls_inside-Filled declarations rest k in
    let followed : Followed declarations rest k (told k (calls_inside declarations rest)) =
    filled-Followed declarations rest k _ (is_childless rest) refl ended.state later in
    record {
      nothing = λ e. cc;
      state = λ _. ap (λ (u : Gauge). u.state) is ∙ followed.state;
      longest_tag = λ _.
          let here : (told g (calls_inside declarations (an_element name attributes inside rest))).longest_tag ≡ max k.longest_tag
          (longest (forest_tags declarations rest)) =
          ap (λ (u : Gauge). u.longest_tag) is ∙ followed.longest_tag in
          let all : longest (tags ++ forest_tags declarations rest) ≡ max (longest tags) (longest (forest_tags declarations rest)) =
          longest-append tags (forest_tags declarations rest) in
          omega (arith, ended.longest_tag);
      nodes = λ joined _.
          let here : (told g (calls_inside declarations (an_element name attributes inside rest))).nodes ≡ (told k (calls_inside declarations rest)).nodes =
          ap (λ (u : Gauge). u.nodes) is in
          let all : (told k (calls_inside declarations rest)).nodes ≡ k.nodes + size rest =
          later.nodes (and-right (is_joined inside) (is_joined rest) joined) (ap (λ t. t && begins_with_text rest) ended.in_text) in
          omega (arith, ended.nodes (and-left (is_joined inside) (is_joined rest) joined));
    }

max-zero : (n : ℕ) → max 0 n ≡ n
max-zero n = omega arith

-- What the calls of a document leave: its tags, and the nodes of a joined one.
pub record Whole (declarations : List Declaration) (document : Forest) (h : Gauge) : Type 0 where
  pub longest_tag : h.longest_tag ≡ longest (canonical_tags declarations document)
  pub nodes : (inside : Forest) (name : Name) (attributes : List Attribute) → document ≡ an_element name attributes inside no_more → is_joined inside ≡ true →
      h.nodes ≡ size document + 1

pub calls_of-Whole : (declarations : List Declaration) (document : Forest) → Whole declarations document (told unmeasured (calls_of declarations document))
calls_of-Whole declarations no_more = record { longest_tag = refl; nodes = λ inside name attributes e j. cc }
calls_of-Whole declarations (a_text characters rest) = record { longest_tag = refl; nodes = λ inside name attributes e j. cc }
calls_of-Whole declarations (an_element name attributes inside rest) =
    let n : List ℕ = element_name declarations name in
    let text : List ℕ = declarations_text declarations ++ attributes_text declarations attributes in
    let row : List Call = declare_calls declarations ++ attribute_calls declarations attributes in
    let first : Gauge = measured unmeasured (call_start (encodes n)) in
    let between : Gauge = told first (declare_calls declarations) in
    let h : Gauge = told between (attribute_calls declarations attributes) in
    let declared : Attributed first between (declarations_text declarations) 0 = declare_calls-Attributed declarations first refl refl in
    let given : Attributed first h text (length attributes) =
    subst (Attributed first h text) (zero-add (length attributes))
    (Attributed-append first between h (declarations_text declarations) (attributes_text declarations attributes) 0 (length attributes) declared
    (attribute_calls-Attributed declarations attributes between declared.state declared.in_text)) in
    let k : Gauge = measured (told h (calls_inside declarations inside)) (call_end (encodes n)) in
    let ended : Ended unmeasured k (element_tags n text (is_childless inside) (forest_tags declarations inside)) (is_joined inside)
    (1 + (length attributes + size inside)) =
    element-Ended declarations inside unmeasured h n text (length attributes) given (calls_inside-Filled declarations inside h) in
    let is : told unmeasured (calls_of declarations (an_element name attributes inside rest)) ≡ measured k call_close =
    told-append first (declare_calls declarations) (attribute_calls declarations attributes ++
    (calls_inside declarations inside ++ call_end n ∷ call_close ∷ []))
    ∙ (told-append between (attribute_calls declarations attributes) (calls_inside declarations inside ++ call_end n ∷ call_close ∷ [])
    ∙ told-append h (calls_inside declarations inside) (call_end n ∷ call_close ∷ [])) in
    record {
      longest_tag = ap (λ (u : Gauge). u.longest_tag) is ∙ (ended.longest_tag ∙ max-zero _);
      nodes = λ inside' name' attributes' e joined.
          let at : inside ≡ inside' = cc in
          let last : rest ≡ no_more = cc in
          let all : k.nodes ≡ 1 + (1 + (length attributes + size inside)) = ended.nodes (ap is_joined at ∙ joined) in
          let none : size rest ≡ 0 = ap size last in
          ap (λ (u : Gauge). u.nodes) is ∙ omega arith;
    }

-- Texts behind one another are one text.

pub content_text-append : (state : PenState) (a b : List ℕ) → content_text state a ++ content_text (behind_text state a) b ≡ content_text state (a ++ b)
content_text-append state [] b = refl
content_text-append state (c ∷ a) [] = append-nil (content_text state (c ∷ a)) ∙ ap (λ t. content_text state (c ∷ t)) (sym (append-nil a))
content_text-append state (c ∷ a) (d ∷ b) =
    append_assoc (lead_in state) (flat_map in_text (c ∷ a)) (flat_map in_text (d ∷ b))
    ∙ ap (λ t. lead_in state ++ t) (sym (flat_map-append in_text (c ∷ a) (d ∷ b)))

pub behind_text-append : (state : PenState) (a b : List ℕ) → behind_text (behind_text state a) b ≡ behind_text state (a ++ b)
behind_text-append state [] b = refl
behind_text-append state (c ∷ a) [] = refl
behind_text-append state (c ∷ a) (d ∷ b) = refl

-- two texts in a row, and as one
measured-texts : (g : Gauge) (a b : List ℕ) → measured (measured g (call_text a)) (call_text b) ≡ measured g (call_text (a ++ b))
measured-texts g [] b = refl
measured-texts g (c ∷ a) [] = ap (λ t. measured g (call_text (c ∷ t))) (sym (append-nil a))
measured-texts g (c ∷ a) (d ∷ b) =
    let e : length (content_text g.state (c ∷ a)) + length (content_text PastTag (d ∷ b)) ≡ length (content_text g.state ((c ∷ a) ++ d ∷ b)) =
    sym (length-append (content_text g.state (c ∷ a)) (content_text PastTag (d ∷ b))) ∙ ap length (content_text-append g.state (c ∷ a) (d ∷ b)) in
    same_gauge PastTag true (omega arith) refl refl refl

pub gauged-texts : (g : Gauge) (a b : List ℕ) → gauged (gauged g (call_text a)) (call_text b) ≡ gauged g (call_text (a ++ b))
gauged-texts g a b = gauged-stopped (measured g (call_text a)) (call_text b) ∙ ap all_stopped (measured-texts g a b)
