-- The calls of a document append its canonical text.
use Rattle.std.proofs.Common.{◌≡◌, ℕ, Bool, true, false, Result, List, [], ◌∷◌, ◌++◌, map, refl, ap, sym, ◌∙◌, append_assoc, append-nil}
use Rattle.std.specs.List.{flat_map}
use Rattle.inv_base.specs.Outside.{SinkView}
use Rattle.inv_base.specs.Writing.{Writes, WritesAll, WritesFront}
use Rattle.inv_base.proofs.WritingLemmas.{WritesFront-more, Writes-append}
use Rattle.inv_base.specs.Tree.{Forest, no_more, a_text, an_element, Attribute}
use Rattle.xml_write.specs.declared.pen.PenState.{PenState}
use Rattle.xml_write.specs.declared.pen.PenState.TheVariants.{Fresh, InsideTag, PastTag}
use Rattle.xml_write.specs.Escapes.{in_text}
use Rattle.xml_write.specs.Canonical.{Declaration, declaration_line, attribute_text, attributes_text, declarations_text, declaring_name, attribute_name}
use Rattle.xml_write.specs.Canonical.{element_name, element_text, is_childless, forest_text, canonical_text}
use Rattle.xml_write.specs.Calls.{Call, call_start, call_attribute, call_end, call_close, lead_in, end_text, appended_by, state_behind, appended_by_all}
use Rattle.xml_write.specs.Calls.{behind_all, attribute_calls, declare_calls, calls_inside, calls_of, are_allowed}

-- calls, and then more
pub appended_by_all-append : (state : PenState) (calls more : List Call) → appended_by_all state (calls ++ more) ≡ appended_by_all state calls ++
    appended_by_all (behind_all state calls) more
appended_by_all-append state [] more = refl
appended_by_all-append state (call ∷ calls) more =
    ap (λ x. appended_by state call ++ x) (appended_by_all-append (state_behind state call) calls more)
    ∙ sym (append_assoc (appended_by state call) (appended_by_all (state_behind state call) calls)
    (appended_by_all (behind_all (state_behind state call) calls) more))

pub behind_all-append : (state : PenState) (calls more : List Call) → behind_all state (calls ++ more) ≡ behind_all (behind_all state calls) more
behind_all-append state [] more = refl
behind_all-append state (call ∷ calls) more = behind_all-append (state_behind state call) calls more

-- For callers, whose calls so far were written: one more call, and a fault where more was to come.
pub Writes-one_more : {T E : Type 0} (result : Result T E) (state : PenState) (calls : List Call) (call : Call) (r s t : SinkView)
    → WritesAll (appended_by_all state calls) r s → Writes result (appended_by (behind_all state calls) call) s t →
    Writes result (appended_by_all state (calls ++ call ∷ [])) r t
Writes-one_more result state calls call r s t so_far one =
    rw (appended_by_all-append state calls (call ∷ []), append-nil) (Writes-append result _ _ r s t so_far one)

pub WritesFront-more_calls : (state : PenState) (calls more : List Call) (r s : SinkView) → WritesFront (appended_by_all state calls) r s →
    WritesFront (appended_by_all state (calls ++ more)) r s
WritesFront-more_calls state calls more r s h = rw (appended_by_all-append state calls more) (WritesFront-more _ _ r s h)

-- what calls for the inside of an element append, and the state behind them: nothing where no node is there
abbrev inside_text : PenState → Bool → List ℕ → List ℕ
inside_text state true text = []
inside_text state false text = lead_in state ++ text

abbrev behind_inside : PenState → Bool → PenState
behind_inside state true = state
behind_inside state false = PastTag

forest_text-childless : (declarations : List Declaration) (forest : Forest) → is_childless forest ≡ true → forest_text declarations forest ≡ []
forest_text-childless declarations no_more e = refl
forest_text-childless declarations (a_text [] rest) e = forest_text-childless declarations rest e
forest_text-childless declarations (a_text (c ∷ characters) rest) e = cc
forest_text-childless declarations (an_element name attributes inside rest) e = cc

inside_text-past : (b : Bool) (text more : List ℕ) → (b ≡ true → text ≡ []) → inside_text PastTag b text ++ more ≡ text ++ more
inside_text-past true text more e = ap (λ x. x ++ more) (sym (e refl))
inside_text-past false text more e = refl

behind_inside-past : (b : Bool) → behind_inside PastTag b ≡ PastTag
behind_inside-past true = refl
behind_inside-past false = refl

-- behind a tag or a text, what calls for the inside of an element append is its text
after_past : (declarations : List Declaration) (forest : Forest) (calls more : List Call)
    → appended_by_all PastTag calls ≡ inside_text PastTag (is_childless forest) (forest_text declarations forest) ++
    appended_by_all (behind_inside PastTag (is_childless forest)) more
    → appended_by_all PastTag calls ≡ forest_text declarations forest ++ appended_by_all PastTag more
after_past declarations forest calls more e =
    e
    ∙ (ap (λ s. inside_text PastTag (is_childless forest) (forest_text declarations forest) ++ appended_by_all s more)
    (behind_inside-past (is_childless forest))
    ∙ inside_text-past (is_childless forest) (forest_text declarations forest) (appended_by_all PastTag more) (forest_text-childless declarations forest))

-- the calls for attributes
attribute_calls-append : {X : Type 0} (name value : X → List ℕ) (xs : List X) (more : List Call)
    → appended_by_all InsideTag (map (λ x. call_attribute (name x) (value x)) xs ++ more) ≡ flat_map (λ x. attribute_text (name x) (value x)) xs ++
    appended_by_all InsideTag more
attribute_calls-append name value [] more = refl
attribute_calls-append name value (x ∷ xs) more =
    ap (λ t. attribute_text (name x) (value x) ++ t) (attribute_calls-append name value xs more)
    ∙ sym (append_assoc (attribute_text (name x) (value x)) (flat_map (λ x. attribute_text (name x) (value x)) xs) (appended_by_all InsideTag more))

declare_calls-append : (declarations : List Declaration) (more : List Call)
    → appended_by_all InsideTag (declare_calls declarations ++ more) ≡ declarations_text declarations ++ appended_by_all InsideTag more
declare_calls-append [] more = refl
declare_calls-append (d ∷ declarations) more =
    ap (λ t. attribute_text (declaring_name d.prefix) d.uri ++ t) (declare_calls-append declarations more)
    ∙ sym (append_assoc (attribute_text (declaring_name d.prefix) d.uri) (declarations_text declarations) (appended_by_all InsideTag more))

element_text-by_parts : (name attributes inside : List ℕ) (b : Bool) (more : List ℕ)
    → 0x3C ∷ (name ++ (attributes ++ (inside_text InsideTag b inside ++ (end_text (behind_inside InsideTag b) name ++ more)))) ≡ element_text name attributes b
    inside ++ more
element_text-by_parts name attributes inside true more = simp append_assoc
element_text-by_parts name attributes inside false more = simp append_assoc

-- the calls for an element whose attributes have this text
element_calls-append : (declarations : List Declaration) (inside : Forest) (state : PenState) (name text : List ℕ) (attributes more : List Call)
    → ((after : List Call) → appended_by_all InsideTag (attributes ++ after) ≡ text ++ appended_by_all InsideTag after)
    → ((after : List Call) → appended_by_all InsideTag (calls_inside declarations inside ++ after)
    ≡ inside_text InsideTag (is_childless inside) (forest_text declarations inside) ++ appended_by_all (behind_inside InsideTag (is_childless inside)) after)
    → appended_by_all state (call_start name ∷ (attributes ++ (calls_inside declarations inside ++ call_end name ∷ more)))
    ≡ (lead_in state ++ element_text name text (is_childless inside) (forest_text declarations inside)) ++ appended_by_all PastTag more
element_calls-append declarations inside state name text attributes more p q =
    append_assoc (lead_in state) (0x3C ∷ name) (appended_by_all InsideTag (attributes ++ (calls_inside declarations inside ++ call_end name ∷ more)))
    ∙ (ap (λ x. lead_in state ++ 0x3C ∷ (name ++ x)) (p (calls_inside declarations inside ++ call_end name ∷ more) ∙
    ap (λ x. text ++ x) (q (call_end name ∷ more)))
    ∙ (ap (λ x. lead_in state ++ x) (element_text-by_parts name text (forest_text declarations inside) (is_childless inside) (appended_by_all PastTag more))
    ∙ sym (append_assoc (lead_in state) (element_text name text (is_childless inside) (forest_text declarations inside)) (appended_by_all PastTag more))))

-- The calls for the inside of an element append its text.
pub calls_inside-append : (declarations : List Declaration) (forest : Forest) (state : PenState) (more : List Call)
    → appended_by_all state (calls_inside declarations forest ++ more)
    ≡ inside_text state (is_childless forest) (forest_text declarations forest) ++ appended_by_all (behind_inside state (is_childless forest)) more
calls_inside-append declarations no_more state more = refl
calls_inside-append declarations (a_text [] rest) state more = calls_inside-append declarations rest state more
calls_inside-append declarations (a_text (c ∷ characters) rest) state more =
    ap (λ x. (lead_in state ++ flat_map in_text (c ∷ characters)) ++ x)
    (after_past declarations rest (calls_inside declarations rest ++ more) more (calls_inside-append declarations rest PastTag more))
    ∙ simp append_assoc
calls_inside-append declarations (an_element name attributes inside rest) state more =
    let n = element_name declarations name in
    ap (λ calls. appended_by_all state (call_start n ∷ calls))
    (append_assoc (attribute_calls declarations attributes) (calls_inside declarations inside ++ call_end n ∷ calls_inside declarations rest) more
    ∙ ap (λ calls. attribute_calls declarations attributes ++ calls)
    (append_assoc (calls_inside declarations inside) (call_end n ∷ calls_inside declarations rest) more))
    ∙ (element_calls-append declarations inside state n (attributes_text declarations attributes) (attribute_calls declarations attributes)
    (calls_inside declarations rest ++ more)
    (attribute_calls-append (λ (a : Attribute). attribute_name declarations a.name) (λ (a : Attribute). a.value) attributes)
    (calls_inside-append declarations inside InsideTag)
    ∙ (ap (λ x. (lead_in state ++ element_text n (attributes_text declarations attributes) (is_childless inside) (forest_text declarations inside)) ++ x)
    (after_past declarations rest (calls_inside declarations rest ++ more) more (calls_inside-append declarations rest PastTag more))
    ∙ simp append_assoc))

-- The calls of a document append its canonical text.
pub calls_of-append : (declarations : List Declaration) (document : Forest) →
    appended_by_all Fresh (calls_of declarations document) ≡ canonical_text declarations document
calls_of-append declarations no_more = refl
calls_of-append declarations (a_text characters rest) = refl
calls_of-append declarations (an_element name attributes inside rest) =
    let n = element_name declarations name in
    let declaring : List Call = declare_calls declarations in
    let given : List Call = attribute_calls declarations attributes in
    let end : List Call = call_end n ∷ call_close ∷ [] in
    ap (λ calls. appended_by_all Fresh (call_start n ∷ calls)) (sym (append_assoc declaring given (calls_inside declarations inside ++ end)))
    ∙ (element_calls-append declarations inside Fresh n (declarations_text declarations ++ attributes_text declarations attributes) (declaring ++ given)
    (call_close ∷ [])
    (λ after.
    ap (appended_by_all InsideTag) (append_assoc declaring given after)
    ∙ (declare_calls-append declarations (given ++ after)
    ∙ (ap (λ x. declarations_text declarations ++ x) (attribute_calls-append (λ (a : Attribute). attribute_name declarations a.name)
    (λ (a : Attribute). a.value) attributes after)
    ∙ sym (append_assoc (declarations_text declarations) (attributes_text declarations attributes) (appended_by_all InsideTag after)))))
    (calls_inside-append declarations inside InsideTag)
    ∙ append_assoc declaration_line (element_text n (declarations_text declarations ++ attributes_text declarations attributes) (is_childless inside)
    (forest_text declarations inside)) (0xA ∷ []))

-- The state is one in which a text may come.

attribute_calls-allowed : {X : Type 0} (name value : X → List ℕ) (xs : List X) (more : List Call)
    → are_allowed InsideTag (map (λ x. call_attribute (name x) (value x)) xs ++ more) ≡ are_allowed InsideTag more
attribute_calls-allowed name value [] more = refl
attribute_calls-allowed name value (x ∷ xs) more = attribute_calls-allowed name value xs more

declare_calls-allowed : (declarations : List Declaration) (more : List Call) →
    are_allowed InsideTag (declare_calls declarations ++ more) ≡ are_allowed InsideTag more
declare_calls-allowed [] more = refl
declare_calls-allowed (d ∷ declarations) more = declare_calls-allowed declarations more

end-allowed : (b : Bool) (name : List ℕ) (more : List Call) → are_allowed (behind_inside InsideTag b) (call_end name ∷ more) ≡ are_allowed PastTag more
end-allowed true name more = refl
end-allowed false name more = refl

-- Each call for the inside of an element may be made where its turn comes.
inside_tag-allowed : (declarations : List Declaration) (forest : Forest) (more : List Call)
    → (are_allowed InsideTag (calls_inside declarations forest ++ more) ≡ are_allowed (behind_inside InsideTag (is_childless forest)) more)
    × (are_allowed PastTag (calls_inside declarations forest ++ more) ≡ are_allowed PastTag more)
inside_tag-allowed declarations no_more more = (refl, refl)
inside_tag-allowed declarations (a_text [] rest) more = inside_tag-allowed declarations rest more
inside_tag-allowed declarations (a_text (c ∷ characters) rest) more =
    ((inside_tag-allowed declarations rest more).1, (inside_tag-allowed declarations rest more).1)
inside_tag-allowed declarations (an_element name attributes inside rest) more =
    let n = element_name declarations name in
    let all : are_allowed InsideTag ((attribute_calls declarations attributes ++
    (calls_inside declarations inside ++ call_end n ∷ calls_inside declarations rest)) ++ more) ≡ are_allowed PastTag more =
    ap (are_allowed InsideTag)
    (append_assoc (attribute_calls declarations attributes) (calls_inside declarations inside ++ call_end n ∷ calls_inside declarations rest) more
    ∙ ap (λ calls. attribute_calls declarations attributes ++ calls)
    (append_assoc (calls_inside declarations inside) (call_end n ∷ calls_inside declarations rest) more))
    ∙ (attribute_calls-allowed (λ (a : Attribute). attribute_name declarations a.name) (λ (a : Attribute). a.value) attributes
    (calls_inside declarations inside ++ call_end n ∷ (calls_inside declarations rest ++ more))
    ∙ ((inside_tag-allowed declarations inside (call_end n ∷ (calls_inside declarations rest ++ more))).0
    ∙ (end-allowed (is_childless inside) n (calls_inside declarations rest ++ more)
    ∙ (inside_tag-allowed declarations rest more).1))) in
    (all, all)

-- Each call of a document may be made where its turn comes.
pub calls_of-allowed : (declarations : List Declaration) (document : Forest) → are_allowed Fresh (calls_of declarations document) ≡ true
calls_of-allowed declarations no_more = refl
calls_of-allowed declarations (a_text characters rest) = refl
calls_of-allowed declarations (an_element name attributes inside rest) =
    let n = element_name declarations name in
    let end : List Call = call_end n ∷ call_close ∷ [] in
    declare_calls-allowed declarations (attribute_calls declarations attributes ++ (calls_inside declarations inside ++ end))
    ∙ (attribute_calls-allowed (λ (a : Attribute). attribute_name declarations a.name) (λ (a : Attribute). a.value) attributes
    (calls_inside declarations inside ++ end)
    ∙ ((inside_tag-allowed declarations inside end).0
    ∙ end-allowed (is_childless inside) n (call_close ∷ [])))
