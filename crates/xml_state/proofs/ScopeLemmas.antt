-- The open elements, kept on stacks.
use Rattle.std.proofs.Common.{take-take, length-take, ◌≡◌, ℕ, zero, suc, ◌+◌, ◌<◌, ◌≤◌, Bool, true, false, not, List, [], ◌∷◌, ◌++◌, length, take, drop}
use Rattle.std.proofs.Common.{reverse, map, refl, sym, ap, ◌∙◌, arith, string_bytes, chars, Option, Some, None, subst, bytes_eq, if◌then◌else◌, Result, Ok, Err}
use Rattle.std.proofs.Common.{OnOk, OnErr, IfOk}
use Rattle.std.specs.Global.{Global}
use Rattle.std.specs.Prelude.{String}
use Rattle.std.specs.List.{cons_option, position_or_len}
use Rattle.std.specs.Borrow.{Bor}
use Rattle.std.specs.Str.{IsUtf8}
use Rattle.std.proofs.lemmas.Bool.{false≢true}
use Rattle.std.proofs.lemmas.Slice.Eq.{bytes_eq-Decides}
use Rattle.std.proofs.lemmas.List.{length-reverse, length-append, take_all, map-append, append_assoc, append-nil}
use Rattle.inv_base.specs.Tree.{Name}
use Rattle.xml_tokens.specs.declared.token.Attribute.{Attribute}
use Rattle.xml_tokens.specs.Markup.{Written}
use Rattle.xml_tokens.specs.Seen.{seen_attribute}
use Rattle.xml_events.specs.declared.kept.Kept.{Kept}
use Rattle.xml_state.specs.declared.scopes.Bound.{Bound}
use Rattle.xml_state.specs.declared.scopes.Frame.{Frame}
use Rattle.xml_events.specs.NameTables.{space_at, names_of, AreApart, AreKept, TakesSpace, KeepsOne, is_kept}
use Rattle.xml_events.specs.Names.{number_of, with_name}
use Rattle.xml_state.specs.Namespaces.{Binding, xml, xml_uri, first_bindings, bound_uri, uri_of, declared_prefix, declared_binding, declared_bindings}
use Rattle.xml_state.specs.Scopes.{InScope, seen_bound, bound_in, bindings_of, opened, in_scope, or_else, space_of, AreBelow, AreBound, BindsSpace}
use Rattle.xml_state.specs.Scopes.{inside_innermost, AreNested, around_innermost, AreScoped, Grows, Declares, Binds}
use Rattle.xml_state.specs.States.{Open, bindings_inside_innermost}
use Rattle.xml_state.proofs.ListLemmas.{reverse-cons, reverse-push, map-map, map-reverse}
use Rattle.xml_events.proofs.NameLemmas.{space-front, kept-behind, kept-grown, answers-number, answers-names, stays-kept}

-- one more binding stands inside all others
pub bound_in-push : (spaces : List (String Global)) (outer : List Binding) (stack : List Bound) (bound : Bound) →
    bound_in spaces outer (stack ++ bound ∷ []) ≡ seen_bound spaces bound ∷ bound_in spaces outer stack
bound_in-push spaces outer [] bound = refl
bound_in-push spaces outer (b ∷ stack) bound = bound_in-push spaces (seen_bound spaces b ∷ outer) stack bound

pub length-opened : (spaces : List (String Global)) (frames : List Frame) (written : List ℕ) (stack : List Bound) →
    length (opened spaces frames written stack) ≡ length frames
length-opened spaces [] written stack = refl
length-opened spaces (frame ∷ frames) written stack = ap suc (length-opened spaces frames (take frame.name_at written) (take frame.bindings stack))

-- Numbers that are below.
below-more : (n m : ℕ) (stack : List Bound) → n ≤ m → AreBelow n stack → AreBelow m stack
below-more n m [] h b = tt
below-more n m (bound ∷ stack) h b = (omega (arith, b.0), below-more n m stack h b.1)

below-append : (n : ℕ) (a b : List Bound) → AreBelow n a → AreBelow n b → AreBelow n (a ++ b)
below-append n [] b p q = q
below-append n (bound ∷ a) b p q = (p.0, below-append n a b p.1 q)

pub below-take : (n k : ℕ) (stack : List Bound) → AreBelow n stack → AreBelow n (take k stack)
below-take n zero [] b = tt
below-take n zero (bound ∷ stack) b = tt
below-take n (suc k) [] b = tt
below-take n (suc k) (bound ∷ stack) b = (b.0, below-take n k stack b.1)

-- More namespaces change no binding.
bound_in-grown : (spaces more : List (String Global)) (outer : List Binding) (stack : List Bound) → AreBelow (length spaces) stack →
    bound_in (spaces ++ more) outer stack ≡ bound_in spaces outer stack
bound_in-grown spaces more outer [] b = refl
bound_in-grown spaces more outer (bound ∷ stack) b =
    let binding : List ℕ → Binding = λ uri. record { prefix = string_bytes bound.prefix; uri = uri } in
    ap (λ uri. bound_in (spaces ++ more) (binding uri ∷ outer) stack) (space-front spaces more bound.space b.0) ∙
    bound_in-grown spaces more (seen_bound spaces bound ∷ outer) stack b.1

bindings-grown : (spaces grown more : List (String Global)) (stack : List Bound) → grown ≡ spaces ++ more → AreBelow (length spaces) stack →
    bindings_of grown stack ≡ bindings_of spaces stack
bindings-grown spaces grown more stack is b = ap (λ x. bindings_of x stack) is ∙ bound_in-grown spaces more first_bindings stack b

opened-more : (spaces more : List (String Global)) (frames : List Frame) (written : List ℕ) (stack : List Bound) → AreBelow (length spaces) stack →
    opened (spaces ++ more) frames written stack ≡ opened spaces frames written stack
opened-more spaces more [] written stack b = refl
opened-more spaces more (frame ∷ frames) written stack b =
    let inner = below-take (length spaces) frame.bindings stack b in
    let element : List Binding → Open = λ bindings. record { name = drop frame.name_at written; bindings = bindings } in
    ap (λ x. element x ∷ opened (spaces ++ more) frames (take frame.name_at written) (take frame.bindings stack))
    (bound_in-grown spaces more first_bindings (take frame.bindings stack) inner)
    ∙ ap (λ x. element (bindings_of spaces (take frame.bindings stack)) ∷ x)
    (opened-more spaces more frames (take frame.name_at written) (take frame.bindings stack) inner)

opened-grown : (spaces grown more : List (String Global)) (frames : List Frame) (written : List ℕ) (stack : List Bound) → grown ≡ spaces ++ more →
    AreBelow (length spaces) stack → opened grown frames written stack ≡ opened spaces frames written stack
opened-grown spaces grown more frames written stack is b = ap (λ x. opened x frames written stack) is ∙ opened-more spaces more frames written stack b

-- A search from the innermost binding.
pub space_of-push : (prefix : List ℕ) (stack : List Bound) (bound : Bound) →
    space_of prefix (stack ++ bound ∷ []) ≡ (if bytes_eq (string_bytes bound.prefix) prefix then Some bound.space else space_of prefix stack)
space_of-push prefix [] bound = refl
space_of-push prefix (b ∷ stack) bound =
    ap (λ o. or_else o (if bytes_eq (string_bytes b.prefix) prefix then Some b.space else None)) (space_of-push prefix stack bound)
    ∙ by (bytes_eq (string_bytes bound.prefix) prefix) (space_of prefix stack) (if bytes_eq (string_bytes b.prefix) prefix then Some b.space else None)
  where
    by : (e : Bool) (o other : Option ℕ) → or_else (if e then Some bound.space else o) other ≡ (if e then Some bound.space else or_else o other)
    by true o other = refl
    by false o other = refl

space-below : (n : ℕ) (prefix : List ℕ) (stack : List Bound) (space : ℕ) → AreBelow n stack → space_of prefix stack ≡ Some space → space < n
space-below n prefix [] space b h = absurd (let e : None ≡ Some space = h in cc)
space-below n prefix (bound ∷ stack) space b h = by (space_of prefix stack) (bytes_eq (string_bytes bound.prefix) prefix)
    (space-below n prefix stack space b.1) h
  where
    by : (o : Option ℕ) (e : Bool) → (o ≡ Some space → space < n) → or_else o (if e then Some bound.space else None) ≡ Some space → space < n
    by (Some m) e rest h = rest h
    by None true rest h = let same : bound.space ≡ space = cc in subst (λ x. x < n) same b.0
    by None false rest h = absurd (let e : None ≡ Some space = h in cc)

-- what a number shows, or what is bound outside
abbrev shown : List (String Global) → Option ℕ → Option (List ℕ) → Option (List ℕ)
shown spaces None other = other
shown spaces (Some n) other = Some (space_at spaces n)

bound_uri-shown : (spaces : List (String Global)) (prefix : List ℕ) (outer : List Binding) (stack : List Bound) →
    bound_uri prefix (bound_in spaces outer stack) ≡ shown spaces (space_of prefix stack) (bound_uri prefix outer)
bound_uri-shown spaces prefix outer [] = refl
bound_uri-shown spaces prefix outer (bound ∷ stack) =
    bound_uri-shown spaces prefix (seen_bound spaces bound ∷ outer) stack ∙ by (space_of prefix stack) (bytes_eq (string_bytes bound.prefix) prefix)
  where
    by : (o : Option ℕ) (e : Bool) → shown spaces o (if e then Some (space_at spaces bound.space) else bound_uri prefix outer)
        ≡ shown spaces (or_else o (if e then Some bound.space else None)) (bound_uri prefix outer)
    by (Some n) e = refl
    by None true = refl
    by None false = refl

-- what is bound, by what the search answers
module _ (spaces : List (String Global)) (prefix : List ℕ) (stack : List Bound) where
  pub bound-inside : (space : ℕ) → Some space ≡ space_of prefix stack → bound_uri prefix (bindings_of spaces stack) ≡ Some (space_at spaces space)
  bound-inside space h = bound_uri-shown spaces prefix first_bindings stack ∙ ap (λ o. shown spaces o (bound_uri prefix first_bindings)) (sym h)

  pub bound-outside : None ≡ space_of prefix stack → bound_uri prefix (bindings_of spaces stack) ≡ bound_uri prefix first_bindings
  bound-outside h = bound_uri-shown spaces prefix first_bindings stack ∙ ap (λ o. shown spaces o (bound_uri prefix first_bindings)) (sym h)

  pub takes-inside : {E : Type 0} (space : ℕ) → AreBound spaces stack → Some space ≡ space_of prefix stack →
      TakesSpace {E = E} (Ok space) (uri_of (bindings_of spaces stack) prefix) spaces spaces
  takes-inside space bound h = record {
    apart = bound.apart;
    more = [];
    grown = sym (append-nil spaces);
    number = record {
      within = space-below (length spaces) prefix stack space bound.below (sym h);
      is = sym (ap (λ (o : Option (List ℕ)). elim o [ None ↦ [] | (Some uri) ↦ uri ]) (bound-inside space h));
    };
  }

  pub takes-outside : {E : Type 0} (result : Result ℕ E) (uri : List ℕ) (grown : List (String Global)) → None ≡ space_of prefix stack →
      uri ≡ uri_of first_bindings prefix → TakesSpace result uri spaces grown
      → TakesSpace result (uri_of (bindings_of spaces stack) prefix) spaces grown
  takes-outside result uri grown h is =
      subst (λ x. TakesSpace result x spaces grown) (is ∙ sym (ap (λ (o : Option (List ℕ)). elim o [ None ↦ [] | (Some uri) ↦ uri ]) (bound-outside h)))

pub takes-named : {E : Type 0} (result : Result ℕ E) (uri same : List ℕ) (spaces grown : List (String Global)) → uri ≡ same → TakesSpace result uri spaces grown
    → TakesSpace result same spaces grown
takes-named result uri same spaces grown e = subst (λ x. TakesSpace result x spaces grown) e

pub unknown-uri : (prefix : List ℕ) → (prefix ≡ xml → ⊥) → [] ≡ uri_of first_bindings prefix
unknown-uri prefix other = by (bytes_eq [] prefix) (bytes_eq xml prefix) refl
  where
    by : (a b : Bool) → bytes_eq xml prefix ≡ b →
        [] ≡ (elim (if a then Some [] else (if b then Some xml_uri else None)) as (λ (o : Option (List ℕ)). List ℕ) [ None ↦ [] | (Some uri) ↦ uri ])
    by true b e = refl
    by false true e = absurd (other (sym ((bytes_eq-Decides xml prefix).0 e)))
    by false false e = refl

-- The stacks grow.
pub grows-nothing : (spaces : List (String Global)) (stack : List Bound) → AreBound spaces stack → Grows spaces spaces stack stack
grows-nothing spaces stack bound = record { bound = bound; more_spaces = []; spaces_are = sym (append-nil spaces); more = []; are = sym (append-nil stack) }

pub grows-both : (spaces grown larger : List (String Global)) (old stack new : List Bound) → Grows spaces grown old stack → Grows grown larger stack new →
    Grows spaces larger old new
grows-both spaces grown larger old stack new a b = record {
  bound = b.bound;
  more_spaces = a.more_spaces ++ b.more_spaces;
  spaces_are = b.spaces_are ∙ (ap (λ x. x ++ b.more_spaces) a.spaces_are ∙ append_assoc spaces a.more_spaces b.more_spaces);
  more = a.more ++ b.more;
  are = b.are ∙ (ap (λ x. x ++ b.more) a.are ∙ append_assoc old a.more b.more);
}

-- a namespace more, and perhaps a binding of it
module _ {E : Type 0} (spaces grown : List (String Global)) (stack : List Bound) (space : Result ℕ E) (uri : List ℕ) (bound : AreBound spaces stack)
    (takes : TakesSpace space uri spaces grown) where
  still-below : AreBelow (length grown) stack
  still-below = let l : length grown ≡ length spaces + length takes.more = ap length takes.grown ∙ length-append spaces takes.more in
      below-more (length spaces) (length grown) stack (omega (arith, l)) bound.below

  pub grows-spaces : (same : List Bound) → same ≡ stack → Grows spaces grown stack same
  grows-spaces same is = record {
    bound = record { apart = takes.apart; below = subst (AreBelow (length grown)) (sym is) still-below };
    more_spaces = takes.more;
    spaces_are = takes.grown;
    more = [];
    are = is ∙ sym (append-nil stack);
  }

pub binds-none : {T E F : Type 0} (spaces grown : List (String Global)) (stack same : List Bound) (space : Result ℕ E) (uri : List ℕ)
    (bound : AreBound spaces stack) (takes : TakesSpace space uri spaces grown) (binding : Binding) (error : F)
    → same ≡ stack → Binds {T = T} (Err error) binding spaces grown stack same
binds-none spaces grown stack same space uri bound takes binding error is =
    record { grows = grows-spaces spaces grown stack space uri bound takes same is; bound = tt }

pub binds-one : {T E F : Type 0} (spaces grown : List (String Global)) (stack new : List Bound) (n : ℕ) (uri prefix : List ℕ) (areb : AreBound spaces stack)
    (takes : TakesSpace {E = E} (Ok n) uri spaces grown) (bound : Bound) (value : T)
    → string_bytes bound.prefix ≡ prefix → bound.space ≡ n → new ≡ stack ++ bound ∷ [] →
    Binds {E = F} (Ok value) (record { prefix = prefix; uri = uri }) spaces grown stack new
binds-one {T} {E} {F} spaces grown stack new n uri prefix areb takes bound value named numbered is =
    let binding : List ℕ → List ℕ → Binding = λ prefix uri. record { prefix = prefix; uri = uri } in
    record {
      grows = record {
        bound = record {
          apart = takes.apart;
          below = subst (AreBelow (length grown)) (sym is)
              (below-append (length grown) stack (bound ∷ []) (let r : Result ℕ E = Ok n in still-below spaces grown stack r uri areb takes)
              (subst (λ x. x < length grown) (sym numbered) takes.number.within, tt));
        };
        more_spaces = takes.more;
        spaces_are = takes.grown;
        more = bound ∷ [];
        are = is;
      };
      bound =
          ap (bindings_of grown) is ∙ (bound_in-push grown first_bindings stack bound
          ∙ (ap (λ x. binding x (space_at grown bound.space) ∷ bindings_of grown stack) named
          ∙ (ap (λ x. binding prefix (space_at grown x) ∷ bindings_of grown stack) numbered
          ∙ (ap (λ x. binding prefix x ∷ bindings_of grown stack) takes.number.is
          ∙ ap (λ x. binding prefix uri ∷ x) (bindings-grown spaces grown takes.more stack takes.grown areb.below)))));
    }

-- a binding of a number, or none
pub binds-result : {T E F : Type 0} (result : Result T F) (spaces grown : List (String Global)) (stack new : List Bound) (n : ℕ) (uri prefix : List ℕ)
    (areb : AreBound spaces stack) (takes : TakesSpace {E = E} (Ok n) uri spaces grown)
    → OnOk result (BindsSpace prefix n stack new) → OnErr result (new ≡ stack) → Binds result (record { prefix = prefix; uri = uri }) spaces grown stack new
binds-result {T} {E} {F} (Ok value) spaces grown stack new n uri prefix areb takes binds same =
    binds-one spaces grown stack new n uri prefix areb takes binds.bound value binds.named binds.numbered binds.pushed
binds-result {T} {E} {F} (Err error) spaces grown stack new n uri prefix areb takes binds same =
    let taken : Result ℕ E = Ok n in binds-none spaces grown stack new taken uri areb takes (record { prefix = prefix; uri = uri }) error same

-- what attributes declare, one after another
abbrev pub declared_after : List Binding → List Written → List Binding
declared_after outer [] = outer
declared_after outer (attribute ∷ attributes) = declared_after (declared_bindings (attribute ∷ []) ++ outer) attributes

pub declared_after-push : (outer : List Binding) (attributes : List Written) (attribute : Written) →
    declared_after outer (attributes ++ attribute ∷ []) ≡ declared_bindings (attribute ∷ []) ++ declared_after outer attributes
declared_after-push outer [] attribute = refl
declared_after-push outer (a ∷ attributes) attribute = declared_after-push (declared_bindings (a ∷ []) ++ outer) attributes attribute

cons_option-append : {X : Type 0} (o : Option X) (xs ys : List X) → cons_option o [] ++ (xs ++ ys) ≡ cons_option o xs ++ ys
cons_option-append None xs ys = refl
cons_option-append (Some x) xs ys = refl

-- the last first
pub declared_after-reverse : (outer : List Binding) (attributes : List Written) → declared_after outer (reverse attributes) ≡ declared_bindings attributes ++
    outer
declared_after-reverse outer [] = refl
declared_after-reverse outer (attribute ∷ attributes) =
    ap (declared_after outer) (reverse-cons attribute attributes)
    ∙ (declared_after-push outer (reverse attributes) attribute
    ∙ (ap (λ x. declared_bindings (attribute ∷ []) ++ x) (declared_after-reverse outer attributes)
    ∙ cons_option-append (declared_binding attribute) (declared_bindings attributes) outer))

pub binds-named : {T E : Type 0} (result : Result T E) (prefix uri same : List ℕ) (spaces grown : List (String Global)) (old new : List Bound) → uri ≡ same
    → Binds result (record { prefix = prefix; uri = uri }) spaces grown old new → Binds result (record { prefix = prefix; uri = same }) spaces grown old new
binds-named result prefix uri same spaces grown old new e = subst (λ x. Binds result (record { prefix = prefix; uri = x }) spaces grown old new) e

-- one more declaration
pub declares-one : {T E : Type 0} (result : Result T E) (attribute : Written) (prefix : List ℕ) (spaces grown : List (String Global)) (old new : List Bound) →
    declared_prefix attribute.name ≡ Some prefix
    → Binds result (record { prefix = prefix; uri = attribute.value }) spaces grown old new → Declares result (attribute ∷ []) spaces grown old new
declares-one {T} {E} result attribute prefix spaces grown old new declared binds = record { grows = binds.grows; declared = by result binds.bound }
  where
    by : (r : Result T E) → OnOk r (bindings_of grown new ≡ record { prefix = prefix; uri = attribute.value } ∷ bindings_of spaces old) →
        OnOk r (bindings_of grown new ≡ declared_bindings (attribute ∷ []) ++ bindings_of spaces old)
    by (Ok value) is =
        let declares : List ℕ → Binding = λ prefix. record { prefix = prefix; uri = attribute.value } in
        is ∙ ap (λ (o : Option (List ℕ)). cons_option (elim o [ None ↦ None | (Some x) ↦ Some (declares x) ]) [] ++ bindings_of spaces old) (sym declared)
    by (Err error) is = tt

pub declares-none : {T E : Type 0} (value : T) (attribute : Written) (spaces : List (String Global)) (stack : List Bound) →
    declared_prefix attribute.name ≡ None → AreBound spaces stack
    → Declares {E = E} (Ok value) (attribute ∷ []) spaces spaces stack stack
declares-none value attribute spaces stack none bound = record {
  grows = grows-nothing spaces stack bound;
  declared =
      let declares : List ℕ → Binding = λ prefix. record { prefix = prefix; uri = attribute.value } in
      ap (λ (o : Option (List ℕ)). cons_option (elim o [ None ↦ None | (Some x) ↦ Some (declares x) ]) [] ++ bindings_of spaces stack) (sym none);
}

-- all items of the loop over the attributes from the last
pub declared_after-all : (outer : List Binding) (attributes : List Attribute) (items : List (Bor Attribute)) →
    map (λ (item : Bor Attribute). item.now) items ≡ reverse attributes
    → declared_after outer (map (λ (attribute : Bor Attribute). seen_attribute attribute.now) items) ≡ declared_bindings (map seen_attribute attributes) ++
    outer
declared_after-all outer attributes items e =
    ap (declared_after outer) (map-map seen_attribute (λ (item : Bor Attribute). item.now) items ∙
    (ap (map seen_attribute) e ∙ map-reverse seen_attribute attributes))
    ∙ declared_after-reverse outer (map seen_attribute attributes)

pub declared_after-more : (outer : List Binding) (items : List (Bor Attribute)) (item : Bor Attribute) (bound new : List Binding) →
    bound ≡ declared_after outer (map (λ (attribute : Bor Attribute). seen_attribute attribute.now) items)
    → new ≡ declared_bindings (seen_attribute item.now ∷ []) ++ bound
    → new ≡ declared_after outer (map (λ (attribute : Bor Attribute). seen_attribute attribute.now) (items ++ item ∷ []))
declared_after-more outer items item bound new before e =
    let seen = λ (attribute : Bor Attribute). seen_attribute attribute.now in
    e ∙ (ap (λ x. declared_bindings (seen_attribute item.now ∷ []) ++ x) before
    ∙ (sym (declared_after-push outer (map seen items) (seen item)) ∙ ap (declared_after outer) (sym (map-append seen items (item ∷ [])))))

-- Frames stay nested under more.
pub nested-more : (frames : List Frame) (written bindings w b : ℕ) → AreNested frames written bindings → written ≤ w → bindings ≤ b → AreNested frames w b
nested-more [] written bindings w b nested p q = tt
nested-more (frame ∷ frames) written bindings w b nested p q = (omega arith, omega arith, nested.2)

pub nested-within : (frames : List Frame) (written bindings b : ℕ) → AreNested frames written bindings → inside_innermost frames ≤ b →
    AreNested frames written b
nested-within [] written bindings b nested q = tt
nested-within (frame ∷ frames) written bindings b nested q = (nested.0, q, nested.2)

-- What the frames don't reach doesn't count.
pub opened-same : (spaces : List (String Global)) (frames : List Frame) (written : List ℕ) (a b : List Bound) →
    take (inside_innermost frames) a ≡ take (inside_innermost frames) b → opened spaces frames written a ≡ opened spaces frames written b
opened-same spaces [] written a b e = refl
opened-same spaces (frame ∷ frames) written a b e =
    ap (λ (x : List Bound). record { name = drop frame.name_at written; bindings = bindings_of spaces x } ∷ opened spaces frames (take frame.name_at written) x)
    e

pub inside_within : (frames : List Frame) (written bindings : ℕ) → AreNested frames written bindings → inside_innermost frames ≤ bindings
inside_within [] written bindings nested = omega arith
inside_within (frame ∷ frames) written bindings nested = nested.1

-- the innermost is closed
pub closed_nested : (frames rest : List Frame) (frame : Frame) (written : List ℕ) (bindings : ℕ) → frames ≡ rest ++ frame ∷ [] →
    AreNested (reverse frames) (length written) bindings
    → AreNested (reverse rest) (length (take frame.name_at written)) bindings
closed_nested frames rest frame written bindings e nested =
    let n : AreNested (frame ∷ reverse rest) (length written) bindings =
    subst (λ x. AreNested x (length written) bindings) (ap reverse e ∙ reverse-push rest frame) nested in
    nested-more (reverse rest) frame.name_at frame.bindings _ _ n.2 (let l = length-take frame.name_at written in omega arith) n.1

pub closed_opened : (spaces : List (String Global)) (frames rest : List Frame) (frame : Frame) (written : List ℕ) (stack : List Bound) (elements : List Open) →
    frames ≡ rest ++ frame ∷ [] → AreNested (reverse frames) (length written) (length stack)
    → opened spaces (reverse frames) written stack ≡ elements → opened spaces (reverse rest) (take frame.name_at written) stack ≡ around_innermost elements
closed_opened spaces frames rest frame written stack elements e nested view =
    let turned : reverse frames ≡ frame ∷ reverse rest = ap reverse e ∙ reverse-push rest frame in
    let n : AreNested (frame ∷ reverse rest) (length written) (length stack) = subst (λ x. AreNested x (length written) (length stack)) turned nested in
    let within = inside_within (reverse rest) frame.name_at frame.bindings n.2 in
    opened-same spaces (reverse rest) (take frame.name_at written) stack (take frame.bindings stack) (sym (take-take _ _ stack within))
    ∙ (sym (ap (λ x. around_innermost (opened spaces x written stack)) turned) ∙ ap around_innermost view)

pub depth_is : (spaces : List (String Global)) (frames : List Frame) (written : List ℕ) (stack : List Bound) (elements : List Open) →
    opened spaces (reverse frames) written stack ≡ elements → length frames ≡ length elements
depth_is spaces frames written stack elements view = sym (length-reverse frames) ∙ (sym (length-opened spaces (reverse frames) written stack) ∙ ap length view)

-- an element that couldn't be opened
pub nested_still : (frames : List Frame) (same : List Frame) (written name more : List ℕ) (bindings : ℕ) → same ≡ frames → more ≡ written ++ name →
    AreNested (reverse frames) (length written) bindings
    → AreNested (reverse same) (length more) bindings
nested_still frames same written name more bindings e m nested =
    subst (λ x. AreNested (reverse x) (length more) bindings) (sym e)
    (nested-more (reverse frames) (length written) bindings _ _ nested (let l = ap length m in let k = length-append written name in omega arith) (omega arith))

-- what is bound inside the innermost
bindings-innermost : (spaces : List (String Global)) (frames : List Frame) (written : List ℕ) (stack : List Bound) →
    bindings_of spaces (take (inside_innermost frames) stack) ≡ bindings_inside_innermost (opened spaces frames written stack)
bindings-innermost spaces [] written stack = refl
bindings-innermost spaces (frame ∷ frames) written stack = refl

take-cut : (n : ℕ) (stack more : List Bound) → n ≤ length stack → take n (take n stack ++ more) ≡ take n stack
take-cut zero stack more h = refl
take-cut (suc n) [] more h = absurd (omega arith)
take-cut (suc n) (bound ∷ stack) more h = ap (λ x. bound ∷ x) (take-cut n stack more (omega (arith, h)))

-- Nothing is bound but what is bound inside the innermost.
pub innermost-bound : (spaces : List (String Global)) (frames : List Frame) (written : List ℕ) (stack : List Bound) (keys : List Kept) (old : InScope) →
    in_scope frames written stack spaces keys ≡ old
    → length stack ≡ inside_innermost (reverse frames) → old.bound ≡ bindings_inside_innermost old.open_elements
innermost-bound spaces frames written stack keys old view at =
    sym (ap (λ (s : InScope). s.bound) view)
    ∙ (ap (bindings_of spaces) (sym (take_all (inside_innermost (reverse frames)) stack (omega (arith, at))))
    ∙ (bindings-innermost spaces (reverse frames) written stack ∙ ap (λ (s : InScope). bindings_inside_innermost s.open_elements) view))

-- Attributes that declare nothing change nothing in it.
pub declared-same : (old : InScope) (attributes : List Written) (declares : Bool) → (declares ≡ false → declared_bindings attributes ≡ []) → not declares ≡ true
    → old.bound ≡ bindings_inside_innermost old.open_elements
    → old.bound ≡ declared_bindings attributes ++ bindings_inside_innermost old.open_elements
declared-same old attributes true h n e = absurd (false≢true n)
declared-same old attributes false h n e = e ∙ ap (λ x. x ++ bindings_inside_innermost old.open_elements) (sym (h refl))

pub cut-bound : (spaces : List (String Global)) (stack : List Bound) (inside : ℕ) → AreApart spaces → AreBelow (length spaces) stack →
    AreBound spaces (take inside stack)
cut-bound spaces stack inside apart below = record { apart = apart; below = below-take (length spaces) inside stack below }

-- what attributes declare, inside the innermost element
module _ {T E : Type 0} (result : Result T E) (attributes : List Written) (frames : List Frame) (written : List ℕ) (spaces grown : List (String Global))
    (stack cut new : List Bound) (keys : List Kept) (inside : ℕ) (old : InScope)
    (scoped : AreScoped frames written stack spaces keys) (view : in_scope frames written stack spaces keys ≡ old)
    (at : inside ≡ inside_innermost (reverse frames)) (is : cut ≡ take inside stack)
    (declares : Declares result attributes spaces grown cut new) where
  within : inside ≤ length stack
  within = let h = inside_within (reverse frames) (length written) (length stack) scoped.nested in omega (arith, h, at)

  cut-below : AreBelow (length spaces) cut
  cut-below = subst (AreBelow (length spaces)) (sym is) (below-take (length spaces) inside stack scoped.below)

  new-is : new ≡ take inside stack ++ declares.grows.more
  new-is = declares.grows.are ∙ ap (λ x. x ++ declares.grows.more) is

  kept-now : AreKept grown keys × (names_of grown keys ≡ names_of spaces keys)
  kept-now = kept-behind spaces grown declares.grows.more_spaces keys scoped.kept declares.grows.bound.apart declares.grows.spaces_are

  pub declared-scoped : AreScoped frames written new grown keys
  declared-scoped = record {
    nested =
        let l = length-take inside stack in
        let m : length new ≡ length (take inside stack) + length declares.grows.more = ap length new-is ∙
        length-append (take inside stack) declares.grows.more in
        nested-within (reverse frames) (length written) (length stack) (length new) scoped.nested (omega (arith, l, m, at, within));
    below = declares.grows.bound.below;
    kept = kept-now.0;
  }

  same-front : take (inside_innermost (reverse frames)) new ≡ take (inside_innermost (reverse frames)) stack
  same-front = subst (λ n. take n new ≡ take n stack) at (ap (take inside) new-is ∙ take-cut inside stack declares.grows.more within)

  pub declared-open : opened grown (reverse frames) written new ≡ old.open_elements
  declared-open =
      opened-same grown (reverse frames) written new stack same-front
      ∙ (opened-grown spaces grown declares.grows.more_spaces (reverse frames) written stack declares.grows.spaces_are scoped.below ∙
      ap (λ (s : InScope). s.open_elements) view)

  pub declared-names : names_of grown keys ≡ old.names
  declared-names = kept-now.1 ∙ ap (λ (s : InScope). s.names) view

  pub declared-bound : OnOk result (bindings_of grown new ≡ declared_bindings attributes ++ bindings_inside_innermost old.open_elements)
  declared-bound = by result declares.declared
    where
      by : (r : Result T E) → OnOk r (bindings_of grown new ≡ declared_bindings attributes ++ bindings_of spaces cut) →
          OnOk r (bindings_of grown new ≡ declared_bindings attributes ++ bindings_inside_innermost old.open_elements)
      by (Ok value) e =
          e ∙ ap (λ x. declared_bindings attributes ++ x)
          (ap (bindings_of spaces) (is ∙ ap (λ n. take n stack) at) ∙
          (bindings-innermost spaces (reverse frames) written stack ∙ ap (λ (s : InScope). bindings_inside_innermost s.open_elements) view))
      by (Err error) e = tt

pub on_ok : {T E P : Type 0} (r : Result T E) → P → OnOk r P
on_ok (Ok value) p = p
on_ok (Err error) p = tt

-- a namespace more
pub scoped-grown : {E : Type 0} (space : Result ℕ E) (uri : List ℕ) (frames : List Frame) (written : List ℕ) (spaces grown : List (String Global))
    (stack : List Bound) (keys : List Kept)
    → AreScoped frames written stack spaces keys → TakesSpace space uri spaces grown → AreScoped frames written stack grown keys
scoped-grown space uri frames written spaces grown stack keys scoped takes = record {
  nested = scoped.nested;
  below = let l : length grown ≡ length spaces + length takes.more = ap length takes.grown ∙ length-append spaces takes.more in
      below-more (length spaces) (length grown) stack (omega (arith, l)) scoped.below;
  kept = (kept-grown space uri spaces grown keys scoped.kept takes).0;
}

-- a namespace more changes nothing that is seen
pub same-scope : {E : Type 0} (space : Result ℕ E) (uri : List ℕ) (frames : List Frame) (written : List ℕ) (spaces grown : List (String Global))
    (stack : List Bound) (keys after : List Kept) (old : InScope)
    → AreScoped frames written stack spaces keys → in_scope frames written stack spaces keys ≡ old → TakesSpace space uri spaces grown → after ≡ keys →
    in_scope frames written stack grown after ≡ old
same-scope space uri frames written spaces grown stack keys after old scoped view takes same =
    let all : List Open → List Binding → List Name → InScope =
    λ elements bindings names. record { open_elements = elements; bound = bindings; names = names } in
    ap (in_scope frames written stack grown) same
    ∙ (ap (λ x. all x (bindings_of grown stack) (names_of grown keys))
    (opened-grown spaces grown takes.more (reverse frames) written stack takes.grown scoped.below)
    ∙ (ap (λ x. all (opened spaces (reverse frames) written stack) x (names_of grown keys))
    (bindings-grown spaces grown takes.more stack takes.grown scoped.below)
    ∙ (ap (all (opened spaces (reverse frames) written stack) (bindings_of spaces stack)) (kept-grown space uri spaces grown keys scoped.kept takes).1 ∙ view)))

-- a name more, by the number of its namespace
module _ {E F : Type 0} (result : Result ℕ E) (frames : List Frame) (written : List ℕ) (spaces grown : List (String Global)) (stack : List Bound)
    (keys after : List Kept) (n : ℕ) (uri : List ℕ) {local : List ℕ} (old : InScope)
    (scoped : AreScoped frames written stack spaces keys) (view : in_scope frames written stack spaces keys ≡ old)
    (takes : TakesSpace {E = F} (Ok n) uri spaces grown) (u : IsUtf8 local) where
  abbrev named : Name
  named = record { uri = uri; local = chars local }

  takes-it : TakesSpace {E = E} (Ok n) uri spaces grown
  takes-it = record { apart = takes.apart; more = takes.more; grown = takes.grown; number = takes.number }

  names-view : names_of spaces keys ≡ old.names
  names-view = ap (λ (s : InScope). s.names) view

  pub scoped-named : OnOk result (KeepsOne n local keys after) → OnErr result (after ≡ keys) → AreScoped frames written stack grown after
  scoped-named keeps same =
      let r : Result ℕ F = Ok n in
      let all = scoped-grown r uri frames written spaces grown stack keys scoped takes in record {
        nested = all.nested;
        below = all.below;
        kept = stays-kept result old.names spaces grown keys after n uri local scoped.kept names-view takes-it u keeps same;
      }

  pub named-still : OnErr result (after ≡ keys) → OnErr result (in_scope frames written stack grown after ≡ old)
  named-still same = by result same
    where
      by : (r : Result ℕ E) → OnErr r (after ≡ keys) → OnErr r (in_scope frames written stack grown after ≡ old)
      by (Ok id) e = tt
      by (Err error) e = let r : Result ℕ F = Ok n in same-scope r uri frames written spaces grown stack keys after old scoped view takes e

  pub named-number : IfOk result (λ id. id ≡ position_or_len (is_kept n local) keys) → IfOk result (λ id. id ≡ number_of named old.names)
  named-number = answers-number result old.names spaces grown keys after n uri local scoped.kept names-view takes-it u

  pub named-scope : OnOk result (KeepsOne n local keys after) →
      OnOk result (in_scope frames written stack grown after ≡ record old { names = with_name old.names named })
  named-scope keeps = by result (answers-names result old.names spaces grown keys after n uri local scoped.kept names-view takes-it u keeps)
    where
      by : (r : Result ℕ E) → OnOk r (names_of grown after ≡ with_name old.names named) →
          OnOk r (in_scope frames written stack grown after ≡ record old { names = with_name old.names named })
      by (Ok id) is =
          let all : List Open → List Binding → List Name → InScope =
          λ elements bindings names. record { open_elements = elements; bound = bindings; names = names } in
          ap (λ x. all x (bindings_of grown stack) (names_of grown after))
          (opened-grown spaces grown takes.more (reverse frames) written stack takes.grown scoped.below ∙ ap (λ (s : InScope). s.open_elements) view)
          ∙ (ap (λ x. all old.open_elements x (names_of grown after)) (bindings-grown spaces grown takes.more stack takes.grown scoped.below ∙
          ap (λ (s : InScope). s.bound) view)
          ∙ ap (all old.open_elements old.bound) is)
      by (Err error) is = tt
