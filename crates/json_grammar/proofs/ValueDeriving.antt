-- What is read is in the grammar: what may still come in each state.
use Rattle.std.proofs.Common.{◌≡◌, ◌⊎◌, ℕ, ◌+◌, ◌-◌, suc, ◌<◌, ◌≤◌, Bool, true, false, cond, nat_lt, nat_le, ◌==◌, ◌&&◌, ◌||◌, List, [], ◌∷◌, ◌++◌}
use Rattle.std.proofs.Common.{length, take, Option, Some, None, Result, Ok, Err, inl, inr, refl, ap, sym, ◌∙◌, subst, arith, append_assoc, true≢false, flat_map}
use Rattle.std.proofs.lemmas.Bool.{and_parts, and_from, or_parts, or_from, ltb-true, ltb-false, leb-true, eqb-true}
use Rattle.json_reading.specs.declared.fault.JsonFault.{JsonFault}
use Rattle.json_reading.specs.declared.fault.JsonKind.TheVariants.{NotJson, NotUtf8, TooDeep, Truncated}
use Rattle.json_reading.specs.declared.item.Container.{Container}
use Rattle.json_reading.specs.declared.item.Container.TheVariants as container
use Rattle.json_reading.specs.declared.item.Item.{Item}
use Rattle.json_reading.specs.declared.item.ItemKind.TheVariants as kinds
use Rattle.json_reading.specs.declared.item.Span.{Span}
use Rattle.json_reading.specs.declared.mode.Form.{Form}
use Rattle.json_reading.specs.declared.mode.Inside.{Inside}
use Rattle.json_reading.specs.declared.mode.Inside.TheVariants as inside
use Rattle.json_reading.specs.declared.mode.Letters.{Letters}
use Rattle.json_reading.specs.declared.mode.Letters.TheVariants as letters
use Rattle.json_reading.specs.declared.mode.Mode.{Mode}
use Rattle.json_reading.specs.declared.mode.Mode.TheVariants as mode
use Rattle.json_reading.specs.declared.mode.NumberMode.{NumberMode}
use Rattle.json_reading.specs.declared.mode.Role.{Role}
use Rattle.json_reading.specs.declared.mode.Role.TheVariants as role
use Rattle.json_reading.specs.declared.mode.Tail.{Tail}
use Rattle.json_reading.specs.declared.mode.TextMode.{TextMode}
use Rattle.json_reading.specs.declared.mode.Turn.{Turn}
use Rattle.json_reading.specs.declared.mode.Turn.TheVariants.{Goes, Stops, Names, Tells, Begins, Closes}
use Rattle.json_reading.specs.declared.mode.WordMode.{WordMode}
use Rattle.json_reading.specs.declared.reader.Open.{Open}
use Rattle.json_reading.specs.Bytes.{is_space, is_hex, is_short}
use Rattle.json_reading.specs.Numbers.{form_begun, form_behind, is_whole as is_ended}
use Rattle.json_reading.specs.Words.{word_begun, letter, longer}
use Rattle.json_reading.specs.Strings.{stops, going, escaping, ending, told_by, tail_of, wide, wide_by, in_plain, in_escape, in_hex, in_tail, text_turn}
use Rattle.json_reading.specs.Strings.{text_turn_by}
use Rattle.json_reading.specs.Turns.{plain_begun, plain_begun_by, word_begun_by, value_begun, name_begun, at_value, at_start, at_byte, at_first_item}
use Rattle.json_reading.specs.Turns.{at_first_member}
use Rattle.json_reading.specs.Turns.{at_name, at_colon, at_comma, behind_inside, at_behind, in_number, in_number_by, lettered, in_word, turn, quoted}
use Rattle.json_reading.specs.Reading.{State, start, innermost, number_ended, settled_by, told, act, turned, fault, head, begun, closed_by, first_of}
use Rattle.json_reading.specs.Reading.{has_ended, has_ended_by, span, step, run, is_top, is_behind, ended}
use Rattle.json_reading.specs.Reading.{ended_by, ended_behind, reading_whole, reading_front, reading}
use Rattle.json_reading.proofs.IdleLemmas.{goes_on, run_step}
use Rattle.json_grammar.specs.Strings.{Piece, piece_text, needs_escape, are_pieces}
use Rattle.json_grammar.specs.Strings as strings
use Rattle.json_grammar.specs.Grammar.{Word, true_word, false_word, null_word, word_text, Name, Value, word, number, string, array, object, Elements}
use Rattle.json_grammar.specs.Grammar.{no_more, element}
use Rattle.json_grammar.specs.Grammar.{comma_text, value_text, elements_text, Text, mark_text, text_bytes, are_spaces, is_name, is_value, are_elements, is_text}
use Rattle.json_grammar.specs.Grammar.{depth, elements_depth}
use Rattle.json_grammar.specs.Items.{text_items, Derives}
use Rattle.json_grammar.proofs.NumberDeriving.{IsRest, IsRestOf, rest_ended, rest_more, number_begun}
use Rattle.json_grammar.proofs.StringDeriving.{IsPlainRest, IsEscapeRest, IsHexRest, IsTailRest, IsInsideRest, quote_rest, backslash_rest, ascii_rest}
use Rattle.json_grammar.proofs.StringDeriving.{short_rest, digits_rest}
use Rattle.json_grammar.proofs.StringDeriving.{last_hex_rest, more_hex_rest, last_tail_rest, more_tail_rest, IsTailRestOf, wide_rest}
use Rattle.json_grammar.proofs.ValueReading.{text_is_read}
use Rattle.read_back_laws.proofs.Depth.{not_cut}
use Rattle.read_back_laws.proofs.Values.{closing, is_object}

regrouped : (comma space name before behind value rest end : List ℕ)
    → comma ++ (space ++ (name ++ (before ++ 0x3A ∷ (behind ++ (value ++ (rest ++ end))))))
    ≡ (comma ++ (space ++ ((name ++ (before ++ 0x3A ∷ behind)) ++ (value ++ rest)))) ++ end
regrouped comma space name before behind value rest end = simp append_assoc

abbrev told_items : List Item → Result (List Item) JsonFault
told_items items = Ok items

abbrev told_fault : JsonFault → Result (List Item) JsonFault
told_fault f = Err f

same_items : (a b : List Item) → told_items a ≡ told_items b → a ≡ b
same_items a b e = cc

module _ (deepest : ℕ) where
  -- ---- what may come, where something may come behind it

  -- a value
  record IsValueRest (T : List ℕ → Type 0) (n : ℕ) (bytes : List ℕ) : Type 0 where
    space : List ℕ
    value : Value
    more : List ℕ
    spaces : are_spaces space ≡ true
    made : is_value value ≡ true
    shallow : depth value ≤ deepest - n
    behind : T more
    spelled : bytes ≡ space ++ (value_text value ++ more)

  -- a colon and a value
  record IsColonRest (T : List ℕ → Type 0) (n : ℕ) (bytes : List ℕ) : Type 0 where
    space : List ℕ
    more : List ℕ
    spaces : are_spaces space ≡ true
    behind : IsValueRest T n more
    spelled : bytes ≡ space ++ 0x3A ∷ more

  -- a name, a colon and a value
  record IsNameRest (T : List ℕ → Type 0) (n : ℕ) (bytes : List ℕ) : Type 0 where
    space : List ℕ
    pieces : List Piece
    more : List ℕ
    spaces : are_spaces space ≡ true
    made : are_pieces pieces ≡ true
    behind : IsColonRest T n more
    spelled : bytes ≡ space ++ (strings.quoted pieces ++ more)

  -- what stands inside an object or array, and its end
  record IsInside (T : List ℕ → Type 0) (first : Bool) (c : Container) (n : ℕ) (bytes : List ℕ) : Type 0 where
    es : Elements
    more : List ℕ
    made : are_elements (is_object c) es ≡ true
    shallow : elements_depth es ≤ deepest - suc n
    behind : T more
    spelled : bytes ≡ elements_text first es ++ closing c ∷ more

  -- an end alone
  record IsEnd (T : List ℕ → Type 0) (bracket : ℕ) (bytes : List ℕ) : Type 0 where
    space : List ℕ
    more : List ℕ
    spaces : are_spaces space ≡ true
    behind : T more
    spelled : bytes ≡ space ++ bracket ∷ more

  -- behind a value, by what is open around it
  abbrev IsBehind : List Open → List ℕ → Type 0
  IsBehind [] bytes = are_spaces bytes ≡ true
  IsBehind (o ∷ os) bytes = IsInside (IsBehind os) false o.container (length os) bytes

  abbrev IsFirstItem : List Open → List ℕ → Type 0
  IsFirstItem [] bytes = IsValueRest (IsBehind []) 0 bytes
  IsFirstItem (o ∷ os) bytes = IsEnd (IsBehind os) 0x5D bytes ⊎ IsValueRest (IsBehind (o ∷ os)) (suc (length os)) bytes

  abbrev IsFirstMember : List Open → List ℕ → Type 0
  IsFirstMember [] bytes = IsNameRest (IsBehind []) 0 bytes
  IsFirstMember (o ∷ os) bytes = IsEnd (IsBehind os) 0x7D bytes ⊎ IsNameRest (IsBehind (o ∷ os)) (suc (length os)) bytes

  -- behind a string
  abbrev IsBehindString : Role → List Open → List ℕ → Type 0
  IsBehindString role.Name os bytes = IsColonRest (IsBehind os) (length os) bytes
  IsBehindString role.Value os bytes = IsBehind os bytes

  -- where bytes come first that are known
  record IsAfter (front : List ℕ) (T : List ℕ → Type 0) (bytes : List ℕ) : Type 0 where
    more : List ℕ
    behind : T more
    spelled : bytes ≡ front ++ more

  -- in a number
  record IsNumberRest (f : Form) (T : List ℕ → Type 0) (bytes : List ℕ) : Type 0 where
    own : List ℕ
    more : List ℕ
    made : IsRest f own
    behind : T more
    spelled : bytes ≡ own ++ more

  abbrev letters_left : Letters → List ℕ
  letters_left letters.T = 0x72 ∷ 0x75 ∷ 0x65 ∷ []
  letters_left letters.Tr = 0x75 ∷ 0x65 ∷ []
  letters_left letters.Tru = 0x65 ∷ []
  letters_left letters.F = 0x61 ∷ 0x6C ∷ 0x73 ∷ 0x65 ∷ []
  letters_left letters.Fa = 0x6C ∷ 0x73 ∷ 0x65 ∷ []
  letters_left letters.Fal = 0x73 ∷ 0x65 ∷ []
  letters_left letters.Fals = 0x65 ∷ []
  letters_left letters.N = 0x75 ∷ 0x6C ∷ 0x6C ∷ []
  letters_left letters.Nu = 0x6C ∷ 0x6C ∷ []
  letters_left letters.Nul = 0x6C ∷ []

  -- at the start of the text
  record IsStart (T : List ℕ → Type 0) (bytes : List ℕ) : Type 0 where
    mark : Bool
    more : List ℕ
    behind : T more
    spelled : bytes ≡ mark_text mark ++ more

  abbrev IsRestAt : Mode → List Open → List ℕ → Type 0
  IsRestAt mode.Start os bytes = IsStart (IsValueRest (IsBehind os) (length os)) bytes
  IsRestAt mode.SecondOfMark os bytes = IsAfter (0xBB ∷ 0xBF ∷ []) (IsValueRest (IsBehind os) (length os)) bytes
  IsRestAt mode.ThirdOfMark os bytes = IsAfter (0xBF ∷ []) (IsValueRest (IsBehind os) (length os)) bytes
  IsRestAt mode.Value os bytes = IsValueRest (IsBehind os) (length os) bytes
  IsRestAt mode.FirstItem os bytes = IsFirstItem os bytes
  IsRestAt mode.FirstMember os bytes = IsFirstMember os bytes
  IsRestAt mode.Name os bytes = IsNameRest (IsBehind os) (length os) bytes
  IsRestAt mode.Colon os bytes = IsColonRest (IsBehind os) (length os) bytes
  IsRestAt mode.Behind os bytes = IsBehind os bytes
  IsRestAt (mode.Text t) os bytes = IsInsideRest t.inside (IsBehindString t.role os) bytes
  IsRestAt (mode.Number n) os bytes = IsNumberRest n.form (IsBehind os) bytes
  IsRestAt (mode.Word w) os bytes = IsAfter (letters_left w.letters) (IsBehind os) bytes

  -- behind an opening bracket
  record IsBegun (c : Container) (os : List Open) (bytes : List ℕ) : Type 0 where
    open_one : Open
    same : open_one.container ≡ c
    shallow : length os < deepest
    behind : IsRestAt (first_of c) (open_one ∷ os) bytes

  abbrev IsClosed : List Open → List ℕ → Type 0
  IsClosed [] bytes = ⊥
  IsClosed (o ∷ os) bytes = IsBehind os bytes

  -- behind a byte that does this
  abbrev IsTurned : Turn → List Open → List ℕ → Type 0
  IsTurned (Goes m) os bytes = IsRestAt m os bytes
  IsTurned (Stops f) os bytes = ⊥
  IsTurned (Names name) os bytes = IsColonRest (IsBehind os) (length os) bytes
  IsTurned (Tells kind value) os bytes = IsBehind os bytes
  IsTurned (Begins c) os bytes = IsBegun c os bytes
  IsTurned Closes os bytes = IsClosed os bytes

  -- by a test
  choose : (os : List Open) (bytes : List ℕ) (P : Type 0) (t : Bool) (x y : Turn) → (t ≡ true → IsTurned x os bytes → P) → (t ≡ false → IsTurned y os bytes → P)
      → IsTurned (cond t x y) os bytes → P
  choose os bytes P true x y f g h = f refl h
  choose os bytes P false x y f g h = g refl h

  -- ---- white space in front

  space_value : (T : List ℕ → Type 0) (n b : ℕ) (bytes : List ℕ) → is_space b ≡ true → IsValueRest T n bytes → IsValueRest T n (b ∷ bytes)
  space_value T n b bytes h r = record {
    space = b ∷ r.space;
    value = r.value;
    more = r.more;
    spaces = and_from (is_space b) (are_spaces r.space) h r.spaces;
    made = r.made;
    shallow = r.shallow;
    behind = r.behind;
    spelled = ap (λ x. b ∷ x) r.spelled;
  }

  space_colon : (T : List ℕ → Type 0) (n b : ℕ) (bytes : List ℕ) → is_space b ≡ true → IsColonRest T n bytes → IsColonRest T n (b ∷ bytes)
  space_colon T n b bytes h r = record {
    space = b ∷ r.space;
    more = r.more;
    spaces = and_from (is_space b) (are_spaces r.space) h r.spaces;
    behind = r.behind;
    spelled = ap (λ x. b ∷ x) r.spelled;
  }

  space_name : (T : List ℕ → Type 0) (n b : ℕ) (bytes : List ℕ) → is_space b ≡ true → IsNameRest T n bytes → IsNameRest T n (b ∷ bytes)
  space_name T n b bytes h r = record {
    space = b ∷ r.space;
    pieces = r.pieces;
    more = r.more;
    spaces = and_from (is_space b) (are_spaces r.space) h r.spaces;
    made = r.made;
    behind = r.behind;
    spelled = ap (λ x. b ∷ x) r.spelled;
  }

  space_end : (T : List ℕ → Type 0) (bracket b : ℕ) (bytes : List ℕ) → is_space b ≡ true → IsEnd T bracket bytes → IsEnd T bracket (b ∷ bytes)
  space_end T bracket b bytes h r = record {
    space = b ∷ r.space;
    more = r.more;
    spaces = and_from (is_space b) (are_spaces r.space) h r.spaces;
    behind = r.behind;
    spelled = ap (λ x. b ∷ x) r.spelled;
  }

  space_inside_by : (T : List ℕ → Type 0) (c : Container) (n b : ℕ) (bytes : List ℕ) (es : Elements) (more : List ℕ) → is_space b ≡ true
      → are_elements (is_object c) es ≡ true → elements_depth es ≤ deepest - suc n → T more → bytes ≡ elements_text false es ++ closing c ∷ more
      → IsInside T false c n (b ∷ bytes)
  space_inside_by T c n b bytes (no_more space) more h made shallow behind e = record {
    es = no_more (b ∷ space);
    more = more;
    made = and_from (is_space b) (are_spaces space) h made;
    shallow = shallow;
    behind = behind;
    spelled = ap (λ x. b ∷ x) e;
  }
  space_inside_by T c n b bytes (element comma space name value rest) more h made shallow behind e =
      let parts = and_parts (are_spaces comma) (are_spaces space && (is_name (is_object c) name && (is_value value && are_elements (is_object c) rest))) made in
      record {
        es = element (b ∷ comma) space name value rest;
        more = more;
        made = and_from (are_spaces (b ∷ comma)) (are_spaces space && (is_name (is_object c) name && (is_value value && are_elements (is_object c) rest)))
            (and_from (is_space b) (are_spaces comma) h parts.0) parts.1;
        shallow = shallow;
        behind = behind;
        spelled = ap (λ x. b ∷ x) e;
      }

  space_behind : (os : List Open) (b : ℕ) (bytes : List ℕ) → is_space b ≡ true → IsBehind os bytes → IsBehind os (b ∷ bytes)
  space_behind [] b bytes h r = and_from (is_space b) (are_spaces bytes) h r
  space_behind (o ∷ os) b bytes h r = space_inside_by (IsBehind os) o.container (length os) b bytes r.es r.more h r.made r.shallow r.behind r.spelled

  space_first_item : (os : List Open) (b : ℕ) (bytes : List ℕ) → is_space b ≡ true → IsFirstItem os bytes → IsFirstItem os (b ∷ bytes)
  space_first_item [] b bytes h r = space_value (IsBehind []) 0 b bytes h r
  space_first_item (o ∷ os) b bytes h (inl r) = inl (space_end (IsBehind os) 0x5D b bytes h r)
  space_first_item (o ∷ os) b bytes h (inr r) = inr (space_value (IsBehind (o ∷ os)) (suc (length os)) b bytes h r)

  space_first_member : (os : List Open) (b : ℕ) (bytes : List ℕ) → is_space b ≡ true → IsFirstMember os bytes → IsFirstMember os (b ∷ bytes)
  space_first_member [] b bytes h r = space_name (IsBehind []) 0 b bytes h r
  space_first_member (o ∷ os) b bytes h (inl r) = inl (space_end (IsBehind os) 0x7D b bytes h r)
  space_first_member (o ∷ os) b bytes h (inr r) = inr (space_name (IsBehind (o ∷ os)) (suc (length os)) b bytes h r)

  -- ---- elements put in front of others

  item_before : (T : List ℕ → Type 0) (first : Bool) (n : ℕ) (bytes : List ℕ) → IsValueRest (IsInside T false container.Array n) (suc n) bytes
      → IsInside T first container.Array n (comma_text first [] ++ bytes)
  item_before T first n bytes r =
      let i = r.behind in
      let others = elements_text false i.es in
      record {
        es = element [] r.space None r.value i.es;
        more = i.more;
        made = and_from (are_spaces r.space) (is_value r.value && are_elements false i.es) r.spaces
            (and_from (is_value r.value) (are_elements false i.es) r.made i.made);
        shallow = omega (arith, r.shallow, i.shallow);
        behind = i.behind;
        spelled = ap (λ x. comma_text first [] ++ x)
            (r.spelled ∙ (ap (λ x. r.space ++ (value_text r.value ++ x)) i.spelled
            ∙ (ap (λ x. r.space ++ x) (sym (append_assoc (value_text r.value) others (0x5D ∷ i.more)))
            ∙ sym (append_assoc r.space (value_text r.value ++ others) (0x5D ∷ i.more)))))
            ∙ sym (append_assoc (comma_text first []) (r.space ++ (value_text r.value ++ others)) (0x5D ∷ i.more));
      }

  member_before : (T : List ℕ → Type 0) (first : Bool) (n : ℕ) (bytes : List ℕ) → IsNameRest (IsInside T false container.Object n) (suc n) bytes
      → IsInside T first container.Object n (comma_text first [] ++ bytes)
  member_before T first n bytes r =
      let c = r.behind in
      let v = c.behind in
      let i = v.behind in
      let name : Name = record { pieces = r.pieces; before = c.space; behind = v.space } in
      let others = elements_text false i.es in
      let is_one : is_name true (Some name) ≡ true =
      and_from (are_pieces r.pieces) (are_spaces c.space && are_spaces v.space) r.made (and_from (are_spaces c.space) (are_spaces v.space) c.spaces v.spaces) in
      record {
        es = element [] r.space (Some name) v.value i.es;
        more = i.more;
        made = and_from (are_spaces r.space) (is_name true (Some name) && (is_value v.value && are_elements true i.es)) r.spaces
            (and_from (is_name true (Some name)) (is_value v.value && are_elements true i.es) is_one
            (and_from (is_value v.value) (are_elements true i.es) v.made i.made));
        shallow = omega (arith, v.shallow, i.shallow);
        behind = i.behind;
        spelled = ap (λ x. comma_text first [] ++ x)
            (r.spelled ∙ ap (λ x. r.space ++ (strings.quoted r.pieces ++ x))
            (c.spelled ∙ ap (λ x. c.space ++ 0x3A ∷ x) (v.spelled ∙ ap (λ x. v.space ++ (value_text v.value ++ x)) i.spelled)))
            ∙ regrouped (comma_text first []) r.space (strings.quoted r.pieces) c.space v.space (value_text v.value) others (0x7D ∷ i.more);
      }

  end_inside : (T : List ℕ → Type 0) (c : Container) (n : ℕ) (bytes : List ℕ) → IsEnd T (closing c) bytes → IsInside T true c n bytes
  end_inside T c n bytes r = record { es = no_more r.space; more = r.more; made = r.spaces; shallow = omega arith; behind = r.behind; spelled = r.spelled }

  -- what is open, known as a kind
  inside_known : (T : List ℕ → Type 0) (first : Bool) (c d : Container) (n : ℕ) (bytes : List ℕ) → c ≡ d → IsInside T first c n bytes
      → IsInside T first d n bytes
  inside_known T first c d n bytes e r = subst (λ k. IsInside T first k n bytes) e r

  value_known : (T U : List ℕ → Type 0) (n : ℕ) (bytes : List ℕ) → ((more : List ℕ) → T more → U more) → IsValueRest T n bytes → IsValueRest U n bytes
  value_known T U n bytes f r = record {
    space = r.space;
    value = r.value;
    more = r.more;
    spaces = r.spaces;
    made = r.made;
    shallow = r.shallow;
    behind = f r.more r.behind;
    spelled = r.spelled;
  }

  name_known : (T U : List ℕ → Type 0) (n : ℕ) (bytes : List ℕ) → ((more : List ℕ) → T more → U more) → IsNameRest T n bytes → IsNameRest U n bytes
  name_known T U n bytes f r =
      let c = r.behind in
      record {
        space = r.space;
        pieces = r.pieces;
        more = r.more;
        spaces = r.spaces;
        made = r.made;
        behind = record { space = c.space; more = c.more; spaces = c.spaces; behind = value_known T U n c.more f c.behind; spelled = c.spelled };
        spelled = r.spelled;
      }

  -- ---- values

  value_alone : (T : List ℕ → Type 0) (n : ℕ) (bytes : List ℕ) (value : Value) (more : List ℕ) → is_value value ≡ true → depth value ≤ deepest - n → T more
      → bytes ≡ value_text value ++ more → IsValueRest T n bytes
  value_alone T n bytes value more made shallow behind e = record {
    space = [];
    value = value;
    more = more;
    spaces = refl;
    made = made;
    shallow = shallow;
    behind = behind;
    spelled = e;
  }

  quoted_again : (pieces : List Piece) (bytes more : List ℕ) → bytes ≡ flat_map piece_text pieces ++ 0x22 ∷ more
      → 0x22 ∷ bytes ≡ strings.quoted pieces ++ more
  quoted_again pieces bytes more e = ap (λ x. 0x22 ∷ x) (e ∙ sym (append_assoc (flat_map piece_text pieces) (0x22 ∷ []) more))

  string_value : (T : List ℕ → Type 0) (n : ℕ) (bytes : List ℕ) → IsPlainRest T bytes → IsValueRest T n (0x22 ∷ bytes)
  string_value T n bytes r =
      value_alone T n (0x22 ∷ bytes) (string r.pieces) r.more r.made (omega arith) r.behind (quoted_again r.pieces bytes r.more r.spelled)

  number_value : (T : List ℕ → Type 0) (n b : ℕ) (bytes own more : List ℕ) → IsRestOf (form_begun b) own → T more → bytes ≡ own ++ more
      → IsValueRest T n (b ∷ bytes)
  number_value T n b bytes own more r t e =
      let w = number_begun b own r in
      value_alone T n (b ∷ bytes) (number w.number) more w.made (omega arith) t (ap (λ x. b ∷ x) e ∙ ap (λ x. x ++ more) w.spelled)

  word_value : (T : List ℕ → Type 0) (n b : ℕ) (bytes : List ℕ) (w : Word) (left more : List ℕ) → T more → bytes ≡ left ++ more → b ∷ left ≡ word_text w
      → IsValueRest T n (b ∷ bytes)
  word_value T n b bytes w left more t e f =
      value_alone T n (b ∷ bytes) (word w) more refl (omega arith) t (ap (λ x. b ∷ x) e ∙ ap (λ x. x ++ more) f)

  array_value : (T : List ℕ → Type 0) (n : ℕ) (bytes : List ℕ) → n < deepest → IsInside T true container.Array n bytes → IsValueRest T n (0x5B ∷ bytes)
  array_value T n bytes h r =
      value_alone T n (0x5B ∷ bytes) (array r.es) r.more r.made (omega (arith, r.shallow)) r.behind
      (ap (λ x. 0x5B ∷ x) (r.spelled ∙ sym (append_assoc (elements_text true r.es) (0x5D ∷ []) r.more)))

  object_value : (T : List ℕ → Type 0) (n : ℕ) (bytes : List ℕ) → n < deepest → IsInside T true container.Object n bytes → IsValueRest T n (0x7B ∷ bytes)
  object_value T n bytes h r =
      value_alone T n (0x7B ∷ bytes) (object r.es) r.more r.made (omega (arith, r.shallow)) r.behind
      (ap (λ x. 0x7B ∷ x) (r.spelled ∙ sym (append_assoc (elements_text true r.es) (0x7D ∷ []) r.more)))

  array_begun : (os : List Open) (bytes : List ℕ) → IsBegun container.Array os bytes → IsInside (IsBehind os) true container.Array (length os) bytes
  array_begun os bytes r = by r.behind
    where
      by : IsEnd (IsBehind os) 0x5D bytes ⊎ IsValueRest (IsBehind (r.open_one ∷ os)) (suc (length os)) bytes
          → IsInside (IsBehind os) true container.Array (length os) bytes
      by (inl e) = end_inside (IsBehind os) container.Array (length os) bytes e
      by (inr v) = item_before (IsBehind os) true (length os) bytes
          (value_known (IsBehind (r.open_one ∷ os)) (IsInside (IsBehind os) false container.Array (length os)) (suc (length os)) bytes
          (λ more t. inside_known (IsBehind os) false r.open_one.container container.Array (length os) more r.same t) v)

  object_begun : (os : List Open) (bytes : List ℕ) → IsBegun container.Object os bytes → IsInside (IsBehind os) true container.Object (length os) bytes
  object_begun os bytes r = by r.behind
    where
      by : IsEnd (IsBehind os) 0x7D bytes ⊎ IsNameRest (IsBehind (r.open_one ∷ os)) (suc (length os)) bytes
          → IsInside (IsBehind os) true container.Object (length os) bytes
      by (inl e) = end_inside (IsBehind os) container.Object (length os) bytes e
      by (inr v) = member_before (IsBehind os) true (length os) bytes
          (name_known (IsBehind (r.open_one ∷ os)) (IsInside (IsBehind os) false container.Object (length os)) (suc (length os)) bytes
          (λ more t. inside_known (IsBehind os) false r.open_one.container container.Object (length os) more r.same t) v)

  -- ---- what a byte does, and what may come before it then

  module _ (os : List Open) (b at : ℕ) (bytes : List ℕ) where
    abbrev ValueHere : Type 0
    ValueHere = IsValueRest (IsBehind os) (length os) (b ∷ bytes)

    at_byte_value : (k : ℕ) → (b == k) ≡ true → IsValueRest (IsBehind os) (length os) (k ∷ bytes) → ValueHere
    at_byte_value k e r = subst (λ c. IsValueRest (IsBehind os) (length os) (c ∷ bytes)) (sym (eqb-true b k e)) r

    choose_letters : (P : Type 0) (t : Bool) (x y : Option Letters) → (t ≡ true → IsTurned (word_begun_by at x) os bytes → P)
        → (t ≡ false → IsTurned (word_begun_by at y) os bytes → P) → IsTurned (word_begun_by at (cond t x y)) os bytes → P
    choose_letters P true x y f g h = f refl h
    choose_letters P false x y f g h = g refl h

    word_turn : IsTurned (word_begun_by at (word_begun b)) os bytes → ValueHere
    word_turn =
        choose_letters ValueHere (b == 0x74) (Some letters.T) _
        (λ e r. at_byte_value 0x74 e (word_value (IsBehind os) (length os) 0x74 bytes true_word (letters_left letters.T) r.more r.behind r.spelled refl))
        (λ _. choose_letters ValueHere (b == 0x66) (Some letters.F) _
        (λ e r. at_byte_value 0x66 e (word_value (IsBehind os) (length os) 0x66 bytes false_word (letters_left letters.F) r.more r.behind r.spelled refl))
        (λ _. choose_letters ValueHere (b == 0x6E) (Some letters.N) None
        (λ e r. at_byte_value 0x6E e (word_value (IsBehind os) (length os) 0x6E bytes null_word (letters_left letters.N) r.more r.behind r.spelled refl))
        (λ _ r. absurd r)))

    plain_turn_by : (o : Option Form) → form_begun b ≡ o → IsTurned (plain_begun_by at b o) os bytes → ValueHere
    plain_turn_by (Some f) e r =
        number_value (IsBehind os) (length os) b bytes r.own r.more (subst (λ x. IsRestOf x r.own) (sym e) r.made) r.behind r.spelled
    plain_turn_by None e r = word_turn r

    value_turn : IsTurned (value_begun at b) os bytes → ValueHere
    unfolding value_begun plain_begun
    value_turn =
        choose os bytes ValueHere (b == 0x22) (quoted at role.Value) _ (λ e r. at_byte_value 0x22 e (string_value (IsBehind os) (length os) bytes r))
        (λ _. choose os bytes ValueHere (b == 0x7B) (Begins container.Object) _
        (λ e r. at_byte_value 0x7B e (object_value (IsBehind os) (length os) bytes r.shallow (object_begun os bytes r)))
        (λ _. choose os bytes ValueHere (b == 0x5B) (Begins container.Array) _
        (λ e r. at_byte_value 0x5B e (array_value (IsBehind os) (length os) bytes r.shallow (array_begun os bytes r)))
        (λ _ r. plain_turn_by (form_begun b) refl r)))

    at_value_turn : IsTurned (at_value at b) os bytes → ValueHere
    unfolding at_value
    at_value_turn =
        choose os bytes ValueHere (is_space b) (Goes mode.Value) (value_begun at b) (λ e r. space_value (IsBehind os) (length os) b bytes e r)
        (λ _ r. value_turn r)

    at_start_turn : IsTurned (at_start at b) os bytes → IsStart (IsValueRest (IsBehind os) (length os)) (b ∷ bytes)
    unfolding at_start
    at_start_turn =
        choose os bytes (IsStart (IsValueRest (IsBehind os) (length os)) (b ∷ bytes)) (b == 0xEF) (Goes mode.SecondOfMark) (at_value at b)
        (λ e r. record { mark = true; more = r.more; behind = r.behind; spelled = ap (λ c. c ∷ bytes) (eqb-true b 0xEF e) ∙ ap (λ x. 0xEF ∷ x) r.spelled })
        (λ _ r. record { mark = false; more = b ∷ bytes; behind = at_value_turn r; spelled = refl })

    at_second_turn : IsTurned (at_byte at b 0xBB mode.ThirdOfMark) os bytes → IsAfter (0xBB ∷ 0xBF ∷ []) (IsValueRest (IsBehind os) (length os)) (b ∷ bytes)
    unfolding at_byte
    at_second_turn =
        choose os bytes (IsAfter (0xBB ∷ 0xBF ∷ []) (IsValueRest (IsBehind os) (length os)) (b ∷ bytes)) (b == 0xBB) (Goes mode.ThirdOfMark) (stops NotJson at)
        (λ e r. record { more = r.more; behind = r.behind; spelled = ap (λ c. c ∷ bytes) (eqb-true b 0xBB e) ∙ ap (λ x. 0xBB ∷ x) r.spelled }) (λ _ r. absurd r)

    at_third_turn : IsTurned (at_byte at b 0xBF mode.Value) os bytes → IsAfter (0xBF ∷ []) (IsValueRest (IsBehind os) (length os)) (b ∷ bytes)
    unfolding at_byte
    at_third_turn =
        choose os bytes (IsAfter (0xBF ∷ []) (IsValueRest (IsBehind os) (length os)) (b ∷ bytes)) (b == 0xBF) (Goes mode.Value) (stops NotJson at)
        (λ e r. record { more = bytes; behind = r; spelled = ap (λ c. c ∷ bytes) (eqb-true b 0xBF e) }) (λ _ r. absurd r)

    name_turn : IsTurned (name_begun at b) os bytes → IsNameRest (IsBehind os) (length os) (b ∷ bytes)
    unfolding name_begun
    name_turn =
        choose os bytes (IsNameRest (IsBehind os) (length os) (b ∷ bytes)) (b == 0x22) (quoted at role.Name) (stops NotJson at)
        (λ e r. record {
          space = [];
          pieces = r.pieces;
          more = r.more;
          spaces = refl;
          made = r.made;
          behind = r.behind;
          spelled = ap (λ c. c ∷ bytes) (eqb-true b 0x22 e) ∙ quoted_again r.pieces bytes r.more r.spelled;
        }) (λ _ r. absurd r)

    at_name_turn : IsTurned (at_name at b) os bytes → IsNameRest (IsBehind os) (length os) (b ∷ bytes)
    unfolding at_name
    at_name_turn =
        choose os bytes (IsNameRest (IsBehind os) (length os) (b ∷ bytes)) (is_space b) (Goes mode.Name) (name_begun at b)
        (λ e r. space_name (IsBehind os) (length os) b bytes e r) (λ _ r. name_turn r)

    at_colon_turn : IsTurned (at_colon at b) os bytes → IsColonRest (IsBehind os) (length os) (b ∷ bytes)
    unfolding at_colon at_byte
    at_colon_turn =
        choose os bytes (IsColonRest (IsBehind os) (length os) (b ∷ bytes)) (is_space b) (Goes mode.Colon) _
        (λ e r. space_colon (IsBehind os) (length os) b bytes e r)
        (λ _. choose os bytes (IsColonRest (IsBehind os) (length os) (b ∷ bytes)) (b == 0x3A) (Goes mode.Value) (stops NotJson at)
        (λ e r. record { space = []; more = bytes; spaces = refl; behind = r; spelled = ap (λ c. c ∷ bytes) (eqb-true b 0x3A e) }) (λ _ r. absurd r))

    -- ---- strings

    told_rest : (r : Role) (s : Span) → IsTurned (told_by r s) os bytes → IsBehindString r os bytes
    told_rest role.Name s h = h
    told_rest role.Value s h = h

    plain_turn : (t : TextMode) → IsTurned (in_plain at b t) os bytes → IsPlainRest (IsBehindString t.role os) (b ∷ bytes)
    unfolding in_plain
    plain_turn t =
        choose os bytes (IsPlainRest (IsBehindString t.role os) (b ∷ bytes)) (b == 0x22) (ending at t) _
        (λ e r. subst (λ c. IsPlainRest (IsBehindString t.role os) (c ∷ bytes)) (sym (eqb-true b 0x22 e))
        (quote_rest (IsBehindString t.role os) bytes (told_rest t.role _ r)))
        (λ quote. choose os bytes (IsPlainRest (IsBehindString t.role os) (b ∷ bytes)) (b == 0x5C) (escaping t) _
        (λ e r. subst (λ c. IsPlainRest (IsBehindString t.role os) (c ∷ bytes)) (sym (eqb-true b 0x5C e)) (backslash_rest (IsBehindString t.role os) bytes r))
        (λ backslash. choose os bytes (IsPlainRest (IsBehindString t.role os) (b ∷ bytes)) (nat_lt b 0x20) (stops NotJson at) _ (λ e r. absurd r)
        (λ control. choose os bytes (IsPlainRest (IsBehindString t.role os) (b ∷ bytes)) (nat_lt 0x7F b) (wide at b t) (going t inside.Plain)
        (λ e r. wide_turn_by t (tail_of at b) refl r)
        (λ e r. ascii_rest (IsBehindString t.role os) b bytes (below b (ltb-false 0x7F b e))
        (or_from (nat_lt b 0x20) (b == 0x22 || b == 0x5C) control (or_from (b == 0x22) (b == 0x5C) quote backslash)) r))))
      where
        below : (x : ℕ) → x ≤ 0x7F → x < 128
        below x h = omega arith

        wide_turn_by : (u : TextMode) (o : Option Tail) → tail_of at b ≡ o → IsTurned (wide_by at u o) os bytes
            → IsPlainRest (IsBehindString u.role os) (b ∷ bytes)
        wide_turn_by u (Some tail) e r = wide_rest (IsBehindString u.role os) b at bytes (subst (λ x. IsTailRestOf (IsBehindString u.role os) x bytes)
            (sym e) r)
        wide_turn_by u None e r = absurd r

    escape_turn : (t : TextMode) → IsTurned (in_escape at b t) os bytes → IsEscapeRest (IsBehindString t.role os) (b ∷ bytes)
    unfolding in_escape
    escape_turn t =
        choose os bytes (IsEscapeRest (IsBehindString t.role os) (b ∷ bytes)) (is_short b) (going t inside.Plain) _
        (λ e r. short_rest (IsBehindString t.role os) b bytes e r)
        (λ _. choose os bytes (IsEscapeRest (IsBehindString t.role os) (b ∷ bytes)) (b == 0x75) (going t (inside.Hex 4)) (stops NotJson at)
        (λ e r. subst (λ c. IsEscapeRest (IsBehindString t.role os) (c ∷ bytes)) (sym (eqb-true b 0x75 e)) (digits_rest (IsBehindString t.role os) bytes r))
        (λ _ r. absurd r))

    hex_turn : (t : TextMode) (left : ℕ) → IsTurned (in_hex at b t left) os bytes → IsHexRest left (IsBehindString t.role os) (b ∷ bytes)
    unfolding in_hex
    hex_turn t left =
        choose os bytes (IsHexRest left (IsBehindString t.role os) (b ∷ bytes)) (is_hex b) _ (stops NotJson at)
        (λ h. choose os bytes (IsHexRest left (IsBehindString t.role os) (b ∷ bytes)) (nat_le left 1) (going t inside.Plain) (going t (inside.Hex (left - 1)))
        (λ e r. last_hex_rest (IsBehindString t.role os) left b bytes h e r) (λ e r. more_hex_rest (IsBehindString t.role os) left b bytes h e r))
        (λ _ r. absurd r)

    tail_turn : (t : TextMode) (tail : Tail) → IsTurned (in_tail b t tail) os bytes → IsTailRest tail (IsBehindString t.role os) (b ∷ bytes)
    unfolding in_tail
    tail_turn t tail =
        choose os bytes (IsTailRest tail (IsBehindString t.role os) (b ∷ bytes)) (nat_lt b tail.low || nat_lt tail.high b) (stops NotUtf8 tail.at) _
        (λ _ r. absurd r)
        (λ within. let parts = or_parts (nat_lt b tail.low) (nat_lt tail.high b) within in
        let low = ltb-false b tail.low parts.0 in
        let high = ltb-false tail.high b parts.1 in
        choose os bytes (IsTailRest tail (IsBehindString t.role os) (b ∷ bytes)) (nat_le tail.left 1) (going t inside.Plain)
        (going t (inside.Tail (record { at = tail.at; left = tail.left - 1; low = 0x80; high = 0xBF })))
        (λ e r. last_tail_rest (IsBehindString t.role os) tail b bytes low high e r) (λ e r. more_tail_rest
        (IsBehindString t.role os) tail b bytes low high e r))

    text_turn_rest : (t : TextMode) (i : Inside) → IsTurned (text_turn_by at b t i) os bytes → IsInsideRest i (IsBehindString t.role os) (b ∷ bytes)
    text_turn_rest t inside.Plain r = plain_turn t r
    text_turn_rest t inside.Escape r = escape_turn t r
    text_turn_rest t (inside.Hex left) r = hex_turn t left r
    text_turn_rest t (inside.Tail tail) r = tail_turn t tail r

    -- ---- numbers and words

    number_turn : (n : NumberMode) → IsTurned (in_number at b n) os bytes → IsNumberRest n.form (IsBehind os) (b ∷ bytes)
    unfolding in_number
    number_turn n = by (form_behind n.form b) refl
      where
        by : (o : Option Form) → form_behind n.form b ≡ o → IsTurned (in_number_by at n o) os bytes → IsNumberRest n.form (IsBehind os) (b ∷ bytes)
        by (Some g) e r = record {
          own = b ∷ r.own;
          more = r.more;
          made = rest_more n.form b r.own (subst (λ x. IsRestOf x r.own) (sym e) r.made);
          behind = r.behind;
          spelled = ap (λ x. b ∷ x) r.spelled;
        }
        by None e r = absurd r

    letter_before : (k : ℕ) (left : List ℕ) → (b == k) ≡ true → IsAfter left (IsBehind os) bytes → IsAfter (k ∷ left) (IsBehind os) (b ∷ bytes)
    letter_before k left e r = record {
      more = r.more;
      behind = r.behind;
      spelled = ap (λ c. c ∷ bytes) (eqb-true b k e) ∙ ap (λ x. k ∷ x) r.spelled;
    }

    last_letter : (k : ℕ) → (b == k) ≡ true → IsBehind os bytes → IsAfter (k ∷ []) (IsBehind os) (b ∷ bytes)
    last_letter k e r = letter_before k [] e (record { more = bytes; behind = r; spelled = refl })

    letters_turn : (l : Letters) (begin : ℕ) → (b == letter l) ≡ true → IsTurned (lettered at (record { start = begin; letters = l })) os bytes
        → IsAfter (letters_left l) (IsBehind os) (b ∷ bytes)
    unfolding letter lettered longer
    letters_turn letters.T begin e r = letter_before 0x72 (letters_left letters.Tr) e r
    letters_turn letters.Tr begin e r = letter_before 0x75 (letters_left letters.Tru) e r
    letters_turn letters.Tru begin e r = last_letter 0x65 e r
    letters_turn letters.F begin e r = letter_before 0x61 (letters_left letters.Fa) e r
    letters_turn letters.Fa begin e r = letter_before 0x6C (letters_left letters.Fal) e r
    letters_turn letters.Fal begin e r = letter_before 0x73 (letters_left letters.Fals) e r
    letters_turn letters.Fals begin e r = last_letter 0x65 e r
    letters_turn letters.N begin e r = letter_before 0x75 (letters_left letters.Nu) e r
    letters_turn letters.Nu begin e r = letter_before 0x6C (letters_left letters.Nul) e r
    letters_turn letters.Nul begin e r = last_letter 0x6C e r

    in_word_turn : (w : WordMode) → IsTurned (in_word at b w) os bytes → IsAfter (letters_left w.letters) (IsBehind os) (b ∷ bytes)
    unfolding in_word
    in_word_turn w =
        choose os bytes (IsAfter (letters_left w.letters) (IsBehind os) (b ∷ bytes)) (b == letter w.letters) (lettered at w) (stops NotJson at)
        (λ e r. letters_turn w.letters w.start e r) (λ _ r. absurd r)

  -- ---- in arrays and objects

  end_here : (T : List ℕ → Type 0) (bracket b : ℕ) (bytes : List ℕ) → (b == bracket) ≡ true → T bytes → IsEnd T bracket (b ∷ bytes)
  end_here T bracket b bytes e t = record { space = []; more = bytes; spaces = refl; behind = t; spelled = ap (λ c. c ∷ bytes) (eqb-true b bracket e) }

  first_item_turn : (os : List Open) (b at : ℕ) (bytes : List ℕ) → IsTurned (at_first_item at b) os bytes → IsFirstItem os (b ∷ bytes)
  unfolding at_first_item
  first_item_turn [] b at bytes =
      choose [] bytes (IsFirstItem [] (b ∷ bytes)) (is_space b) (Goes mode.FirstItem) _ (λ e r. space_first_item [] b bytes e r)
      (λ _. choose [] bytes (IsFirstItem [] (b ∷ bytes)) (b == 0x5D) Closes (value_begun at b) (λ _ r. absurd r) (λ _ r. value_turn [] b at bytes r))
  first_item_turn (o ∷ os) b at bytes =
      choose (o ∷ os) bytes (IsFirstItem (o ∷ os) (b ∷ bytes)) (is_space b) (Goes mode.FirstItem) _ (λ e r. space_first_item (o ∷ os) b bytes e r)
      (λ _. choose (o ∷ os) bytes (IsFirstItem (o ∷ os) (b ∷ bytes)) (b == 0x5D) Closes (value_begun at b)
      (λ e r. inl (end_here (IsBehind os) 0x5D b bytes e r)) (λ _ r. inr (value_turn (o ∷ os) b at bytes r)))

  first_member_turn : (os : List Open) (b at : ℕ) (bytes : List ℕ) → IsTurned (at_first_member at b) os bytes → IsFirstMember os (b ∷ bytes)
  unfolding at_first_member
  first_member_turn [] b at bytes =
      choose [] bytes (IsFirstMember [] (b ∷ bytes)) (is_space b) (Goes mode.FirstMember) _ (λ e r. space_first_member [] b bytes e r)
      (λ _. choose [] bytes (IsFirstMember [] (b ∷ bytes)) (b == 0x7D) Closes (name_begun at b) (λ _ r. absurd r) (λ _ r. name_turn [] b at bytes r))
  first_member_turn (o ∷ os) b at bytes =
      choose (o ∷ os) bytes (IsFirstMember (o ∷ os) (b ∷ bytes)) (is_space b) (Goes mode.FirstMember) _ (λ e r. space_first_member (o ∷ os) b bytes e r)
      (λ _. choose (o ∷ os) bytes (IsFirstMember (o ∷ os) (b ∷ bytes)) (b == 0x7D) Closes (name_begun at b)
      (λ e r. inl (end_here (IsBehind os) 0x7D b bytes e r)) (λ _ r. inr (name_turn (o ∷ os) b at bytes r)))

  no_more_here : (T : List ℕ → Type 0) (c : Container) (n b : ℕ) (bytes : List ℕ) → (b == closing c) ≡ true → T bytes → IsInside T false c n (b ∷ bytes)
  no_more_here T c n b bytes e t = record {
    es = no_more [];
    more = bytes;
    made = refl;
    shallow = omega arith;
    behind = t;
    spelled = ap (λ x. x ∷ bytes) (eqb-true b (closing c) e);
  }

  behind_turn_by : (o : Open) (os : List Open) (b at : ℕ) (bytes : List ℕ) (c : Container) → o.container ≡ c
      → IsTurned (behind_inside at b (Some c)) (o ∷ os) bytes → IsInside (IsBehind os) false c (length os) (b ∷ bytes)
  unfolding behind_inside at_comma
  behind_turn_by o os b at bytes container.Object k =
      choose (o ∷ os) bytes (IsInside (IsBehind os) false container.Object (length os) (b ∷ bytes)) (b == 0x2C) (Goes mode.Name) _
      (λ e r. subst (λ x. IsInside (IsBehind os) false container.Object (length os) (x ∷ bytes)) (sym (eqb-true b 0x2C e))
      (member_before (IsBehind os) false (length os) bytes
      (name_known (IsBehind (o ∷ os)) (IsInside (IsBehind os) false container.Object (length os)) (suc (length os)) bytes
      (λ more t. inside_known (IsBehind os) false o.container container.Object (length os) more k t) r)))
      (λ _. choose (o ∷ os) bytes (IsInside (IsBehind os) false container.Object (length os) (b ∷ bytes)) (b == 0x7D) Closes (stops NotJson at)
      (λ e r. no_more_here (IsBehind os) container.Object (length os) b bytes e r) (λ _ r. absurd r))
  behind_turn_by o os b at bytes container.Array k =
      choose (o ∷ os) bytes (IsInside (IsBehind os) false container.Array (length os) (b ∷ bytes)) (b == 0x2C) (Goes mode.Value) _
      (λ e r. subst (λ x. IsInside (IsBehind os) false container.Array (length os) (x ∷ bytes)) (sym (eqb-true b 0x2C e))
      (item_before (IsBehind os) false (length os) bytes
      (value_known (IsBehind (o ∷ os)) (IsInside (IsBehind os) false container.Array (length os)) (suc (length os)) bytes
      (λ more t. inside_known (IsBehind os) false o.container container.Array (length os) more k t) r)))
      (λ _. choose (o ∷ os) bytes (IsInside (IsBehind os) false container.Array (length os) (b ∷ bytes)) (b == 0x5D) Closes (stops NotJson at)
      (λ e r. no_more_here (IsBehind os) container.Array (length os) b bytes e r) (λ _ r. absurd r))

  behind_turn : (os : List Open) (b at : ℕ) (bytes : List ℕ) → IsTurned (at_behind at b (innermost os)) os bytes → IsBehind os (b ∷ bytes)
  unfolding at_behind behind_inside
  behind_turn [] b at bytes =
      choose [] bytes (IsBehind [] (b ∷ bytes)) (is_space b) (Goes mode.Behind) _ (λ e r. space_behind [] b bytes e r) (λ _ r. absurd r)
  behind_turn (o ∷ os) b at bytes =
      choose (o ∷ os) bytes (IsBehind (o ∷ os) (b ∷ bytes)) (is_space b) (Goes mode.Behind) _ (λ e r. space_behind (o ∷ os) b bytes e r)
      (λ _ r. behind_turn_by o os b at bytes o.container refl r)

  -- ---- all states

  turn_rest : (m : Mode) (os : List Open) (b at : ℕ) (bytes : List ℕ) → IsTurned (turn at b m (innermost os)) os bytes → IsRestAt m os (b ∷ bytes)
  unfolding turn text_turn
  turn_rest mode.Start os b at bytes r = at_start_turn os b at bytes r
  turn_rest mode.SecondOfMark os b at bytes r = at_second_turn os b at bytes r
  turn_rest mode.ThirdOfMark os b at bytes r = at_third_turn os b at bytes r
  turn_rest mode.Value os b at bytes r = at_value_turn os b at bytes r
  turn_rest mode.FirstItem os b at bytes r = first_item_turn os b at bytes r
  turn_rest mode.FirstMember os b at bytes r = first_member_turn os b at bytes r
  turn_rest mode.Name os b at bytes r = at_name_turn os b at bytes r
  turn_rest mode.Colon os b at bytes r = at_colon_turn os b at bytes r
  turn_rest mode.Behind os b at bytes r = behind_turn os b at bytes r
  turn_rest (mode.Text t) os b at bytes r = text_turn_rest os b at bytes t t.inside r
  turn_rest (mode.Number n) os b at bytes r = number_turn os b at bytes n r
  turn_rest (mode.Word w) os b at bytes r = in_word_turn os b at bytes w r

  -- what may come in a state
  abbrev IsRestIn : State → List ℕ → Type 0
  IsRestIn s bytes = IsRestAt s.mode s.around bytes

  abbrev done : State → Result State JsonFault
  done s = Ok s

  abbrev failed : JsonFault → Result State JsonFault
  failed f = Err f

  same_state : (x next : State) (bytes : List ℕ) → done x ≡ done next → IsRestIn next bytes → IsRestIn x bytes
  same_state x next bytes e r = let f : x ≡ next = cc in subst (λ n. IsRestIn n bytes) (sym f) r

  begun_rest : (at : ℕ) (c : Container) (s next : State) (bytes : List ℕ) (t : Bool) → nat_lt (length s.around) deepest ≡ t
      → cond t (done (begun at c s)) (failed (fault TooDeep at)) ≡ done next → IsRestIn next bytes → IsBegun c s.around bytes
  begun_rest at c s next bytes true e h r = record {
    open_one = record { container = c; index = length s.items; head = head at c s.name };
    same = refl;
    shallow = ltb-true (length s.around) deepest e;
    behind = same_state (begun at c s) next bytes h r;
  }
  begun_rest at c s next bytes false e h r = cc

  closed_rest : (at : ℕ) (s next : State) (bytes : List ℕ) (os : List Open) → closed_by at s os ≡ Ok next → IsRestIn next bytes → IsClosed os bytes
  closed_rest at s next bytes [] h r = let no : failed (fault NotJson at) ≡ done next = h in cc
  closed_rest at s next bytes (o ∷ os) h r = same_state _ next bytes h r

  act_rest : (t : Turn) (at : ℕ) (s next : State) (bytes : List ℕ) → act deepest at t s ≡ Ok next → IsRestIn next bytes → IsTurned t s.around bytes
  unfolding act
  act_rest (Goes m) at s next bytes h r = same_state _ next bytes h r
  act_rest (Stops f) at s next bytes h r = cc
  act_rest (Names name) at s next bytes h r = same_state _ next bytes h r
  act_rest (Tells kind value) at s next bytes h r = same_state _ next bytes h r
  act_rest (Begins c) at s next bytes h r = begun_rest at c s next bytes (nat_lt (length s.around) deepest) refl h r
  act_rest Closes at s next bytes h r = closed_rest at s next bytes s.around h r

  -- a byte is read, and what may come before it then
  step_rest_by : (at b : ℕ) (s next : State) (bytes : List ℕ) → turned deepest at b s ≡ Ok next → IsRestIn next bytes → IsRestIn s (b ∷ bytes)
  step_rest_by at b s next bytes h r =
      turn_rest s.mode s.around b at bytes (act_rest (turn at b s.mode (innermost s.around)) at s next bytes h r)

  number_ended_rest : (f : Form) (os : List Open) (bytes : List ℕ) → is_ended f ≡ true → IsBehind os bytes → IsNumberRest f (IsBehind os) bytes
  number_ended_rest f os bytes h r = record { own = []; more = bytes; made = rest_ended f h; behind = r; spelled = refl }

  ended_whole : (f : Form) (o : Option Form) → has_ended_by f o ≡ true → is_ended f ≡ true
  ended_whole f (Some g) h = absurd (true≢false (sym h))
  ended_whole f None h = h

  module _ (name : Option Span) (os : List Open) (items : List Item) where
    abbrev at_mode : Mode → State
    at_mode m = record { mode = m; name = name; around = os; items = items }

    number_rest_by : (n : NumberMode) (at b : ℕ) (next : State) (bytes : List ℕ) (t : Bool) → (t ≡ true → is_ended n.form ≡ true)
        → turned deepest at b (settled_by at (at_mode (mode.Number n)) (cond t (Some n) None)) ≡ Ok next → IsRestIn next bytes
        → IsNumberRest n.form (IsBehind os) (b ∷ bytes)
    number_rest_by n at b next bytes true f h r =
        number_ended_rest n.form os (b ∷ bytes) (f refl) (step_rest_by at b (told kinds.Number (span n.start at) (at_mode (mode.Number n))) next bytes h r)
    number_rest_by n at b next bytes false f h r = step_rest_by at b (at_mode (mode.Number n)) next bytes h r

    step_rest : (m : Mode) (at b : ℕ) (next : State) (bytes : List ℕ) → step deepest at b (at_mode m) ≡ Ok next → IsRestIn next bytes
        → IsRestAt m os (b ∷ bytes)
    unfolding step number_ended
    step_rest (mode.Number n) at b next bytes h r =
        number_rest_by n at b next bytes (has_ended n.form (Some b)) (ended_whole n.form (form_behind n.form b)) h r
    step_rest mode.Start at b next bytes h r = step_rest_by at b (at_mode mode.Start) next bytes h r
    step_rest mode.SecondOfMark at b next bytes h r = step_rest_by at b (at_mode mode.SecondOfMark) next bytes h r
    step_rest mode.ThirdOfMark at b next bytes h r = step_rest_by at b (at_mode mode.ThirdOfMark) next bytes h r
    step_rest mode.Value at b next bytes h r = step_rest_by at b (at_mode mode.Value) next bytes h r
    step_rest mode.FirstItem at b next bytes h r = step_rest_by at b (at_mode mode.FirstItem) next bytes h r
    step_rest mode.FirstMember at b next bytes h r = step_rest_by at b (at_mode mode.FirstMember) next bytes h r
    step_rest mode.Name at b next bytes h r = step_rest_by at b (at_mode mode.Name) next bytes h r
    step_rest mode.Colon at b next bytes h r = step_rest_by at b (at_mode mode.Colon) next bytes h r
    step_rest mode.Behind at b next bytes h r = step_rest_by at b (at_mode mode.Behind) next bytes h r
    step_rest (mode.Text t) at b next bytes h r = step_rest_by at b (at_mode (mode.Text t)) next bytes h r
    step_rest (mode.Word w) at b next bytes h r = step_rest_by at b (at_mode (mode.Word w)) next bytes h r

    -- at the end of the text
    behind_end : (around : List Open) (all all_read : List Item) (at : ℕ)
        → cond (is_top (innermost around)) (told_items all) (told_fault (fault Truncated at)) ≡ Ok all_read
        → IsBehind around []
    behind_end [] all all_read at h = refl
    behind_end (o ∷ around) all all_read at h = cc

    number_end_by : (n : NumberMode) (at : ℕ) (all_read : List Item) (t : Bool) → is_ended n.form ≡ t
        → ended_by at (settled_by at (at_mode (mode.Number n)) (cond t (Some n) None)) ≡ Ok all_read → IsNumberRest n.form (IsBehind os) []
    unfolding is_behind
    number_end_by n at all_read true e h = number_ended_rest n.form os [] e (behind_end os _ all_read at h)
    number_end_by n at all_read false e h = cc

    end_rest : (m : Mode) (at : ℕ) (all_read : List Item) → ended at (at_mode m) ≡ Ok all_read → IsRestAt m os []
    unfolding number_ended is_behind
    end_rest mode.Behind at all_read h = behind_end os items all_read at h
    end_rest (mode.Number n) at all_read h = number_end_by n at all_read (is_ended n.form) refl h
    end_rest mode.Start at all_read h = cc
    end_rest mode.SecondOfMark at all_read h = cc
    end_rest mode.ThirdOfMark at all_read h = cc
    end_rest mode.Value at all_read h = cc
    end_rest mode.FirstItem at all_read h = cc
    end_rest mode.FirstMember at all_read h = cc
    end_rest mode.Name at all_read h = cc
    end_rest mode.Colon at all_read h = cc
    end_rest (mode.Text t) at all_read h = cc
    end_rest (mode.Word w) at all_read h = cc

  -- What is read from a state on to the end may come there.
  run_rest_by : (at b : ℕ) (bytes : List ℕ) (s : State) (items : List Item) (r : Result State JsonFault) → step deepest at b s ≡ r
      → ((next : State) → ended_behind (suc at + length bytes) (run deepest (suc at) bytes next) ≡ Ok items → IsRestIn next bytes)
      → ended_behind (at + length (b ∷ bytes)) (goes_on deepest (suc at) bytes r) ≡ Ok items → IsRestIn s (b ∷ bytes)
  run_rest_by at b bytes s items (Ok next) e rest h =
      let counted : suc at + length bytes ≡ at + length (b ∷ bytes) = omega arith in
      step_rest s.name s.around s.items s.mode at b next bytes e
      (rest next (ap (λ n. ended_behind n (run deepest (suc at) bytes next)) counted ∙ h))
  run_rest_by at b bytes s items (Err f) e rest h = cc

  run_rest : (bytes : List ℕ) (at : ℕ) (s : State) (items : List Item) → ended_behind (at + length bytes) (run deepest at bytes s) ≡ Ok items → IsRestIn s bytes
  run_rest [] at s items h = end_rest s.name s.around s.items s.mode (at + 0) items h
  run_rest (b ∷ bytes) at s items h =
      run_rest_by at b bytes s items (step deepest at b s) refl (λ next k. run_rest bytes (suc at) next items k)
      (ap (ended_behind (at + length (b ∷ bytes))) (sym (run_step deepest at b bytes s)) ∙ h)

  -- ---- whole texts

  -- the same with the text that it is
  derived_by : (bytes : List ℕ) (items : List Item) (mark : Bool) (more : List ℕ) → reading_whole deepest bytes ≡ Ok items → bytes ≡ mark_text mark ++ more
      → IsValueRest (IsBehind []) 0 more → Derives deepest bytes items
  derived_by bytes items mark more h e r =
      let text : Text = record { mark = mark; before = r.space; value = r.value; behind = r.more } in
      let made : is_text text ≡ true = and_from (are_spaces r.space) (is_value r.value && are_spaces r.more) r.spaces
      (and_from (is_value r.value) (are_spaces r.more) r.made r.behind) in
      let shallow : depth r.value ≤ deepest = omega (arith, r.shallow) in
      let spelled : text_bytes text ≡ bytes = sym (e ∙ ap (λ x. mark_text mark ++ x) r.spelled) in
      let read : reading_whole deepest (text_bytes text) ≡ Ok (text_items text) = text_is_read deepest text made shallow in
      let again : reading_whole deepest (text_bytes text) ≡ Ok items = ap (reading_whole deepest) spelled ∙ h in
      record { text = text; made = made; shallow = shallow; spelled = spelled; told = same_items (text_items text) items (sym read ∙ again) }

  whole_derives : (bytes : List ℕ) (items : List Item) → reading_whole deepest bytes ≡ Ok items → Derives deepest bytes items
  whole_derives bytes items h =
      let whole : 0 + length bytes ≡ length bytes = omega arith in
      let r = run_rest bytes 0 start items (ap (λ n. ended_behind n (run deepest 0 bytes start)) whole ∙ h) in
      derived_by bytes items r.mark r.more h r.spelled r.behind

-- What is read is within the limits, and a text of the grammar with these items.
read_derives_by : (longest deepest : ℕ) (bytes : List ℕ) (items : List Item) (t : Bool) → nat_le (length bytes) longest ≡ t
    → cond t (reading_whole deepest bytes) (reading_front deepest (take longest bytes)) ≡ Ok items → (length bytes ≤ longest) × Derives deepest bytes items
read_derives_by longest deepest bytes items true e h = (leb-true (length bytes) longest e, whole_derives deepest bytes items h)
read_derives_by longest deepest bytes items false e h =
    absurd (not_cut (length (take longest bytes)) items (run deepest 0 (take longest bytes) start) h)

pub read_derives : (longest deepest : ℕ) (bytes : List ℕ) (items : List Item) → reading longest deepest bytes ≡ Ok items
    → (length bytes ≤ longest) × Derives deepest bytes items
unfolding reading
read_derives longest deepest bytes items h = read_derives_by longest deepest bytes items (nat_le (length bytes) longest) refl h
