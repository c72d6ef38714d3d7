-- Files in memory, one more at a time.
use Rattle.std.proofs.Common.{◌≡◌, ℕ, ◌+◌, ◌<◌, ◌≤◌, min, drop, Ok, length-append, length-take, length-drop, List, [], ◌∷◌, ◌++◌, map, reverse, take, get_or}
use Rattle.std.proofs.Common.{length, Bool, true, false, ◌||◌, cond, Some, option_map, unwrap_or, refl, ap, sym, ◌∙◌, string_bytes, bytes_eq, arith}
use Rattle.std.proofs.Common.{MatchOption, Option, None}
use Rattle.std.proofs.Math.Seq.{take-append_seam}
use Rattle.inv_base.specs.Memory.{Kept, shelf_of, behind_read, within_piece}
use Rattle.inv_base.specs.Outside.{Reads}
use Rattle.inv_base.specs.Sure.{SureFiles, sure_shelf_of, behind_sure_read}
use Rattle.std.proofs.lemmas.Bool.{true≢false}
use Rattle.std.proofs.lemmas.List.{take-append-drop, take-take, length-take-le, take_more, map-append, reverse-append}
use Rattle.std.proofs.lemmas.Option.{slice_get_read}
use Rattle.inv_base.specs.declared.mem_shelf.MemFile.{MemFile}
use Rattle.inv_base.specs.Files.{content_of, is_named}
use Rattle.inv_base.specs.MemFiles.{newest_first, bytes_at, file_of, IsPiece}

pub newest_first-more : (files : List MemFile) (k : ℕ) (file : MemFile) → k < length files → file ≡ get_or files k file
    → newest_first (take (k + 1) files) ≡ file_of file ∷ newest_first (take k files)
newest_first-more files k file h e =
    ap newest_first (take_more files k file h ∙ ap (λ f. take k files ++ f ∷ []) (sym e))
    ∙ (ap reverse (map-append file_of (take k files) (file ∷ []))
    ∙ reverse-append (map file_of (take k files)) (file_of file ∷ []))

bytes_at-read : (files : List MemFile) (k : ℕ) (file : MemFile) → k < length files → file ≡ get_or files k file → bytes_at k files ≡ file.bytes.items
bytes_at-read files k file h e = ap (λ (o : Option MemFile). unwrap_or (option_map (λ (f : MemFile). f.bytes.items) o) [])
    (slice_get_read files (length files) k file refl h e)

content_of-head : (name : List ℕ) (file : List ℕ × List ℕ) (files : List (List ℕ × List ℕ)) (b : Bool) → bytes_eq file.0 name ≡ b
    → content_of name (file ∷ files) ≡ cond b file.1 (content_of name files)
content_of-head name file files b e = ap (λ x. cond x file.1 (content_of name files)) e

is_named-head : (name : List ℕ) (file : List ℕ × List ℕ) (files : List (List ℕ × List ℕ)) (b : Bool) → bytes_eq file.0 name ≡ b
    → is_named name (file ∷ files) ≡ (b || is_named name files)
is_named-head name file files b e = ap (λ x. x || is_named name files) e

abbrev pub Found : List ℕ → List MemFile → ℕ → Option ℕ → Type 0
Found name files n found = let so_far = newest_first (take n files) in
    MatchOption found (is_named name so_far ≡ false)
    (λ k. (k < n) × (is_named name so_far ≡ true) × (content_of name so_far ≡ bytes_at k files))

-- The file has the name.
pub Found-here : (name : List ℕ) (files : List MemFile) (k : ℕ) (file : MemFile) → k < length files → file ≡ get_or files k file
    → bytes_eq (string_bytes file.name) name ≡ true → Found name files (k + 1) (Some k)
Found-here name files k file h e same =
    let more = newest_first-more files k file h e in (
      omega arith,
      ap (is_named name) more ∙ is_named-head name (file_of file) (newest_first (take k files)) true same,
      ap (content_of name) more ∙ (content_of-head name (file_of file) (newest_first (take k files)) true same ∙ sym (bytes_at-read files k file h e)),
    )

-- The file has another name.
pub Found-passed : (name : List ℕ) (files : List MemFile) (k : ℕ) (file : MemFile) (found : Option ℕ) → k < length files → file ≡ get_or files k file
    → bytes_eq (string_bytes file.name) name ≡ false → Found name files k found → Found name files (k + 1) found
Found-passed name files k file None h e other so_far =
    ap (is_named name) (newest_first-more files k file h e) ∙ (is_named-head name (file_of file) (newest_first (take k files)) false other ∙ so_far)
Found-passed name files k file (Some j) h e other so_far =
    let more = newest_first-more files k file h e in (
      omega (arith, so_far.0),
      ap (is_named name) more ∙ (is_named-head name (file_of file) (newest_first (take k files)) false other ∙ so_far.1),
      ap (content_of name) more ∙ (content_of-head name (file_of file) (newest_first (take k files)) false other ∙ so_far.2),
    )

-- How many bytes a read gives: no more than are left and than have room, and none only where there are none or is no room.
record IsCount (n : ℕ) (left buffer : List ℕ) : Type 0 where
  few : n ≤ length left
  fits : n ≤ length buffer
  end : n ≡ 0 → 0 < length buffer → length left ≡ 0

IsCount-within_piece : (piece : Option ℕ) (n : ℕ) (left buffer : List ℕ) → IsPiece piece → n ≡ min (length (within_piece piece left)) (length buffer)
    → IsCount n left buffer
IsCount-within_piece None n left buffer some is = record { few = omega arith; fits = omega arith; end = λ none room. omega arith }
IsCount-within_piece (Some piece) n left buffer some is =
    let long = length-take piece left in record { few = omega (arith, long); fits = omega arith; end = λ none room. omega (arith, long) }

take-within_piece : (piece : Option ℕ) (n : ℕ) (left : List ℕ) → n ≤ length (within_piece piece left) → take n (within_piece piece left) ≡ take n left
take-within_piece None n left h = refl
take-within_piece (Some piece) n left h = let long = length-take piece left in take-take n piece left (omega (arith, long))

-- The bytes that a read puts at the front of the buffer are those at the front of what is left.
pub copied-within_piece : (piece : Option ℕ) (n : ℕ) (left before after : List ℕ) → n ≡ min (length (within_piece piece left)) (length before)
    → after ≡ take n (within_piece piece left) ++ drop n before → after ≡ take n left ++ drop n before
copied-within_piece piece n left before after count copied =
    copied ∙ ap (λ front. front ++ drop n before) (take-within_piece piece n left (omega arith))

-- What files in memory do at a read is what a shelf's read keeps.
pub Reads-behind_read : {E : Type 0} (n : ℕ) (s t : Kept) (before after : List ℕ) → IsPiece s.piece
    → n ≡ min (length (within_piece s.piece s.left)) (length before) → after ≡ take n s.left ++ drop n before → t ≡ behind_read n s
    → Reads {E = E} (Ok n) after (shelf_of s) (shelf_of t)
Reads-behind_read {E} n s t before after some count copied is =
    let counted = IsCount-within_piece s.piece n s.left before some count in
    let few : n ≤ length s.left = counted.few in
    let fits : n ≤ length before = counted.fits in
    let taken : length (take n s.left) ≡ n = length-take-le n s.left few in
    let front : take n after ≡ take n s.left =
    ap (take n) copied ∙ (ap (λ k. take k (take n s.left ++ drop n before)) (sym taken) ∙ take-append_seam (take n s.left) (drop n before)) in
    let long : length after ≡ length before =
    ap length copied ∙ (length-append (take n s.left) (drop n before) ∙ simp (length-take, length-drop) (omega arith)) in
    rw is (record {
      held = refl;
      bound = omega arith;
      left = ap Some (sym (ap (λ x. x ++ drop n s.left) front ∙ take-append-drop n s.left));
      end = λ none room left is.
          let whole : length s.left ≡ 0 = counted.end none (omega arith) in
          let same : drop n s.left ≡ left = cc in ap length (sym same) ∙ (length-drop n s.left ∙ omega arith);
      faults = refl;
      opens = refl;
    })

-- Files that don't hold the name have no bytes under it.
pub absent_content : (name : List ℕ) (files : List (List ℕ × List ℕ)) → is_named name files ≡ false → content_of name files ≡ []
absent_content name [] absent = refl
absent_content name (file ∷ files) absent = by_head (bytes_eq file.0 name) refl (absent_content name files) where
  by_head : (b : Bool) → bytes_eq file.0 name ≡ b → (is_named name files ≡ false → content_of name files ≡ []) → content_of name (file ∷ files) ≡ []
  by_head true same behind = absurd (true≢false (sym (is_named-head name file files true same) ∙ absent))
  by_head false other behind =
      content_of-head name file files false other ∙ behind (sym (is_named-head name file files false other) ∙ absent)

-- What files that never fail do at a read is what a shelf's read keeps.
pub Reads-behind_sure_read : {E : Type 0} (n : ℕ) (s t : SureFiles) (before after : List ℕ) → n ≡ min (length s.left) (length before)
    → after ≡ take n s.left ++ drop n before → t ≡ behind_sure_read n s → Reads {E = E} (Ok n) after (sure_shelf_of s) (sure_shelf_of t)
Reads-behind_sure_read {E} n s t before after count copied is =
    let kept : Kept = record { files = s.files; left = s.left; piece = None; failing = []; calls = 0; faults = 0; opens = s.opens } in
    let reads = Reads-behind_read {E = E} n kept (behind_read n kept) before after tt count copied refl in
    rw is (record { held = refl; bound = reads.bound; left = reads.left; end = reads.end; faults = refl; opens = refl })
