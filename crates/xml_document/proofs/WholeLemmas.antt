-- A file that is read whole.
use Rattle.std.proofs.Common.{◌≡◌, ℕ, ◌-◌, ◌<◌, ◌≤◌, List, [], ◌++◌, length, refl, ap, ◌∙◌, length-append, arith, Option, Some, None}
use Rattle.inv_base.specs.Outside.{ShelfView, WhereTold, ahead_of}
use Rattle.xml_document.specs.Whole.{IsReadWhole, IsTooLong}
use Rattle.xml_document.proofs.ReadingLemmas.{ahead_of-nil, ahead_of-append, read_all}

-- Behind some pieces: what was taken stands before what is left, and is no more than the limit.
pub record Taking (begun now : ShelfView) (limit : ℕ) (bytes : List ℕ) : Type 0 where
  pub held : now.held ≡ begun.held
  pub opens : now.opens ≡ begun.opens
  pub faults : now.faults ≡ begun.faults
  pub content : begun.left ≡ ahead_of bytes now.left
  pub within : length bytes ≤ limit

pub taking_nothing : (begun : ShelfView) (limit : ℕ) (bytes : List ℕ) → bytes ≡ [] → Taking begun begun limit bytes
taking_nothing begun limit bytes none = record {
  held = refl;
  opens = refl;
  faults = refl;
  content = ahead_of-nil begun.left bytes none;
  within = let short =
      ap length none in omega (arith, short);
}

pub taking_more : (begun now after : ShelfView) (limit : ℕ) (bytes piece more : List ℕ) → Taking begun now limit bytes → after.held ≡ now.held →
    after.opens ≡ now.opens → after.faults ≡ now.faults
    → now.left ≡ ahead_of piece after.left → more ≡ bytes ++ piece → length piece ≤ limit - length bytes → Taking begun after limit more
taking_more begun now after limit bytes piece more so_far held opens faults left is room =
    let long = ap length is ∙ length-append bytes piece in
    record {
      held = held ∙ so_far.held;
      opens = opens ∙ so_far.opens;
      faults = faults ∙ so_far.faults;
      content = ahead_of-append bytes piece more begun.left now.left after.left so_far.content left is;
      within = omega (arith, long, room, so_far.within);
    }

-- At the end of the input all was taken.
pub taken_whole : (begun now : ShelfView) (left : Option (List ℕ)) (limit : ℕ) (bytes front : List ℕ) → Taking begun now limit bytes →
    now.left ≡ ahead_of front left → front ≡ []
    → WhereTold left (λ rest. length rest ≡ 0) → IsReadWhole limit begun.left bytes
taken_whole begun now left limit bytes front so_far last none end = record {
  whole = read_all begun.left now.left left bytes front so_far.content last none end;
  within = so_far.within;
}

-- A piece is too much.
pub taken_too_much : (begun now : ShelfView) (left : Option (List ℕ)) (limit : ℕ) (bytes piece : List ℕ) → Taking begun now limit bytes →
    now.left ≡ ahead_of piece left
    → limit - length bytes < length piece → length piece ≤ 65536 → IsTooLong limit begun.left left
taken_too_much begun now left limit bytes piece so_far last much short =
    let long = length-append bytes piece in
    let all : begun.left ≡ ahead_of (bytes ++ piece) left = ahead_of-append bytes piece (bytes ++ piece) begun.left now.left left so_far.content last refl in
    let past : limit < length (bytes ++ piece) = omega (arith, long, much) in
    record { front = bytes; last = piece; read = all; within = so_far.within; past = past; short = short; long = told left all past }
  where
    told : (o : Option (List ℕ)) → begun.left ≡ ahead_of (bytes ++ piece) o → limit < length (bytes ++ piece) →
        WhereTold begun.left (λ content. limit < length content)
    told None all past = λ content is. cc
    told (Some rest) all past = λ content is.
        let same : content ≡ (bytes ++ piece) ++ rest = cc in
        let long = ap length same ∙ length-append (bytes ++ piece) rest in
        omega (arith, long, past)
