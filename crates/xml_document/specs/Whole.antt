-- Reading a file whole, within a limit on its bytes.
use Rattle.std.specs.Prelude.{◌≡◌, ℕ, ◌<◌, ◌≤◌, List, ◌++◌, length, Option}
use Rattle.inv_base.specs.Outside.{WhereTold, ahead_of}

-- The bytes are the content, where it is told, and no more than the limit.
pub record IsReadWhole (limit : ℕ) (told : Option (List ℕ)) (bytes : List ℕ) : Type 0 where
  pub whole : WhereTold told (λ content. bytes ≡ content)
  pub within : length bytes ≤ limit

-- The content is longer than the limit, and one piece at most was read behind that.
pub record IsTooLong (limit : ℕ) (told left : Option (List ℕ)) : Type 0 where
  pub front : List ℕ
  pub last : List ℕ
  pub read : told ≡ ahead_of (front ++ last) left
  pub within : length front ≤ limit
  pub past : limit < length (front ++ last)
  pub short : length last ≤ 65536
  pub long : WhereTold told (λ content. limit < length content)
