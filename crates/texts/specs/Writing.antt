-- What a function that adds to a text leaves. Assumes nothing.
use Rattle.std.specs.Prelude.{ℕ, ◌+◌, ◌≡◌, List, length}
use Rattle.lines.specs.Lines.{put}

-- the buffer before, with the text from a place on; the result is the place after it
pub record Adds (before : List ℕ) (at : ℕ) (text : List ℕ) (result : ℕ) (after : List ℕ) : Type 0 where
  pub end : result ≡ at + length text
  pub buffer : after ≡ put before at text
